-- A text may be cut before each character and at its end, and nowhere else.
use Rattle.std.proofs.Common.{◌≡◌, ℕ, zero, suc, ◌+◌, ◌-◌, ◌<◌, ◌≤◌, true, ◌&&◌, nat_le, List, [], ◌∷◌, length, take, drop, get_or, Option, Some, None, refl, sym, ap, ◌∙◌, subst, arith}
use Rattle.std.specs.Prelude.{unwrap_or, slice_range}
use Rattle.std.specs.Borrow.{Bor}
use Rattle.std.specs.Str.{IsUtf8, IsCharBoundary}
use Rattle.std.specs.Str.Pattern.{GetsRange}
use Rattle.std.proofs.lemmas.Str.{IsCharBoundary-start, IsCharBoundary-from_take, IsCharBoundary-from_rest, IsUtf8-drop}
use Rattle.std.proofs.lemmas.List.{get_or-drop, length-drop}
use Rattle.std.proofs.lemmas.Bool.{cond_both, and_parts, leb-true, le-leb}
use Rattle.std.proofs.lemmas.Bool.Decides.{nat_tests}
use Rattle.base_lists.specs.Spans.{may_begin, may_cut, part_between}

-- a text that may be cut at a place
pub boundary-may : (text : List ℕ) (i : ℕ) → IsCharBoundary text i → may_begin (drop i text) ≡ true
boundary-may [] zero h = refl
boundary-may [] (suc i) h = refl
boundary-may (b ∷ text) zero h = grind (arith, nat_tests)
boundary-may (b ∷ text) (suc i) h = boundary-may text i (omega (arith, h.0), λ l k. h.1 (omega arith) k)

pub may-boundary : (text : List ℕ) (i : ℕ) → i ≤ length text → may_begin (drop i text) ≡ true → IsCharBoundary text i
may-boundary [] i l h = (l, λ k. absurd (omega arith))
may-boundary (b ∷ text) zero l h = (l, λ k m. grind (arith, nat_tests))
may-boundary (b ∷ text) (suc i) l h = let r = may-boundary text i (omega arith) h in (l, λ k m. r.1 (omega arith) m)

pub may-cuts : (text : List ℕ) (i j : ℕ) → i ≤ j → IsCharBoundary text i → IsCharBoundary text j → may_cut text i j ≡ true
may-cuts text i j l g h = rw (le-leb j (length text) h.0, boundary-may text i g, boundary-may text j h) refl

pub cut-part : (text : List ℕ) (i j : ℕ) → i ≤ j → IsCharBoundary text i → IsCharBoundary text j → part_between text i j ≡ slice_range text i j
cut-part text i j l g h = rw (may-cuts text i j l g h) refl

may-is : (text : List ℕ) (i j : ℕ) → i ≤ j → may_cut text i j ≡ true → IsCharBoundary text i × IsCharBoundary text j
may-is text i j l e =
    let a = and_parts (nat_le j (length text) && may_begin (drop i text)) (may_begin (drop j text)) e in
    let b = and_parts (nat_le j (length text)) (may_begin (drop i text)) a.0 in
    let k : j ≤ length text = leb-true j (length text) b.0 in
    (may-boundary text i (omega arith) b.1, may-boundary text j k a.1)

first-taken : (n : ℕ) (text : List ℕ) → 0 < n → get_or (take n text) 0 0 ≡ get_or text 0 0
first-taken zero text h = absurd (omega arith)
first-taken (suc n) [] h = refl
first-taken (suc n) (c ∷ text) h = refl

-- what str::get gives, or nothing
pub part-is : (text : List ℕ) (i j : ℕ) (r : Option (Bor (List ℕ))) (d : Bor (List ℕ)) → IsUtf8 text → (IsUtf8 (unwrap_or r d).now) → d.now ≡ [] → i ≤ j → GetsRange text i j r → (unwrap_or r d).now ≡ part_between text i j
part-is text i j None d u v e l h = cond_both (may_cut text i j) (slice_range text i j) [] (λ z. d.now ≡ z) (λ k. let b = may-is text i j l k in absurd (h l b.0 b.1)) (λ k. e)
part-is text i j (Some x) d u v e l h = by_first x.now refl
  where
    by_first : (bs : List ℕ) → x.now ≡ bs → x.now ≡ part_between text i j
    by_first [] k = cond_both (may_cut text i j) (slice_range text i j) [] (λ z. x.now ≡ z) (λ _. h.0) (λ _. k)
    by_first (b ∷ bs) k =
        let n : j - i ≡ length x.now = omega (arith, h.1) in
        let some : 0 < length x.now = omega (arith, ap length k) in
        let here : get_or x.now 0 0 ≡ get_or text i 0 = ap (λ (z : List ℕ). get_or z 0 0) h.0 ∙ first-taken (j - i) (drop i text) (omega (arith, n, some)) ∙ get_or-drop i text 0 0 ∙ ap (λ (z : ℕ). get_or text z 0) (omega arith) in
        let from : IsCharBoundary text i = (omega (arith, h.1, h.2), λ p q. omega (arith, here, (IsCharBoundary-start x.now v).1 some (omega (arith, here, q)))) in
        let to : IsCharBoundary text j = subst (IsCharBoundary text) (omega (arith, h.1)) (IsCharBoundary-from_rest text i (j - i) (omega (arith, h.1, h.2)) (IsCharBoundary-from_take (drop i text) (j - i) (IsUtf8-drop text i u from) (omega (arith, h.1, h.2, length-drop i text)) (subst IsUtf8 h.0 v))) in
        h.0 ∙ sym (cut-part text i j l from to)

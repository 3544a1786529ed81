-- Where words and literals begin and end, a text may be cut.
use Rattle.std.proofs.Common.{◌≡◌, ℕ, zero, suc, ◌+◌, ◌-◌, ◌<◌, ◌≤◌, Bool, true, false, ◌&&◌, ◌||◌, ◌==◌, nat_lt, nat_le, List, [], ◌∷◌, length, take, drop, get_or, Option, Some, None, refl, sym, ap, ◌∙◌, subst, arith}
use Rattle.std.specs.Prelude.{unwrap_or, slice_range}
use Rattle.std.specs.Borrow.{Bor}
use Rattle.std.specs.Str.{IsUtf8, IsCharBoundary}
use Rattle.std.specs.Str.Pattern.{GetsRange}
use Rattle.std.specs.List.{prefix_len}
use Rattle.std.proofs.lemmas.Str.{IsCharBoundary-after_ascii, IsCharBoundary-before_ascii, IsCharBoundary-start, IsCharBoundary-from_take, IsCharBoundary-from_rest, IsUtf8-drop}
use Rattle.std.proofs.lemmas.List.{get_or-drop, length-drop}
use Rattle.std.proofs.lemmas.List.Sums.{prefix_len_passes}
use Rattle.std.proofs.lemmas.Bool.{cond_both, and_parts, leb-true, eqb-true}
use Rattle.std.proofs.lemmas.Bool.Decides.{nat_tests}
use Rattle.idl_tokens.specs.Characters.{is_space, is_digit, is_word_start, is_word_character, is_mark, is_in_literal, begins_with}
use Rattle.idl_tokens.specs.Tokens.{word, literal, Front, token, behind_slash, behind_quote, behind_sign, block_comment, comment_end, plain_front, front}
use Rattle.idl_tokens.specs.Numbers.{Magnitude, magnitude}
use Rattle.base_lists.specs.Spans.{span, text_at}
use Rattle.base_lists.proofs.Cuts.{cut-part}

-- ---- where tokens begin and end

-- c begins a word or a literal, and stands before the text, where n more follow it: the first and the last of it are ASCII
abbrev pub FrontCuts : ℕ → List ℕ → Front → Type 0
FrontCuts c text (token (word w) n) = (c < 128) × (get_or (c ∷ text) n 0 < 128)
FrontCuts c text (token (literal x) n) = (c < 128) × (0 < n) × (get_or (c ∷ text) n 0 < 128)
FrontCuts c text _ = Unit {0}

sign-cuts : (c : ℕ) (text : List ℕ) (minus : Bool) (m : Magnitude) → FrontCuts c text (behind_sign minus m)
sign-cuts c text minus m = cond_both (nat_lt 0 m.len) _ _ (FrontCuts c text) (λ e. tt) (λ e. tt)

block-cuts : (c : ℕ) (text : List ℕ) (o : Option ℕ) → FrontCuts c text (block_comment o)
block-cuts c text None = tt
block-cuts c text (Some n) = tt

slash-cuts : (c : ℕ) (text rest : List ℕ) → FrontCuts c text (behind_slash rest)
slash-cuts c text [] = tt
slash-cuts c text (d ∷ rest) = cond_both (d == 47) _ _ (FrontCuts c text) (λ e. tt) (λ e. cond_both (d == 42) _ _ (FrontCuts c text) (λ f. block-cuts c text (comment_end 1 rest)) (λ f. tt))

pub quote-small : (q : ℕ) → (q == 39 || q == 34) ≡ true → q < 128
quote-small q e = grind (arith, nat_tests)

begins-here : (q n : ℕ) (text : List ℕ) → begins_with q (drop n text) ≡ true → get_or text n 0 ≡ q
begins-here q zero [] e = absurd cc
begins-here q zero (c ∷ text) e = eqb-true c q e
begins-here q (suc n) [] e = absurd cc
begins-here q (suc n) (c ∷ text) e = begins-here q n text e

quote-cuts : (q : ℕ) (text : List ℕ) → (q == 39 || q == 34) ≡ true → FrontCuts q text (behind_quote q text)
quote-cuts q text e =
    let n = prefix_len (is_in_literal q) text in
    cond_both (begins_with q (drop n text)) _ _ (FrontCuts q text)
    (λ f. let k : n + 1 ≡ suc n = omega arith in (quote-small q e, omega arith, rw k (omega (arith, quote-small q e, begins-here q n text f)))) (λ f. tt)

pub start-small : (c : ℕ) → is_word_start c ≡ true → c < 128
start-small c h = grind (arith, nat_tests)

pub character-small : (c : ℕ) → is_word_character c ≡ true → c < 128
character-small c h = grind (arith, nat_tests)

last-small : (c n : ℕ) (text : List ℕ) → c < 128 → n ≤ prefix_len is_word_character text → get_or (c ∷ text) n 0 < 128
last-small c zero text h l = h
last-small c (suc n) text h l = character-small (get_or text n 0) (prefix_len_passes is_word_character text n 0 (omega arith))

plain-cuts : (c : ℕ) (text : List ℕ) → FrontCuts c text (plain_front c text)
plain-cuts c text =
    cond_both (is_word_start c) _ _ (FrontCuts c text) (λ e. (start-small c e, last-small c (prefix_len is_word_character text) text (start-small c e) (omega arith)))
    (λ e. cond_both (is_digit c) _ _ (FrontCuts c text) (λ f. tt) (λ f. cond_both (is_mark c) _ _ (FrontCuts c text) (λ g. tt) (λ g. tt)))

pub front-cuts : (c : ℕ) (text : List ℕ) → FrontCuts c text (front c text)
front-cuts c text =
    cond_both (is_space c) _ _ (FrontCuts c text) (λ e. tt)
    (λ e. cond_both (c == 35) _ _ (FrontCuts c text) (λ f. tt)
    (λ f. cond_both (c == 47) _ _ (FrontCuts c text) (λ g. slash-cuts c text text)
    (λ g. cond_both (c == 45) _ _ (FrontCuts c text) (λ h. sign-cuts c text true (magnitude text))
    (λ h. cond_both (c == 43) _ _ (FrontCuts c text) (λ i. sign-cuts c text false (magnitude text))
    (λ i. cond_both (c == 39 || c == 34) _ _ (FrontCuts c text) (λ j. quote-cuts c text j) (λ j. plain-cuts c text))))))

-- ---- the parts of a text that tokens are

drop-tail : (text : List ℕ) (at c : ℕ) (rest : List ℕ) → drop at text ≡ c ∷ rest → drop (at + 1) text ≡ rest
drop-tail [] zero c rest e = absurd cc
drop-tail [] (suc at) c rest e = absurd cc
drop-tail (x ∷ text) zero c rest e = cc
drop-tail (x ∷ text) (suc at) c rest e = let k : suc at + 1 ≡ suc (at + 1) = omega arith in rw k (drop-tail text at c rest e)

plus-zero : (n : ℕ) → n + 0 ≡ n
plus-zero n = omega arith

module _ (text : List ℕ) (at c m : ℕ) (rest : List ℕ) (u : IsUtf8 text) (e : drop at text ≡ c ∷ rest) (h : at + suc (length rest) ≡ length text) (le : m ≤ length rest) (first : c < 128) (last : get_or (c ∷ rest) m 0 < 128) where
  here : (k : ℕ) → get_or text (at + k) 0 ≡ get_or (c ∷ rest) k 0
  here k = sym (get_or-drop at text k 0) ∙ ap (λ (z : List ℕ). get_or z k 0) e

  pub word-is : text_at text (span at (m + 1)) ≡ c ∷ take m rest
  word-is =
      let from : IsCharBoundary text at = IsCharBoundary-before_ascii text at (omega arith) (omega (arith, first, ap (λ (k : ℕ). get_or text k 0) (plus-zero at), here 0)) in
      let to : IsCharBoundary text (at + (m + 1)) = subst (IsCharBoundary text) (omega arith) (IsCharBoundary-after_ascii text (at + m) u (omega arith) (omega (arith, last, here m))) in
      let n : at + (m + 1) - at ≡ suc m = omega arith in
      cut-part text at (at + (m + 1)) (omega arith) from to ∙ rw (n, e) refl

  pub literal-is : 0 < m → text_at text (span (at + 1) (m - 1)) ≡ take (m - 1) rest
  literal-is some =
      let from : IsCharBoundary text (at + 1) = IsCharBoundary-after_ascii text at u (omega arith) (omega (arith, first, ap (λ (k : ℕ). get_or text k 0) (plus-zero at), here 0)) in
      let to : IsCharBoundary text (at + 1 + (m - 1)) = subst (IsCharBoundary text) (omega arith) (IsCharBoundary-before_ascii text (at + m) (omega arith) (omega (arith, last, here m))) in
      let n : at + 1 + (m - 1) - (at + 1) ≡ m - 1 = omega arith in
      cut-part text (at + 1) (at + 1 + (m - 1)) (omega arith) from to ∙ rw (n, drop-tail text at c rest e) refl

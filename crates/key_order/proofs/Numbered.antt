-- Keys that are numbered from 0.
use Rattle.std.proofs.Common.{◌≡◌, ◌≢◌, ◌↔◌, ℕ, suc, ◌+◌, ◌<◌, List, [], ◌∷◌, ◌++◌, length, map, get_or, refl, sym, ap, ◌∙◌, subst, arith, zero-add}
use Rattle.std.specs.List.{AllPairs, Contains, enumerate_from}
use Rattle.std.proofs.lemmas.List.{get_or-map, length-map, map_push, get_or_default}
use Rattle.std.proofs.lemmas.List.FromFn.{length-enumerate_from, get_or-enumerate_from}
use Rattle.frozen_model.specs.Values.{Value, Absent}
use Rattle.key_order.specs.declared.repeats.PlacedKey.{PlacedKey}
use Rattle.key_order.specs.Keys.{value_of}
use Rattle.key_order.specs.Entries.{keys, places, placed}
use Rattle.key_order.specs.Repeats.{HasNoRepeat}

-- ---- entries that number keys

keys_of_placed : (es : List PlacedKey) → keys es ≡ map (λ (p : ℕ × Value). p.1) (placed es)
keys_of_placed [] = refl
keys_of_placed (e ∷ es) = ap (λ ks. value_of e.key ∷ ks) (keys_of_placed es)

places_of_placed : (es : List PlacedKey) → places es ≡ map (λ (p : ℕ × Value). p.0) (placed es)
places_of_placed [] = refl
places_of_placed (e ∷ es) = ap (λ ps. e.place ∷ ps) (places_of_placed es)

keys_of_numbered : (n : ℕ) (ks : List Value) → map (λ (p : ℕ × Value). p.1) (enumerate_from n ks) ≡ ks
keys_of_numbered n [] = refl
keys_of_numbered n (k ∷ ks) = ap (λ ls. k ∷ ls) (keys_of_numbered (n + 1) ks)

place_is : (ks : List Value) (es : List PlacedKey) → placed es ≡ enumerate_from 0 ks → (i d : ℕ) → i < length (places es) → get_or (places es) i d ≡ i
place_is ks es e i d h =
    let numbers = places_of_placed es ∙ ap (map (λ (p : ℕ × Value). p.0)) e in
    let l : i < length (enumerate_from 0 ks) = let same = ap length numbers in omega (arith, h, same, length-map (enumerate_from 0 ks) (λ (p : ℕ × Value). p.0)) in
    let m : i < length ks = omega (arith, l, length-enumerate_from 0 ks) in
    ap (λ ns. get_or ns i d) numbers ∙ get_or-map (λ (p : ℕ × Value). p.0) (enumerate_from 0 ks) i (d, Absent) d l ∙ ap (λ (p : ℕ × Value). p.0) (get_or-enumerate_from 0 ks i (d, Absent) m) ∙ zero-add i

pub numbered_places_differ : (ks : List Value) (es : List PlacedKey) → placed es ≡ enumerate_from 0 ks → (keys es ≡ ks) × AllPairs (λ p q. p ≢ q) (places es)
numbered_places_differ ks es e = (
  keys_of_placed es ∙ ap (map (λ (p : ℕ × Value). p.1)) e ∙ keys_of_numbered 0 ks,
  λ i j d lt h same. let a = place_is ks es e i d (omega arith) in let b = place_is ks es e j d h in omega (arith, a, b, same),
)

-- ---- one more entry

numbers-push : (n : ℕ) (ks : List Value) (k : Value) → enumerate_from n (ks ++ k ∷ []) ≡ enumerate_from n ks ++ (n + length ks, k) ∷ []
numbers-push n [] k = let number : n + 0 ≡ n = omega arith in ap (λ m. (m, k) ∷ []) (sym number)
numbers-push n (l ∷ ks) k =
    let number : n + 1 + length ks ≡ n + suc (length ks) = omega arith in
    ap (λ ps. (n, l) ∷ ps) (numbers-push (n + 1) ks k ∙ ap (λ m. enumerate_from (n + 1) ks ++ (m, k) ∷ []) number)

-- entries that number their keys still do with one more at the place of their length
pub numbered-push : (es : List PlacedKey) (e : PlacedKey) → placed es ≡ enumerate_from 0 (keys es) → e.place ≡ length es → placed (es ++ e ∷ []) ≡ enumerate_from 0 (keys (es ++ e ∷ []))
numbered-push es e h at =
    let key = value_of e.key in
    let number : e.place ≡ 0 + length (keys es) = omega (arith, at, length-map es (λ (x : PlacedKey). value_of x.key)) in
    map_push {Y = ℕ × Value} (λ (x : PlacedKey). (x.place, value_of x.key)) es e
    ∙ ap (λ ps. ps ++ (e.place, key) ∷ []) h
    ∙ ap (λ n. enumerate_from 0 (keys es) ++ (n, key) ∷ []) number
    ∙ sym (numbers-push 0 (keys es) key)
    ∙ ap (enumerate_from 0) (sym (map_push (λ (x : PlacedKey). value_of x.key) es e))

-- ---- none repeats

there : (ks : List Value) (i : ℕ) (d : Value) → i < length ks → Contains (enumerate_from 0 ks) (i, get_or ks i d)
there ks i d h =
    let at = get_or-enumerate_from 0 ks i (i, get_or ks i d) h in
    let number : ◌≡◌ {A = ℕ × Value} (0 + i, get_or ks i (get_or ks i d)) (i, get_or ks i (get_or ks i d)) = ap (λ n. (n, get_or ks i (get_or ks i d))) (zero-add i) in
    let key : ◌≡◌ {A = ℕ × Value} (i, get_or ks i (get_or ks i d)) (i, get_or ks i d) = ap (λ k. (i, k)) (get_or_default ks i (get_or ks i d) d h) in
    (i, omega (arith, h, length-enumerate_from 0 ks), at ∙ number ∙ key)

found : (ks : List Value) (i : ℕ) (k : Value) → Contains (enumerate_from 0 ks) (i, k) → (i < length ks) × (get_or ks i k ≡ k)
found ks i k (n, h, e) =
    let l : n < length ks = omega (arith, h, length-enumerate_from 0 ks) in
    let is = sym (get_or-enumerate_from 0 ks n (i, k) l) ∙ e in
    let number : n ≡ i = sym (zero-add n) ∙ ap (λ (p : ℕ × Value). p.0) is in
    (omega (arith, l, number), ap (λ m. get_or ks m k) (sym number) ∙ ap (λ (p : ℕ × Value). p.1) is)

pub none_repeats_where_keys_differ : (ks : List Value) → HasNoRepeat (enumerate_from 0 ks) ↔ AllPairs (λ k l. k ≢ l) ks
none_repeats_where_keys_differ ks = (
  λ none i j d lt h same. none i j (record { key = get_or ks i d; at_first = there ks i d (omega arith); at_second = subst (λ k. Contains (enumerate_from 0 ks) (j, k)) (sym same) (there ks j d h); before = lt }),
  λ differ f s r. let a = found ks f r.key r.at_first in let b = found ks s r.key r.at_second in differ f s r.key r.before b.0 (a.1 ∙ sym b.1),
)

-- The least of numbers.
use Rattle.std.proofs.Common.{◌≡◌, ◌⊎◌, inl, inr, ◌-◌, ◌^◌, List, [], ◌∷◌, ℤ, pos, negsuc, Bool}
use Rattle.std.proofs.Common.{true, false, arith, refl, ap, sym, ◌∙◌, subst}
use Rattle.std.specs.Prelude.{◌≤ℤ◌, int_lt, cond, if◌then◌else◌}
use Rattle.std.specs.Int.{int_min, int_max}
use Rattle.std.specs.List.{fold, AllByRecursion}
use Rattle.std.proofs.lemmas.Int.{ints, clamps, fold-int_min_bounds, fold-int_max_bounds}
use Rattle.frozen_model.specs.Trees.{Whole, I8, I16, I32, I64, value_bits}
use Rattle.frozen_model.specs.Values.{InBits}
use Rattle.frozen_model.specs.Holding.{Among, IsLeastOf}
use Rattle.value_bounds.specs.Seeing.{bounds_of, base_by}
use Rattle.value_bounds.specs.Basing.{least_of}

one_of_two : (a x : ℤ) → (int_min a x ≡ a) ⊎ (int_min a x ≡ x)
one_of_two a x = go (int_lt x a)
  where
    go : (b : Bool) → (cond b x a ≡ a) ⊎ (cond b x a ≡ x)
    go true = inr refl
    go false = inl refl

fold_among : (a : ℤ) (xs : List ℤ) → (fold int_min a xs ≡ a) ⊎ Among (fold int_min a xs) xs
fold_among a [] = inl refl
fold_among a (x ∷ xs) = elim (fold_among (int_min a x) xs) [
  | inl e ↦ elim (one_of_two a x) [
    | inl f ↦ inl (e ∙ f)
    | inr f ↦ inr (inl (e ∙ f))
  ]
  | inr h ↦ inr (inr h)
]

fold_below : (a : ℤ) (xs : List ℤ) → (fold int_min a xs ≤ℤ a)
    × AllByRecursion (λ (y : ℤ). fold int_min a xs ≤ℤ y) xs
fold_below a [] = (omega (arith, ints), tt)
fold_below a (x ∷ xs) =
    let h = fold_below (int_min a x) xs in
    let low = h.0 in
    (omega (arith, ints, clamps), (omega (arith, ints, clamps), h.1))

pub least_is_least : (xs : List ℤ) → IsLeastOf (least_of xs) xs
least_is_least [] = refl
least_is_least (x ∷ xs) = let h = fold_below x xs in (fold_among x xs, (h.0, h.1))

fold_in : (P : ℤ → Type 0) (a : ℤ) (xs : List ℤ) → P a → AllByRecursion P xs → P (fold int_min a xs)
fold_in P a [] h hs = h
fold_in P a (x ∷ xs) h hs = fold_in P (int_min a x) xs (elim (one_of_two a x) [
  | inl e ↦ subst P (sym e) h
  | inr e ↦ subst P (sym e) hs.0
]) hs.1

zero_in : (k : Whole) → InBits (value_bits k) (pos 0)
zero_in I8 = omega arith
zero_in I16 = omega arith
zero_in I32 = omega arith
zero_in I64 = omega arith

-- the least of numbers of a kind is of the kind
pub least_in : (k : Whole) (xs : List ℤ) → AllByRecursion (InBits (value_bits k)) xs
    → InBits (value_bits k) (least_of xs)
least_in k [] h = zero_in k
least_in k (x ∷ xs) h = fold_in (InBits (value_bits k)) x xs h.0 h.1

-- numbers of a kind are from the least i64 to the greatest
in_words : (k : Whole) (x : ℤ) → InBits (value_bits k) x → (negsuc (2 ^ 63 - 1) ≤ℤ x)
    × (x ≤ℤ pos (2 ^ 63 - 1))
in_words I8 (pos n) h = (omega (arith, ints), omega (arith, ints))
in_words I16 (pos n) h = (omega (arith, ints), omega (arith, ints))
in_words I32 (pos n) h = (omega (arith, ints), omega (arith, ints))
in_words I64 (pos n) h = (omega (arith, ints), omega (arith, ints))
in_words I8 (negsuc n) h = (omega (arith, ints), omega (arith, ints))
in_words I16 (negsuc n) h = (omega (arith, ints), omega (arith, ints))
in_words I32 (negsuc n) h = (omega (arith, ints), omega (arith, ints))
in_words I64 (negsuc n) h = (omega (arith, ints), omega (arith, ints))

not_below : (a b : ℤ) → a ≤ℤ b → int_lt b a ≡ false
not_below a b h = grind (arith, ints)

-- what bounds give as a base is the least number
pub base_is_least : (k : Whole) (xs : List ℤ) → AllByRecursion (InBits (value_bits k)) xs
    → base_by (bounds_of xs) ≡ least_of xs
base_is_least k [] h = refl
base_is_least k (x ∷ xs) h =
    let w = in_words k x h.0 in
    let low = w.0 in
    let high = w.1 in
    let el : int_min (pos (2 ^ 63 - 1)) x ≡ x = omega (arith, ints, clamps) in
    let eg : int_max (negsuc (2 ^ 63 - 1)) x ≡ x = omega (arith, ints, clamps) in
    let least = (fold-int_min_bounds x xs (fold int_min x xs) refl).0 in
    let most = (fold-int_max_bounds x xs (fold int_max x xs) refl).0 in
    let order : fold int_min x xs ≤ℤ fold int_max x xs = omega (arith, ints) in
    ap (λ z. if int_lt (fold int_max z xs) (fold int_min (int_min (pos (2 ^ 63 - 1)) x) xs) then pos 0 else
    fold int_min (int_min (pos (2 ^ 63 - 1)) x) xs) eg
    ∙ ap (λ z. if int_lt (fold int_max x xs) (fold int_min z xs) then pos 0 else fold int_min z xs) el
    ∙ ap (λ b. if b then pos 0 else fold int_min x xs)
    (not_below (fold int_min x xs) (fold int_max x xs) order)

-- Orders on keys, and lists of keys that rise.
use Rattle.std.specs.Prelude.{◌≡◌, ℕ, List, length, count_by}
use Rattle.std.specs.List.{AllAdjacentBelow}
use Rattle.std.specs.declared.cmp.Ordering.{Ordering}
use Rattle.std.specs.declared.cmp.Ordering.TheVariants.{Less, Equal}
use Rattle.std.specs.Ordering.{is_lt, ordering_reverse}

-- the order is transitive, it answers the other way round where two keys are exchanged, and only equal keys are equal
-- in it
pub record IsKeyOrder {K : Type 0} (order : K → K → Ordering) : Type 0 where
  pub transitive : (a b c : K) → order a b ≡ Less → order b c ≡ Less → order a c ≡ Less
  pub exchanged : (a b : K) → order a b ≡ ordering_reverse (order b a)
  pub equal : (a b : K) → order a b ≡ Equal → a ≡ b

-- each key is below the next
abbrev pub IsRising : {K : Type 0} → (K → K → Ordering) → List K → Type 0
IsRising order keys = AllAdjacentBelow (λ a b. order a b ≡ Less) keys (length keys)

-- how many keys are below a key
abbrev pub count_below : {K : Type 0} → (K → K → Ordering) → List K → K → ℕ
count_below order keys key = count_by (λ k. is_lt (order k key)) keys

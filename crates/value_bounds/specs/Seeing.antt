-- The numbers of a value at each node of its layout, and their bounds.
use Rattle.std.specs.Prelude.{◌≡◌, ℕ, zero, suc, ◌-◌, ◌^◌, List, [], ◌∷◌, ◌++◌, map, ℤ, pos, negsuc, int_lt}
use Rattle.std.specs.Prelude.{if◌then◌else◌}
use Rattle.std.specs.Int.{int_min, int_max}
use Rattle.std.specs.List.{fold}
use Rattle.frozen_model.specs.Trees.{Leaf, ByteRange, ItemRange, Optional, Struct, NoField, Field}
use Rattle.frozen_model.specs.Values.{Value, Values}
use Rattle.frozen_model.specs.Layouts.{Layout, Layouts}
use Rattle.frozen_model.specs.Holding.{Puts, AllPuts, puts, puts_each, puts_all}
use Rattle.value_bounds.specs.declared.bounds.Bounds.{Bounds}

-- the numbers at each node in preorder: none at a node with nodes below it, and none of a distance, since
-- distances turn on widths
abbrev mutual
  pub numbers : Puts → List (List ℤ)
  numbers (Leaf k xs) = xs ∷ []
  numbers (ByteRange t ds cs) = [] ∷ [] ∷ map pos cs ∷ []
  numbers (ItemRange h ds cs p) = [] ∷ [] ∷ map pos cs ∷ numbers p
  numbers (Optional ws p) = [] ∷ map pos ws ∷ numbers p
  numbers (Struct ps) = [] ∷ all_numbers ps

  pub all_numbers : AllPuts → List (List ℤ)
  all_numbers NoField = []
  all_numbers (Field i p ps) = numbers p ++ all_numbers ps

-- bounds once more numbers are taken into them
abbrev pub bounds_with : Bounds → List ℤ → Bounds
bounds_with b xs = record { least = fold int_min b.least xs; greatest = fold int_max b.greatest xs }

-- the bounds of no number
abbrev pub no_bounds : Bounds
no_bounds = record { least = pos (2 ^ 63 - 1); greatest = negsuc (2 ^ 63 - 1) }

-- the bounds of numbers
abbrev pub bounds_of : List ℤ → Bounds
bounds_of xs = bounds_with no_bounds xs

-- the least number, 0 where there is none
abbrev pub base_by : Bounds → ℤ
base_by b = if int_lt b.greatest b.least then pos 0 else b.least

-- each of the bounds once the numbers at the same place are taken into it
abbrev pub seen : List Bounds → List (List ℤ) → List Bounds
seen [] xss = []
seen (b ∷ bs) [] = b ∷ bs
seen (b ∷ bs) (xs ∷ xss) = bounds_with b xs ∷ seen bs xss

-- the same from a place on
abbrev pub seen_from : List Bounds → ℕ → List (List ℤ) → List Bounds
seen_from bs zero xss = seen bs xss
seen_from [] (suc n) xss = []
seen_from (b ∷ bs) (suc n) xss = b ∷ seen_from bs n xss

-- the numbers of a part whose node is n are taken into bounds, wherever its first block begins
abbrev pub Saw : Layout → Value → List Bounds → List Bounds → ℕ → Type 0
Saw l u old new n = (from : ℕ) → new ≡ seen_from old n (numbers (puts l u from))

-- the same of items, all of that node
abbrev pub EachSaw : Layout → Values → List Bounds → List Bounds → ℕ → Type 0
EachSaw l vs old new n = (from : ℕ) → new ≡ seen_from old n (numbers (puts_each l vs from))

-- the same of fields, the first of which has that node
abbrev pub AllSaw : Layouts → Values → List Bounds → List Bounds → ℕ → Type 0
AllSaw ls vs old new n = (from : ℕ) → new ≡ seen_from old n (all_numbers (puts_all ls vs from))

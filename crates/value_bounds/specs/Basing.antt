-- A layout whose bases are the least numbers there.
use Rattle.std.specs.Prelude.{List, [], ◌∷◌, ℤ, pos}
use Rattle.std.specs.Int.{int_min}
use Rattle.std.specs.List.{fold}
use Rattle.frozen_model.specs.Trees.{Integer, Leaf, ItemRange, Optional, Struct}
use Rattle.frozen_model.specs.Trees.{Field}
use Rattle.frozen_model.specs.Holding.{Puts, AllPuts}
use Rattle.layout_tree.specs.Listing.{Noted, AllNoted}

-- the least of numbers, 0 where there are none
abbrev pub least_of : List ℤ → ℤ
least_of [] = pos 0
least_of (x ∷ xs) = fold int_min x xs

-- the tree with the least number there as the base of each leaf of whole numbers
abbrev mutual
  pub based_on : Noted → Puts → Noted
  based_on (Leaf (Integer j) c) (Leaf k xs) = Leaf (Integer j) (record {
    base = least_of xs;
    bits = c.bits;
    wide = c.wide;
  })
  based_on (ItemRange h d c l) (ItemRange g ds cs p) = ItemRange h d c (based_on l p)
  based_on (Optional x l) (Optional ws p) = Optional x (based_on l p)
  based_on (Struct ls) (Struct ps) = Struct (all_based_on ls ps)
  based_on t p = t

  pub all_based_on : AllNoted → AllPuts → AllNoted
  all_based_on (Field id l ls) (Field i p ps) = Field id (based_on l p) (all_based_on ls ps)
  all_based_on ls ps = ls

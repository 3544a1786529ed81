-- Kinds all of whose values have the same cells.
use Rattle.frozen_model.specs.Trees.{Leaf, Optional, Struct, NoField, Field, KindTree, KindTrees}

-- a flag or a number
abbrev pub IsLeaf : KindTree → Type 0
IsLeaf (Leaf k a) = Unit {0}
IsLeaf l = ⊥

-- no text, bytes, list, set or map is inside
abbrev mutual
  pub IsFlat : KindTree → Type 0
  IsFlat (Leaf k a) = Unit {0}
  IsFlat (Optional w l) = IsFlat l
  IsFlat (Struct ls) = AreFlat ls
  IsFlat l = ⊥

  pub AreFlat : KindTrees → Type 0
  AreFlat NoField = Unit {0}
  AreFlat (Field i l ls) = IsFlat l × AreFlat ls

-- Parts of layouts in which nothing can fail, whatever the content.
use Rattle.std.specs.Prelude.{◌≡◌, ℕ, ◌^◌, ◌<◌, true}
use Rattle.frozen_model.specs.Trees.{LeafKind, Leaf, ByteRange, ItemRange, Optional, Struct, NoField, Field}
use Rattle.frozen_model.specs.Layouts.{Layout, Layouts, Coded, width, meaning, in_range}

-- each number that the leaf can have is in the range of its kind
abbrev pub AlwaysIn : LeafKind → Coded → Type 0
AlwaysIn k c = (m : ℕ) → m < 2 ^ width c → in_range k (meaning c m) ≡ true

-- no range, no optional, and no leaf that can leave its range
abbrev mutual
  pub IsSure : Layout → Type 0
  IsSure (Leaf k c) = AlwaysIn k c
  IsSure (ByteRange t d c) = ⊥
  IsSure (ItemRange h d c l) = ⊥
  IsSure (Optional w l) = ⊥
  IsSure (Struct ls) = AllSure ls

  pub AllSure : Layouts → Type 0
  AllSure NoField = Unit {0}
  AllSure (Field i l ls) = IsSure l × AllSure ls

-- What measuring begins with, and what it comes to.
use Rattle.std.specs.Prelude.{◌≡◌, ℕ, ◌+◌, true}
use Rattle.frozen_model.specs.Values.{Value}
use Rattle.frozen_model.specs.Layouts.{Version2, Layout, Described, stride}
use Rattle.frozen_model.specs.Packing.{bytes_for, extent}
use Rattle.frozen_model.specs.Holding.{Blank}

-- a relaxed layout of version 2 all of whose widths are 0
pub record IsBlank (d : Described) : Type 0 where
  pub version : d.version ≡ Version2
  pub relaxed : d.relaxed ≡ true
  pub widths : Blank d.tree

-- the bytes of a value's packing
abbrev pub packed_length : Layout → Value → ℕ
packed_length l v = bytes_for (stride l) + extent l v

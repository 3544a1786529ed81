-- A list or a set, by its nodes.
use Rattle.std.specs.Prelude.{◌≡◌, ℕ, suc}
use Rattle.compact_wire.specs.Node.{Node, Nodes}
use Rattle.wire_scan.specs.Sizes.{size, sizes}

-- what is made of a code and nodes has one node more
abbrev pub IsRow : (ℕ → Nodes → Node) → Type 0
IsRow make = (c : ℕ) (xs : Nodes) → size (make c xs) ≡ suc (sizes xs)

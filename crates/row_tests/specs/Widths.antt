-- Layouts of given widths, and the bytes of a value's packing in them.
use Rattle.std.specs.Prelude.{◌≡◌, ℕ, ◌+◌, ◌*◌, ◌^◌, ◌≤◌, ◌<◌, List, [], ◌∷◌, pos, false}
use Rattle.frozen_model.specs.Trees.{Part, IsStruct, IsKindTree}
use Rattle.frozen_model.specs.Values.{Value, Of, cells, cell_limit}
use Rattle.frozen_model.specs.Layouts.{Version1, Layout, Legal, Described, described}
use Rattle.frozen_model.specs.Packing.{bytes_for}
use Rattle.frozen_model.specs.Holding.{Based, puts_of, pass}
use Rattle.layout_tree.specs.declared.layouts.Layouts.{Layouts}
use Rattle.layout_tree.specs.declared.node.NodeSpec.{NodeSpec}
use Rattle.layout_tree.specs.declared.node.Kind.{Kind}
use Rattle.layout_tree.specs.declared.node.Kind.TheVariants as k
use Rattle.layout_tree.specs.Listing.{layout_in, sub}
use Rattle.layout_tree.specs.Nodes.{noted_in}
use Rattle.layout_tree.specs.Reading.{IsRange, item_stride}
use Rattle.measure_pass.specs.Spots.{Spot}

-- a node of this kind may have this width
abbrev pub TakesWidth : Kind → ℕ → Type 0
TakesWidth k.Flag w = w ≤ 1
TakesWidth k.I8 w = w ≤ 8
TakesWidth k.I16 w = w ≤ 16
TakesWidth k.I32 w = w ≤ 32
TakesWidth k.I64 w = w ≤ 64
TakesWidth k.Size w = w ≤ 32
TakesWidth _ w = ⊥

-- a node of version 1: it has no base, and its width is noted as it is
abbrev pub first_node : NodeSpec → NodeSpec
first_node s = record {
  kind = s.kind;
  field = s.field;
  parent = s.parent;
  bits = s.bits;
  wide = s.bits;
  offset = s.offset;
  base = pos 0;
}

-- the layout of version 1 with the same widths
abbrev pub first_of : Layouts → Described
first_of l = described Version1 false (layout_in Version1 (noted_in l))

-- a layout within the limits, but for the codes of its leaves
pub record IsSound (l : Layout) : Type 0 where
  pub root : IsStruct l
  pub kind_tree : IsKindTree l
  pub legal : Legal l

-- a pass over the value leaves the layout as it is
pub record Rests (l : Layout) (v : Value) : Type 0 where
  pub form : Of l v
  pub few : cells l v ≤ cell_limit
  pub based : Based l (puts_of l v)
  pub rests : pass l v ≡ l

-- a range of the layout, of few items
abbrev pub IsRangeOf : Layout → Spot → Type 0
IsRangeOf l s = Part l 0 (sub l s.node) s.node × IsRange (sub l s.node) × (s.count < 2 ^ 31)

-- the bytes of the blocks of ranges
abbrev pub block_sum : Layout → List Spot → ℕ
block_sum l [] = 0
block_sum l (s ∷ ss) = bytes_for (s.count * item_stride (sub l s.node)) + block_sum l ss

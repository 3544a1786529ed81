-- That a pass over a value within the limit of cells makes no leaf too wide.
use Rattle.std.proofs.Common.{◌≡◌, ◌+◌, ◌^◌, ◌≤◌, arith, refl}
use Rattle.frozen_model.specs.Trees.{LeafKind, Flag, Integer, Leaf, ByteRange, ItemRange, Optional, Struct}
use Rattle.frozen_model.specs.Trees.{NoField, Field, greatest, leaf, byte_range, item_range, optional, struct}
use Rattle.frozen_model.specs.Trees.{no_field, field}
use Rattle.frozen_model.specs.Values.{Value, Of, cells, cell_limit}
use Rattle.frozen_model.specs.Layouts.{Version, Version1, Version2, Layout, Layouts, IsLayout, IsDescribed}
use Rattle.frozen_model.specs.Layouts.{Described, OfVersion, Legal, AllLegal, Narrower, AllNarrower, stride}
use Rattle.frozen_model.specs.Layouts.{width}
use Rattle.frozen_model.specs.Packing.{bytes_for, extent}
use Rattle.frozen_model.specs.Holding.{puts_of, Based, pass}
use Rattle.frozen_laws.specs.Laws.{widest, widest_all, widest_leaf}
use Rattle.frozen_laws.proofs.Leafwise.{leafwise_map, with_version}
use Rattle.frozen_laws.proofs.Puts.{puts_beside}
use Rattle.frozen_laws.proofs.Stays.{pass_stays}
use Rattle.frozen_laws.proofs.Passes.{first_based}
use Rattle.frozen_laws.proofs.Rests.{widest_holds, widest_legal, widest_coded, legal_under}
use Rattle.frozen_laws.proofs.Cells.{whole_cells}
use Rattle.measure_pass.specs.Growing.{Passable, Measurable}

leaf_below : (n : Version) (k : LeafKind) → greatest k ≤ width (widest_leaf n k)
leaf_below n Flag = omega arith
leaf_below Version1 (Integer k) = omega arith
leaf_below Version2 (Integer k) = omega arith

-- no layout is wider than the widest of its kinds
mutual
  below_widest : (n : Version) (l : Layout) → Legal l → Narrower l (widest n l)
  below_widest n (Leaf k c) h = leaf (omega (arith, h, leaf_below n k))
  below_widest n (ByteRange t d c) h = byte_range h.0 h.1
  below_widest n (ItemRange g d c l) h = item_range h.0 h.1 (below_widest n l h.2)
  below_widest n (Optional w l) h = optional h.0 (below_widest n l h.1)
  below_widest n (Struct ls) h = struct (all_below_widest n ls h)

  all_below_widest : (n : Version) (ls : Layouts) → AllLegal ls → AllNarrower ls (widest_all n ls)
  all_below_widest n NoField h = no_field
  all_below_widest n (Field i l ls) h = field (below_widest n l h.0) (all_below_widest n ls h.1)

-- in version 1 there are no bases
bases : (n : Version) (l : Layout) (v : Value) → Of l v → OfVersion n l
    → (n ≡ Version2 → Based l (puts_of l v)) → Based l (puts_of l v)
bases Version2 l v o i b = b refl
bases Version1 l v o i b = leafwise_map (λ k c xs h. first_based k c xs h.1) (λ w ns h. tt) (λ w ns h. tt)
    (with_version Version1 (puts_beside o (bytes_for (stride l))) i)

legal_after : (d : Described) (v : Value) → Measurable d v → IsLayout d.version d.tree → Legal (pass d.tree v)
legal_after d v m x =
    let n = d.version in
    let l = d.tree in
    legal_under (pass_stays n l (widest n l) v x.coded (bases n l v m.form x.coded m.based)
    (below_widest n l x.legal) (widest_coded n l) (widest_holds n l v m.form m.few)) (widest_legal n l)

-- a value within the limit of cells has a small packing
pub small_whole : (d : Described) (v : Value) → Of d.tree v → cells d.tree v ≤ cell_limit → IsDescribed d
    → bytes_for (stride d.tree) + extent d.tree v ≤ 2 ^ 29
small_whole d v o few h = omega (arith, whole_cells d.tree v o h.layout.legal, few)

pub passable : (d : Described) (v : Value) → Measurable d v → IsDescribed d → Passable d.tree v
passable d v m h =
    let small = small_whole d v m.form m.few h in
    record { form = m.form; legal = legal_after d v m h.layout; small = omega (arith, small) }

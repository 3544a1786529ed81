-- Strides of parts, and cells of parts.
use Rattle.std.proofs.Common.{ℕ, zero, suc, ◌≤◌, ◌<◌, arith}
use Rattle.frozen_model.specs.Trees.{I8, I16, I32, I64, LeafKind, Flag, Integer, Leaf, ByteRange, ItemRange, Optional, Struct, NoField, Field, greatest, greatest_bits, greatest_bits_all, IsNarrow, AllNarrow, Part, itself, in_item, in_optional, in_struct, PartAll, in_first, in_later}
use Rattle.frozen_model.specs.Values.{Value, Values, NoValue, And, count, nth, cells, cells_each, cells_all}
use Rattle.frozen_model.specs.Layouts.{Layout, Layouts, Legal, AllLegal, stride, strides}
use Rattle.frozen_model.specs.Packing.{Place, PartAt, here, item_at, inner_at, field_at, PartAmong, first_at, later_at}

-- ---- strides

pub greatest_small : (k : LeafKind) → greatest k ≤ 64
greatest_small Flag = omega arith
greatest_small (Integer I8) = omega arith
greatest_small (Integer I16) = omega arith
greatest_small (Integer I32) = omega arith
greatest_small (Integer I64) = omega arith

mutual
  pub stride_below : (l : Layout) → Legal l → stride l ≤ greatest_bits l
  stride_below (Leaf k c) h = h
  stride_below (ByteRange t d c) h = omega arith
  stride_below (ItemRange g d c l) h = omega arith
  stride_below (Optional w l) h = omega (arith, h.0, stride_below l h.1)
  stride_below (Struct ls) h = strides_below ls h

  pub strides_below : (ls : Layouts) → AllLegal ls → strides ls ≤ greatest_bits_all ls
  strides_below NoField h = omega arith
  strides_below (Field i l ls) h = omega (arith, stride_below l h.0, strides_below ls h.1)

pub stride_small : (l : Layout) → Legal l → IsNarrow l → stride l ≤ 32767
stride_small (Leaf k c) h n = omega (arith, h, greatest_small k)
stride_small (ByteRange t d c) h n = omega arith
stride_small (ItemRange g d c l) h n = omega arith
stride_small (Optional w l) h n = omega (arith, h.0, stride_below l h.1, n.0)
stride_small (Struct ls) h n = omega (arith, strides_below ls h, n.0)

mutual
  pub part_small : {l s : Layout} {i n : ℕ} → Part l i s n → Legal l → IsNarrow l → stride s ≤ 32767
  part_small (itself {t = t}) h n = stride_small t h n
  part_small (in_item p) h n = part_small p h.2 n
  part_small (in_optional p) h n = part_small p h.1 n.1
  part_small (in_struct p) h n = part_all_small p h n.1

  pub part_all_small : {ls : Layouts} {s : Layout} {i n : ℕ} → PartAll ls i s n → AllLegal ls → AllNarrow ls → stride s ≤ 32767
  part_all_small (in_first p) h n = part_small p h.0 n.0
  part_all_small (in_later p) h n = part_all_small p h.1 n.1

-- ---- cells

nth_cells : (l : Layout) (vs : Values) (j : ℕ) → j < count vs → cells l (nth vs j) ≤ cells_each l vs
nth_cells l NoValue j h = absurd (omega arith)
nth_cells l (And v vs) zero h = omega arith
nth_cells l (And v vs) (suc j) h = omega (arith, nth_cells l vs j (omega arith))

mutual
  pub part_cells : {m : Layout} {u : Value} {p : Place} {l : Layout} {v : Value} {q : Place} → PartAt m u p l v q → cells m u ≤ cells l v
  part_cells here = omega arith
  part_cells (item_at {l = l} {vs = vs} j lt p) = omega (arith, part_cells p, nth_cells l vs j lt)
  part_cells (inner_at p) = omega (arith, part_cells p)
  part_cells (field_at p) = among_cells p

  among_cells : {m : Layout} {u : Value} {p : Place} {ls : Layouts} {vs : Values} {q : Place} → PartAmong m u p ls vs q → cells m u ≤ cells_all ls vs
  among_cells (first_at p) = omega (arith, part_cells p)
  among_cells (later_at p) = omega (arith, among_cells p)

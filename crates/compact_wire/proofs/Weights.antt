-- How many values a value has in it, which falls where writing goes down.
use Rattle.std.proofs.Common.{◌≡◌, ℕ, zero, suc, ◌+◌, ◌<◌, List, [], ◌∷◌, length, get_or, ap, arith}
use Rattle.std.specs.Prelude.{ℤ}
use Rattle.compact_wire.specs.declared.wire.Wire.{Wire}
use Rattle.compact_wire.specs.declared.wire.Wire as Wire
use Rattle.compact_wire.specs.Node.{Node, list, set, map, structure, Nodes, no_nodes, node, Pairs, no_pairs}
use Rattle.compact_wire.specs.Node.{pair, Fields, no_fields, field}
use Rattle.compact_wire.specs.View.{view, nodes_view, pairs_view, fields_view}
use Rattle.compact_wire.proofs.WriteSteps.{view-list, view-set, view-map, view-struct}

abbrev mutual
  pub weight : Node → ℕ
  weight (list c xs) = suc (weight_all xs)
  weight (set c xs) = suc (weight_all xs)
  weight (map k v xs) = suc (weight_pairs xs)
  weight (structure xs) = suc (weight_fields xs)
  weight _ = 1

  pub weight_all : Nodes → ℕ
  weight_all no_nodes = 0
  weight_all (node x xs) = suc (weight x + weight_all xs)

  pub weight_pairs : Pairs → ℕ
  weight_pairs no_pairs = 0
  weight_pairs (pair x y xs) = suc (weight x + weight y + weight_pairs xs)

  pub weight_fields : Fields → ℕ
  weight_fields no_fields = 0
  weight_fields (field id x xs) = suc (weight x + weight_fields xs)

pub weight-list : (wire : Wire) (code : ℕ) (ws : List Wire) → wire ≡ Wire.List code ws
    → weight (view wire) ≡ suc (weight_all (nodes_view ws))
weight-list wire code ws e = ap weight (view-list wire code ws e)

pub weight-set : (wire : Wire) (code : ℕ) (ws : List Wire) → wire ≡ Wire.Set code ws
    → weight (view wire) ≡ suc (weight_all (nodes_view ws))
weight-set wire code ws e = ap weight (view-set wire code ws e)

pub weight-map : (wire : Wire) (key value : ℕ) (ps : List (Wire × Wire)) → wire ≡ Wire.Map key value ps
    → weight (view wire) ≡ suc (weight_pairs (pairs_view ps))
weight-map wire key value ps e = ap weight (view-map wire key value ps e)

pub weight-struct : (wire : Wire) (fs : List (ℤ × Wire)) → wire ≡ Wire.Struct fs
    → weight (view wire) ≡ suc (weight_fields (fields_view fs))
weight-struct wire fs e = ap weight (view-struct wire fs e)

-- ---- one of several weighs less than all

pub item_weighs_less : (ws : List Wire) (i : ℕ) (w : Wire) → i < length ws → w ≡ get_or ws i w
    → weight (view w) < weight_all (nodes_view ws)
item_weighs_less [] i w lt is = absurd (omega arith)
item_weighs_less (v ∷ ws) zero w lt is =
    let e : weight (view w) ≡ weight (view v) = ap (λ (z : Wire). weight (view z)) is in omega arith
item_weighs_less (v ∷ ws) (suc i) w lt is =
    let h : weight (view w) < weight_all (nodes_view ws) =
    item_weighs_less ws i w (omega arith) is in omega arith

pub pair_weighs_less : (ps : List (Wire × Wire)) (i : ℕ) (p : Wire × Wire) → i < length ps → p ≡ get_or ps i p
    → weight (view p.0) + weight (view p.1) < weight_pairs (pairs_view ps)
pair_weighs_less [] i p lt is = absurd (omega arith)
pair_weighs_less (q ∷ ps) zero p lt is =
    let e : weight (view p.0) + weight (view p.1) ≡ weight (view q.0) + weight (view q.1) =
    ap (λ (z : Wire × Wire). weight (view z.0) + weight (view z.1)) is in omega arith
pair_weighs_less (q ∷ ps) (suc i) p lt is =
    let h : weight (view p.0) + weight (view p.1) < weight_pairs (pairs_view ps) =
    pair_weighs_less ps i p (omega arith) is in omega arith

pub field_weighs_less : (fs : List (ℤ × Wire)) (i : ℕ) (f : ℤ × Wire) → i < length fs → f ≡ get_or fs i f
    → weight (view f.1) < weight_fields (fields_view fs)
field_weighs_less [] i f lt is = absurd (omega arith)
field_weighs_less (g ∷ fs) zero f lt is =
    let e : weight (view f.1) ≡ weight (view g.1) = ap (λ (z : ℤ × Wire). weight (view z.1)) is in omega arith
field_weighs_less (g ∷ fs) (suc i) f lt is =
    let h : weight (view f.1) < weight_fields (fields_view fs) =
    field_weighs_less fs i f (omega arith) is in omega arith

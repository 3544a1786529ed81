-- How long the schema of a layout is at most.
use Rattle.std.proofs.Common.{◌+◌, ◌++◌, ◌≤◌, ◌<◌, ◌*◌, ◌^◌, ℕ, zero, suc, ℤ, Bool, true, false, List, [], ◌∷◌}
use Rattle.std.proofs.Common.{length, length-append, refl, ap, arith}
use Rattle.std.specs.Prelude.{pos, neg_ℤ, if◌then◌else◌, ◌==◌, nat_le}
use Rattle.std.proofs.lemmas.Bool.Decides.{eqb_tells, leb_tells}
use Rattle.frozen_model.specs.Values.{Values, And, count}
use Rattle.frozen_model.specs.Layouts.{Version, Version1, Version2, Described, IsDescribed}
use Rattle.compact_wire.specs.Number.{zigzag}
use Rattle.compact_wire.specs.Canon.{canon, canon_pairs}
use Rattle.compact_wire.proofs.DigitLaws.{length-shortest}
use Rattle.compact_codec.specs.Wire.{wire}
use Rattle.typed_tree.specs.Spots.{pair}
use Rattle.layout_tree.specs.declared.node.Kind.{Kind}
use Rattle.layout_tree.specs.declared.node.Kind.TheVariants as kinds
use Rattle.layout_tree.specs.declared.node.NodeSpec.{NodeSpec}
use Rattle.layout_tree.specs.Given.{shown_nodes, noted_from}
use Rattle.layout_tree.specs.Listing.{version_number}
use Rattle.layout_schema.specs.Schemas.{base_in, type_name, child_value, children_of, layouts_of, number}
use Rattle.layout_schema.specs.Schemas.{schema_type, schema_of}
use Rattle.layout_schema.specs.Pieces.{child_pairs, layout_pairs, layout_bytes, child_bytes, base_bytes, map_head}
use Rattle.layout_schema.specs.Pieces.{signed_number, flag_field, i16_field, i32_field}
use Rattle.layout_schema.proofs.Spelled.{child_spelled, layout_spelled, schema_spelled}
use Rattle.layout_schema.proofs.OwnSchema.{few_nodes}

number_short : (x : ℤ) → length (signed_number x) ≤ 10
number_short x = (length-shortest (zigzag x)).1

child_short : (n : ℕ) (s : NodeSpec) → length (child_bytes n s) ≤ 33
child_short n s =
    simp length-append
    (omega (arith, number_short s.field, number_short (pos n), number_short (neg_ℤ (pos s.offset))))

base_short : (v : Version) (s : NodeSpec) → length (base_bytes v s) ≤ 11
base_short Version1 s = omega arith
base_short Version2 s = omega (arith, number_short (base_in s))

head_short : (n : ℕ) → length (map_head n) ≤ 12
head_short zero = omega arith
head_short (suc n) = simp length-append (omega (arith, (length-shortest (suc n)).1))

name_short : (k : Kind) → length (type_name k) ≤ 8
name_short kinds.Flag = omega arith
name_short kinds.I8 = omega arith
name_short kinds.I16 = omega arith
name_short kinds.I32 = omega arith
name_short kinds.I64 = omega arith
name_short kinds.Text = omega arith
name_short kinds.Bytes = omega arith
name_short kinds.List = omega arith
name_short kinds.Set = omega arith
name_short kinds.Map = omega arith
name_short kinds.Pair = omega arith
name_short kinds.Struct = omega arith
name_short kinds.Optional = omega arith
name_short kinds.Size = omega arith

-- a layout is short but for its children
layout_short : (v : Version) (n : ℕ) (s : NodeSpec) (cs : Values)
    → length (layout_bytes v n s cs) ≤ 75 + length (canon_pairs (child_pairs cs))
layout_short v n s cs =
    simp length-append
    (omega (
      arith,
      number_short (pos n),
      number_short (pos 0),
      number_short (pos s.bits),
      head_short (count cs),
      (length-shortest (length (type_name s.kind))).1,
      name_short s.kind,
      base_short v s,
    ))

-- ---- each node is the child of one

-- of these nodes, those whose parent is p, and those whose parent is p or a later one
abbrev under : ℕ → List NodeSpec → ℕ
under p [] = 0
under p (s ∷ ss) = (if s.parent == p then 1 else 0) + under p ss

abbrev under_from : ℕ → List NodeSpec → ℕ
under_from p [] = 0
under_from p (s ∷ ss) = (if nat_le p s.parent then 1 else 0) + under_from p ss

one_parent : (p m : ℕ)
    → (if m == p then 1 else 0) + (if nat_le (suc p) m then 1 else 0) ≤ (if nat_le p m then 1 else 0)
one_parent p m = grind (arith, eqb_tells m p, leb_tells (suc p) m, leb_tells p m)

parted : (p : ℕ) (ss : List NodeSpec) → under p ss + under_from (suc p) ss ≤ under_from p ss
parted p [] = omega arith
parted p (s ∷ ss) = omega (arith, one_parent p s.parent, parted p ss)

one_most : (b : Bool) → (if b then 1 else 0) ≤ 1
one_most true = omega arith
one_most false = omega arith

at_most_all : (p : ℕ) (ss : List NodeSpec) → under_from p ss ≤ length ss
at_most_all p [] = omega arith
at_most_all p (s ∷ ss) = omega (arith, one_most (nat_le p s.parent), at_most_all p ss)

-- ---- children and layouts

one_child : (n : ℕ) (s : NodeSpec) (cs : Values) (m : ℕ) → length (canon_pairs (child_pairs cs)) ≤ 33 * m
    → length (canon_pairs (child_pairs (And (pair (number s.field) (child_value n s)) cs))) ≤ 33 * (1 + m)
one_child n s cs m h =
    let rest = canon_pairs (child_pairs cs) in
    let e = ap length (child_spelled n s rest) in
    omega (arith, e, length-append (child_bytes n s) rest, child_short n s, h)

maybe_child : (b : Bool) (n : ℕ) (s : NodeSpec) (cs : Values) (m : ℕ) → length (canon_pairs (child_pairs cs)) ≤ 33 * m
    → length (canon_pairs (child_pairs (if b then And (pair (number s.field) (child_value n s)) cs else cs)))
    ≤ 33 * ((if b then 1 else 0) + m)
maybe_child true n s cs m h = one_child n s cs m h
maybe_child false n s cs m h = omega (arith, h)

children_short : (p n : ℕ) (ss : List NodeSpec)
    → length (canon_pairs (child_pairs (children_of p n ss))) ≤ 33 * under p ss
children_short p n [] = omega arith
children_short p n (s ∷ ss) =
    maybe_child (s.parent == p) n s (children_of p (suc n) ss) (under p ss) (children_short p (suc n) ss)

layouts_short : (v : Version) (n : ℕ) (ss : List NodeSpec)
    → length (canon_pairs (layout_pairs v (layouts_of v n ss))) ≤ 75 * length ss + 33 * under_from n ss
layouts_short v n [] = omega arith
layouts_short v n (s ∷ ss) =
    let cs = children_of n (suc n) ss in
    let rest = canon_pairs (layout_pairs v (layouts_of v (suc n) ss)) in
    let e = ap length (layout_spelled v n s cs rest) in
    omega (
      arith,
      e,
      length-append (layout_bytes v n s cs) rest,
      layout_short v n s cs,
      children_short n (suc n) ss,
      layouts_short v (suc n) ss,
      parted n ss,
    )

-- ---- the whole

flag_short : (b : Bool) → length (flag_field b) ≤ 1
flag_short true = omega arith
flag_short false = omega arith

pub schema_short : (d : Described) → IsDescribed d
    → length (canon (wire (schema_type d.version) (schema_of d))) < 2 ^ 20
schema_short d h =
    let xs = shown_nodes (noted_from d.tree) in
    let vs = layouts_of d.version 0 xs in
    let e = ap length (schema_spelled d.relaxed d.version d.tree vs refl) in
    let pieces : length (flag_field d.relaxed ++ (map_head (count vs) ++ (canon_pairs (layout_pairs d.version vs)
    ++ (i16_field (pos 0) ++ (i32_field (version_number d.version) ++ 0 ∷ [])))))
    ≤ 36 + length (canon_pairs (layout_pairs d.version vs)) =
    simp length-append
    (omega (
      arith,
      flag_short d.relaxed,
      head_short (count vs),
      number_short (pos 0),
      number_short (version_number d.version),
    )) in
    omega (arith, e, pieces, layouts_short d.version 0 xs, at_most_all 0 xs, few_nodes d h)

-- The schema of a layout within the limits is a value of the type of schemas.
use Rattle.std.proofs.Common.{rules, ◌≡◌, ℕ, zero, suc, ◌+◌, ◌<◌, ◌≤◌, ◌^◌, pos, Bool, true, false, ◌==◌, if◌then◌else◌, List, [], ◌∷◌, None, Some, arith, refl, ap, sym, ◌∙◌, drop, length, subst}
use Rattle.std.specs.Prelude.{neg_ℤ, codes}
use Rattle.std.proofs.lemmas.List.{drop-drop, length-map}
use Rattle.std.proofs.lemmas.Str.{IsUtf8-from_ascii}
use Rattle.idl_profile.specs.declared.kinds.TypeKind.TheVariants as types
use Rattle.idl_profile.specs.Types.{kind_of}
use Rattle.frozen_model.specs.Trees.{I16, LeafKind, Integer, Text, AMap, KindTree, Leaf, ByteRange, ItemRange, Optional, Struct, NoField, Field, nodes, IsFormed, Alike, AllLeafwise, leaf, byte_range, item_range, optional, struct, no_field, field}
use Rattle.frozen_model.specs.Values.{Values, Bytes, And, InBits, Of, one, bytes, items, record_of, OfEach, none, more, part, no_part, Rises, count}
use Rattle.frozen_model.specs.Layouts.{Version, Version1, Version2, Coded, Layout, Layouts, Described, IsDescribed}
use Rattle.frozen_laws.proofs.SameKinds.{kind_tree_along}
use Rattle.typed_tree.specs.Spots.{pair}
use Rattle.type_kinds.specs.KindsOf.{kinds_of}
use Rattle.type_kinds.specs.Accepted.{IsAccepted, IsWithin, HasShortTexts}
use Rattle.type_kinds.specs.Laws.{Any}
use Rattle.layout_tree.specs.declared.node.NodeSpec.{NodeSpec}
use Rattle.layout_tree.specs.declared.node.Kind.{Kind}
use Rattle.layout_tree.specs.declared.node.Kind.TheVariants as kinds
use Rattle.layout_tree.specs.Listing.{Noted, LeafWidths, Width, all_nodes, version_number}
use Rattle.layout_tree.specs.Given.{shown, shown_nodes, noted_from, all_noted_from}
use Rattle.layout_tree.proofs.Taken.{few_given}
use Rattle.layout_tree.proofs.Place.{length_nodes}
use Rattle.layout_schema.specs.Schemas.{field_type, layout_type, schema_type, type_name, number, child_value, children_of, layout_of_node, layouts_of, schema_of}
use Rattle.layout_schema.proofs.Places.{few_children}
use Rattle.layout_schema.proofs.Spelled.{layouts_counted}
use Rattle.layout_schema.proofs.Fitting.{NodeFits, AllFit, fit_shown, layout_fits}
use Rattle.layout_schema.proofs.Climbing.{fields_under, Climbs, climbs_at, children_rise, below_is_less}

-- ---- the type is one of a definition

-- no text is written as a default, so this is so for whatever a written text has to be
field_accepted : (P : List ℕ → Type 0) → IsAccepted P field_type
field_accepted P = ((omega arith, omega arith, (omega arith, omega arith, tt)), omega arith, (tt, tt, (tt, omega arith, tt)))

pub layout_accepted : (P : List ℕ → Type 0) (v : Version) → IsAccepted P (layout_type v)
layout_accepted P Version1 = (
  (omega arith, omega arith, (omega arith, omega arith, (omega arith, omega arith, (omega arith, omega arith, tt)))),
  omega arith,
  (tt, omega arith, (tt, omega arith, ((tt, tt, field_accepted P), tt, (tt, tt, tt)))),
)
layout_accepted P Version2 = (
  (omega arith, omega arith, (omega arith, omega arith, (omega arith, omega arith, (omega arith, omega arith, (omega arith, omega arith, tt))))),
  omega arith,
  (tt, omega arith, (tt, omega arith, ((tt, tt, field_accepted P), tt, (tt, tt, (tt, omega arith, tt))))),
)

pub schema_accepted : (P : List ℕ → Type 0) (v : Version) → IsAccepted P (schema_type v)
schema_accepted P v = (
  (omega arith, omega arith, (omega arith, omega arith, (omega arith, omega arith, (omega arith, omega arith, tt)))),
  omega arith,
  (tt, tt, ((tt, tt, layout_accepted P v), tt, (tt, omega arith, (tt, omega arith, tt)))),
)

field_short : HasShortTexts field_type
field_short = (tt, tt, (tt, tt, tt))

layout_short : (v : Version) → HasShortTexts (layout_type v)
layout_short Version1 = (tt, tt, (tt, tt, ((tt, field_short), tt, (tt, tt, tt))))
layout_short Version2 = (tt, tt, (tt, tt, ((tt, field_short), tt, (tt, tt, (tt, tt, tt)))))

pub schema_short : (v : Version) → HasShortTexts (schema_type v)
schema_short v = (tt, tt, ((tt, layout_short v), tt, (tt, tt, (tt, tt, tt))))

pub schema_within : (v : Version) → IsWithin Any (schema_type v)
schema_within Version1 = record { accepted = schema_accepted Any Version1; shallow = omega arith; few = omega arith; narrow = omega arith }
schema_within Version2 = record { accepted = schema_accepted Any Version2; shallow = omega arith; few = omega arith; narrow = omega arith }

pub schema_is_struct : (v : Version) → kind_of (schema_type v) ≡ types.Struct
schema_is_struct v = refl

-- ---- parts

-- the kinds of a pair whose value has these kinds
abbrev pub keyed : KindTree → KindTree
keyed l = Struct (Field 1 (Leaf (Integer I16) tt) (Field 2 l NoField))

-- the kinds of a Field, of a Layout and of a Schema
abbrev pub child_kinds : KindTree
child_kinds = kinds_of field_type

abbrev pub layout_kinds : Version → KindTree
layout_kinds v = kinds_of (layout_type v)

abbrev pub schema_kinds : Version → KindTree
schema_kinds v = kinds_of (schema_type v)

offset_fits : (o : ℕ) → o ≤ 32767 → InBits 15 (neg_ℤ (pos o))
offset_fits zero h = omega arith
offset_fits (suc o) h = omega arith

child_fits : (n : ℕ) (s : NodeSpec) → n < 4096 → NodeFits s → Of (kinds_of field_type) (child_value n s)
child_fits n s lt h = record_of refl (part (one (omega arith)) (part (one (offset_fits s.offset h.offset)) no_part))

children_each : (p n : ℕ) (xs : List NodeSpec) → n + length xs ≤ 4096 → AllFit xs → OfEach (keyed (kinds_of field_type)) (children_of p n xs)
children_each p n [] le h = none
children_each p n (x ∷ xs) le h =
    go (x.parent == p) (child_fits n x (omega arith) h.0) (children_each p (suc n) xs (omega arith) h.1)
  where
    go : (b : Bool) → Of (kinds_of field_type) (child_value n x) → OfEach (keyed (kinds_of field_type)) (children_of p (suc n) xs)
        → OfEach (keyed (kinds_of field_type)) (if b then And (pair (number x.field) (child_value n x)) (children_of p (suc n) xs) else children_of p (suc n) xs)
    go true c cs = more (record_of refl (part (one h.0.field) (part c no_part))) cs
    go false c cs = cs

name_fits : (k : Kind) → Of {A = Unit {0}} {B = Unit {0}} (ByteRange Text tt tt) (Bytes (type_name k))
name_fits kinds.Flag = bytes (omega arith) (search rules) (IsUtf8-from_ascii (codes "bool") (search rules))
name_fits kinds.I8 = bytes (omega arith) (search rules) (IsUtf8-from_ascii (codes "i8") (search rules))
name_fits kinds.I16 = bytes (omega arith) (search rules) (IsUtf8-from_ascii (codes "i16") (search rules))
name_fits kinds.I32 = bytes (omega arith) (search rules) (IsUtf8-from_ascii (codes "i32") (search rules))
name_fits kinds.I64 = bytes (omega arith) (search rules) (IsUtf8-from_ascii (codes "i64") (search rules))
name_fits kinds.Text = bytes (omega arith) (search rules) (IsUtf8-from_ascii (codes "string") (search rules))
name_fits kinds.Bytes = bytes (omega arith) (search rules) (IsUtf8-from_ascii (codes "binary") (search rules))
name_fits kinds.List = bytes (omega arith) (search rules) (IsUtf8-from_ascii (codes "list") (search rules))
name_fits kinds.Set = bytes (omega arith) (search rules) (IsUtf8-from_ascii (codes "set") (search rules))
name_fits kinds.Map = bytes (omega arith) (search rules) (IsUtf8-from_ascii (codes "map") (search rules))
name_fits kinds.Pair = bytes (omega arith) (search rules) (IsUtf8-from_ascii (codes "pair") (search rules))
name_fits kinds.Struct = bytes (omega arith) (search rules) (IsUtf8-from_ascii (codes "struct") (search rules))
name_fits kinds.Optional = bytes (omega arith) (search rules) (IsUtf8-from_ascii (codes "optional") (search rules))
name_fits kinds.Size = bytes (omega arith) (search rules) (IsUtf8-from_ascii (codes "size") (search rules))

entry_fits : (v : Version) (s : NodeSpec) (cs : Values) → NodeFits s → count cs < 2 ^ 31 → Rises AMap None cs → OfEach (keyed (kinds_of field_type)) cs
    → Of (kinds_of (layout_type v)) (layout_of_node v s cs)
entry_fits Version1 s cs h few rise each =
    record_of refl (part (one (omega arith)) (part (one (omega (arith, h.bits))) (part (items few rise each) (part (name_fits s.kind) no_part))))
entry_fits Version2 s cs h few rise each =
    record_of refl (part (one (omega arith)) (part (one (omega (arith, h.bits))) (part (items few rise each) (part (name_fits s.kind) (part (one h.base) no_part)))))

-- the fields of each node's children rise, for these nodes with the numbers from n on
abbrev AllClimb : ℕ → List NodeSpec → Type 0
AllClimb n [] = Unit {0}
AllClimb n (s ∷ ss) = Climbs None (fields_under n ss) × AllClimb (suc n) ss

layouts_each : (v : Version) (n : ℕ) (xs : List NodeSpec) → n + length xs ≤ 4096 → AllFit xs → AllClimb n xs → OfEach (keyed (kinds_of (layout_type v))) (layouts_of v n xs)
layouts_each v n [] le h c = none
layouts_each v n (x ∷ xs) le h c =
    more (record_of refl (part (one (omega arith)) (part
    (entry_fits v x (children_of n (suc n) xs) h.0 (omega (arith, few_children n (suc n) xs)) (children_rise n (suc n) xs None c.0)
    (children_each n (suc n) xs (omega arith) h.1)) no_part)))
    (layouts_each v (suc n) xs (omega arith) h.1 c.1)

layouts_rise : (v : Version) (m n : ℕ) (xs : List NodeSpec) → m < n → Rises AMap (Some (number (pos m))) (layouts_of v n xs)
layouts_rise v m n [] lt = tt
layouts_rise v m n (x ∷ xs) lt = (below_is_less m n lt, layouts_rise v n (suc n) xs (omega arith))

all_layouts_rise : (v : Version) (xs : List NodeSpec) → Rises AMap None (layouts_of v 0 xs)
all_layouts_rise v [] = tt
all_layouts_rise v (x ∷ xs) = (refl, layouts_rise v 0 1 xs (omega arith))

all_climb : (t : Noted) (n : ℕ) (ys : List NodeSpec) → IsFormed t → drop n (shown_nodes t) ≡ ys → n + length ys ≡ nodes t → AllClimb n ys
all_climb t n [] formed e long = tt
all_climb t n (y ∷ ys) formed e long =
    let one : suc n ≡ n + 1 = omega arith in
    let later : drop (suc n) (shown_nodes t) ≡ ys = ap (λ k. drop k (shown_nodes t)) one ∙ sym (drop-drop 1 n (shown_nodes t)) ∙ ap (drop 1) e in
    (subst (λ r. Climbs None (fields_under n r)) later (climbs_at t n formed (omega arith)), all_climb t (suc n) ys formed later (omega arith))

mutual
  alike_noted : (l : Layout) → Alike l (noted_from l)
  alike_noted (Leaf k c) = leaf tt
  alike_noted (ByteRange t d c) = byte_range tt tt
  alike_noted (ItemRange h d c l) = item_range tt tt (alike_noted l)
  alike_noted (Optional w l) = optional tt (alike_noted l)
  alike_noted (Struct ls) = struct (all_alike_noted ls)

  all_alike_noted : (ls : Layouts) → AllLeafwise (λ (k : LeafKind) (a : Coded) (c : LeafWidths). Unit {0}) (λ (b : ℕ) (d : Width). Unit {0}) (λ (b : ℕ) (d : Width). Unit {0}) ls (all_noted_from ls)
  all_alike_noted NoField = no_field
  all_alike_noted (Field i l ls) = field (alike_noted l) (all_alike_noted ls)

-- ---- the whole

version_fits : (v : Version) → InBits 31 (version_number v)
version_fits Version1 = omega arith
version_fits Version2 = omega arith

-- the layout has at most 4096 nodes
pub few_nodes : (d : Described) → IsDescribed d → length (shown_nodes (noted_from d.tree)) ≤ 4096
few_nodes d h =
    let xs = shown_nodes (noted_from d.tree) in
    few_given {d = d} {ns = xs} {z = version_number d.version} {r = d.relaxed} xs refl
    (record { described = h; numbered = refl; relaxes = refl; nodes = refl })

pub schema_is_value : (d : Described) → IsDescribed d → Of (kinds_of (schema_type d.version)) (schema_of d)
schema_is_value d h =
    let l = d.tree in
    let t = noted_from l in
    let xs = shown_nodes t in
    let few = few_nodes d h in
    let formed : IsFormed t = (kind_tree_along (alike_noted l) h.layout.kind_tree).formed in
    let fit = fit_shown (all_nodes t) (layout_fits d.version l h.layout.coded h.layout.legal h.layout.kind_tree.narrow h.layout.kind_tree.formed) in
    let long : length xs ≡ nodes t = length-map (all_nodes t) shown ∙ length_nodes t kinds.Struct 0 0 0 0 in
    record_of refl (part (one tt) (part
    (items (omega (arith, few, layouts_counted d.version 0 xs)) (all_layouts_rise d.version xs)
    (layouts_each d.version 0 xs (omega (arith, few)) fit (all_climb t 0 xs formed refl (omega (arith, long)))))
    (part (one (omega arith)) (part (one (version_fits d.version)) no_part))))

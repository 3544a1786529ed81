-- Which constructor a value is made by, as a number, and that projecting keeps it.
use Rattle.std.proofs.Common.{◌≡◌, ℕ, ◌≤◌, List, refl, subst, arith, Some}
use Rattle.idl_profile.specs.Types.{TypeTree, scalar, text, bytes, list_of, set_of, map_of, named, enum_of}
use Rattle.idl_profile.specs.Types.{struct_of}
use Rattle.frozen_model.specs.Trees.{Holder, AList, ASet, AMap}
use Rattle.frozen_model.specs.Values.{Atom, Value, Values, One, Bytes, Items, Absent, Present, Record}
use Rattle.typed_tree.specs.Parts.{IsFlag, IsInt, IsText, IsBytes, IsRow, IsMap, IsItems, IsRecord}
use Rattle.bit_view.specs.Views.{IsOption}
use Rattle.evolve.specs.Parts.{held}
use Rattle.evolve.specs.Projection.{each, with_second, proj}

abbrev pub tag : Value → ℕ
tag (One a) = 0
tag (Bytes bs) = 1
tag (Items h vs) = 2
tag (Record ids vs) = 3
tag Absent = 4
tag (Present v) = 5

-- ---- forms and tags

pub flag_tag : (v : Value) → IsFlag v → tag v ≡ 0
flag_tag (One a) h = refl
flag_tag v h = absurd h

pub int_tag : (v : Value) → IsInt v → tag v ≡ 0
int_tag (One a) h = refl
int_tag v h = absurd h

pub bytes_tag : (v : Value) → IsBytes v → tag v ≡ 1
bytes_tag (Bytes bs) h = refl
bytes_tag v h = absurd h

pub text_tag : (v : Value) → IsText v → tag v ≡ 1
text_tag (Bytes bs) h = refl
text_tag v h = absurd h

pub items_tag : (v : Value) → IsItems v → tag v ≡ 2
items_tag (Items g vs) h = refl
items_tag v h = absurd h

pub row_tag : (v : Value) → IsRow v → tag v ≡ 2
row_tag (Items g vs) h = refl
row_tag v h = absurd h

pub map_tag : (v : Value) → IsMap v → tag v ≡ 2
map_tag (Items g vs) h = refl
map_tag v h = absurd h

pub record_tag : (v : Value) → IsRecord v → tag v ≡ 3
record_tag (Record ids vs) h = refl
record_tag v h = absurd h

pub tag_items : (v : Value) → tag v ≡ 2 → IsItems v
tag_items (Items g vs) e = tt
tag_items v e = absurd (omega (arith, e))

pub tag_record : (v : Value) → tag v ≡ 3 → IsRecord v
tag_record (Record ids vs) e = tt
tag_record v e = absurd (omega (arith, e))

pub tag_option : (v : Value) → 4 ≤ tag v → IsOption v
tag_option Absent e = tt
tag_option (Present v) e = tt
tag_option v e = absurd (omega (arith, e))

-- what is no optional is held as it is
pub held_plain : (v : Value) → tag v ≤ 3 → held v ≡ Some v
held_plain (One a) e = refl
held_plain (Bytes bs) e = refl
held_plain (Items g vs) e = refl
held_plain (Record ids vs) e = refl
held_plain v e = absurd (omega (arith, e))

-- ---- projections

proj_one : (t : TypeTree) (a : Atom) → proj t (One a) ≡ One a
proj_one (scalar s) a = refl
proj_one text a = refl
proj_one bytes a = refl
proj_one (list_of x) a = refl
proj_one (set_of x) a = refl
proj_one (map_of x y) a = refl
proj_one (named (enum_of w ms)) a = refl
proj_one (named (struct_of w fs)) a = refl

proj_bytes : (t : TypeTree) (bs : List ℕ) → proj t (Bytes bs) ≡ Bytes bs
proj_bytes (scalar s) bs = refl
proj_bytes text bs = refl
proj_bytes bytes bs = refl
proj_bytes (list_of x) bs = refl
proj_bytes (set_of x) bs = refl
proj_bytes (map_of x y) bs = refl
proj_bytes (named (enum_of w ms)) bs = refl
proj_bytes (named (struct_of w fs)) bs = refl

-- the items of a projection
abbrev pub proj_items : TypeTree → Values → Values
proj_items (list_of x) vs = each (λ v. proj x v) vs
proj_items (map_of x y) vs = each (with_second (λ v. proj y v)) vs
proj_items t vs = vs

pub items_proj : (t : TypeTree) (h : Holder) (vs : Values) → proj t (Items h vs) ≡ Items h (proj_items t vs)
items_proj (scalar s) h vs = refl
items_proj text h vs = refl
items_proj bytes h vs = refl
items_proj (list_of x) h vs = refl
items_proj (set_of x) h vs = refl
items_proj (map_of x y) h vs = refl
items_proj (named (enum_of w ms)) h vs = refl
items_proj (named (struct_of w fs)) h vs = refl

list_tag : (x : TypeTree) (v : Value) → tag (proj (list_of x) v) ≡ tag v
list_tag x (One a) = refl
list_tag x (Bytes bs) = refl
list_tag x (Items h vs) = refl
list_tag x (Record ids vs) = refl
list_tag x Absent = refl
list_tag x (Present v) = refl

pairs_tag : (x y : TypeTree) (v : Value) → tag (proj (map_of x y) v) ≡ tag v
pairs_tag x y (One a) = refl
pairs_tag x y (Bytes bs) = refl
pairs_tag x y (Items h vs) = refl
pairs_tag x y (Record ids vs) = refl
pairs_tag x y Absent = refl
pairs_tag x y (Present v) = refl

struct_tag : (w : List ℕ) (fs : _) (v : Value) → tag (proj (named (struct_of w fs)) v) ≡ tag v
struct_tag w fs (One a) = refl
struct_tag w fs (Bytes bs) = refl
struct_tag w fs (Items h vs) = refl
struct_tag w fs (Record ids vs) = refl
struct_tag w fs Absent = refl
struct_tag w fs (Present v) = refl

pub proj_tag : (t : TypeTree) (v : Value) → tag (proj t v) ≡ tag v
proj_tag (scalar s) v = refl
proj_tag text v = refl
proj_tag bytes v = refl
proj_tag (list_of x) v = list_tag x v
proj_tag (set_of x) v = refl
proj_tag (map_of x y) v = pairs_tag x y v
proj_tag (named (enum_of w ms)) v = refl
proj_tag (named (struct_of w fs)) v = struct_tag w fs v

-- flags, numbers and bytes stay
pub proj_stays : (t : TypeTree) (v : Value) → tag v ≤ 1 → proj t v ≡ v
proj_stays t (One a) h = proj_one t a
proj_stays t (Bytes bs) h = proj_bytes t bs
proj_stays t v h = absurd (omega (arith, h))

-- a map stays a map, and a list or a set one
pub map_before : (t : TypeTree) (v : Value) → IsMap (proj t v) → IsMap v
map_before t (Items AMap vs) h = tt
map_before t (Items AList vs) h = absurd (subst IsMap (items_proj t AList vs) h)
map_before t (Items ASet vs) h = absurd (subst IsMap (items_proj t ASet vs) h)
map_before t (One a) h = absurd (subst IsMap (proj_one t a) h)
map_before t (Bytes bs) h = absurd (subst IsMap (proj_bytes t bs) h)
map_before t v h = absurd (omega (arith, proj_tag t v, map_tag (proj t v) h))

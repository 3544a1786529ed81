-- A value of a type by the type's kind: its JSON, its lines, the form that it has, and the sizes of its
-- parts' types.
use Rattle.std.proofs.Common.{◌≡◌, ◌⊎◌, ◌+◌, ℕ, suc, List, [], refl, ap, ◌∙◌, subst, inl, inr}
use Rattle.idl_profile.specs.declared.kinds.TypeKind.{TypeKind}
use Rattle.idl_profile.specs.declared.kinds.TypeKind.TheVariants as kinds
use Rattle.idl_profile.specs.Types.{TypeTree, scalar, text, bytes, list_of, set_of, map_of, named, enum_of}
use Rattle.idl_profile.specs.Types.{struct_of}
use Rattle.idl_profile.specs.Types.{kind_of, flag, i8, i16, i32, i64}
use Rattle.idl_parse.specs.Refs.{element_of, key_of, value_of}
use Rattle.frozen_model.specs.Trees.{AList, ASet, AMap}
use Rattle.frozen_model.specs.Values as is
use Rattle.frozen_model.specs.Values.{Value}
use Rattle.typed_tree.specs.Parts.{IsList, IsSet, IsMap, IsRow, IsItems, bytes_in, items_of}
use Rattle.typed_tree.specs.Parts.{fields_of as values_in}
use Rattle.typed_tree.proofs.Typed.{size}
use Rattle.typed_tree.proofs.Celled.{all_fields}
use Rattle.hex.specs.Hex.{encode_lower}
use Rattle.serde_json.specs.Data.{Data, string, array, object}
use Rattle.evolve.specs.declared.lens.Lens.{Lens}
use Rattle.evolve.specs.Lenses.{type_of_lens, value_of_lens, HasForm}
use Rattle.evolve.proofs.Known.{lens_form}
use Rattle.json_line.specs.Json.{leaf, each, both, as_json, members, each_line, lines}

-- the JSON of a value of a type of this kind
abbrev pub json_by : TypeKind → TypeTree → Value → Data
json_by kinds.Flag t v = leaf v
json_by kinds.I8 t v = leaf v
json_by kinds.I16 t v = leaf v
json_by kinds.I32 t v = leaf v
json_by kinds.I64 t v = leaf v
json_by kinds.Enum t v = leaf v
json_by kinds.Text t v = string (bytes_in v)
json_by kinds.Bytes t v = string (encode_lower (bytes_in v))
json_by kinds.List t v = array (each (as_json (element_of t)) (items_of v))
json_by kinds.Set t v = array (each (as_json (element_of t)) (items_of v))
json_by kinds.Map t v = array (each (both (as_json (key_of t)) (as_json (value_of t))) (items_of v))
json_by kinds.Struct t v = object (members (all_fields t) (values_in v))

pub json-by : (t : TypeTree) (v : Value) → as_json t v ≡ json_by (kind_of t) t v
json-by (scalar flag) v = refl
json-by (scalar i8) v = refl
json-by (scalar i16) v = refl
json-by (scalar i32) v = refl
json-by (scalar i64) v = refl
json-by text v = refl
json-by bytes v = refl
json-by (list_of x) v = refl
json-by (set_of x) v = refl
json-by (map_of x y) v = refl
json-by (named (enum_of w ms)) v = refl
json-by (named (struct_of w fs)) v = refl

-- the same where the kind is known
pub json-as : (k : TypeKind) (t : TypeTree) (v : Value) → kind_of t ≡ k → as_json t v ≡ json_by k t v
json-as k t v e = json-by t v ∙ ap (λ j. json_by j t v) e

-- its items as lines
abbrev lines_by : TypeKind → TypeTree → Value → List ℕ
lines_by kinds.List t v = each_line (as_json (element_of t)) (items_of v)
lines_by kinds.Set t v = each_line (as_json (element_of t)) (items_of v)
lines_by kinds.Map t v = each_line (both (as_json (key_of t)) (as_json (value_of t))) (items_of v)
lines_by k t v = []

lines-by : (t : TypeTree) (v : Value) → lines t v ≡ lines_by (kind_of t) t v
lines-by (scalar flag) v = refl
lines-by (scalar i8) v = refl
lines-by (scalar i16) v = refl
lines-by (scalar i32) v = refl
lines-by (scalar i64) v = refl
lines-by text v = refl
lines-by bytes v = refl
lines-by (list_of x) v = refl
lines-by (set_of x) v = refl
lines-by (map_of x y) v = refl
lines-by (named (enum_of w ms)) v = refl
lines-by (named (struct_of w fs)) v = refl

lines-as : (k : TypeKind) (t : TypeTree) (v : Value) → kind_of t ≡ k → lines t v ≡ lines_by k t v
lines-as k t v e = lines-by t v ∙ ap (λ j. lines_by j t v) e

-- the size of a type, from those of its parts
abbrev size_by : TypeKind → TypeTree → ℕ
size_by kinds.List t = suc (size (element_of t))
size_by kinds.Set t = suc (size (element_of t))
size_by kinds.Map t = suc (size (key_of t) + size (value_of t))
size_by k t = size t

size-by : (t : TypeTree) → size t ≡ size_by (kind_of t) t
size-by (scalar flag) = refl
size-by (scalar i8) = refl
size-by (scalar i16) = refl
size-by (scalar i32) = refl
size-by (scalar i64) = refl
size-by text = refl
size-by bytes = refl
size-by (list_of x) = refl
size-by (set_of x) = refl
size-by (map_of x y) = refl
size-by (named (enum_of w ms)) = refl
size-by (named (struct_of w fs)) = refl

size-as : (k : TypeKind) (t : TypeTree) → kind_of t ≡ k → size t ≡ size_by k t
size-as k t e = size-by t ∙ ap (λ j. size_by j t) e

-- ---- lists and sets

abbrev pub IsRowKind : TypeTree → Type 0
IsRowKind t = (kind_of t ≡ kinds.List) ⊎ (kind_of t ≡ kinds.Set)

pub row-smaller : (t : TypeTree) → IsRowKind t → size t ≡ suc (size (element_of t))
row-smaller t (inl e) = size-as kinds.List t e
row-smaller t (inr e) = size-as kinds.Set t e

pub json-row : (t : TypeTree) (v : Value) → IsRowKind t
    → as_json t v ≡ array (each (as_json (element_of t)) (items_of v))
json-row t v (inl e) = json-as kinds.List t v e
json-row t v (inr e) = json-as kinds.Set t v e

pub lines-row : (t : TypeTree) (v : Value) → IsRowKind t
    → lines t v ≡ each_line (as_json (element_of t)) (items_of v)
lines-row t v (inl e) = lines-as kinds.List t v e
lines-row t v (inr e) = lines-as kinds.Set t v e

list-row : (v : Value) → IsList v → IsRow v
list-row (is.Items AList vs) h = tt
list-row v h = absurd h

set-row : (v : Value) → IsSet v → IsRow v
set-row (is.Items ASet vs) h = tt
set-row v h = absurd h

pub row-form : (l : Lens) → IsRowKind (type_of_lens l) → IsRow (value_of_lens l)
row-form l (inl e) = list-row (value_of_lens l) (subst (λ k. HasForm k (value_of_lens l)) e (lens_form l))
row-form l (inr e) = set-row (value_of_lens l) (subst (λ k. HasForm k (value_of_lens l)) e (lens_form l))

row-has : (v : Value) → IsRow v → IsItems v
row-has (is.Items AList vs) h = tt
row-has (is.Items ASet vs) h = tt
row-has v h = absurd h

pub row-items : (l : Lens) → IsRowKind (type_of_lens l) → IsItems (value_of_lens l)
row-items l e = row-has (value_of_lens l) (row-form l e)

-- ---- maps

pub map-smaller : (t : TypeTree) → kind_of t ≡ kinds.Map → size t ≡ suc (size (key_of t) + size (value_of t))
map-smaller t e = size-as kinds.Map t e

pub lines-map : (t : TypeTree) (v : Value) → kind_of t ≡ kinds.Map
    → lines t v ≡ each_line (both (as_json (key_of t)) (as_json (value_of t))) (items_of v)
lines-map t v e = lines-as kinds.Map t v e

pub map-form : (l : Lens) → kind_of (type_of_lens l) ≡ kinds.Map → IsMap (value_of_lens l)
map-form l e = subst (λ k. HasForm k (value_of_lens l)) e (lens_form l)

map-has : (v : Value) → IsMap v → IsItems v
map-has (is.Items AMap vs) h = tt
map-has v h = absurd h

pub map-items : (l : Lens) → kind_of (type_of_lens l) ≡ kinds.Map → IsItems (value_of_lens l)
map-items l e = map-has (value_of_lens l) (map-form l e)

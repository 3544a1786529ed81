-- Types by their codes, and what is so of the parts of accepted types.
use Rattle.std.proofs.Common.{◌≡◌, ◌≢◌, ◌≤◌, ◌⊎◌, inl, inr, ℕ, zero, suc, true, Some, refl, sym, subst, arith}
use Rattle.std.specs.Prelude.{slice_get}
use Rattle.compact_wire.specs.declared.kind.Kind.{Kind}
use Rattle.compact_wire.specs.declared.kind.Kind.TheVariants as k
use Rattle.compact_wire.specs.Codes.{code_of}
use Rattle.compact_wire.specs.Reads.{fits}
use Rattle.idl_profile.specs.Types.{TypeTree, text, bytes, list_of, set_of, map_of, named, enum_of, struct_of, DefField, Fields, no_fields, field, field_list, kind_of, fields_of, scalar, flag, i8, i16, i32, i64}
use Rattle.idl_profile.specs.declared.kinds.TypeKind.TheVariants as kinds
use Rattle.idl_parse.specs.Refs.{element_of, key_of, value_of}
use Rattle.type_kinds.specs.Accepted.{IsAccepted, AreAccepted, IsWritten, IsKeyType}
use Rattle.type_kinds.specs.Laws.{Any}
use Rattle.typed_reading.specs.Codes.{code}
use Rattle.typed_reading.specs.Marks.{IsKeyKind, AreTyped}

-- ---- kinds of types by their codes

pub row_kind : (t : TypeTree) → (code t ≡ 9) ⊎ (code t ≡ 10) → (kind_of t ≡ kinds.List) ⊎ (kind_of t ≡ kinds.Set)
row_kind (list_of t) e = inl refl
row_kind (set_of t) e = inr refl
row_kind text e = absurd (grind arith)
row_kind bytes e = absurd (grind arith)
row_kind (scalar flag) e = absurd (grind arith)
row_kind (scalar i8) e = absurd (grind arith)
row_kind (scalar i16) e = absurd (grind arith)
row_kind (scalar i32) e = absurd (grind arith)
row_kind (scalar i64) e = absurd (grind arith)
row_kind (map_of x y) e = absurd (grind arith)
row_kind (named (enum_of n ms)) e = absurd (grind arith)
row_kind (named (struct_of n fs)) e = absurd (grind arith)

pub map_kind : (t : TypeTree) → code t ≡ 11 → kind_of t ≡ kinds.Map
map_kind (map_of x y) e = refl
map_kind (list_of t) e = absurd (omega arith)
map_kind (set_of t) e = absurd (omega arith)
map_kind text e = absurd (omega arith)
map_kind bytes e = absurd (omega arith)
map_kind (scalar flag) e = absurd (omega arith)
map_kind (scalar i8) e = absurd (omega arith)
map_kind (scalar i16) e = absurd (omega arith)
map_kind (scalar i32) e = absurd (omega arith)
map_kind (scalar i64) e = absurd (omega arith)
map_kind (named (enum_of n ms)) e = absurd (omega arith)
map_kind (named (struct_of n fs)) e = absurd (omega arith)

pub struct_kind : (t : TypeTree) → code t ≡ 12 → kind_of t ≡ kinds.Struct
struct_kind (named (struct_of n fs)) e = refl
struct_kind (named (enum_of n ms)) e = absurd (omega arith)
struct_kind text e = absurd (omega arith)
struct_kind bytes e = absurd (omega arith)
struct_kind (scalar flag) e = absurd (omega arith)
struct_kind (scalar i8) e = absurd (omega arith)
struct_kind (scalar i16) e = absurd (omega arith)
struct_kind (scalar i32) e = absurd (omega arith)
struct_kind (scalar i64) e = absurd (omega arith)
struct_kind (list_of t) e = absurd (omega arith)
struct_kind (set_of t) e = absurd (omega arith)
struct_kind (map_of x y) e = absurd (omega arith)

pub struct_code : (t : TypeTree) → kind_of t ≡ kinds.Struct → code t ≡ 12
struct_code (named (struct_of n fs)) e = refl
struct_code (named (enum_of n ms)) e = absurd cc
struct_code text e = absurd cc
struct_code bytes e = absurd cc
struct_code (scalar flag) e = absurd cc
struct_code (scalar i8) e = absurd cc
struct_code (scalar i16) e = absurd cc
struct_code (scalar i32) e = absurd cc
struct_code (scalar i64) e = absurd cc
struct_code (list_of t) e = absurd cc
struct_code (set_of t) e = absurd cc
struct_code (map_of x y) e = absurd cc

-- ---- kinds of the wire

pub leaf_kind : (kind : Kind) → kind ≢ k.List → kind ≢ k.Set → kind ≢ k.Map → kind ≢ k.Struct → fits 0 kind ≡ true
leaf_kind k.Flag a b c d = refl
leaf_kind k.I8 a b c d = refl
leaf_kind k.I16 a b c d = refl
leaf_kind k.I32 a b c d = refl
leaf_kind k.I64 a b c d = refl
leaf_kind k.Double a b c d = refl
leaf_kind k.Binary a b c d = refl
leaf_kind k.List a b c d = absurd (a refl)
leaf_kind k.Set a b c d = absurd (b refl)
leaf_kind k.Map a b c d = absurd (c refl)
leaf_kind k.Struct a b c d = absurd (d refl)

pub key_is_leaf : (kind : Kind) → IsKeyKind kind → fits 0 kind ≡ true
key_is_leaf k.Flag h = refl
key_is_leaf k.I8 h = refl
key_is_leaf k.I16 h = refl
key_is_leaf k.I32 h = refl
key_is_leaf k.I64 h = refl
key_is_leaf k.Binary h = refl
key_is_leaf k.Double h = absurd h
key_is_leaf k.List h = absurd h
key_is_leaf k.Set h = absurd h
key_is_leaf k.Map h = absurd h
key_is_leaf k.Struct h = absurd h

no_key_code : (t : TypeTree) → IsKeyType t → (code t ≡ 7) ⊎ (9 ≤ code t) → ⊥
no_key_code (scalar flag) h e = grind arith
no_key_code (scalar i8) h e = grind arith
no_key_code (scalar i16) h e = grind arith
no_key_code (scalar i32) h e = grind arith
no_key_code (scalar i64) h e = grind arith
no_key_code text h e = grind arith
no_key_code bytes h e = grind arith
no_key_code (named (enum_of n ms)) h e = grind arith
no_key_code (named (struct_of n fs)) h e = h
no_key_code (list_of t) h e = h
no_key_code (set_of t) h e = h
no_key_code (map_of x y) h e = h

pub key_kind : (t : TypeTree) (kind : Kind) → IsKeyType t → code_of kind ≡ code t → IsKeyKind kind
key_kind t k.Flag h e = tt
key_kind t k.I8 h e = tt
key_kind t k.I16 h e = tt
key_kind t k.I32 h e = tt
key_kind t k.I64 h e = tt
key_kind t k.Binary h e = tt
key_kind t k.Double h e = absurd (no_key_code t h (inl (sym e)))
key_kind t k.List h e = absurd (no_key_code t h (inr (omega (arith, e))))
key_kind t k.Set h e = absurd (no_key_code t h (inr (omega (arith, e))))
key_kind t k.Map h e = absurd (no_key_code t h (inr (omega (arith, e))))
key_kind t k.Struct h e = absurd (no_key_code t h (inr (omega (arith, e))))

-- ---- the parts of accepted types

pub element_accepted : (t : TypeTree) → IsAccepted Any t → IsAccepted Any (element_of t)
element_accepted (list_of t) h = h
element_accepted (set_of t) h = h.1
element_accepted text h = h
element_accepted bytes h = h
element_accepted (scalar s) h = h
element_accepted (map_of x y) h = h
element_accepted (named n) h = h

pub element_is_key : (t : TypeTree) → code t ≡ 10 → IsAccepted Any t → IsKeyType (element_of t)
element_is_key (set_of t) e h = h.0
element_is_key (list_of t) e h = absurd (omega arith)
element_is_key text e h = absurd (omega arith)
element_is_key bytes e h = absurd (omega arith)
element_is_key (scalar flag) e h = absurd (omega arith)
element_is_key (scalar i8) e h = absurd (omega arith)
element_is_key (scalar i16) e h = absurd (omega arith)
element_is_key (scalar i32) e h = absurd (omega arith)
element_is_key (scalar i64) e h = absurd (omega arith)
element_is_key (map_of x y) e h = absurd (omega arith)
element_is_key (named (enum_of n ms)) e h = absurd (omega arith)
element_is_key (named (struct_of n fs)) e h = absurd (omega arith)

pub map_parts_accepted : (t : TypeTree) → IsAccepted Any t → IsAccepted Any (key_of t) × IsAccepted Any (value_of t)
map_parts_accepted (map_of x y) h = (h.1, h.2)
map_parts_accepted (list_of t) h = (h, h)
map_parts_accepted (set_of t) h = (h, h)
map_parts_accepted text h = (h, h)
map_parts_accepted bytes h = (h, h)
map_parts_accepted (scalar s) h = (h, h)
map_parts_accepted (named n) h = (h, h)

pub map_accepted : (t : TypeTree) → code t ≡ 11 → IsAccepted Any t → IsKeyType (key_of t) × IsAccepted Any (value_of t)
map_accepted (map_of x y) e h = (h.0, h.2)
map_accepted (set_of t) e h = absurd (omega arith)
map_accepted (list_of t) e h = absurd (omega arith)
map_accepted text e h = absurd (omega arith)
map_accepted bytes e h = absurd (omega arith)
map_accepted (scalar flag) e h = absurd (omega arith)
map_accepted (scalar i8) e h = absurd (omega arith)
map_accepted (scalar i16) e h = absurd (omega arith)
map_accepted (scalar i32) e h = absurd (omega arith)
map_accepted (scalar i64) e h = absurd (omega arith)
map_accepted (named (enum_of n ms)) e h = absurd (omega arith)
map_accepted (named (struct_of n fs)) e h = absurd (omega arith)

-- a field's type and its written default
abbrev pub IsFine : DefField → Type 0
IsFine f = IsAccepted Any f.type × IsWritten Any f.type f.default

placed_accepted : (fs : Fields) (i : ℕ) (f : DefField) → AreAccepted Any fs → slice_get (field_list fs) i ≡ Some f → IsFine f
placed_accepted no_fields i f h e = absurd cc
placed_accepted (field j n o t d fs) zero f h e =
    let same : ◌≡◌ {A = DefField} (record { id = j; name = n; need = o; type = t; default = d }) f = cc in subst IsFine same (h.0, h.1)
placed_accepted (field j n o t d fs) (suc i) f h e = placed_accepted fs i f h.2 e

pub field_at_accepted : (t : TypeTree) (i : ℕ) (f : DefField) → IsAccepted Any t → slice_get (fields_of t) i ≡ Some f → IsFine f
field_at_accepted (named (struct_of n fs)) i f h e = placed_accepted fs i f h.2 e
field_at_accepted (named (enum_of n ms)) i f h e = absurd cc
field_at_accepted text i f h e = absurd cc
field_at_accepted bytes i f h e = absurd cc
field_at_accepted (scalar s) i f h e = absurd cc
field_at_accepted (list_of t) i f h e = absurd cc
field_at_accepted (set_of t) i f h e = absurd cc
field_at_accepted (map_of x y) i f h e = absurd cc

pub fields_typed : (t : TypeTree) → IsAccepted Any t → AreTyped (fields_of t)
fields_typed t h i f e = (field_at_accepted t i f h e).0

-- A value of a type by the type's kind: the form that it has, and its wire tree.
use Rattle.std.proofs.Common.{◌≡◌, refl, ap, ◌∙◌, subst}
use Rattle.std.specs.Prelude.{ℤ}
use Rattle.idl_profile.specs.declared.kinds.TypeKind.{TypeKind}
use Rattle.idl_profile.specs.declared.kinds.TypeKind.TheVariants as kinds
use Rattle.idl_profile.specs.Types.{TypeTree, scalar, text, bytes, list_of, set_of, map_of, named, enum_of, struct_of, kind_of, flag, i8, i16, i32, i64}
use Rattle.idl_parse.specs.Refs.{element_of, key_of, value_of}
use Rattle.frozen_model.specs.Values as is
use Rattle.frozen_model.specs.Values.{Value, Truth, Number, One, Of, InBits}
use Rattle.type_kinds.specs.KindsOf.{kinds_of}
use Rattle.compact_wire.specs.Node as node
use Rattle.compact_wire.specs.Node.{Node}
use Rattle.typed_tree.specs.Parts.{bytes_in, items_of, fields_of as values_in}
use Rattle.typed_tree.specs.References.{HasForm}
use Rattle.typed_tree.specs.Filled.{made_as}
use Rattle.typed_tree.proofs.Celled.{all_fields}
use Rattle.typed_reading.specs.Codes.{code}
use Rattle.compact_codec.specs.Wire.{wire, each, each_pair, map_with, wire_of_fields, flag_in, number_in}

-- the wire tree of a value of a type of this kind
abbrev pub wire_by : TypeKind → TypeTree → Value → Node
wire_by kinds.Flag t v = node.flag (flag_in v)
wire_by kinds.I8 t v = node.i8 (number_in v)
wire_by kinds.I16 t v = node.i16 (number_in v)
wire_by kinds.I32 t v = node.i32 (number_in v)
wire_by kinds.I64 t v = node.i64 (number_in v)
wire_by kinds.Enum t v = node.i32 (number_in v)
wire_by kinds.Text t v = node.binary (bytes_in v)
wire_by kinds.Bytes t v = node.binary (bytes_in v)
wire_by kinds.List t v = node.list (code (element_of t)) (each (wire (element_of t)) (items_of v))
wire_by kinds.Set t v = node.set (code (element_of t)) (each (wire (element_of t)) (items_of v))
wire_by kinds.Map t v = map_with (code (key_of t)) (code (value_of t)) (each_pair (wire (key_of t)) (wire (value_of t)) (items_of v))
wire_by kinds.Struct t v = node.structure (wire_of_fields (all_fields t) (values_in v))

pub wire-by : (t : TypeTree) (v : Value) → wire t v ≡ wire_by (kind_of t) t v
wire-by (scalar flag) v = refl
wire-by (scalar i8) v = refl
wire-by (scalar i16) v = refl
wire-by (scalar i32) v = refl
wire-by (scalar i64) v = refl
wire-by text v = refl
wire-by bytes v = refl
wire-by (list_of x) v = refl
wire-by (set_of x) v = refl
wire-by (map_of x y) v = refl
wire-by (named (enum_of w ms)) v = refl
wire-by (named (struct_of w fs)) v = refl

-- the same where the kind is known
pub wire-as : (k : TypeKind) (t : TypeTree) (v : Value) → kind_of t ≡ k → wire t v ≡ wire_by k t v
wire-as k t v e = wire-by t v ∙ ap (λ j. wire_by j t v) e

-- a value of a type has the form of its kind
pub form-of : (t : TypeTree) (v : Value) → Of (kinds_of t) v → HasForm (made_as (kind_of t)) v
form-of (scalar flag) _ (is.one {x = Truth b} h) = tt
form-of (scalar flag) _ (is.one {x = Number z} h) = absurd h
form-of (scalar i8) _ (is.one {x = Truth b} h) = absurd h
form-of (scalar i8) _ (is.one {x = Number z} h) = tt
form-of (scalar i16) _ (is.one {x = Truth b} h) = absurd h
form-of (scalar i16) _ (is.one {x = Number z} h) = tt
form-of (scalar i32) _ (is.one {x = Truth b} h) = absurd h
form-of (scalar i32) _ (is.one {x = Number z} h) = tt
form-of (scalar i64) _ (is.one {x = Truth b} h) = absurd h
form-of (scalar i64) _ (is.one {x = Number z} h) = tt
form-of text _ (is.bytes n b u) = u
form-of bytes _ (is.bytes n b u) = tt
form-of (list_of x) _ (is.items o r hs) = tt
form-of (set_of x) _ (is.items o r hs) = tt
form-of (map_of x y) _ (is.items o r hs) = tt
form-of (named (enum_of w ms)) _ (is.one {x = Truth b} h) = absurd h
form-of (named (enum_of w ms)) _ (is.one {x = Number z} h) = tt
form-of (named (struct_of w fs)) _ (is.record_of e hs) = tt

pub form-as : (k : TypeKind) (t : TypeTree) (v : Value) → Of (kinds_of t) v → kind_of t ≡ k → HasForm (made_as k) v
form-as k t v h e = subst (λ j. HasForm (made_as j) v) e (form-of t v h)

-- a number of 8 bits is in their range
pub small-number : (t : TypeTree) (v : Value) (z : ℤ) → Of (kinds_of t) v → kind_of t ≡ kinds.I8 → v ≡ One (Number z) → InBits 7 z
small-number (scalar i8) _ z (is.one {x = Number y} h) e same = subst (InBits 7) (cc) h
small-number (scalar i8) _ z (is.one {x = Truth b} h) e same = absurd h
small-number (scalar flag) v z h e same = absurd (cc)
small-number (scalar i16) v z h e same = absurd (cc)
small-number (scalar i32) v z h e same = absurd (cc)
small-number (scalar i64) v z h e same = absurd (cc)
small-number text v z h e same = absurd (cc)
small-number bytes v z h e same = absurd (cc)
small-number (list_of x) v z h e same = absurd (cc)
small-number (set_of x) v z h e same = absurd (cc)
small-number (map_of x y) v z h e same = absurd (cc)
small-number (named (enum_of w ms)) v z h e same = absurd (cc)
small-number (named (struct_of w fs)) v z h e same = absurd (cc)

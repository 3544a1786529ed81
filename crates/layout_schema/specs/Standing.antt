-- What stands in the bytes of a schema, of which no value is built.
use Rattle.std.specs.Prelude.{◌≡◌, ℕ, ℤ, List, [], Bool, true, false, Option, Some, None, Result, Ok, Err}
use Rattle.exact_reading.specs.declared.stop.Stop.{Stop}
use Rattle.frozen_model.specs.Values.{Value, Absent}
use Rattle.frozen_model.specs.Layouts.{Version}
use Rattle.compact_wire.specs.declared.kind.Kind.{Kind}
use Rattle.compact_wire.specs.declared.kind.Kind.TheVariants as k
use Rattle.compact_wire.specs.Bytes.{AreBytes}
use Rattle.compact_wire.specs.Node.{Node, Pairs, structure}
use Rattle.compact_wire.specs.Reads.{value, typed}
use Rattle.idl_profile.specs.Types.{TypeTree, scalar, i16, map_of, fields_of}
use Rattle.typed_reading.specs.Faults.{faults}
use Rattle.typed_reading.specs.Meaning.{meaning, meanings_of_pairs, readings, under}
use Rattle.layout_schema.specs.declared.fields.Standing.{Standing}
use Rattle.layout_schema.specs.Schemas.{layout_type}

-- the type of a schema's layouts
abbrev pub layouts_type : Version → TypeTree
layouts_type v = map_of (scalar i16) (layout_type v)

-- what was read, as a value of the type; where nothing was read it is nothing
abbrev pub meant : TypeTree → Result (Node × List ℕ) Stop → Value
meant t (Ok p) = meaning p.0 t
meant t (Err e) = Absent

-- the layouts that were read, under their numbers
abbrev pub meant_pairs : TypeTree → Result (Pairs × List ℕ) Stop → List Value
meant_pairs t (Ok p) = meanings_of_pairs p.0 (scalar i16) t
meant_pairs t (Err e) = []

-- the value of the type that bytes spell
abbrev pub spelled_as : TypeTree → List ℕ → Value
spelled_as t b = meant t (value 64 k.Struct b)

-- kinds of keys
abbrev pub is_key_kind : Kind → Bool
is_key_kind k.Flag = true
is_key_kind k.I8 = true
is_key_kind k.I16 = true
is_key_kind k.I32 = true
is_key_kind k.I64 = true
is_key_kind k.Binary = true
is_key_kind _ = false

-- the values of the known fields of a struct that was read, by their ids
abbrev pub rows_of : TypeTree → Node → List (ℤ × Value)
rows_of t (structure xs) = readings xs (fields_of t)
rows_of t _ = []

abbrev pub rows_in : TypeTree → Result (Node × List ℕ) Stop → List (ℤ × Value)
rows_in t (Ok p) = rows_of t p.0
rows_in t (Err e) = []

-- a node without fault as one of the type stands there, which means the value
pub record IsAt (t : TypeTree) (s : Standing) (v : Value) : Type 0 where
  pub node : Node
  pub after : List ℕ
  pub reads : typed (value 63) s.field_type s.bytes.now ≡ Ok (node, after)
  pub bytes : AreBytes s.bytes.now
  pub number : ℕ
  pub clean : faults node t number ≡ []
  pub is : meaning node t ≡ v

-- the first field of the id, which is of the type u, stands there; or there is none
abbrev pub Stands : TypeTree → TypeTree → ℤ → Result (Node × List ℕ) Stop → Option Standing → Type 0
Stands t u id r None = under id (rows_in t r) ≡ None
Stands t u id r (Some s) = (v : Value) × (under id (rows_in t r) ≡ Some v) × IsAt u s v

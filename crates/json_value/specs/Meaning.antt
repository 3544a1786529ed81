-- The value of a JSON value that is read as a type.
use Rattle.std.specs.Prelude.{◌≡◌, ℕ, List, [], ◌∷◌, Option, Some, None}
use Rattle.std.specs.Prelude as prelude
use Rattle.frozen_model.specs.Trees.{AList, ASet, AMap}
use Rattle.frozen_model.specs.Values.{Value, Items, Absent}
use Rattle.serde_json.specs.Data as json
use Rattle.serde_json.specs.Data.{Data, null, boolean, number, string, array, object, no_items, item, no_members, member}
use Rattle.idl_profile.specs.declared.kinds.TypeKind.{TypeKind}
use Rattle.idl_profile.specs.declared.kinds.TypeKind.TheVariants as kinds
use Rattle.idl_profile.specs.Types.{TypeTree, DefField, fields_of, kind_of}
use Rattle.idl_parse.specs.Refs.{element_of, key_of, value_of}
use Rattle.key_order.specs.InOrder.{row, in_order}
use Rattle.typed_tree.specs.Spots.{pair as pair_of}
use Rattle.typed_tree.specs.Sizes.{default_value}
use Rattle.typed_tree.specs.Filled.{struct_with}
use Rattle.typed_reading.specs.Meaning.{given}
use Rattle.json_value.specs.Leaves.{leaf, or_absent}
use Rattle.json_value.specs.Faults.{faults, type_named}

-- an array of these items, which as pairs are those
abbrev pub of_array : TypeKind → List Value → List Value → Value
of_array kinds.List items pairs = Items AList (row items)
of_array kinds.Set items pairs = Items ASet (row (in_order items))
of_array kinds.Map items pairs = Items AMap (row (in_order pairs))
of_array _ items pairs = Absent

-- the values of the known members, by their names
abbrev pub Readings : Type 0
Readings = List (List ℕ × Value)

abbrev pub reading : List ℕ → Option TypeTree → (TypeTree → Value) → Readings → Readings
reading name None value_as rs = rs
reading name (Some t) value_as rs = (name, value_as t) ∷ rs

-- the first of the values under a name
abbrev pub under : List ℕ → Readings → Option Value
under name [] = None
under name (r ∷ rs) = prelude.cond (prelude.bytes_eq name r.0) (Some r.1) (under name rs)

abbrev pub field_value : Readings → DefField → Value
field_value rs f = given f.need (under f.name rs) (default_value f)

abbrev mutual
  pub meaning : Data → TypeTree → Value
  meaning null t = Absent
  meaning (boolean b) t = or_absent (leaf (kind_of t) (boolean b))
  meaning (number n) t = or_absent (leaf (kind_of t) (number n))
  meaning (string s) t = or_absent (leaf (kind_of t) (string s))
  meaning (array ds) t = of_array (kind_of t) (meanings ds (element_of t)) (meanings_of_pairs ds (key_of t) (value_of t))
  meaning (object ms) t = struct_with (fields_of t) (prelude.map (field_value (readings ms (fields_of t))) (fields_of t))

  pub meanings : json.Items → TypeTree → List Value
  meanings no_items t = []
  meanings (item d ds) t = meaning d t ∷ meanings ds t

  pub meanings_of_pairs : json.Items → TypeTree → TypeTree → List Value
  meanings_of_pairs no_items k v = []
  meanings_of_pairs (item d ds) k v = meaning_of_entry d k v ∷ meanings_of_pairs ds k v

  pub meaning_of_entry : Data → TypeTree → TypeTree → Value
  meaning_of_entry (array ds) k v = meaning_of_two ds k v
  meaning_of_entry _ k v = Absent

  pub meaning_of_two : json.Items → TypeTree → TypeTree → Value
  meaning_of_two no_items k v = Absent
  meaning_of_two (item d ds) k v = pair_of (meaning d k) (meaning_of_last ds v)

  pub meaning_of_last : json.Items → TypeTree → Value
  meaning_of_last no_items v = Absent
  meaning_of_last (item d ds) v = meaning d v

  pub readings : json.Members → List DefField → Readings
  readings no_members fs = []
  readings (member name d ms) fs = reading name (type_named fs name) (meaning d) (readings ms fs)

-- no node has a fault, and this is the value
pub record JsonTyped (t : TypeTree) (j : Data) (v : Value) : Type 0 where
  pub clean : faults j t 0 ≡ []
  pub is : meaning j t ≡ v

-- What a cursor over fields has left.
use Rattle.std.specs.Prelude.{◌≡◌, ℕ, ℤ, pos, [], ◌∷◌, drop, Option, Some, None}
use Rattle.frozen_model.specs.Values.{Value, Record, NoValue, And}
use Rattle.typed_tree.specs.Parts.{ids_of, fields_of}
use Rattle.bit_view.specs.declared.view.View.{View}
use Rattle.bit_view.specs.declared.struct_fields.StructFields.{StructFields}
use Rattle.bit_view.specs.Cursor.{from_place}
use Rattle.bit_view.specs.Views.{value_of_view}

-- the struct of the fields from a place on
abbrev pub record_from : Value → ℕ → Value
record_from v n = Record (drop n (ids_of v)) (from_place (fields_of v) n)

-- the struct of the fields that are left
abbrev pub fields_left : StructFields → Value
fields_left f = record_from (value_of_view f.whole) f.given

-- of the fields that were left the first is given with its id, and the others stay; where there was none, none
-- is given
abbrev pub IsNextField : Value → Option (ℤ × View) → Value → Type 0
IsNextField (Record (i ∷ is) (And v vs)) (Some (id, w)) left =
    (id ≡ pos i) × (value_of_view w ≡ v) × (left ≡ Record is vs)
IsNextField (Record [] NoValue) None left = left ≡ Record [] NoValue
IsNextField _ _ _ = ⊥

-- The parts of values.
use Rattle.std.specs.Prelude.{ℕ, ℤ, List, [], ◌∷◌, if◌then◌else◌, Option, Some, None, nat_eq}
use Rattle.std.specs.Str.{IsUtf8}
use Rattle.frozen_model.specs.Trees.{AList, ASet, AMap}
use Rattle.frozen_model.specs.Values.{Truth, Number, Value, One, Bytes, Items, Present, Record, Values, NoValue, And}
use Rattle.typed_tree.specs.Fields.{id_number}
use Rattle.typed_tree.specs.Spots.{pair}

abbrev pub IsFlag : Value → Type 0
IsFlag (One (Truth b)) = Unit {0}
IsFlag _ = ⊥

abbrev pub IsInt : Value → Type 0
IsInt (One (Number z)) = Unit {0}
IsInt _ = ⊥

abbrev pub IsText : Value → Type 0
IsText (Bytes bs) = IsUtf8 bs
IsText _ = ⊥

abbrev pub IsBytes : Value → Type 0
IsBytes (Bytes bs) = Unit {0}
IsBytes _ = ⊥

abbrev pub IsList : Value → Type 0
IsList (Items AList vs) = Unit {0}
IsList _ = ⊥

abbrev pub IsSet : Value → Type 0
IsSet (Items ASet vs) = Unit {0}
IsSet _ = ⊥

abbrev pub IsMap : Value → Type 0
IsMap (Items AMap vs) = Unit {0}
IsMap _ = ⊥

-- a list or a set
abbrev pub IsRow : Value → Type 0
IsRow (Items AList vs) = Unit {0}
IsRow (Items ASet vs) = Unit {0}
IsRow _ = ⊥

-- a list, a set or a map
abbrev pub IsItems : Value → Type 0
IsItems (Items h vs) = Unit {0}
IsItems _ = ⊥

abbrev pub IsRecord : Value → Type 0
IsRecord (Record ids vs) = Unit {0}
IsRecord _ = ⊥

abbrev pub IsPresent : Value → Type 0
IsPresent (Present v) = Unit {0}
IsPresent _ = ⊥

-- the bytes of a text or of bytes; no other value has any
abbrev pub bytes_in : Value → List ℕ
bytes_in (Bytes bs) = bs
bytes_in _ = []

-- keys and values by turns, as the pairs of a map
abbrev pub pairs : List Value → List Value
pairs (key ∷ value ∷ vs) = pair key value ∷ pairs vs
pairs _ = []

-- the items of a list or a set, or the pairs of a map
abbrev pub items_of : Value → Values
items_of (Items h vs) = vs
items_of _ = NoValue

-- the ids of a struct's fields, and their values
abbrev pub ids_of : Value → List ℕ
ids_of (Record ids vs) = ids
ids_of _ = []

abbrev pub fields_of : Value → Values
fields_of (Record ids vs) = vs
fields_of _ = NoValue

-- the first of the values whose id this is
abbrev pub find_field : List ℕ → Values → ℕ → Option Value
find_field (i ∷ ids) (And v vs) id = if nat_eq i id then Some v else find_field ids vs id
find_field _ _ id = None

-- the field of a struct with an id of 16 bits
abbrev pub field_of : Value → ℤ → Option Value
field_of v id = find_field (ids_of v) (fields_of v) (id_number id)

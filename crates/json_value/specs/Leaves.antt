-- JSON values that are read as flags, numbers, texts and bytes.
use Rattle.std.specs.Prelude.{ℕ, ◌^◌, List, Bool, ℤ, pos, negsuc, nat_lt, cond, Option, Some, None, option_map, option_and_then, is_some}
use Rattle.std.specs.Prelude.{Result, Ok, Err}
use Rattle.hex.specs.declared.error.FromHexError.{FromHexError}
use Rattle.hex.specs.Hex.{decode_of}
use Rattle.serde_json.specs.Data.{Data}
use Rattle.serde_json.specs.Find.{as_bool, as_number, as_integer, as_str}
use Rattle.idl_profile.specs.declared.kinds.TypeKind.{TypeKind}
use Rattle.idl_profile.specs.declared.kinds.TypeKind.TheVariants as kinds
use Rattle.frozen_model.specs.Values.{Value, Truth, Number, One, Bytes, Absent}

-- the number lies from -(2 ^ bits) up to but not including 2 ^ bits
abbrev pub is_within : ℕ → ℤ → Bool
is_within bits (pos n) = nat_lt n (2 ^ bits)
is_within bits (negsuc n) = nat_lt n (2 ^ bits)

abbrev pub flag : Bool → Value
flag b = One (Truth b)

abbrev pub within : ℕ → ℤ → Option Value
within bits z = cond (is_within bits z) (Some (One (Number z))) None

-- A number that is kept as a whole number, in the range. One with a point or an exponent is kept as a float, and so are
-- `-0` and what 64 bits do not hold: these are none.
abbrev pub whole : ℕ → Data → Option Value
whole bits d = option_and_then (within bits) (option_and_then as_integer (as_number d))

abbrev pub as_bytes : Result (List ℕ) FromHexError → Option Value
as_bytes (Ok bs) = Some (Bytes bs)
as_bytes (Err e) = None

-- an even number of hexadecimal digits, in either case
abbrev pub digits : List ℕ → Option Value
digits s = as_bytes (decode_of s)

-- the value of a JSON value as a type of this kind; a container has none
abbrev pub leaf : TypeKind → Data → Option Value
leaf kinds.Flag d = option_map flag (as_bool d)
leaf kinds.I8 d = whole 7 d
leaf kinds.I16 d = whole 15 d
leaf kinds.I32 d = whole 31 d
leaf kinds.I64 d = whole 63 d
leaf kinds.Enum d = whole 31 d
leaf kinds.Text d = option_map Bytes (as_str d)
leaf kinds.Bytes d = option_and_then digits (as_str d)
leaf kinds.List d = None
leaf kinds.Set d = None
leaf kinds.Map d = None
leaf kinds.Struct d = None

abbrev pub is_leaf : TypeKind → Data → Bool
is_leaf k d = is_some (leaf k d)

-- that value, where it has one
abbrev pub or_absent : Option Value → Value
or_absent None = Absent
or_absent (Some v) = v

-- the bits of a whole number of this kind, beside its sign
abbrev pub bits_of : TypeKind → ℕ
bits_of kinds.I8 = 7
bits_of kinds.I16 = 15
bits_of kinds.I32 = 31
bits_of kinds.Enum = 31
bits_of _ = 63

-- kinds of types that are no containers
abbrev pub IsLeafKind : TypeKind → Type 0
IsLeafKind kinds.List = ⊥
IsLeafKind kinds.Set = ⊥
IsLeafKind kinds.Map = ⊥
IsLeafKind kinds.Struct = ⊥
IsLeafKind _ = Unit {0}

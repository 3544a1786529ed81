-- Spellings and refusals, computed.
use Rattle.std.proofs.Common.{◌≡◌, [], ◌∷◌, Ok, Err, refl, true, false}
use Rattle.std.specs.Prelude.{pos, negsuc}
use Rattle.exact_reading.specs.declared.stop.Stop.TheVariants.{Ended, Refused}
use Rattle.exact_reading.specs.Reading.{taken}
use Rattle.compact_wire.specs.Node.{flag, i32, i64, list, map, structure, no_nodes, node, no_pairs, no_fields, field}
use Rattle.compact_wire.specs.Reads.{items, pairs}
use Rattle.binary_wire.specs.BinaryCodes.{binary_kind}
use Rattle.binary_wire.specs.BinaryGrammar.{flag_of}
use Rattle.binary_wire.specs.BinaryReads.{up_to, size, scalar, row, mapping, field_code, fields, value}
use Rattle.binary_wire.proofs.ReadWhole.{struct_reader}

-- two fields of type i32, 5 and -1
two_numbers : struct_reader (8 ∷ 0 ∷ 1 ∷ 0 ∷ 0 ∷ 0 ∷ 5 ∷ 8 ∷ 0 ∷ 2 ∷ 255 ∷ 255 ∷ 255 ∷ 255 ∷ 0 ∷ []) ≡ Ok (structure (field (pos 1) (i32 (pos 5)) (field (pos 2) (i32 (negsuc 0)) no_fields)), [])
unfolding value fields field_code binary_kind scalar taken
two_numbers = refl

-- the bytes end within a field; code 1 is none; an i64
ends : struct_reader (8 ∷ 0 ∷ 1 ∷ 0 ∷ 0 ∷ []) ≡ Err Ended
unfolding value fields field_code binary_kind scalar taken
ends = refl

no_code : struct_reader (1 ∷ []) ≡ Err (Refused 1)
unfolding value fields field_code binary_kind scalar taken
no_code = refl

a_long : struct_reader (10 ∷ 0 ∷ 1 ∷ 0 ∷ 0 ∷ 0 ∷ 0 ∷ 0 ∷ 0 ∷ 0 ∷ 5 ∷ 0 ∷ []) ≡ Ok (structure (field (pos 1) (i64 (pos 5)) no_fields), [])
unfolding value fields field_code binary_kind scalar taken
a_long = refl

-- an empty map with the codes of strings and bools, a list of two bools, and an id below 0
containers : struct_reader (13 ∷ 0 ∷ 1 ∷ 11 ∷ 2 ∷ 0 ∷ 0 ∷ 0 ∷ 0 ∷ 15 ∷ 255 ∷ 255 ∷ 2 ∷ 0 ∷ 0 ∷ 0 ∷ 2 ∷ 1 ∷ 0 ∷ 0 ∷ [])
    ≡ Ok (structure (field (pos 1) (map 0 0 no_pairs) (field (negsuc 0) (list 1 (node (flag true) (node (flag false) no_nodes))) no_fields)), [])
unfolding value fields field_code binary_kind scalar taken row mapping size up_to items pairs flag_of
containers = refl

-- a size of -1, an element code that is none at size 0, and a bool of 2
negative : struct_reader (15 ∷ 0 ∷ 1 ∷ 3 ∷ 255 ∷ 255 ∷ 255 ∷ 255 ∷ 0 ∷ []) ≡ Err (Refused 5)
unfolding value fields field_code binary_kind scalar taken row mapping size up_to items pairs flag_of
negative = refl

no_element : struct_reader (15 ∷ 0 ∷ 1 ∷ 1 ∷ 0 ∷ 0 ∷ 0 ∷ 0 ∷ 0 ∷ []) ≡ Err (Refused 6)
unfolding value fields field_code binary_kind scalar taken row mapping size up_to items pairs flag_of
no_element = refl

no_flag : struct_reader (2 ∷ 0 ∷ 1 ∷ 2 ∷ 0 ∷ []) ≡ Err (Refused 2)
unfolding value fields field_code binary_kind scalar taken row mapping size up_to items pairs flag_of
no_flag = refl

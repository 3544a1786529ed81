-- Worked rows, by computing: struct P {1: i32 x; 2: i32 y} with 4 and 1 bits in version 1, and in version 2 relaxed, with no bits
-- above the bases 5 and -1.
use Rattle.std.proofs.Common.{◌≡◌, [], ◌∷◌, true, false, Ok, Err, refl, rules}
use Rattle.std.proofs.lemmas.Str.{is_utf8-from_IsUtf8, IsUtf8-from_ascii}
use Rattle.std.specs.Str.{is_utf8}
use Rattle.std.specs.Prelude.{pos, negsuc, codes}
use Rattle.frozen_model.specs.Trees.{Integer, I32, Leaf, Struct, NoField, Field}
use Rattle.frozen_model.specs.Layouts.{Version1, Version2, TwosComplement, FromBase, Described, described}
use Rattle.compact_wire.specs.Node.{flag, i16, i32, i64, binary, map, structure, no_pairs, pair, no_fields, field}
use Rattle.compact_wire.specs.Number.{shortest, digits_128}
use Rattle.compact_wire.specs.Canon.{canon}
use Rattle.compact_codec.specs.Wire.{wire}
use Rattle.layout_tree.specs.Listing.{tree_of}
use Rattle.layout_schema.specs.declared.fault.SchemaFault.TheVariants as fault
use Rattle.layout_schema.specs.Schemas.{schema_type, schema_of}
use Rattle.layout_schema.specs.Answers.{schema_in}

abbrev first : Described
first = described Version1 false (Struct (Field 1 (Leaf (Integer I32) (TwosComplement 4)) (Field 2 (Leaf (Integer I32) (TwosComplement 1)) NoField)))

abbrev second : Described
second = described Version2 true (Struct (Field 1 (Leaf (Integer I32) (FromBase (pos 5) 0)) (Field 2 (Leaf (Integer I32) (FromBase (negsuc 0) 0)) NoField)))

text_struct : is_utf8 (codes "struct") ≡ true
text_struct = is_utf8-from_IsUtf8 (codes "struct") (IsUtf8-from_ascii (codes "struct") (search rules))

text_i32 : is_utf8 (codes "i32") ≡ true
text_i32 = is_utf8-from_IsUtf8 (codes "i32") (IsUtf8-from_ascii (codes "i32") (search rules))

text_i33 : is_utf8 (codes "i33") ≡ true
text_i33 = is_utf8-from_IsUtf8 (codes "i33") (IsUtf8-from_ascii (codes "i33") (search rules))

row_first_written : canon (wire (schema_type Version1) (schema_of first)) ≡ 18 ∷ 27 ∷ 3 ∷ 76 ∷ 0 ∷ 21 ∷ 0 ∷ 20 ∷ 10 ∷ 27 ∷ 2 ∷ 76 ∷ 2 ∷ 20 ∷ 2 ∷ 20 ∷ 0 ∷ 0 ∷ 4 ∷ 20 ∷ 4 ∷ 20 ∷ 7 ∷ 0 ∷ 24 ∷ 6 ∷ 115 ∷ 116 ∷ 114 ∷ 117 ∷ 99 ∷ 116 ∷ 0 ∷ 2 ∷ 21 ∷ 0 ∷ 20 ∷ 8 ∷ 27 ∷ 0 ∷ 24 ∷ 3 ∷ 105 ∷ 51 ∷ 50 ∷ 0 ∷ 4 ∷ 21 ∷ 0 ∷ 20 ∷ 2 ∷ 27 ∷ 0 ∷ 24 ∷ 3 ∷ 105 ∷ 51 ∷ 50 ∷ 0 ∷ 20 ∷ 0 ∷ 21 ∷ 2 ∷ 0 ∷ []
unfolding shortest digits_128
row_first_written = refl

row_second_written : canon (wire (schema_type Version2) (schema_of second)) ≡ 17 ∷ 27 ∷ 3 ∷ 76 ∷ 0 ∷ 21 ∷ 0 ∷ 20 ∷ 0 ∷ 27 ∷ 2 ∷ 76 ∷ 2 ∷ 20 ∷ 2 ∷ 20 ∷ 0 ∷ 0 ∷ 4 ∷ 20 ∷ 4 ∷ 20 ∷ 0 ∷ 0 ∷ 24 ∷ 6 ∷ 115 ∷ 116 ∷ 114 ∷ 117 ∷ 99 ∷ 116 ∷ 22 ∷ 0 ∷ 0 ∷ 2 ∷ 21 ∷ 0 ∷ 20 ∷ 0 ∷ 27 ∷ 0 ∷ 24 ∷ 3 ∷ 105 ∷ 51 ∷ 50 ∷ 22 ∷ 10 ∷ 0 ∷ 4 ∷ 21 ∷ 0 ∷ 20 ∷ 0 ∷ 27 ∷ 0 ∷ 24 ∷ 3 ∷ 105 ∷ 51 ∷ 50 ∷ 22 ∷ 1 ∷ 0 ∷ 20 ∷ 0 ∷ 21 ∷ 4 ∷ 0 ∷ []
unfolding shortest digits_128
row_second_written = refl

row_first_said : schema_in (structure (field (pos 1) (flag false) (field (pos 2) (map 4 12 (pair (i16 (pos 0)) (structure (field (pos 1) (i32 (pos 0)) (field (pos 2) (i16 (pos 5)) (field (pos 3) (map 4 12 (pair (i16 (pos 1)) (structure (field (pos 1) (i16 (pos 1)) (field (pos 2) (i16 (pos 0)) no_fields))) (pair (i16 (pos 2)) (structure (field (pos 1) (i16 (pos 2)) (field (pos 2) (i16 (negsuc 3)) no_fields))) no_pairs))) (field (pos 4) (binary (115 ∷ 116 ∷ 114 ∷ 117 ∷ 99 ∷ 116 ∷ [])) no_fields))))) (pair (i16 (pos 1)) (structure (field (pos 1) (i32 (pos 0)) (field (pos 2) (i16 (pos 4)) (field (pos 3) (map 0 0 no_pairs) (field (pos 4) (binary (105 ∷ 51 ∷ 50 ∷ [])) no_fields))))) (pair (i16 (pos 2)) (structure (field (pos 1) (i32 (pos 0)) (field (pos 2) (i16 (pos 1)) (field (pos 3) (map 0 0 no_pairs) (field (pos 4) (binary (105 ∷ 51 ∷ 50 ∷ [])) no_fields))))) no_pairs)))) (field (pos 3) (i16 (pos 0)) (field (pos 4) (i32 (pos 1)) no_fields))))) ≡ Ok first
unfolding tree_of
row_first_said = rw (text_struct, text_i32) refl

row_second_said : schema_in (structure (field (pos 1) (flag true) (field (pos 2) (map 4 12 (pair (i16 (pos 0)) (structure (field (pos 1) (i32 (pos 0)) (field (pos 2) (i16 (pos 0)) (field (pos 3) (map 4 12 (pair (i16 (pos 1)) (structure (field (pos 1) (i16 (pos 1)) (field (pos 2) (i16 (pos 0)) no_fields))) (pair (i16 (pos 2)) (structure (field (pos 1) (i16 (pos 2)) (field (pos 2) (i16 (pos 0)) no_fields))) no_pairs))) (field (pos 4) (binary (115 ∷ 116 ∷ 114 ∷ 117 ∷ 99 ∷ 116 ∷ [])) (field (pos 5) (i64 (pos 0)) no_fields)))))) (pair (i16 (pos 1)) (structure (field (pos 1) (i32 (pos 0)) (field (pos 2) (i16 (pos 0)) (field (pos 3) (map 0 0 no_pairs) (field (pos 4) (binary (105 ∷ 51 ∷ 50 ∷ [])) (field (pos 5) (i64 (pos 5)) no_fields)))))) (pair (i16 (pos 2)) (structure (field (pos 1) (i32 (pos 0)) (field (pos 2) (i16 (pos 0)) (field (pos 3) (map 0 0 no_pairs) (field (pos 4) (binary (105 ∷ 51 ∷ 50 ∷ [])) (field (pos 5) (i64 (negsuc 0)) no_fields)))))) no_pairs)))) (field (pos 3) (i16 (pos 0)) (field (pos 4) (i32 (pos 2)) no_fields))))) ≡ Ok second
unfolding tree_of
row_second_said = rw (text_struct, text_i32) refl

-- fields that equal their defaults are left out
row_defaults_left_out : schema_in (structure (field (pos 2) (map 4 12 (pair (i16 (pos 0)) (structure (field (pos 2) (i16 (pos 5)) (field (pos 3) (map 4 12 (pair (i16 (pos 1)) (structure (field (pos 1) (i16 (pos 1)) no_fields)) (pair (i16 (pos 2)) (structure (field (pos 1) (i16 (pos 2)) (field (pos 2) (i16 (negsuc 3)) no_fields))) no_pairs))) (field (pos 4) (binary (115 ∷ 116 ∷ 114 ∷ 117 ∷ 99 ∷ 116 ∷ [])) no_fields)))) (pair (i16 (pos 1)) (structure (field (pos 2) (i16 (pos 4)) (field (pos 4) (binary (105 ∷ 51 ∷ 50 ∷ [])) no_fields))) (pair (i16 (pos 2)) (structure (field (pos 2) (i16 (pos 1)) (field (pos 4) (binary (105 ∷ 51 ∷ 50 ∷ [])) no_fields))) no_pairs)))) (field (pos 4) (i32 (pos 1)) no_fields))) ≡ Ok first
unfolding tree_of
row_defaults_left_out = rw (text_struct, text_i32) refl

-- a layout more than are walked
row_one_layout_more : schema_in (structure (field (pos 1) (flag false) (field (pos 2) (map 4 12 (pair (i16 (pos 0)) (structure (field (pos 1) (i32 (pos 0)) (field (pos 2) (i16 (pos 5)) (field (pos 3) (map 4 12 (pair (i16 (pos 1)) (structure (field (pos 1) (i16 (pos 1)) (field (pos 2) (i16 (pos 0)) no_fields))) (pair (i16 (pos 2)) (structure (field (pos 1) (i16 (pos 2)) (field (pos 2) (i16 (negsuc 3)) no_fields))) no_pairs))) (field (pos 4) (binary (115 ∷ 116 ∷ 114 ∷ 117 ∷ 99 ∷ 116 ∷ [])) no_fields))))) (pair (i16 (pos 1)) (structure (field (pos 1) (i32 (pos 0)) (field (pos 2) (i16 (pos 4)) (field (pos 3) (map 0 0 no_pairs) (field (pos 4) (binary (105 ∷ 51 ∷ 50 ∷ [])) no_fields))))) (pair (i16 (pos 2)) (structure (field (pos 1) (i32 (pos 0)) (field (pos 2) (i16 (pos 1)) (field (pos 3) (map 0 0 no_pairs) (field (pos 4) (binary (105 ∷ 51 ∷ 50 ∷ [])) no_fields))))) (pair (i16 (pos 3)) (structure no_fields) no_pairs))))) (field (pos 3) (i16 (pos 0)) (field (pos 4) (i32 (pos 1)) no_fields))))) ≡ Err (fault.Shape (pos 3))
row_one_layout_more = rw (text_struct, text_i32) refl

-- the second child at another offset
row_other_offset : schema_in (structure (field (pos 1) (flag false) (field (pos 2) (map 4 12 (pair (i16 (pos 0)) (structure (field (pos 1) (i32 (pos 0)) (field (pos 2) (i16 (pos 5)) (field (pos 3) (map 4 12 (pair (i16 (pos 1)) (structure (field (pos 1) (i16 (pos 1)) (field (pos 2) (i16 (pos 0)) no_fields))) (pair (i16 (pos 2)) (structure (field (pos 1) (i16 (pos 2)) (field (pos 2) (i16 (negsuc 2)) no_fields))) no_pairs))) (field (pos 4) (binary (115 ∷ 116 ∷ 114 ∷ 117 ∷ 99 ∷ 116 ∷ [])) no_fields))))) (pair (i16 (pos 1)) (structure (field (pos 1) (i32 (pos 0)) (field (pos 2) (i16 (pos 4)) (field (pos 3) (map 0 0 no_pairs) (field (pos 4) (binary (105 ∷ 51 ∷ 50 ∷ [])) no_fields))))) (pair (i16 (pos 2)) (structure (field (pos 1) (i32 (pos 0)) (field (pos 2) (i16 (pos 1)) (field (pos 3) (map 0 0 no_pairs) (field (pos 4) (binary (105 ∷ 51 ∷ 50 ∷ [])) no_fields))))) no_pairs)))) (field (pos 3) (i16 (pos 0)) (field (pos 4) (i32 (pos 1)) no_fields))))) ≡ Err (fault.Shape (pos 2))
row_other_offset = rw (text_struct, text_i32) refl

-- the root with other bits than its fields
row_other_sum : schema_in (structure (field (pos 1) (flag false) (field (pos 2) (map 4 12 (pair (i16 (pos 0)) (structure (field (pos 1) (i32 (pos 0)) (field (pos 2) (i16 (pos 6)) (field (pos 3) (map 4 12 (pair (i16 (pos 1)) (structure (field (pos 1) (i16 (pos 1)) (field (pos 2) (i16 (pos 0)) no_fields))) (pair (i16 (pos 2)) (structure (field (pos 1) (i16 (pos 2)) (field (pos 2) (i16 (negsuc 3)) no_fields))) no_pairs))) (field (pos 4) (binary (115 ∷ 116 ∷ 114 ∷ 117 ∷ 99 ∷ 116 ∷ [])) no_fields))))) (pair (i16 (pos 1)) (structure (field (pos 1) (i32 (pos 0)) (field (pos 2) (i16 (pos 4)) (field (pos 3) (map 0 0 no_pairs) (field (pos 4) (binary (105 ∷ 51 ∷ 50 ∷ [])) no_fields))))) (pair (i16 (pos 2)) (structure (field (pos 1) (i32 (pos 0)) (field (pos 2) (i16 (pos 1)) (field (pos 3) (map 0 0 no_pairs) (field (pos 4) (binary (105 ∷ 51 ∷ 50 ∷ [])) no_fields))))) no_pairs)))) (field (pos 3) (i16 (pos 0)) (field (pos 4) (i32 (pos 1)) no_fields))))) ≡ Err (fault.Shape (pos 0))
row_other_sum = rw (text_struct, text_i32) refl

-- an i32 of 33 bits
row_too_wide : schema_in (structure (field (pos 1) (flag false) (field (pos 2) (map 4 12 (pair (i16 (pos 0)) (structure (field (pos 1) (i32 (pos 0)) (field (pos 2) (i16 (pos 5)) (field (pos 3) (map 4 12 (pair (i16 (pos 1)) (structure (field (pos 1) (i16 (pos 1)) (field (pos 2) (i16 (pos 0)) no_fields))) (pair (i16 (pos 2)) (structure (field (pos 1) (i16 (pos 2)) (field (pos 2) (i16 (negsuc 3)) no_fields))) no_pairs))) (field (pos 4) (binary (115 ∷ 116 ∷ 114 ∷ 117 ∷ 99 ∷ 116 ∷ [])) no_fields))))) (pair (i16 (pos 1)) (structure (field (pos 1) (i32 (pos 0)) (field (pos 2) (i16 (pos 33)) (field (pos 3) (map 0 0 no_pairs) (field (pos 4) (binary (105 ∷ 51 ∷ 50 ∷ [])) no_fields))))) (pair (i16 (pos 2)) (structure (field (pos 1) (i32 (pos 0)) (field (pos 2) (i16 (pos 1)) (field (pos 3) (map 0 0 no_pairs) (field (pos 4) (binary (105 ∷ 51 ∷ 50 ∷ [])) no_fields))))) no_pairs)))) (field (pos 3) (i16 (pos 0)) (field (pos 4) (i32 (pos 1)) no_fields))))) ≡ Err (fault.Shape (pos 1))
row_too_wide = rw (text_struct, text_i32) refl

-- rootLayout 1
row_other_root : schema_in (structure (field (pos 1) (flag false) (field (pos 2) (map 4 12 (pair (i16 (pos 0)) (structure (field (pos 1) (i32 (pos 0)) (field (pos 2) (i16 (pos 5)) (field (pos 3) (map 4 12 (pair (i16 (pos 1)) (structure (field (pos 1) (i16 (pos 1)) (field (pos 2) (i16 (pos 0)) no_fields))) (pair (i16 (pos 2)) (structure (field (pos 1) (i16 (pos 2)) (field (pos 2) (i16 (negsuc 3)) no_fields))) no_pairs))) (field (pos 4) (binary (115 ∷ 116 ∷ 114 ∷ 117 ∷ 99 ∷ 116 ∷ [])) no_fields))))) (pair (i16 (pos 1)) (structure (field (pos 1) (i32 (pos 0)) (field (pos 2) (i16 (pos 4)) (field (pos 3) (map 0 0 no_pairs) (field (pos 4) (binary (105 ∷ 51 ∷ 50 ∷ [])) no_fields))))) (pair (i16 (pos 2)) (structure (field (pos 1) (i32 (pos 0)) (field (pos 2) (i16 (pos 1)) (field (pos 3) (map 0 0 no_pairs) (field (pos 4) (binary (105 ∷ 51 ∷ 50 ∷ [])) no_fields))))) no_pairs)))) (field (pos 3) (i16 (pos 1)) (field (pos 4) (i32 (pos 1)) no_fields))))) ≡ Err (fault.Shape (pos 1))
row_other_root = rw (text_struct, text_i32) refl

-- a type name that is none
row_other_name : schema_in (structure (field (pos 1) (flag false) (field (pos 2) (map 4 12 (pair (i16 (pos 0)) (structure (field (pos 1) (i32 (pos 0)) (field (pos 2) (i16 (pos 5)) (field (pos 3) (map 4 12 (pair (i16 (pos 1)) (structure (field (pos 1) (i16 (pos 1)) (field (pos 2) (i16 (pos 0)) no_fields))) (pair (i16 (pos 2)) (structure (field (pos 1) (i16 (pos 2)) (field (pos 2) (i16 (negsuc 3)) no_fields))) no_pairs))) (field (pos 4) (binary (115 ∷ 116 ∷ 114 ∷ 117 ∷ 99 ∷ 116 ∷ [])) no_fields))))) (pair (i16 (pos 1)) (structure (field (pos 1) (i32 (pos 0)) (field (pos 2) (i16 (pos 4)) (field (pos 3) (map 0 0 no_pairs) (field (pos 4) (binary (105 ∷ 51 ∷ 50 ∷ [])) no_fields))))) (pair (i16 (pos 2)) (structure (field (pos 1) (i32 (pos 0)) (field (pos 2) (i16 (pos 1)) (field (pos 3) (map 0 0 no_pairs) (field (pos 4) (binary (105 ∷ 51 ∷ 51 ∷ [])) no_fields))))) no_pairs)))) (field (pos 3) (i16 (pos 0)) (field (pos 4) (i32 (pos 1)) no_fields))))) ≡ Err (fault.Shape (pos 2))
row_other_name = rw (text_struct, text_i33, text_i32) refl

-- the first child under the number 0
row_other_number : schema_in (structure (field (pos 1) (flag false) (field (pos 2) (map 4 12 (pair (i16 (pos 0)) (structure (field (pos 1) (i32 (pos 0)) (field (pos 2) (i16 (pos 5)) (field (pos 3) (map 4 12 (pair (i16 (pos 1)) (structure (field (pos 1) (i16 (pos 0)) (field (pos 2) (i16 (pos 0)) no_fields))) (pair (i16 (pos 2)) (structure (field (pos 1) (i16 (pos 2)) (field (pos 2) (i16 (negsuc 3)) no_fields))) no_pairs))) (field (pos 4) (binary (115 ∷ 116 ∷ 114 ∷ 117 ∷ 99 ∷ 116 ∷ [])) no_fields))))) (pair (i16 (pos 1)) (structure (field (pos 1) (i32 (pos 0)) (field (pos 2) (i16 (pos 4)) (field (pos 3) (map 0 0 no_pairs) (field (pos 4) (binary (105 ∷ 51 ∷ 50 ∷ [])) no_fields))))) (pair (i16 (pos 2)) (structure (field (pos 1) (i32 (pos 0)) (field (pos 2) (i16 (pos 1)) (field (pos 3) (map 0 0 no_pairs) (field (pos 4) (binary (105 ∷ 51 ∷ 50 ∷ [])) no_fields))))) no_pairs)))) (field (pos 3) (i16 (pos 0)) (field (pos 4) (i32 (pos 1)) no_fields))))) ≡ Err (fault.Shape (pos 1))
row_other_number = rw (text_struct, text_i32) refl

-- fileVersion 3
row_third_version : schema_in (structure (field (pos 1) (flag false) (field (pos 2) (map 4 12 (pair (i16 (pos 0)) (structure (field (pos 1) (i32 (pos 0)) (field (pos 2) (i16 (pos 5)) (field (pos 3) (map 4 12 (pair (i16 (pos 1)) (structure (field (pos 1) (i16 (pos 1)) (field (pos 2) (i16 (pos 0)) no_fields))) (pair (i16 (pos 2)) (structure (field (pos 1) (i16 (pos 2)) (field (pos 2) (i16 (negsuc 3)) no_fields))) no_pairs))) (field (pos 4) (binary (115 ∷ 116 ∷ 114 ∷ 117 ∷ 99 ∷ 116 ∷ [])) no_fields))))) (pair (i16 (pos 1)) (structure (field (pos 1) (i32 (pos 0)) (field (pos 2) (i16 (pos 4)) (field (pos 3) (map 0 0 no_pairs) (field (pos 4) (binary (105 ∷ 51 ∷ 50 ∷ [])) no_fields))))) (pair (i16 (pos 2)) (structure (field (pos 1) (i32 (pos 0)) (field (pos 2) (i16 (pos 1)) (field (pos 3) (map 0 0 no_pairs) (field (pos 4) (binary (105 ∷ 51 ∷ 50 ∷ [])) no_fields))))) no_pairs)))) (field (pos 3) (i16 (pos 0)) (field (pos 4) (i32 (pos 3)) no_fields))))) ≡ Err (fault.Version (pos 3))
row_third_version = rw (text_struct, text_i32) refl

-- an i32 for relaxTypeChecks
row_number_for_flag : schema_in (structure (field (pos 1) (i32 (pos 0)) (field (pos 2) (map 4 12 (pair (i16 (pos 0)) (structure (field (pos 1) (i32 (pos 0)) (field (pos 2) (i16 (pos 5)) (field (pos 3) (map 4 12 (pair (i16 (pos 1)) (structure (field (pos 1) (i16 (pos 1)) (field (pos 2) (i16 (pos 0)) no_fields))) (pair (i16 (pos 2)) (structure (field (pos 1) (i16 (pos 2)) (field (pos 2) (i16 (negsuc 3)) no_fields))) no_pairs))) (field (pos 4) (binary (115 ∷ 116 ∷ 114 ∷ 117 ∷ 99 ∷ 116 ∷ [])) no_fields))))) (pair (i16 (pos 1)) (structure (field (pos 1) (i32 (pos 0)) (field (pos 2) (i16 (pos 4)) (field (pos 3) (map 0 0 no_pairs) (field (pos 4) (binary (105 ∷ 51 ∷ 50 ∷ [])) no_fields))))) (pair (i16 (pos 2)) (structure (field (pos 1) (i32 (pos 0)) (field (pos 2) (i16 (pos 1)) (field (pos 3) (map 0 0 no_pairs) (field (pos 4) (binary (105 ∷ 51 ∷ 50 ∷ [])) no_fields))))) no_pairs)))) (field (pos 3) (i16 (pos 0)) (field (pos 4) (i32 (pos 1)) no_fields))))) ≡ Err (fault.Fields 1)
row_number_for_flag = rw (text_struct, text_i32) refl

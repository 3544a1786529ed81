-- Worked rows, by computing: struct P {1: i32 x; 2: i32 y} with 4 and 1 bits in version 1, and in version 2
-- with no bits above the bases 5 and -1; and a map in version 2.
use Rattle.std.proofs.Common.{◌≡◌, ◌++◌, true, false, refl, arith}
use Rattle.std.specs.Prelude.{pos, negsuc, codes}
use Rattle.std.proofs.lemmas.Fmt.{decimal_digit, decimal_step}
use Rattle.frozen_model.specs.Trees.{Integer, I32, Flag, Text, AMap, Leaf, ByteRange, ItemRange, Optional}
use Rattle.frozen_model.specs.Trees.{Struct, NoField, Field}
use Rattle.frozen_model.specs.Rows.{two_fields}
use Rattle.frozen_model.specs.Layouts.{Version1, Version2, TwosComplement, FromBase, Unsigned, described}
use Rattle.cli_texts.specs.Listing.{listing}

row_of_version_1 : listing (described Version1 false (two_fields (TwosComplement 4) (TwosComplement 1)))
    ≡ codes "0 - - struct 5 0\n1 0 1 i32 4 0\n2 0 2 i32 1 4\n"
row_of_version_1 =
    let d0 = decimal_digit 0 (omega arith) in
    let d1 = decimal_digit 1 (omega arith) in
    let d2 = decimal_digit 2 (omega arith) in
    let d4 = decimal_digit 4 (omega arith) in
    let d5 = decimal_digit 5 (omega arith) in
    rw (d0, d1, d2, d4, d5) refl

row_of_version_2 : listing (described Version2 true (two_fields (FromBase (pos 5) 0) (FromBase (negsuc 0) 0)))
    ≡ codes "0 - - struct 0 0 0\n1 0 1 i32 0 0 5\n2 0 2 i32 0 0 -1\n"
row_of_version_2 =
    let d0 = decimal_digit 0 (omega arith) in
    let d1 = decimal_digit 1 (omega arith) in
    let d2 = decimal_digit 2 (omega arith) in
    let d5 = decimal_digit 5 (omega arith) in
    rw (d0, d1, d2, d5) refl

-- a map of texts by numbers above 1, beside an optional flag
row_of_a_map : listing (described Version2 true (Struct (Field 3 (ItemRange AMap 2 1 (Struct (Field 1
    (Leaf (Integer I32) (FromBase (pos 1) 4)) (Field 2 (ByteRange Text 3 1) NoField)))) (Field 5
    (Optional 1 (Leaf Flag (Unsigned 1))) NoField))))
    ≡ codes "0 - - struct 5 0 0\n" ++ codes "1 0 3 map 3 0 0\n" ++ codes "2 1 1 size 2 0 0\n"
    ++ codes "3 1 2 size 1 2 0\n" ++ codes "4 1 3 pair 8 0 0\n" ++ codes "5 4 1 i32 4 0 1\n"
    ++ codes "6 4 2 string 4 4 0\n" ++ codes "7 6 1 size 3 0 0\n" ++ codes "8 6 2 size 1 3 0\n"
    ++ codes "9 0 5 optional 2 3 0\n" ++ codes "10 9 1 bool 1 0 0\n" ++ codes "11 9 2 bool 1 1 0\n"
row_of_a_map =
    let d0 = decimal_digit 0 (omega arith) in
    let d1 = decimal_digit 1 (omega arith) in
    let d2 = decimal_digit 2 (omega arith) in
    let d3 = decimal_digit 3 (omega arith) in
    let d4 = decimal_digit 4 (omega arith) in
    let d5 = decimal_digit 5 (omega arith) in
    let d6 = decimal_digit 6 (omega arith) in
    let d7 = decimal_digit 7 (omega arith) in
    let d8 = decimal_digit 8 (omega arith) in
    let d9 = decimal_digit 9 (omega arith) in
    let d10 = decimal_step 10 (omega arith) (omega arith) in
    let d11 = decimal_step 11 (omega arith) (omega arith) in
    rw (d10, d11) (rw (d0, d1, d2, d3, d4, d5, d6, d7, d8, d9) refl)

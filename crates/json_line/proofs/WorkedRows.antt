-- Worked rows, by computing.
use Rattle.std.proofs.Common.{◌≡◌, ℕ, [], ◌∷◌, refl, pos, negsuc, codes, true, false, arith}
use Rattle.std.proofs.lemmas.Fmt.{decimal_digit}
use Rattle.json.proofs.OnLiterals.{json_on_literals}
use Rattle.hex.proofs.OnLiterals.{hex_on_literals}
use Rattle.idl_profile.specs.declared.kinds.Need.TheVariants.{Plain, Optional}
use Rattle.idl_profile.specs.Types.{TypeTree, scalar, text, bytes, list_of, map_of, named, struct_of}
use Rattle.idl_profile.specs.Types.{no_fields, field, without, int_default, flag, i32}
use Rattle.frozen_model.specs.Trees.{AList, AMap}
use Rattle.frozen_model.specs.Values.{Value, Truth, Number, One, Bytes, Items, Absent, Present, Record}
use Rattle.frozen_model.specs.Values.{NoValue, And}
use Rattle.serde_json.specs.Written.{compact_text}
use Rattle.typed_tree.specs.Spots.{pair}
use Rattle.json_line.specs.Json.{as_json, both, json, line}

abbrev number : ℕ → Value
number n = One (Number (pos n))

abbrev letter : ℕ → Value
letter c = Bytes (c ∷ [])

-- struct P {1: i32 x; 2: i32 y}
abbrev two_fields : TypeTree
two_fields = named (struct_of (codes "P") (field (pos 1) (codes "x") Plain (scalar i32) without (field (pos 2)
    (codes "y") Plain (scalar i32) without no_fields)))

row_two_fields : line two_fields (Record (1 ∷ 2 ∷ []) (And (number 5) (And (One (Number
    (negsuc 0))) NoValue))) ≡ codes "{\"x\":5,\"y\":-1}\n"
unfolding json_on_literals
row_two_fields = rw (decimal_digit 5 (omega arith), decimal_digit 1 (omega arith)) refl

-- struct R {3: i32 c = 7; 2: i32 b}, whose fields stand by rising id
abbrev other_definition : TypeTree
other_definition = named (struct_of (codes "R") (field (pos 2) (codes "b") Plain (scalar i32) without (field
    (pos 3) (codes "c") Plain (scalar i32) (int_default (pos 7)) no_fields)))

row_other_definition : line other_definition (Record (2 ∷ 3 ∷ []) (And (number 4) (And (number 7) NoValue)))
    ≡ codes "{\"b\":4,\"c\":7}\n"
unfolding json_on_literals
row_other_definition = rw (decimal_digit 4 (omega arith), decimal_digit 7 (omega arith)) refl

-- struct O {1: optional i32 a}
abbrev optional_item : TypeTree
optional_item = named (struct_of (codes "O") (field (pos 1) (codes "a") Optional
    (scalar i32) without no_fields))

row_absent_optional : line optional_item (Record (1 ∷ []) (And Absent NoValue)) ≡ codes "{}\n"
unfolding json_on_literals
row_absent_optional = refl

row_optional : line optional_item (Record (1 ∷ []) (And (Present (number 5)) NoValue)) ≡ codes "{\"a\":5}\n"
unfolding json_on_literals
row_optional = rw (decimal_digit 5 (omega arith)) refl

row_zero : line (scalar i32) (number 0) ≡ codes "0\n"
unfolding json_on_literals
row_zero = rw (decimal_digit 0 (omega arith)) refl

row_text : line text (letter 99) ≡ codes "\"c\"\n"
unfolding json_on_literals
row_text = refl

-- a quote, a backslash, a newline and the byte 1
row_escapes : json text (Bytes (34 ∷ 92 ∷ 10 ∷ 1 ∷ [])) ≡ codes "\"\\\"\\\\\\n\\u0001\""
unfolding json_on_literals
row_escapes = refl

row_list : json (list_of text) (Items AList (And (letter 97) (And (letter 98) NoValue)))
    ≡ codes "[\"a\",\"b\"]"
unfolding json_on_literals
row_list = refl

row_empty_list : json (list_of text) (Items AList NoValue) ≡ codes "[]"
unfolding json_on_literals
row_empty_list = refl

row_map : json (map_of (scalar i32) text) (Items AMap (And (pair (number 1) (letter 97)) (And (pair (number 5)
    (letter 101)) NoValue))) ≡ codes "[[1,\"a\"],[5,\"e\"]]"
unfolding json_on_literals
row_map = rw (decimal_digit 1 (omega arith), decimal_digit 5 (omega arith)) refl

-- a pair of a map, as `scan` writes it
row_pair : compact_text (both (as_json (scalar i32)) (as_json text) (pair (number 9) (letter 105)))
    ≡ codes "[9,\"i\"]"
unfolding json_on_literals
row_pair = rw (decimal_digit 9 (omega arith)) refl

row_bytes : json bytes (Bytes (0 ∷ 10 ∷ 255 ∷ [])) ≡ codes "\"000aff\""
unfolding json_on_literals hex_on_literals
row_bytes = refl

row_flags : json (list_of (scalar flag)) (Items AList (And (One (Truth true)) (And (One
    (Truth false)) NoValue))) ≡ codes "[true,false]"
unfolding json_on_literals
row_flags = refl

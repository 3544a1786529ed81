-- Worked rows, by computing.
--   struct P {1: i32 x; 2: i32 y}  struct Q {1: required i32 x}  struct M {1: map<i32,binary> m}
--   struct D {1: string t = "TT"}  struct L {1: list<D> l}
use Rattle.std.proofs.Common.{◌≡◌, [], ◌∷◌, refl, ℕ, List, true}
use Rattle.std.specs.Prelude.{codes, pos, negsuc, Float}
use Rattle.idl_profile.specs.declared.kinds.Need.TheVariants.{Plain, Required}
use Rattle.idl_profile.specs.Types.{TypeTree, scalar, text, bytes, set_of, map_of, named, struct_of, no_fields as end, field as field_of, i32 as i32_type, without}
use Rattle.frozen_model.specs.Values.{Number, One, Record, NoValue, And}
use Rattle.serde_json.specs.Data.{Data, unsigned, negative, float, boolean, number, string, array, object, no_items, item, no_members, member}
use Rattle.typed_reading.specs.declared.fault.NodeFault.TheVariants.{MissingRequired, WrongType, RepeatedKey}
use Rattle.hex.proofs.OnLiterals.{hex_on_literals}
use Rattle.typed_reading.specs.Faults.{here}
use Rattle.json_value.specs.Nodes.{nodes}
use Rattle.json_value.specs.Faults.{faults}
use Rattle.json_value.specs.Meaning.{meaning}
use Rattle.json_value.specs.Json.{json_of}

abbrev struct_p : TypeTree
struct_p = named (struct_of (codes "P") (field_of (pos 1) (codes "x") Plain (scalar i32_type) without (field_of (pos 2) (codes "y") Plain (scalar i32_type) without end)))

abbrev struct_q : TypeTree
struct_q = named (struct_of (codes "Q") (field_of (pos 1) (codes "x") Required (scalar i32_type) without end))

abbrev struct_m : TypeTree
struct_m = named (struct_of (codes "M") (field_of (pos 1) (codes "m") Plain (map_of (scalar i32_type) text) without end))

abbrev struct_b : TypeTree
struct_b = named (struct_of (codes "B") (field_of (pos 1) (codes "s") Plain (set_of bytes) without end))

abbrev whole : ℕ → Data
whole n = number (unsigned n)

abbrev one : List ℕ → Data → Data
one name d = object (member name d no_members)

abbrev two : Data → Data → Data
two a b = array (item a (item b no_items))

-- {"x":5,"y":-1}
abbrev point : Data
point = object (member (codes "x") (whole 5) (member (codes "y") (number (negative (negsuc 0))) no_members))

row_point : faults point struct_p 0 ≡ []
row_point = refl

row_point_value : meaning point struct_p ≡ Record (1 ∷ 2 ∷ []) (And (One (Number (pos 5))) (And (One (Number (negsuc 0))) NoValue))
row_point_value = refl

row_point_back : json_of struct_p (meaning point struct_p) ≡ point
row_point_back = refl

-- {"x":5.0}: a number with a point is kept as a float
row_float : (x : Float) → faults (one (codes "x") (number (float x))) struct_p 0 ≡ here 1 WrongType ∷ []
row_float x = refl

-- {}
row_missing : faults (object no_members) struct_q 0 ≡ here 0 (MissingRequired (pos 1)) ∷ []
row_missing = refl

-- {"m":[[9,"i"],[5,"e"],[1,"a"]]}
abbrev table : Data
table = one (codes "m") (array (item (two (whole 9) (string (codes "i"))) (item (two (whole 5) (string (codes "e"))) (item (two (whole 1) (string (codes "a"))) no_items))))

row_table : faults table struct_m 0 ≡ []
row_table = refl

row_nodes : nodes table ≡ 11
row_nodes = refl

-- {"m":[[1,"a"],[1,"b"]]}: the object is 0, the array 1, its entries 2 and 5, their keys 3 and 6
row_repeated_key : faults (one (codes "m") (array (item (two (whole 1) (string (codes "a"))) (item (two (whole 1) (string (codes "b"))) no_items)))) struct_m 0 ≡ here 6 RepeatedKey ∷ []
row_repeated_key = refl

-- an entry that is no array of two: nothing below it has a fault
row_entry : faults (one (codes "m") (array (item (array (item (string (codes "x")) no_items)) no_items))) struct_m 0 ≡ here 2 WrongType ∷ []
row_entry = refl

-- {"a":[1,2],"x":true}: the nodes of an unknown member are numbered too
row_unknown : faults (object (member (codes "a") (two (whole 1) (whole 2)) (member (codes "x") (boolean true) no_members))) struct_p 0 ≡ here 4 WrongType ∷ []
row_unknown = refl

-- {"s":["0A","0a"]}: the same bytes
row_same_bytes : faults (one (codes "s") (two (string (codes "0A")) (string (codes "0a")))) struct_b 0 ≡ here 3 RepeatedKey ∷ []
unfolding hex_on_literals
row_same_bytes = refl

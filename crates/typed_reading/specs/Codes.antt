-- Type codes of types and of wire nodes, and whether a node meets a type.
use Rattle.std.specs.Prelude.{ℕ, Bool, true, ◌&&◌, nat_eq}
use Rattle.compact_wire.specs.Node.{Node, flag, i8, i16, i32, i64, double, binary, list, set, map, structure}
use Rattle.compact_wire.specs.Node.{Nodes, no_nodes, node, Pairs, no_pairs, pair}
use Rattle.idl_profile.specs.Types.{TypeTree, scalar, text, bytes, list_of, set_of, map_of, named, enum_of, struct_of}
use Rattle.idl_profile.specs.Types.{Scalar, flag as flag_type, i8 as i8_type, i16 as i16_type, i32 as i32_type}
use Rattle.idl_profile.specs.Types.{i64 as i64_type}
use Rattle.idl_parse.specs.Refs.{element_of, key_of, value_of}

abbrev pub base_code : Scalar → ℕ
base_code flag_type = 1
base_code i8_type = 3
base_code i16_type = 4
base_code i32_type = 5
base_code i64_type = 6

-- the code of a type's values; an enum is an i32
abbrev pub code : TypeTree → ℕ
code (scalar s) = base_code s
code text = 8
code bytes = 8
code (list_of t) = 9
code (set_of t) = 10
code (map_of k v) = 11
code (named (enum_of n ms)) = 5
code (named (struct_of n fs)) = 12

abbrev pub code_of_node : Node → ℕ
code_of_node (flag b) = 1
code_of_node (i8 z) = 3
code_of_node (i16 z) = 4
code_of_node (i32 z) = 5
code_of_node (i64 z) = 6
code_of_node (double b) = 7
code_of_node (binary b) = 8
code_of_node (list c xs) = 9
code_of_node (set c xs) = 10
code_of_node (map a b xs) = 11
code_of_node (structure xs) = 12

-- where there are items, their code is that of the type's elements
abbrev pub row_fits : TypeTree → ℕ → Nodes → Bool
row_fits t c no_nodes = true
row_fits t c (node x xs) = nat_eq c (code (element_of t))

-- where there are pairs, their codes are those of the type's keys and values
abbrev pub pairs_fit : TypeTree → ℕ → ℕ → Pairs → Bool
pairs_fit t a b no_pairs = true
pairs_fit t a b (pair x y xs) = nat_eq a (code (key_of t)) && nat_eq b (code (value_of t))

abbrev pub parts_fit : TypeTree → Node → Bool
parts_fit t (list c xs) = row_fits t c xs
parts_fit t (set c xs) = row_fits t c xs
parts_fit t (map a b xs) = pairs_fit t a b xs
parts_fit t _ = true

-- the node is of its type's code, and its parts are of those of the type's parts
abbrev pub meets : TypeTree → Node → Bool
meets t w = nat_eq (code_of_node w) (code t) && parts_fit t w

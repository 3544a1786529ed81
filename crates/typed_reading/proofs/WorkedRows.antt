-- Worked rows, by computing.
--   struct P {1: i32 x; 2: i32 y}  struct Q {1: required i32 x}  struct M {1: map<i32,binary> m}
--   struct D {1: string t = "TT"}  struct L {1: list<D> l}
use Rattle.std.proofs.Common.{◌≡◌, [], ◌∷◌, refl}
use Rattle.std.specs.Prelude.{codes, pos, negsuc}
use Rattle.idl_profile.specs.declared.kinds.Need.TheVariants.{Plain, Required}
use Rattle.idl_profile.specs.Types.{TypeTree, scalar, text, bytes, list_of, map_of, named, struct_of, no_fields as end, field as field_of, i32 as i32_type, without, text_default}
use Rattle.frozen_model.specs.Values.{Number, One, Record, NoValue, And, cells}
use Rattle.type_kinds.specs.KindsOf.{kinds_of}
use Rattle.compact_wire.specs.Node.{Node, i16, i32, double, binary, list, map, structure, no_nodes, node, no_pairs, pair, no_fields, field}
use Rattle.typed_reading.specs.declared.fault.NodeFault.TheVariants.{RepeatedField, MissingRequired, WrongType, RepeatedKey}
use Rattle.typed_reading.specs.Faults.{faults, here}
use Rattle.typed_reading.specs.Meaning.{meaning}
use Rattle.typed_reading.specs.Counts.{count_of, total}

abbrev struct_p : TypeTree
struct_p = named (struct_of (codes "P") (field_of (pos 1) (codes "x") Plain (scalar i32_type) without (field_of (pos 2) (codes "y") Plain (scalar i32_type) without end)))

abbrev struct_q : TypeTree
struct_q = named (struct_of (codes "Q") (field_of (pos 1) (codes "x") Required (scalar i32_type) without end))

abbrev struct_m : TypeTree
struct_m = named (struct_of (codes "M") (field_of (pos 1) (codes "m") Plain (map_of (scalar i32_type) bytes) without end))

abbrev struct_d : TypeTree
struct_d = named (struct_of (codes "D") (field_of (pos 1) (codes "t") Plain text (text_default (codes "TT")) end))

abbrev struct_l : TypeTree
struct_l = named (struct_of (codes "L") (field_of (pos 1) (codes "l") Plain (list_of struct_d) without end))

-- an i16 where the type is an i32, and the other field missing
row_wrong_type : faults (structure (field (pos 1) (i16 (pos 5)) no_fields)) struct_p 0 ≡ here 1 WrongType ∷ []
row_wrong_type = refl

row_repeated_field : faults (structure (field (pos 1) (i32 (pos 5)) (field (pos 1) (i32 (pos 5)) no_fields))) struct_p 0 ≡ here 2 RepeatedField ∷ []
row_repeated_field = refl

-- the second is of another type too
row_repeated_and_wrong : faults (structure (field (pos 1) (i32 (pos 5)) (field (pos 1) (i16 (pos 5)) no_fields))) struct_p 0 ≡ here 2 RepeatedField ∷ here 2 WrongType ∷ []
row_repeated_and_wrong = refl

row_missing_required : faults (structure no_fields) struct_q 0 ≡ here 0 (MissingRequired (pos 1)) ∷ []
row_missing_required = refl

row_repeated_key : faults (structure (field (pos 1) (map 5 8 (pair (i32 (pos 1)) (binary (97 ∷ [])) (pair (i32 (pos 1)) (binary (98 ∷ [])) no_pairs))) no_fields)) struct_m 0 ≡ here 4 RepeatedKey ∷ []
row_repeated_key = refl

-- an unknown double stands between
abbrev lenient : Node
lenient = structure (field (pos 2) (i32 (negsuc 0)) (field (pos 7) (double (0 ∷ 0 ∷ 0 ∷ 0 ∷ 0 ∷ 0 ∷ 0 ∷ 0 ∷ [])) (field (pos 1) (i32 (pos 5)) no_fields)))

row_lenient : faults lenient struct_p 0 ≡ []
row_lenient = refl

row_value : meaning lenient struct_p ≡ Record (1 ∷ 2 ∷ []) (And (One (Number (pos 5))) (And (One (Number (negsuc 0))) NoValue))
row_value = refl

-- two items that have the default
row_cells : cells (kinds_of struct_l) (meaning (structure (field (pos 1) (list 12 (node (structure no_fields) (node (structure no_fields) no_nodes))) no_fields)) struct_l) ≡ 12
row_cells = refl

-- counted over the tree: their nodes are two for each item, beside the list and the struct around it
row_total : total (structure (field (pos 1) (list 12 (node (structure no_fields) (node (structure no_fields) no_nodes))) no_fields)) struct_l ≡ count_of 12 6 4
row_total = refl

-- What reading on over a value makes of the least fault so far and the number of the next node.
use Rattle.std.specs.Prelude.{ℕ, ◌+◌, List, [], ◌∷◌, ◌++◌, ℤ, Some, None}
use Rattle.frozen_model.specs.Values.{Value}
use Rattle.compact_wire.specs.Node.{Node, Nodes, Pairs, Fields}
use Rattle.wire_scan.specs.Sizes.{size, sizes, sizes_of_pairs, sizes_of_fields}
use Rattle.idl_profile.specs.Types.{TypeTree, DefField}
use Rattle.idl_profile.specs.declared.kinds.TypeKind.{TypeKind}
use Rattle.idl_profile.specs.declared.kinds.TypeKind.TheVariants as kinds
use Rattle.typed_reading.specs.declared.fault.NodeFault.{NodeFault}
use Rattle.typed_reading.specs.declared.fault.Found.{Found}
use Rattle.typed_reading.specs.declared.progress.Progress.{Progress}
use Rattle.typed_reading.specs.Keys.{key_value, keys_in, keys_in_pairs}
use Rattle.typed_reading.specs.Faults.{faults, faults_in, faults_in_pairs, faults_in_fields, of_field, type_in}
use Rattle.typed_reading.specs.Faults.{is_among, ids_after, repeats, lesser, least, here}

-- what is known before the first byte
abbrev pub start : Progress
start = record { found = None; next = 0 }

-- more faults, and more nodes
abbrev pub on : Progress → List Found → ℕ → Progress
on s fs n = record { found = lesser s.found (least fs); next = s.next + n }

abbrev pub after : TypeTree → Progress → Node → Progress
after t s w = on s (faults w t s.next) (size w)

abbrev pub after_items : TypeTree → Progress → Nodes → Progress
after_items t s xs = on s (faults_in xs t s.next) (sizes xs)

-- behind the items of a set
abbrev pub after_set : TypeTree → Progress → Nodes → Progress
after_set t s xs = on s (faults_in xs t s.next ++ repeats (keys_in xs s.next) []) (sizes xs)

-- behind the pairs of a map
abbrev pub after_map : TypeTree → TypeTree → Progress → Pairs → Progress
after_map k v s xs = on s (faults_in_pairs xs k v s.next ++ repeats (keys_in_pairs xs s.next) []) (sizes_of_pairs xs)

-- behind a node without faults of its own
abbrev pub inside : Progress → Progress
inside s = record { found = s.found; next = s.next + 1 }

-- behind nodes that are not looked at
abbrev pub skipped : Progress → ℕ → Progress
skipped s n = record { found = s.found; next = n }

-- with a fault at the node where the progress stands
abbrev pub with : Progress → NodeFault → ℕ → Progress
with s k n = record { found = lesser s.found (Some (here s.next k)); next = n }

-- what is known behind a key, and the key with its node
abbrev pub key_and_after : TypeTree → Progress → Node → Progress × (ℕ × Value)
key_and_after t s w = (after t s w, (s.next, key_value w))

-- ---- what is known among the items of a set or the pairs of a map: the progress, and the keys that stood

abbrev pub Keying : Type 0
Keying = Progress × List (ℕ × Value)

abbrev pub after_key : TypeTree → Keying → Node → Keying
after_key t s x = (after t s.0 x, s.1 ++ (s.0.next, key_value x) ∷ [])

abbrev pub after_keys : TypeTree → Keying → Nodes → Keying
after_keys t s xs = (after_items t s.0 xs, s.1 ++ keys_in xs s.0.next)

-- behind the value of a pair
abbrev pub after_value : TypeTree → Keying → Node → Keying
after_value t s y = (after t s.0 y, s.1)

abbrev pub after_pairs : TypeTree → TypeTree → Keying → Pairs → Keying
after_pairs k v s xs = (on s.0 (faults_in_pairs xs k v s.0.next) (sizes_of_pairs xs), s.1 ++ keys_in_pairs xs s.0.next)

-- ---- what is known among the fields of a struct: the progress, and the ids that stood

abbrev pub Fielding : Type 0
Fielding = Progress × List ℤ

abbrev pub after_field : List DefField → Fielding → ℤ → Node → Fielding
after_field fs s id x = (on s.0 (of_field (type_in fs id) (is_among id s.1) x (λ t. faults x t s.0.next) s.0.next) (size x), id ∷ s.1)

abbrev pub after_fields : List DefField → Fielding → Fields → Fielding
after_fields fs s xs = (on s.0 (faults_in_fields xs fs s.1 s.0.next) (sizes_of_fields xs), ids_after xs s.1)

-- ---- codes

-- the code of a kind of type
abbrev pub kind_code : TypeKind → ℕ
kind_code kinds.Flag = 1
kind_code kinds.I8 = 3
kind_code kinds.I16 = 4
kind_code kinds.I32 = 5
kind_code kinds.Enum = 5
kind_code kinds.I64 = 6
kind_code kinds.Text = 8
kind_code kinds.Bytes = 8
kind_code kinds.List = 9
kind_code kinds.Set = 10
kind_code kinds.Map = 11
kind_code kinds.Struct = 12

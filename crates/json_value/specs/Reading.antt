-- What reading on over parts makes of the least fault so far and the number of the next node, over the faults of typed_reading.
use Rattle.std.specs.Prelude.{ℕ, ◌+◌, ◌<◌, ◌^◌, List, [], Option, Some, None}
use Rattle.frozen_model.specs.Values.{Value}
use Rattle.serde_json.specs.Data.{Data, Items, Members}
use Rattle.idl_profile.specs.Types.{TypeTree, DefField}
use Rattle.typed_reading.specs.declared.fault.NodeFault.{NodeFault}
use Rattle.typed_reading.specs.declared.fault.Found.{Found}
use Rattle.typed_reading.specs.Faults.{here, lesser, least, repeats}
use Rattle.json_value.specs.declared.progress.Progress.{Progress}
use Rattle.json_value.specs.Nodes.{nodes, nodes_in, nodes_of_members}
use Rattle.json_value.specs.Faults.{faults, faults_in, faults_in_pairs, faults_of_entry, faults_in_members, of_member}

-- what is known before the first node
abbrev pub start : Progress
start = record { found = None; next = 0 }

-- more faults, and more nodes
abbrev pub on : Progress → List Found → ℕ → Progress
on s fs n = record { found = lesser s.found (least fs); next = s.next + n }

-- behind a node without faults of its own
abbrev pub inside : Progress → Progress
inside s = record { found = s.found; next = s.next + 1 }

-- behind nodes that are not looked at
abbrev pub skipped : Progress → ℕ → Progress
skipped s n = record { found = s.found; next = n }

-- with a fault at the node where the progress stands
abbrev pub with : Progress → NodeFault → ℕ → Progress
with s k n = record { found = lesser s.found (Some (here s.next k)); next = n }

abbrev pub after : TypeTree → Progress → Data → Progress
after t s d = on s (faults d t s.next) (nodes d)

abbrev pub after_items : TypeTree → Progress → Items → Progress
after_items t s ds = on s (faults_in ds t s.next) (nodes_in ds)

abbrev pub after_pairs : TypeTree → TypeTree → Progress → Items → Progress
after_pairs k v s ds = on s (faults_in_pairs ds k v s.next) (nodes_in ds)

abbrev pub after_entry : TypeTree → TypeTree → Progress → Data → Progress
after_entry k v s d = on s (faults_of_entry d k v s.next) (nodes d)

abbrev pub after_members : List DefField → Progress → Members → Progress
after_members fs s ms = on s (faults_in_members ms fs s.next) (nodes_of_members ms)

-- behind a member of this type, if it is known
abbrev pub after_member : Option TypeTree → Progress → Data → Progress
after_member t s d = on s (of_member t (λ u. faults d u s.next)) (nodes d)

-- there are so few nodes that their numbers have 64 bits
abbrev pub HasRoom : Progress → ℕ → Type 0
HasRoom s n = s.next + n < 2 ^ 64

-- with the repeats among keys
abbrev pub with_repeats : Progress → List (ℕ × Value) → Progress
with_repeats s ks = record { found = lesser s.found (least (repeats ks [])); next = s.next }

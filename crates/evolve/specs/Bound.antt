-- What binding answers.
use Rattle.std.specs.Prelude.{◌≡◌, ℕ, List, map, if◌then◌else◌, nat_eq, Option, Some, None, Result}
use Rattle.std.specs.Prelude.{Ok, Err}
use Rattle.idl_profile.specs.Types.{TypeTree}
use Rattle.frozen_model.specs.Layouts.{Described}
use Rattle.evolve.specs.declared.fault.BindFault.{BindFault}
use Rattle.evolve.specs.declared.fault.BindFault.TheVariants.{TypeChanged, RequiredAbsent, NoMemory}
use Rattle.evolve.specs.declared.plan.Plan.{Plan}
use Rattle.evolve.specs.Binding.{Compatible, bind_fault, type_changed, required_absent}
use Rattle.evolve.specs.Plans.{nodes_at}

-- a node, where the greatest number of 32 bits is none
abbrev pub file_node_of : ℕ → Option ℕ
file_node_of n = if nat_eq n 4294967295 then None else Some n

-- the nodes of a plan
abbrev pub plan_nodes : Plan → List (Option ℕ)
plan_nodes p = map file_node_of p.nodes.items

-- why this is the answer for a definition with this root: it binds, and these are the nodes; or the first of
-- its nodes that does not bind is this; want of memory has no cause
abbrev pub IsBound : Described → TypeTree → Result Plan BindFault → Type 0
IsBound d root (Ok p) = Compatible d root × (plan_nodes p ≡ nodes_at root d.tree 0)
IsBound d root (Err (TypeChanged ids)) = bind_fault d root ≡ Some (type_changed ids.items)
IsBound d root (Err (RequiredAbsent ids)) = bind_fault d root ≡ Some (required_absent ids.items)
IsBound d root (Err NoMemory) = Unit {0}

-- What the steps of binding answer: the nodes that they add to a plan, or a fault.
use Rattle.std.specs.Prelude.{◌≡◌, ℕ, List, ◌++◌, map, reverse, Bool, true, false, nat_abs, Option, Some}
use Rattle.std.specs.Prelude.{None, Result, Ok, Err}
use Rattle.idl_profile.specs.declared.kinds.TypeKind.{TypeKind}
use Rattle.idl_profile.specs.declared.kinds.TypeKind.TheVariants as types
use Rattle.idl_profile.specs.Types.{TypeTree, DefField, kind_of}
use Rattle.idl_parse.specs.Refs.{key_of, value_of}
use Rattle.frozen_model.specs.Trees.{Whole, I8, I16, I32, I64, Integer, Struct, NoField, Field, nodes}
use Rattle.frozen_model.specs.Layouts.{Layout, Layouts}
use Rattle.layout_tree.specs.declared.node.Kind.{Kind}
use Rattle.layout_tree.specs.declared.node.Kind.TheVariants as kinds
use Rattle.layout_tree.specs.Reading.{kind_at}
use Rattle.layout_tree.specs.Shapes.{field_kinds}
use Rattle.bit_view.specs.Branches.{field_tree}
use Rattle.evolve.specs.declared.fault.BindFault.{BindFault}
use Rattle.evolve.specs.declared.fault.BindFault.TheVariants.{TypeChanged, RequiredAbsent, NoMemory}
use Rattle.evolve.specs.Binding.{Unbound, type_changed, required_absent, stands_for, field_fault}
use Rattle.evolve.specs.Binding.{type_fault, pair_fault}
use Rattle.evolve.specs.Plans.{field_node, nodes_of_field, nodes_of_pair, nodes_at}
use Rattle.evolve.specs.Bound.{file_node_of}

-- these nodes are added to those of a plan
abbrev pub Adds : List ℕ → List ℕ → List (Option ℕ) → Type 0
Adds old new ns = map file_node_of new ≡ map file_node_of old ++ ns

-- the fault is told, its ids from the last to the first
abbrev pub Tells : Option Unbound → BindFault → Type 0
Tells u (TypeChanged ids) = u ≡ Some (type_changed (reverse ids.items))
Tells u (RequiredAbsent ids) = u ≡ Some (required_absent (reverse ids.items))
Tells u NoMemory = Unit {0}

-- there is no fault, and the nodes are added; or the fault is told
abbrev pub Answers : List ℕ → List ℕ → Option Unbound → List (Option ℕ) → Result (Unit {0}) BindFault → Type 0
Answers old new u ns (Ok done) = (u ≡ None) × Adds old new ns
Answers old new u ns (Err e) = Tells u e

-- whether a whole number may stand for what a node of this kind has
abbrev pub number_fits : Bool → Whole → Kind → Bool
number_fits relaxed own kinds.I8 = stands_for relaxed (Integer own) (Integer I8)
number_fits relaxed own kinds.I16 = stands_for relaxed (Integer own) (Integer I16)
number_fits relaxed own kinds.I32 = stands_for relaxed (Integer own) (Integer I32)
number_fits relaxed own kinds.I64 = stands_for relaxed (Integer own) (Integer I64)
number_fits relaxed own _ = false

-- whether a type of this kind may stand for a node of that kind, but for what is below
abbrev pub fits : Bool → TypeKind → Kind → Bool
fits relaxed types.Flag kinds.Flag = true
fits relaxed types.I8 k = number_fits relaxed I8 k
fits relaxed types.I16 k = number_fits relaxed I16 k
fits relaxed types.I32 k = number_fits relaxed I32 k
fits relaxed types.I64 k = number_fits relaxed I64 k
fits relaxed types.Enum k = number_fits relaxed I32 k
fits relaxed types.Text kinds.Text = true
fits relaxed types.Bytes kinds.Bytes = true
fits relaxed types.List kinds.List = true
fits relaxed types.Set kinds.Set = true
fits relaxed types.Map kinds.Map = true
fits relaxed types.Struct kinds.Struct = true
fits relaxed types.Struct kinds.Pair = true
fits relaxed _ _ = false

-- a type of a kind that fits the kind of a layout
abbrev pub FitsAt : Bool → TypeTree → Layout → Type 0
FitsAt relaxed t l = fits relaxed (kind_of t) (kind_at l) ≡ true

-- a pair of a map
abbrev pub IsPair : Layout → Type 0
IsPair (Struct (Field i k (Field j v NoField))) = Unit {0}
IsPair l = ⊥

-- the fault of the key and the value of a map's type at a pair, and their nodes, where the pair's is i
abbrev pub fault_at_pair : Bool → TypeTree → Layout → Option Unbound
fault_at_pair relaxed t l =
    pair_fault (λ k. type_fault relaxed (key_of t) k) (λ v. type_fault relaxed (value_of t) v) l

abbrev pub plan_at_pair : TypeTree → Layout → ℕ → List (Option ℕ)
plan_at_pair t l i = nodes_of_pair (λ k n. nodes_at (key_of t) k n) (λ v n. nodes_at (value_of t) v n) l i

-- the fields of a layout of a struct
abbrev pub fields_in : Layout → Layouts
fields_in (Struct ls) = ls
fields_in l = NoField

-- the fault of a field among the fields of a layout
abbrev pub fault_at : Bool → DefField → Layouts → Option Unbound
fault_at relaxed f ls = field_fault f.need (λ l. type_fault relaxed f.type l) (field_tree ls (nat_abs f.id))

-- its nodes, where the first field of the layout has the node i
abbrev pub plan_at : DefField → Layouts → ℕ → List (Option ℕ)
plan_at f ls i =
    nodes_of_field f.need (λ l n. nodes_at f.type l n) (nodes (field_kinds f)) (field_tree ls (nat_abs f.id))
    (field_node ls (nat_abs f.id) i)

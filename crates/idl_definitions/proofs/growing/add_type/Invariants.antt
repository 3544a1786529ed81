use Rattle.std.proofs.Common.{◌≡◌, ℕ, List, true, take}
use Rattle.std.specs.List.{fold}
use Rattle.idl_fields.specs.declared.draft.TypeNode.{TypeNode}
use Rattle.idl_fields.specs.declared.draft.WrittenType.{WrittenType}
use Rattle.idl_fields.specs.declared.scope.Scope.{Scope}
use Rattle.idl_fields.specs.Nodes.{node_type}
use Rattle.idl_fields.specs.View.{types_in, entries_in, word_type, contained}
use Rattle.idl_definitions.specs.Sized.{stands, IsSized, Grows}
use Rattle.idl_definitions.proofs.growing.add_type.Given as goal

pub record Going (text : List ℕ) (old now : Scope) (ty : WrittenType) (node : TypeNode) (i : ℕ) : Type 0 where
  pub means : node_type (types_in now.types) node ≡ fold (contained (entries_in text old)) (word_type (entries_in text old) ty.word) (take i ty.around.items)
  pub stand : stands now node ≡ true
  pub grows : Grows old now
  pub sized : IsSized text now

abbrev pub invariant-loop-container : goal.invariant-loop-container
invariant-loop-container l = Going l.text l.fn.scope l.scope l.ty l.node l.container-index

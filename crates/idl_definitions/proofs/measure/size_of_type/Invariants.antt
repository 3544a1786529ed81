use Rattle.std.proofs.Common.{◌≡◌, take}
use Rattle.std.specs.List.{fold}
use Rattle.idl_profile.specs.Measures.{tree, trees}
use Rattle.idl_definitions.specs.Sizes.{size}
use Rattle.idl_fields.specs.View.{entries_in, named_in, word_type, contained}
use Rattle.idl_definitions.proofs.measure.size_of_type.Given as goal

abbrev pub invariant-loop-container : goal.invariant-loop-container
invariant-loop-container l =
    l.total ≡ size (tree (trees (named_in l.text l.scope)) (fold (contained (entries_in l.text l.scope)) (word_type (entries_in l.text l.scope) l.ty.word) (take l.container-index l.ty.around.items)))

use Rattle.std.proofs.Common.{ap, sym, ◌∙◌}
use Rattle.idl_profile.specs.Meaning.{Ty}
use Rattle.idl_profile.specs.Measures.{tree, trees}
use Rattle.idl_definitions.specs.Sizes.{size}
use Rattle.idl_fields.specs.View.{entries_in, named_in, word_type, contained}
use Rattle.idl_definitions.proofs.GrowLaws.{fold-next}
use Rattle.idl_definitions.proofs.measure.size_of_type.Goals as goal

pub loop-container-preserved : goal.loop-container-preserved
loop-container-preserved c =
    let text = c.args.text.now in
    let es = entries_in text c.args.scope.now in
    let ts = trees (named_in text c.args.scope.now) in
    c.size_around-total.ensures _ c.loop-container.invariant
    ∙ ap (λ (z : Ty). size (tree ts z))
    (sym (fold-next (contained es) (word_type es c.args.ty.now.word) c.args.ty.now.around.items c.deref-container-items.result.now c.loop-container.container-index _ c.deref-container-items.ensures.value c.loop-container-test.true))

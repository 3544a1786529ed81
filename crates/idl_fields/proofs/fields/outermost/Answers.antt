use Rattle.std.proofs.Common.{ap, ◌∙◌}
use Rattle.idl_fields.specs.View.{types_in, entries_in, word_type, outer}
use Rattle.idl_fields.proofs.OuterLaws.{outer-alone}
use Rattle.idl_fields.proofs.fields.outermost.Goals as goal

pub returns-in-None : goal.returns-in-None
returns-in-None c text =
    let es = entries_in text c.args.scope.now in
    c.outer_node.ensures (types_in c.args.scope.now.types) ∙ ap outer (c.type_of.ensures.means text)
    ∙ outer-alone es (word_type es c.args.ty.now.word) c.deref.result.now c.args.ty.now.around.items c.deref.ensures.value c.in-None.ensures.item.3

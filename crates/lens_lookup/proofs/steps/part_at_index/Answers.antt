use Rattle.std.proofs.Common.{◌<◌, ◌≤◌, Some, sym, ap, arith, ◌∙◌}
use Rattle.idl_parse.specs.Refs.{element_of}
use Rattle.frozen_model.specs.Values.{count}
use Rattle.typed_tree.specs.Parts.{items_of}
use Rattle.evolve.specs.Lenses.{type_of_lens, value_of_lens}
use Rattle.evolve.proofs.Known.{lens_form}
use Rattle.lens_lookup.proofs.StepForms.{typed_is, index_part, index_past}
use Rattle.lens_lookup.proofs.steps.part_at_index.Goals as goal

pub returns-then-place-len : goal.returns-then-place-len
returns-then-place-len c =
    let t = type_of_lens c.args.from in let v = value_of_lens c.args.from in
    let there : c.args.place < count (items_of v) = omega (arith, c.if-place-len.true, c.len.ensures) in
    ap (λ p. Some p) (typed_is c.item.result (element_of t) _ c.item.ensures.typed c.item.ensures.value)
    ∙ sym (index_part c.args.place t v (sym c.kind.ensures.kind ∙ c.in-List.is) (lens_form c.args.from) there)

pub returns-else-place-len : goal.returns-else-place-len
returns-else-place-len c =
    let t = type_of_lens c.args.from in let v = value_of_lens c.args.from in
    let past : count (items_of v) ≤ c.args.place = omega (arith, c.if-place-len.false, c.len.ensures) in
    sym (index_past c.args.place t v (sym c.kind.ensures.kind ∙ c.in-List.is) (lens_form c.args.from) past)

use Rattle.std.proofs.Common.{◌+◌, suc, ◌≡◌, arith, sym, ◌∙◌}
use Rattle.bit_view.specs.Branches.{fields_in}
use Rattle.bit_view.specs.Views.{layout_of_view}
use Rattle.bit_view.proofs.Fields.{first_node}
use Rattle.bit_view.proofs.Seen.{view_node, view_small, node_number}
use Rattle.bit_view.proofs.view.View.fields.Goals as goal

pub past-requires : goal.past-requires
past-requires c = let w = c.args.self in node_number w.layouts.now w.node (view_node w)

pub overflow_add-result : goal.overflow_add-result
overflow_add-result c = omega (arith, view_small c.args.self)

pub invariant_of-result-clause-ends : goal.invariant_of-result-clause-ends
invariant_of-result-clause-ends c = let w = c.args.self in c.past.ensures.part (view_node w)

pub invariant_of-result-clause-next : goal.invariant_of-result-clause-next
invariant_of-result-clause-next c =
    let w = c.args.self in
    let e : w.node + 1 ≡ suc w.node = omega arith in
    e ∙ sym (first_node (fields_in (layout_of_view w)) (suc w.node))

use Rattle.std.proofs.Common.{sym, subst, ◌∙◌}
use Rattle.frozen_model.specs.Values.{Of}
use Rattle.layout_tree.specs.Nodes.{layout_of}
use Rattle.typed_tree.specs.References.{value_of_tree}
use Rattle.typed_tree.specs.Trees.{trees}
use Rattle.bit_view.specs.Views.{value_of_view}
use Rattle.bit_view.proofs.Seen.{view_value}
use Rattle.file_value.proofs.PutRows.{only_tree}
use Rattle.file_value.proofs.OfHeld.{of_held, few_held}
use Rattle.file_value.proofs.whole.value_of.Goals as goal

pub returns-clause-form : goal.returns-clause-form
returns-clause-form c =
    let w = c.new-whole.result in
    let l = (layout_of c.args.opened.now.layouts).tree in
    let v = value_of_tree c.finish.result in
    let same = only_tree (trees c.new-builder.result) _ v (value_of_view w) c.finish.ensures.tree
    c.in_ok-put.ensures.trees c.new-builder.ensures.trees in
    of_held l v
    (subst (λ u. ∥ Of l u ∥₁) (sym same)
    (subst (λ m. ∥ Of m (value_of_view w) ∥₁) c.new-whole.ensures.layout (view_value w)))

pub returns-clause-few : goal.returns-clause-few
returns-clause-few c =
    let w = c.new-whole.result in
    let o = c.args.opened.now in
    let v = value_of_tree c.finish.result in
    let same = only_tree (trees c.new-builder.result) _ v (value_of_view w) c.finish.ensures.tree
    c.in_ok-put.ensures.trees c.new-builder.ensures.trees in
    few_held (layout_of o.layouts).tree o.content.now v o.held
    (λ u is. same ∙ c.new-whole.ensures.value u is)

use Rattle.std.proofs.Common.{◌≡◌, replicate, length, ap, sym, ◌∙◌, subst, rules}
use Rattle.frozen_model.specs.Values.{Of}
use Rattle.frozen_model.specs.Layouts.{Layout, stride}
use Rattle.frozen_model.specs.Packing.{bytes_for}
use Rattle.frozen_model.specs.Holding.{puts}
use Rattle.frozen_laws.proofs.Puts.{puts_beside}
use Rattle.layout_tree.specs.Nodes.{at, layout_of}
use Rattle.layout_tree.specs.Listing.{tree_of, version_of, layout_in}
use Rattle.layout_tree.proofs.Children.{root_sub, root_node}
use Rattle.layout_tree.proofs.Readings.{same_nodes}
use Rattle.layout_tree.proofs.Settled.{returned}
use Rattle.typed_tree.specs.References.{value_of_ref}
use Rattle.value_bounds.specs.Seeing.{numbers, no_bounds, seen}
use Rattle.value_bounds.proofs.Seen.{length_numbers, seen_at_first}
use Rattle.value_bounds.proofs.numbers.survey.Goals as goal

pub see_part-requires-clause-node : goal.see_part-requires-clause-node
see_part-requires-clause-node c = root_node (tree_of c.args.layouts.now.nodes.items)

pub see_part-requires-clause-form : goal.see_part-requires-clause-form
see_part-requires-clause-form c =
    let l = c.args.layouts.now in
    let e : at l 0 ≡ (layout_of l).tree = ap (layout_in (version_of l.version))
    (root_sub (tree_of l.nodes.items)) in
    subst (λ (z : Layout). Of z (value_of_ref c.args.v)) (sym e) c.requires

pub returns : goal.returns
returns c =
    let l = c.args.layouts.now in
    let t = tree_of l.nodes.items in
    let tree = (layout_of l).tree in
    let u = value_of_ref c.args.v in
    let e : at l 0 ≡ tree = ap (layout_in (version_of l.version)) (root_sub t) in
    let from = bytes_for (stride tree) in
    let old = c.in_ok-bounds.bounds.items in
    let new = c.see_part.new.bounds in
    let first : old ≡ replicate c.count.result no_bounds = search
    (rules, c.in_ok-bounds.ensures.items_if_clones_equal) in
    let long : length (numbers (puts tree u from))
    ≡ c.count.result = length_numbers (puts_beside c.requires from) ∙ same_nodes (version_of l.version) t
    ∙ sym c.count.ensures in
    returned old new c.in_ok-bounds.bounds.len c.in_ok-bounds.bounds.ok.0
    (c.see_part.auto.bounds ∙ ap length c.deref_mut.ensures.value)
    ∙ c.see_part.ensures from ∙ ap (λ (z : Layout). seen c.deref_mut.result.now (numbers (puts z u from))) e
    ∙ ap (λ r. seen r (numbers (puts tree u from))) (c.deref_mut.ensures.value ∙ first)
    ∙ seen_at_first c.count.result (numbers (puts tree u from)) long

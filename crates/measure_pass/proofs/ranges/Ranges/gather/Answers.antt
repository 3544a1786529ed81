use Rattle.std.proofs.Common.{◌∷◌, ◌++◌, [], ap, sym, ◌∙◌, subst}
use Rattle.frozen_model.specs.Values.{Of}
use Rattle.frozen_model.specs.Layouts.{Layout}
use Rattle.layout_tree.specs.Nodes.{layout_of, noted_in, at}
use Rattle.layout_tree.proofs.Children.{root_node}
use Rattle.typed_tree.specs.References.{value_of_ref}
use Rattle.measure_pass.specs.Spots.{root}
use Rattle.measure_pass.proofs.Whole.{root_at}
use Rattle.measure_pass.proofs.Gathered.{whole_gathered}
use Rattle.measure_pass.proofs.ranges.Ranges.gather.Goals as goal

pub gather_part-requires-clause-node : goal.gather_part-requires-clause-node
gather_part-requires-clause-node c = root_node (noted_in c.args.layouts.now)

pub gather_part-requires-clause-form : goal.gather_part-requires-clause-form
gather_part-requires-clause-form c = subst (λ (x : Layout). Of x (value_of_ref c.args.v))
    (sym (root_at c.args.layouts.now)) c.requires

pub returns : goal.returns
returns c =
    let l = c.args.layouts.now in
    whole_gathered (layout_of l).tree (at l 0) (value_of_ref c.args.v) c.push.new.self.items
    c.gather_part.new.spots.items (root_at l)
    (c.in_ok-push.ensures.items ∙ ap (λ r. r ++ root ∷ []) c.new-spots.ensures.items)
    c.in_ok-gather_part.ensures

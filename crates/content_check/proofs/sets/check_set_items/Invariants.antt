use Rattle.frozen_model.specs.Trees.{ASet}
use Rattle.layout_tree.specs.Nodes.{at}
use Rattle.layout_tree.specs.Reading.{item_of}
use Rattle.content_check.specs.Steps.{IsOfKind}
use Rattle.content_check.specs.Agreeing.{key_value}
use Rattle.content_check.proofs.Walks.{EachLeft}
use Rattle.content_check.proofs.sets.check_set_items.Given as goal

abbrev pub invariant-loop-left : goal.invariant-loop-left
invariant-loop-left l = EachLeft l.content ASet (item_of (at l.layouts l.node)) l.start l.n l.fn.from
    (key_value l.before) l.left l.bit l.reach × IsOfKind (item_of (at l.layouts l.node)) l.before

abbrev pub decreases-loop-left : goal.decreases-loop-left
decreases-loop-left l = l.left

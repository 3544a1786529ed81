use Rattle.std.proofs.Common.{arith, refl}
use Rattle.bit_view.proofs.Seen.{view_small, view_first}
use Rattle.bit_view.proofs.view.View.first.Goals as goal

pub overflow_add-result : goal.overflow_add-result
overflow_add-result c = omega (arith, view_small c.args.self)

pub invariant_of-result : goal.invariant_of-result
invariant_of-result c =
    let w = c.args.self in
    record { settled = w.settled; lies = (view_first w _ w.bit c.requires refl refl).lies }

pub returns-clause-value : goal.returns-clause-value
returns-clause-value c = let w = c.args.self in (view_first w _ w.bit c.requires refl refl).value

pub returns-clause-layout : goal.returns-clause-layout
returns-clause-layout c = let w = c.args.self in (view_first w _ w.bit c.requires refl refl).child.is

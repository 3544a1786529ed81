use Rattle.std.proofs.Common.{replicate, None}
use Rattle.evolve.specs.BindSteps.{Adds}
use Rattle.evolve.proofs.nodes.add_none.Given as goal

abbrev pub invariant-loop-i : goal.invariant-loop-i
invariant-loop-i l = Adds l.fn.nodes.items l.nodes.items (replicate l._i None)

-- Up to the entry that is looked at, each key is below the next.
use Rattle.std.specs.List.{AllAdjacentBelow}
use Rattle.key_order.specs.Neighbours.{Climbs}
use Rattle.key_order.proofs.repeats.are_climbing.Given as goal

abbrev pub invariant-loop-later : goal.invariant-loop-later
invariant-loop-later l = AllAdjacentBelow Climbs l.entries l.later

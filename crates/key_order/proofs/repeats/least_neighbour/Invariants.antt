-- Up to the entry that is looked at, the least pair of neighbours of one key is known.
use Rattle.std.proofs.Common.{◌≡◌, ◌≤◌, ◌⊎◌, length}
use Rattle.key_order.specs.Neighbours.{IsLeastNeighbour}
use Rattle.key_order.proofs.repeats.least_neighbour.Given as goal

abbrev pub invariant-loop-later : goal.invariant-loop-later
invariant-loop-later l = IsLeastNeighbour l.entries l.later l.least × ((l.later ≤ length l.entries) ⊎ (l.later ≡ 1))

-- What the digits from here on give, or where they stop, the number gives.
use Rattle.std.proofs.Common.{◌+◌, ◌*◌, ◌≤◌, length}
use Rattle.compact_wire.specs.Reads.{number}
use Rattle.compact_wire.proofs.NumberSteps.{Goes}
use Rattle.compact_wire.proofs.numbers.read_digits.Given as goal

abbrev pub invariant-digits : goal.invariant-digits
invariant-digits l =
    Goes (number l.room l.greatest l.bytes) l.sum l.weight l.most (number l.left l.most l.rest)
    × (l.sum + l.weight * l.most ≤ l.greatest)
    × (length l.rest ≤ length l.bytes)

abbrev pub decreases-digits : goal.decreases-digits
decreases-digits l = l.left

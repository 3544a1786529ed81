use Rattle.std.proofs.Common.{◌≡◌, ◌++◌, length, take}
use Rattle.compact_wire.specs.Number.{shortest}
use Rattle.compact_wire.proofs.numbers.push_digits.Given as goal

abbrev pub invariant-digits : goal.invariant-digits
invariant-digits l =
    (l.out.items ++ shortest l.rest ≡ l.initial.out.items ++ shortest l.x)
    × (take (length l.initial.out.items) l.out.items ≡ l.initial.out.items)

abbrev pub decreases-digits : goal.decreases-digits
decreases-digits l = l.rest

use Rattle.std.proofs.Common.{◌≡◌, ◌+◌, ◌≤◌}
use Rattle.frozen_model.specs.Bits.{digits}
use Rattle.demo_table.specs.Paths.{IsIdPath}
use Rattle.demo_table.proofs.lookups.look_all_up.Given as goal

abbrev pub invariant-loop-key : goal.invariant-loop-key
invariant-loop-key g l =
    IsIdPath l.path × (l.tally.found + 1 ≡ l.key) × (l.key ≤ l.n + 1) × (l.tally.most ≤ digits l.n)

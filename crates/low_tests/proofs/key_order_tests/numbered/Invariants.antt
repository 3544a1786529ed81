-- The entries so far number their keys.
use Rattle.std.proofs.Common.{◌≡◌}
use Rattle.std.specs.List.{enumerate_from}
use Rattle.key_order.specs.Entries.{keys, placed}
use Rattle.low_tests.proofs.key_order_tests.numbered.Given as goal

abbrev pub invariant-loop-key : goal.invariant-loop-key
invariant-loop-key l = placed l.entries.items ≡ enumerate_from 0 (keys l.entries.items)

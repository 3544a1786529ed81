use Rattle.std.proofs.Common.{◌≡◌}
use Rattle.bit_bench.proofs.sum_signed.Given as goal

abbrev pub invariant-loop : goal.invariant-loop
invariant-loop l = l.place.last ≡ 8388544

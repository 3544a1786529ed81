use Rattle.std.proofs.Common.{ℕ, ◌-◌, ◌≤◌, vec_len}
use Rattle.bit_bench.proofs.filled.Given as goal

abbrev pub decreases-loop-number : goal.decreases-loop-number
decreases-loop-number l = 1048576 - vec_len l.bytes

abbrev pub invariant-loop-number : goal.invariant-loop-number
invariant-loop-number l = vec_len l.bytes ≤ 1048576

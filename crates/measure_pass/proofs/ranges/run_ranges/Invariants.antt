use Rattle.std.proofs.Common.{◌-◌, length}
use Rattle.measure_pass.proofs.Ranging.{RunLeft}
use Rattle.measure_pass.proofs.ranges.run_ranges.Given as goal

abbrev pub invariant-loop-k : goal.invariant-loop-k
invariant-loop-k l = RunLeft l.fn.layouts l.layouts l.fn.spots l.spots l.first l.at l.k

abbrev pub decreases-loop-k : goal.decreases-loop-k
decreases-loop-k l = length l.spots - l.k

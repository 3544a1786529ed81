use Rattle.demo_table.specs.Paths.{IsIdPath}
use Rattle.lookup_bench.proofs.lookups.found.Given as goal

abbrev pub invariant-loop-i : goal.invariant-loop-i
invariant-loop-i g l = IsIdPath l.path

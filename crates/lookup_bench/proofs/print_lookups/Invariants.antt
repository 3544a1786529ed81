use Rattle.demo_table.specs.Paths.{IsIdPath}
use Rattle.lookup_bench.proofs.print_lookups.Given as goal

abbrev pub invariant-loop : goal.invariant-loop
invariant-loop l = IsIdPath l.path

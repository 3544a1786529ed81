use Rattle.std.proofs.Common.{arith}
use Rattle.std.proofs.lemmas.Grind.{common_steps}
use Rattle.compact_wire.proofs.NumberSteps.{number-nil, number-last}
use Rattle.compact_wire.proofs.numbers.read_number.Goals as goal

pub returns-in_default-clause-reads : goal.returns-in_default-clause-reads
returns-in_default-clause-reads c = grind (arith, common_steps, number-nil)

pub returns-then-first-greatest-clause-reads : goal.returns-then-first-greatest-clause-reads
returns-then-first-greatest-clause-reads c = grind (arith, common_steps, number-last)

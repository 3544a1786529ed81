use Rattle.std.proofs.Common.{arith, append_assoc}
use Rattle.std.proofs.lemmas.Grind.{common_steps}
use Rattle.compact_wire.proofs.DigitLaws.{shortest-last, shortest-more}
use Rattle.compact_wire.proofs.numbers.push_digits.Goals as goal

pub digits-preserved : goal.digits-preserved
digits-preserved c = grind (arith, common_steps, shortest-more, append_assoc)

pub returns-clause-ok : goal.returns-clause-ok
returns-clause-ok c = grind (arith, common_steps, shortest-last)

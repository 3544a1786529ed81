use Rattle.std.proofs.Common.{arith}
use Rattle.std.proofs.lemmas.Grind.{common_steps}
use Rattle.idl_fields.proofs.found.add_id.Goals as goal

pub returns-clause-grows : goal.returns-clause-grows
returns-clause-grows c z = grind (arith, common_steps, c.in_ok-insert.ensures.updates.0 z)

use Rattle.std.proofs.Common.{refl, ap, Ok}
use Rattle.evolve.specs.Lenses.{value_of_lens}
use Rattle.frozen_cli.proofs.stages.thawed.Goals as goal

pub returns-in-Ok-clause-gives : goal.returns-in-Ok-clause-gives
returns-in-Ok-clause-gives c =
    (value_of_lens c.args.root, (refl, c.in-Ok.ensures.many), ap Ok c.in-Ok.ensures.bytes)

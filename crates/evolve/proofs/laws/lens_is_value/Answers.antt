use Rattle.evolve.proofs.Known.{lens_value}
use Rattle.evolve.proofs.laws.lens_is_value.Goals as goal

pub returns-clause-value : goal.returns-clause-value
returns-clause-value c = lens_value c.args.from

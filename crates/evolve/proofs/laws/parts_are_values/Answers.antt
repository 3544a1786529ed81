use Rattle.std.specs.Str.{IsUtf8}
use Rattle.evolve.proofs.Stepped.{part_at}
use Rattle.evolve.proofs.laws.parts_are_values.Goals as goal

pub returns : goal.returns
returns c t u p v w a e h q = part_at IsUtf8 p.steps t u v w a e h q

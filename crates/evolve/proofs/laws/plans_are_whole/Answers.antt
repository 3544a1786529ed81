use Rattle.evolve.proofs.Many.{many}
use Rattle.evolve.proofs.laws.plans_are_whole.Goals as goal

pub returns : goal.returns
returns c d t h = many d.relaxed t d.tree 0 h

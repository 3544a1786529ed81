use Rattle.std.specs.Str.{IsUtf8}
use Rattle.evolve.proofs.Bound.{clear, binding}
use Rattle.evolve.proofs.OwnKinds.{own, same_kinds}
use Rattle.evolve.proofs.laws.binding_has_one_answer.Goals as goal

pub returns-clause-one : goal.returns-clause-one
returns-clause-one c d t = (clear d.relaxed t d.tree, binding d.relaxed t d.tree)

pub returns-clause-own : goal.returns-clause-own
returns-clause-own c d t a e = own IsUtf8 d.relaxed t a (same_kinds t d.tree e)

use Rattle.std.specs.Str.{IsUtf8}
use Rattle.type_kinds.specs.KindsOf.{kinds_of}
use Rattle.type_kinds.proofs.Forms.{accepted_short}
use Rattle.evolve.proofs.Projected.{projected}
use Rattle.evolve.proofs.Itself.{stays, of_same_kinds}
use Rattle.evolve.proofs.laws.projection_is_a_value.Goals as goal

pub returns-clause-formed : goal.returns-clause-formed
returns-clause-formed c d t v a s b h = projected d.relaxed t d.tree (accepted_short t a s) b h

pub returns-clause-same : goal.returns-clause-same
returns-clause-same c l t v a e h = stays IsUtf8 t a (of_same_kinds l (kinds_of t) e h)

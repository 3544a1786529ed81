use Rattle.type_kinds.proofs.Forms.{default_is, accepted_short}
use Rattle.type_kinds.proofs.defaults_are_values.Goals as goal

pub returns : goal.returns
returns c t a h = default_is t (accepted_short t a h)

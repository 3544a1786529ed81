use Rattle.frozen_model.proofs.Digits.{complement_fits, signed-complement}
use Rattle.frozen_model.proofs.bit_laws.complement_is_inverse.Goals as goal

pub returns : goal.returns
returns c w x h = (complement_fits w x h, signed-complement w x h)

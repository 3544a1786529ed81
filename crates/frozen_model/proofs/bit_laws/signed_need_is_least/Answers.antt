use Rattle.frozen_model.proofs.Digits.{signed_range, range_signed}
use Rattle.frozen_model.proofs.bit_laws.signed_need_is_least.Goals as goal

pub returns : goal.returns
returns c x w some = (λ h. signed_range x w some h, λ h. range_signed x w some h.0 h.1)

use Rattle.frozen_model.proofs.Digits.{digits_below, digits_within}
use Rattle.frozen_model.proofs.bit_laws.unsigned_need_is_least.Goals as goal

pub returns : goal.returns
returns c x w = (λ h. digits_below x w h, λ h. digits_within x w h)

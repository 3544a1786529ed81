use Rattle.frozen_model.proofs.Digits.{signed_is}
use Rattle.frozen_model.proofs.bit_laws.signed_is_inverse.Goals as goal

pub returns : goal.returns
returns c w n h = let s = signed_is w n h in (s.fits, s.back)

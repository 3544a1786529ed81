use Rattle.frozen_model.proofs.Digits.{bits-injective}
use Rattle.frozen_model.proofs.bit_laws.bits_are_injective.Goals as goal

pub returns : goal.returns
returns c w m n hm hn h = bits-injective w m n hm hn h

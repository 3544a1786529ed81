use Rattle.std.proofs.Common.{◌≤◌, sym, subst, arith}
use Rattle.frozen_model.specs.Bits.{need_signed}
use Rattle.frozen_model.proofs.Digits.{needs_none}
use Rattle.frozen_model.proofs.bit_laws.only_zero_needs_none.Goals as goal

pub returns : goal.returns
returns c x = (λ h. needs_none x h, λ e. subst (λ z. need_signed z ≤ 0) (sym e) (omega arith))

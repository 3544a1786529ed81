use Rattle.std.proofs.Common.{rules, ◌≡◌, ◌+◌, ◌≤◌, zero, suc, ℤ, pos, negsuc, w64, arith}
use mir.Val.{SFits}
use Rattle.frozen_model.specs.Bits.{need_signed}
use Rattle.frozen_model.proofs.Digits.{digits_within}
use Rattle.bit_field.proofs.need.need_signed.Goals as goal

-- a number of 64 bits needs no more
most : (x : ℤ) → SFits w64 x → need_signed x ≤ 64
most (pos zero) h = omega arith
most (pos (suc n)) h = omega (arith, digits_within (suc n) 63 h.sfits)
most (negsuc n) h = omega (arith, digits_within n 63 h.sfits)

pub returns-then-x-gt0-clause-most : goal.returns-then-x-gt0-clause-most
returns-then-x-gt0-clause-most c =
    let e : c.need_unsigned.result + 1 ≡ need_signed c.args.x = search rules in
    omega (arith, e, most c.args.x c.ranges.x)

pub returns-else-x-gt0-clause-most : goal.returns-else-x-gt0-clause-most
returns-else-x-gt0-clause-most c =
    let e : c.need_unsigned-else-x-gt0.result + 1 ≡ need_signed c.args.x = search rules in
    omega (arith, e, most c.args.x c.ranges.x)

use Rattle.std.proofs.Common.{◌≡◌, ◌<◌, ◌-◌, ◌^◌, ℕ, arith, sym, ◌∙◌}
use Rattle.std.proofs.lemmas.Nat.{leading_length}
use Rattle.std.specs.Int.Count.{count_leading_zeros}
use Rattle.frozen_model.specs.Bits.{digits}
use Rattle.frozen_model.proofs.Digits.{digits_exact}
use Rattle.bit_field.proofs.need.need_unsigned.Goals as goal

leading : (x : ℕ) → x < 2 ^ 64 → 64 - count_leading_zeros 64 x ≡ digits x
leading x h =
    let r = leading_length 64 x h in
    let e : r.0 ≡ 64 - count_leading_zeros 64 x = omega (arith, r.1) in
    sym e ∙ sym (digits_exact x r.0 r.2 r.3)

pub returns-clause-need : goal.returns-clause-need
returns-clause-need c = leading c.args.x c.ranges.x.fits

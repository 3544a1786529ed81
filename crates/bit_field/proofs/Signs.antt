-- The sign of a number in two's complement.
use Rattle.std.proofs.Common.{◌≡◌, ℕ, zero, suc, ◌+◌, ◌-◌, ◌*◌, ◌/◌, ◌^◌, ◌<◌, ◌≤◌, ap, ◌∙◌, arith, pos, negsuc, w64}
use Rattle.std.proofs.lemmas.Int.{to_z-of_z, to_z_pos}
use Rattle.std.proofs.lemmas.Bool.Decides.{nat_tests}
use Rattle.std.proofs.lemmas.Nat.{pow_pos}
use Rattle.std.proofs.Math.Pow.{pow_mono}
use mir.Val.{SFits, to_z, of_z}
use Rattle.frozen_model.specs.Bits.{signed}
use Rattle.frozen_model.proofs.Digits.{half_of}

half_below : (w : ℕ) → w ≤ 64 → 2 ^ (w - 1) ≤ 2 ^ 63
half_below w le = let p : w - 1 ≤ 63 = omega arith in pow_mono p

low_half : (w x : ℕ) → x ≤ (2 ^ w - 1) / 2 ^ 1 → x < 2 ^ (w - 1)
low_half zero x h = omega (arith, pow_pos (zero - 1))
low_half (suc v) x h = omega (arith, half_of (suc v) (omega arith), pow_pos (suc v - 1))

high_half : (w x : ℕ) → x < 2 ^ w → (2 ^ w - 1) / 2 ^ 1 < x → 1 ≤ w
high_half zero x fits h = absurd (omega arith)
high_half (suc v) x fits h = omega arith

pub low_sign : (w x mask : ℕ) → w ≤ 64 → mask ≡ 2 ^ w - 1 → x ≤ mask / 2 ^ 1 → to_z w64 (x + 0) ≡ signed w x
low_sign w x mask le m low =
    let lt : x < 2 ^ (w - 1) = low_half w x (rw m at low) in
    let fits : x + 0 < 2 ^ 63 = omega (arith, half_below w le) in
    let zero_off : x + 0 ≡ x = omega arith in
    let is : pos x ≡ signed w x = grind (arith, nat_tests) in
    to_z_pos w64 (x + 0) fits ∙ ap pos zero_off ∙ is

pub high_sign : (w x mask : ℕ) → w ≤ 64 → x < 2 ^ w → mask ≡ 2 ^ w - 1 → mask / 2 ^ 1 < x → to_z w64 (x + (18446744073709551615 - mask)) ≡ signed w x
high_sign w x mask le fits m high =
    let over : (2 ^ w - 1) / 2 ^ 1 < x = rw m at high in
    let half : 2 ^ w ≡ 2 * 2 ^ (w - 1) = half_of w (high_half w x fits over) in
    let p : 2 ^ (w - 1) ≤ 2 ^ 63 = half_below w le in
    let q : 0 < 2 ^ (w - 1) = pow_pos (w - 1) in
    let above : 2 ^ (w - 1) ≤ x = omega arith in
    let low : 2 ^ w - suc x < 2 ^ 63 = omega arith in
    let sfits : SFits w64 (negsuc (2 ^ w - suc x)) = record { sfits = low } in
    let same : x + (18446744073709551615 - mask) ≡ of_z w64 (negsuc (2 ^ w - suc x)) = omega arith in
    let is : negsuc (2 ^ w - suc x) ≡ signed w x = grind (arith, nat_tests) in
    ap (to_z w64) same ∙ to_z-of_z w64 (negsuc (2 ^ w - suc x)) sfits ∙ is

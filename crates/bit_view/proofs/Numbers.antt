-- Numbers of 64 bits.
use Rattle.std.proofs.Common.{◌≡◌, ◌∙◌, ◌<◌, ◌^◌, ℕ, ℤ, pos, negsuc, ap, sym, arith, w64, ◌+ℤ◌, to_z, of_z}
use Rattle.std.specs.Int.{w128}
use Rattle.std.specs.Prelude.{FitsSigned}
use Rattle.std.proofs.lemmas.Int.{to_z-of_z}
use Rattle.frozen_model.specs.Values.{One, Number}
use Rattle.bit_view.proofs.Shapes.{far}

pub fits_far : (z : ℤ) → far (One (Number z)) < 2 ^ 63 → FitsSigned w64 z
fits_far (pos n) h = omega (arith, h)
fits_far (negsuc n) h = omega (arith, h)

in_128_bits : (z : ℤ) → FitsSigned w64 z → FitsSigned w128 z
in_128_bits (pos n) h = omega (arith, h)
in_128_bits (negsuc n) h = omega (arith, h)

-- the sum of a base and of what stands above it is the number that was stored
pub sum_is : (x y b z : ℤ) (n : ℕ) → x ≡ b → y ≡ pos n → FitsSigned w64 b → n < 2 ^ 64 → z ≡ b +ℤ pos n
    → FitsSigned w64 z
    → to_z w128 (of_z w128 (to_z w128 (of_z w128 x) +ℤ to_z w128 (of_z w128 y))) ≡ z
sum_is x y b z n ex ey fb lt ez fz =
    let sx : to_z w128 (of_z w128 x) ≡ b =
    ap (λ k. to_z w128 (of_z w128 k)) ex ∙ to_z-of_z w128 b (in_128_bits b fb) in
    let fn : FitsSigned w128 (pos n) = omega arith in
    let sy : to_z w128 (of_z w128 y) ≡ pos n =
    ap (λ k. to_z w128 (of_z w128 k)) ey ∙ to_z-of_z w128 (pos n) fn in
    ap (λ k. to_z w128 (of_z w128 (k +ℤ to_z w128 (of_z w128 y)))) sx
    ∙ ap (λ k. to_z w128 (of_z w128 (b +ℤ k))) sy ∙ ap (λ k. to_z w128 (of_z w128 k)) (sym ez)
    ∙ to_z-of_z w128 z (in_128_bits z fz)

-- How many binary digits a number needs, and two's complement.
use Rattle.std.proofs.Common.{◌≡◌, ℕ, zero, suc, ◌+◌, ◌-◌, ◌*◌, ◌/◌, ◌%◌, ◌^◌, ◌≤◌, ◌<◌, Bool, true, false, arith, refl, ap, sym, ◌∙◌, nat_eq, nat_lt, ℤ, pos, negsuc, ◌-ℤ◌, ◌≤ℤ◌, ◌<ℤ◌, inl, inr, if◌then◌else◌}
use Rattle.std.proofs.lemmas.Bool.{cases_lt}
use Rattle.std.proofs.lemmas.Bool.Decides.{nat_tests}
use Rattle.std.proofs.lemmas.Int.{ints}
use Rattle.std.proofs.Math.Pow.{pow_mono}
use Rattle.std.proofs.Math.Nat.{pow-suc}
use Rattle.std.proofs.lemmas.Nat.{pow_pos}
use Rattle.frozen_model.specs.Bits.{bits, count_digits, digits, need_signed, complement, signed}

pub count_below : (depth n w : ℕ) → n ≤ depth → count_digits depth n ≤ w → n < 2 ^ w
count_below zero n w hd h = omega (arith, pow_pos w)
count_below (suc d) zero w hd h = omega (arith, pow_pos w)
count_below (suc d) (suc n) zero hd h = absurd (omega arith)
count_below (suc d) (suc n) (suc w) hd h = omega (arith, count_below d (suc n / 2) w (omega arith) (omega arith), pow-suc 2 w)

pub count_within : (depth n w : ℕ) → n ≤ depth → n < 2 ^ w → count_digits depth n ≤ w
count_within zero n w hd h = omega arith
count_within (suc d) zero w hd h = omega arith
count_within (suc d) (suc n) zero hd h = absurd (omega arith)
count_within (suc d) (suc n) (suc w) hd h = omega (arith, count_within d (suc n / 2) w (omega arith) (omega (arith, pow-suc 2 w)))

-- a number of at most w digits is below 2 ^ w
pub digits_below : (n w : ℕ) → digits n ≤ w → n < 2 ^ w
unfolding digits
digits_below n w h = count_below n n w (omega arith) h

pub digits_within : (n w : ℕ) → n < 2 ^ w → digits n ≤ w
unfolding digits
digits_within n w h = count_within n n w (omega arith) h

le_exact : (n w d : ℕ) → d ≤ w → n < 2 ^ d → 2 ^ w ≤ 2 * n + 1 → d ≡ w
le_exact n w d up self least = elim (cases_lt d w) [
  | inl lt ↦
      let more : suc d ≤ w = omega arith in
      let p : 2 ^ suc d ≤ 2 ^ w = pow_mono more in
      absurd (omega (arith, pow-suc 2 d))
  | inr le ↦ omega arith
]

-- the least width that holds a number
pub digits_exact : (n w : ℕ) → n < 2 ^ w → 2 ^ w ≤ 2 * n + 1 → digits n ≡ w
digits_exact n w fits least =
    let up : digits n ≤ w = digits_within n w fits in
    let self : n < 2 ^ digits n = digits_below n (digits n) (omega arith) in
    le_exact n w (digits n) up self least

-- two numbers of w bits with the same digits are one
same_parity : (m n : ℕ) → nat_eq (m % 2) 1 ≡ nat_eq (n % 2) 1 → m % 2 ≡ n % 2
same_parity m n h = grind (arith, nat_tests)

pub bits-injective : (w m n : ℕ) → m < 2 ^ w → n < 2 ^ w → bits w m ≡ bits w n → m ≡ n
bits-injective zero m n hm hn h = omega arith
bits-injective (suc w) m n hm hn h =
    let here : nat_eq (m % 2) 1 ≡ nat_eq (n % 2) 1 = cc in
    let rest : bits w (m / 2) ≡ bits w (n / 2) = cc in
    omega (arith, same_parity m n here, bits-injective w (m / 2) (n / 2) (omega (arith, pow-suc 2 w)) (omega (arith, pow-suc 2 w)) rest)

pub digits_mono : (m n : ℕ) → m ≤ n → digits m ≤ digits n
digits_mono m n le = digits_within m (digits n) (omega (arith, digits_below n (digits n) (omega arith)))

pub some_digits : (n : ℕ) → 0 < n → 1 ≤ digits n
some_digits n some = elim (cases_lt 0 (digits n)) [
  | inl lt ↦ omega arith
  | inr le ↦ absurd (omega (arith, digits_below n 0 le))
]

-- half of a number has a digit less
pub digits_half : (n : ℕ) → 0 < n → suc (digits (n / 2)) ≤ digits n
digits_half n some =
    let one : 1 ≤ digits n = some_digits n some in
    let e : suc (digits n - 1) ≡ digits n = omega arith in
    let p : 2 ^ digits n ≡ 2 * 2 ^ (digits n - 1) = ap (λ z. 2 ^ z) (sym e) ∙ omega (arith, pow-suc 2 (digits n - 1)) in
    let half : n / 2 < 2 ^ (digits n - 1) = omega (arith, digits_below n (digits n) (omega arith)) in
    omega (arith, digits_within (n / 2) (digits n - 1) half)

-- ---- two's complement

-- half of the numbers of w bits
pub half_of : (w : ℕ) → 1 ≤ w → 2 ^ w ≡ 2 * 2 ^ (w - 1)
half_of zero h = absurd (omega arith)
half_of (suc v) h = let e : suc v - 1 ≡ v = omega arith in rw e (omega (arith, pow-suc 2 v))

half_fits : (n w : ℕ) → suc (digits n) ≤ w → n < 2 ^ (w - 1)
half_fits n w h = digits_below n (w - 1) (omega arith)

half_within : (n w : ℕ) → 1 ≤ w → n < 2 ^ (w - 1) → suc (digits n) ≤ w
half_within n w some h = omega (arith, digits_within n (w - 1) h)

-- a number that is not 0 has a width
wide : (n w : ℕ) → suc n < 2 ^ w → 1 ≤ w
wide n zero h = absurd (omega arith)
wide n (suc w) h = omega arith

pub complement_fits : (w : ℕ) (z : ℤ) → need_signed z ≤ w → complement w z < 2 ^ w
complement_fits w (pos zero) h = pow_pos w
complement_fits w (pos (suc n)) h = omega (arith, half_fits (suc n) w h, half_of w (omega arith))
complement_fits w (negsuc n) h = omega (arith, pow_pos w)

-- a number of w bits as a signed one: it needs no more bits, and its complement is the number
pub record IsSigned (w n : ℕ) (z : ℤ) : Type 0 where
  pub fits : need_signed z ≤ w
  pub back : complement w z ≡ n

positive : (w n : ℕ) → n < 2 ^ w → n < 2 ^ (w - 1) → IsSigned w n (pos n)
positive w zero fits lt = record { fits = omega arith; back = refl }
positive w (suc n) fits lt = record { fits = half_within (suc n) w (wide n w fits) lt; back = refl }

some_width : (w n : ℕ) → n < 2 ^ w → 2 ^ (w - 1) ≤ n → 1 ≤ w
some_width zero n fits le = absurd (omega arith)
some_width (suc w) n fits le = omega arith

negative : (w n : ℕ) → n < 2 ^ w → 2 ^ (w - 1) ≤ n → IsSigned w n (negsuc (2 ^ w - suc n))
negative w n fits le =
    let some : 1 ≤ w = some_width w n fits le in
    record { fits = half_within (2 ^ w - suc n) w some (omega (arith, half_of w some)); back = omega arith }

pub signed_is : (w n : ℕ) → n < 2 ^ w → IsSigned w n (signed w n)
signed_is w n h = go (nat_lt n (2 ^ (w - 1))) refl
  where
    go : (b : Bool) → nat_lt n (2 ^ (w - 1)) ≡ b → IsSigned w n (if b then pos n else negsuc (2 ^ w - suc n))
    go true e = positive w n h (grind (arith, nat_tests))
    go false e = negative w n h (grind (arith, nat_tests))

-- a signed number is what its complement means
pub signed-complement : (w : ℕ) (z : ℤ) → need_signed z ≤ w → signed w (complement w z) ≡ z
signed-complement w (pos zero) h = let p : 0 < 2 ^ (w - 1) = pow_pos (w - 1) in grind (arith, nat_tests)
signed-complement w (pos (suc n)) h = let p : suc n < 2 ^ (w - 1) = half_fits (suc n) w h in grind (arith, nat_tests)
signed-complement w (negsuc n) h =
    let p : n < 2 ^ (w - 1) = half_fits n w h in
    let e : 2 ^ w ≡ 2 * 2 ^ (w - 1) = half_of w (omega arith) in
    let low : 2 ^ (w - 1) ≤ 2 ^ w - suc n = omega arith in
    let back : 2 ^ w - suc (2 ^ w - suc n) ≡ n = omega arith in
    let is : signed w (2 ^ w - suc n) ≡ negsuc (2 ^ w - suc (2 ^ w - suc n)) = grind (arith, nat_tests) in
    is ∙ ap negsuc back

-- ---- needs as ranges

pub signed_range : (z : ℤ) (w : ℕ) → 1 ≤ w → need_signed z ≤ w → ((pos 0 -ℤ pos (2 ^ (w - 1))) ≤ℤ z) × (z <ℤ pos (2 ^ (w - 1)))
signed_range (pos zero) w some h = (omega (arith, ints, pow_pos (w - 1)), omega (arith, ints, pow_pos (w - 1)))
signed_range (pos (suc n)) w some h = (omega (arith, ints, half_fits (suc n) w h), omega (arith, ints, half_fits (suc n) w h))
signed_range (negsuc n) w some h = (omega (arith, ints, half_fits n w h), omega (arith, ints, half_fits n w h))

pub range_signed : (z : ℤ) (w : ℕ) → 1 ≤ w → (pos 0 -ℤ pos (2 ^ (w - 1))) ≤ℤ z → z <ℤ pos (2 ^ (w - 1)) → need_signed z ≤ w
range_signed (pos zero) w some low high = omega arith
range_signed (pos (suc n)) w some low high = half_within (suc n) w some (omega (arith, ints))
range_signed (negsuc n) w some low high = half_within n w some (omega (arith, ints))

pub needs_none : (z : ℤ) → need_signed z ≤ 0 → z ≡ pos 0
needs_none (pos zero) h = refl
needs_none (pos (suc n)) h = absurd (omega arith)
needs_none (negsuc n) h = absurd (omega arith)

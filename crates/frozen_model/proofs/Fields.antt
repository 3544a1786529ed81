-- Bits as numbers: a field of bits is a quotient and a remainder of the number that bytes write.
use Rattle.std.proofs.Common.{◌≡◌, ℕ, zero, suc, ◌+◌, ◌-◌, ◌*◌, ◌/◌, ◌%◌, ◌^◌, ◌<◌, ◌≤◌, List, [], ◌∷◌, ◌++◌, Bool, false, length, get_or, take, drop, refl, ap, sym, ◌∙◌, subst, arith, nat_eq}
use Rattle.std.proofs.lemmas.Nat.{shr-shr, mod_low, mod-pow-add, field_of, pow_pos, pow-add, mod_below, shr_high, shr_split}
use Rattle.std.proofs.lemmas.List.{get_or-drop}
use Rattle.std.proofs.Math.Pow.{mod-mod-pow}
use Rattle.std.proofs.Math.Nat.{zero-div, pow-suc}
use Rattle.std.proofs.lemmas.Bool.Decides.{nat_tests}
use Rattle.std.specs.List.{All}
use Rattle.frozen_model.specs.Bits.{bits, bits_of, number, field}
use Rattle.frozen_model.specs.BitLaws.{IsBytes}

-- ---- binary digits of a number

halves : (n i : ℕ) → n / 2 / 2 ^ i ≡ n / 2 ^ suc i
halves n i = let e : suc i ≡ 1 + i = omega arith in shr-shr n 1 i ∙ ap (λ z. n / 2 ^ z) (sym e)

pub length-bits : (w n : ℕ) → length (bits w n) ≡ w
length-bits zero n = refl
length-bits (suc w) n = ap suc (length-bits w (n / 2))

pub length_bits_of : (bs : List ℕ) → length (bits_of bs) ≡ 8 * length bs
length_bits_of [] = omega arith
length_bits_of (b ∷ bs) = omega (arith, length_bits_of bs)

-- the w lowest digits are those of the remainder
pub bits-mod : (w n : ℕ) → bits w (n % 2 ^ w) ≡ bits w n
bits-mod zero n = refl
bits-mod (suc w) n =
    let e : suc w ≡ w + 1 = omega arith in
    let low : n % 2 ^ suc w % 2 ≡ n % 2 = ap (λ z. n % 2 ^ z % 2) e ∙ mod-mod-pow n w 1 in
    let high : n % 2 ^ suc w / 2 ≡ n / 2 % 2 ^ w = ap (λ z. n % 2 ^ z / 2) e ∙ field_of n w 1 in
    ap (λ z. nat_eq z 1 ∷ bits w (n % 2 ^ suc w / 2)) low ∙ ap (λ z. nat_eq (n % 2) 1 ∷ bits w z) high
    ∙ ap (λ z. nat_eq (n % 2) 1 ∷ z) (bits-mod w (n / 2))

-- digits in two parts
pub bits-add : (v w n : ℕ) → bits (v + w) n ≡ bits v n ++ bits w (n / 2 ^ v)
bits-add zero w n =
    let e : 0 + w ≡ w = omega arith in
    let f : n ≡ n / 2 ^ 0 = omega arith in
    ap (λ z. bits z n) e ∙ ap (bits w) f
bits-add (suc v) w n =
    let e : suc v + w ≡ suc (v + w) = omega arith in
    ap (λ z. bits z n) e ∙ ap (λ z. nat_eq (n % 2) 1 ∷ z) (bits-add v w (n / 2))
    ∙ ap (λ z. nat_eq (n % 2) 1 ∷ (bits v (n / 2) ++ bits w z)) (halves n v)

pub take-bits : (k m n : ℕ) → take k (bits (k + m) n) ≡ bits k n
take-bits zero m n = refl
take-bits (suc k) m n =
    let e : suc k + m ≡ suc (k + m) = omega arith in
    ap (λ z. take (suc k) (bits z n)) e ∙ ap (λ z. nat_eq (n % 2) 1 ∷ z) (take-bits k m (n / 2))

pub drop-bits : (k m n : ℕ) → drop k (bits (k + m) n) ≡ bits m (n / 2 ^ k)
drop-bits zero m n =
    let e : 0 + m ≡ m = omega arith in
    let f : n ≡ n / 2 ^ 0 = omega arith in
    ap (λ z. bits z n) e ∙ ap (bits m) f
drop-bits (suc k) m n =
    let e : suc k + m ≡ suc (k + m) = omega arith in
    ap (λ z. drop (suc k) (bits z n)) e ∙ drop-bits k m (n / 2) ∙ ap (bits m) (halves n k)

-- ---- the number that bytes write

pub bits_of_number : (bs : List ℕ) → IsBytes bs → bits_of bs ≡ bits (8 * length bs) (number bs)
bits_of_number [] h = refl
bits_of_number (b ∷ bs) h =
    let hb : b < 2 ^ 8 = h 0 in
    let n : ℕ = b + 256 * number bs in
    let e : 8 * suc (length bs) ≡ 8 + 8 * length bs = omega arith in
    let low : n % 2 ^ 8 ≡ b = omega arith in
    let high : n / 2 ^ 8 ≡ number bs = omega arith in
    let here : bits 8 n ≡ bits 8 b = sym (bits-mod 8 n) ∙ ap (bits 8) low in
    let rest : bits_of bs ≡ bits (8 * length bs) (number bs) = bits_of_number bs (λ k. h (suc k)) in
    ap (λ z. bits 8 b ++ z) rest
    ∙ ap (λ z. bits 8 b ++ bits (8 * length bs) z) (sym high)
    ∙ ap (λ z. z ++ bits (8 * length bs) (n / 2 ^ 8)) (sym here)
    ∙ sym (bits-add 8 (8 * length bs) n)
    ∙ ap (λ z. bits z n) (sym e)

-- the bits of a field
pub bits-field : (bs : List ℕ) (bit w : ℕ) → IsBytes bs → bit + w ≤ 8 * length bs → take w (drop bit (bits_of bs)) ≡ bits w (field bs bit w)
unfolding field
bits-field bs bit w h inside =
    let r : ℕ = 8 * length bs - (bit + w) in
    let e : 8 * length bs ≡ bit + (w + r) = omega arith in
    ap (λ z. take w (drop bit z)) (bits_of_number bs h)
    ∙ ap (λ z. take w (drop bit (bits z (number bs)))) e
    ∙ ap (take w) (drop-bits bit (w + r) (number bs))
    ∙ take-bits w r (number bs / 2 ^ bit)
    ∙ sym (bits-mod w (number bs / 2 ^ bit))

-- the number after a field was replaced, in its three parts
pub replaced_parts : (P Q L F H x m n : ℕ) → m ≡ (H * Q + F) * P + L → n + F * P ≡ m + x * P → n ≡ (H * Q + x) * P + L
replaced_parts P Q L F H x m n is step = omega arith

-- where a number replaces a field, its bits stand there and all others stay
pub bits-replaced : (old new : List ℕ) (bit w x : ℕ) → IsBytes old → IsBytes new → length new ≡ length old → bit + w ≤ 8 * length old → x < 2 ^ w
    → number new + field old bit w * 2 ^ bit ≡ number old + x * 2 ^ bit
    → bits_of new ≡ take bit (bits_of old) ++ (bits w x ++ drop (bit + w) (bits_of old))
unfolding field
bits-replaced old new bit w x ho hn long inside fits step =
    let m : ℕ = number old in
    let n : ℕ = number new in
    let r : ℕ = 8 * length old - (bit + w) in
    let e : 8 * length old ≡ bit + (w + r) = omega arith in
    let e2 : 8 * length old ≡ (bit + w) + r = omega arith in
    let en : 8 * length new ≡ bit + (w + r) = omega arith in
    let F : ℕ = m / 2 ^ bit % 2 ^ w in
    let H : ℕ = m / 2 ^ bit / 2 ^ w in
    let L : ℕ = m % 2 ^ bit in
    let is : m ≡ (H * 2 ^ w + F) * 2 ^ bit + L =
    sym (shr_split m bit) ∙ ap (λ z. z * 2 ^ bit + L) (sym (shr_split (m / 2 ^ bit) w)) in
    let sum : n ≡ (H * 2 ^ w + x) * 2 ^ bit + L = replaced_parts (2 ^ bit) (2 ^ w) L F H x m n is step in
    let low_fits : L < 2 ^ bit = mod_below m (2 ^ bit) (pow_pos bit) in
    let low : n % 2 ^ bit ≡ m % 2 ^ bit = ap (λ z. z % 2 ^ bit) sum ∙ mod_low (H * 2 ^ w + x) bit L low_fits in
    let up : n / 2 ^ bit ≡ H * 2 ^ w + x = ap (λ z. z / 2 ^ bit) sum ∙ shr_high (H * 2 ^ w + x) bit L low_fits in
    let mid : n / 2 ^ bit % 2 ^ w ≡ x = ap (λ z. z % 2 ^ w) up ∙ mod_low H w x fits in
    let top : n / 2 ^ bit / 2 ^ w ≡ m / 2 ^ (bit + w) = ap (λ z. z / 2 ^ w) up ∙ shr_high H w x fits ∙ shr-shr m bit w in
    let bits_old : bits_of old ≡ bits (8 * length old) m = bits_of_number old ho in
    let first : take bit (bits_of old) ≡ bits bit n =
    ap (take bit) (bits_old ∙ ap (λ z. bits z m) e) ∙ take-bits bit (w + r) m ∙ sym (bits-mod bit m) ∙ ap (bits bit) (sym low) ∙ bits-mod bit n in
    let second : bits w x ≡ bits w (n / 2 ^ bit) = ap (bits w) (sym mid) ∙ bits-mod w (n / 2 ^ bit) in
    let third : drop (bit + w) (bits_of old) ≡ bits r (n / 2 ^ bit / 2 ^ w) =
    ap (drop (bit + w)) (bits_old ∙ ap (λ z. bits z m) e2) ∙ drop-bits (bit + w) r m ∙ ap (bits r) (sym top) in
    bits_of_number new hn ∙ ap (λ z. bits z n) en ∙ bits-add bit (w + r) n ∙ ap (λ z. bits bit n ++ z) (bits-add w r (n / 2 ^ bit))
    ∙ sym (ap (λ z. z ++ (bits w x ++ drop (bit + w) (bits_of old))) first
    ∙ ap (λ z. bits bit n ++ (z ++ drop (bit + w) (bits_of old))) second
    ∙ ap (λ z. bits bit n ++ (bits w (n / 2 ^ bit) ++ z)) third)

-- ---- fields in the number that bytes write

pub number-rest : (bs : List ℕ) (i : ℕ) → number (drop i bs) ≡ get_or bs i 0 + 256 * number (drop (suc i) bs)
number-rest [] zero = refl
number-rest [] (suc i) = refl
number-rest (b ∷ bs) zero = refl
number-rest (b ∷ bs) (suc i) = number-rest bs i

pub number-append : (xs ys : List ℕ) → number (xs ++ ys) ≡ number xs + 2 ^ (8 * length xs) * number ys
number-append [] ys = omega arith
number-append (x ∷ xs) ys =
    let e : 8 * suc (length xs) ≡ 8 + 8 * length xs = omega arith in
    rw (e, pow-add 2 8 (8 * length xs)) (omega (arith, number-append xs ys))

-- from a byte on, the number is what a shift leaves
pub number-drop : (bs : List ℕ) (i : ℕ) → IsBytes bs → number bs / 2 ^ (8 * i) ≡ number (drop i bs)
number-drop bs zero h = omega arith
number-drop [] (suc i) h = zero-div _
number-drop (b ∷ bs) (suc i) h =
    let hb : b < 256 = h 0 in
    let e : 8 * suc i ≡ 8 + 8 * i = omega arith in
    let s : (b + 256 * number bs) / 2 ^ 8 ≡ number bs = omega arith in
    rw e (sym (shr-shr (b + 256 * number bs) 8 (8 * i)) ∙ ap (λ n. n / 2 ^ (8 * i)) s ∙ number-drop bs i (λ k. h (suc k)))

pub bytes-drop : (bs : List ℕ) (i : ℕ) → IsBytes bs → IsBytes (drop i bs)
bytes-drop bs i h k = rw (get_or-drop i bs k 0) (h (i + k))

-- a field, counted from one of the bytes before it
pub field-drop : (bs : List ℕ) (q k w : ℕ) → IsBytes bs → field bs (8 * q + k) w ≡ number (drop q bs) / 2 ^ k % 2 ^ w
unfolding field
field-drop bs q k w h =
    ap (λ z. z % 2 ^ w) (sym (shr-shr (number bs) (8 * q) k)) ∙ ap (λ z. z / 2 ^ k % 2 ^ w) (number-drop bs q h)

pub field_fits : (bs : List ℕ) (bit w : ℕ) → field bs bit w < 2 ^ w
unfolding field
field_fits bs bit w = mod_below (number bs / 2 ^ bit) (2 ^ w) (pow_pos w)

pub field_none : (bs : List ℕ) (bit : ℕ) → field bs bit 0 ≡ 0
field_none bs bit = let f : field bs bit 0 < 2 ^ 0 = field_fits bs bit 0 in omega arith

-- a field in two parts
pub field-add : (bs : List ℕ) (bit i j : ℕ) → field bs bit (i + j) ≡ field bs bit i + field bs (bit + i) j * 2 ^ i
unfolding field
field-add bs bit i j =
    let e : i + j ≡ j + i = omega arith in
    let two : number bs / 2 ^ bit / 2 ^ i % 2 ^ j ≡ number bs / 2 ^ (bit + i) % 2 ^ j = ap (λ z. z % 2 ^ j) (shr-shr (number bs) bit i) in
    rw e (omega (arith, mod-pow-add (number bs / 2 ^ bit) j i, ap (λ z. z * 2 ^ i) two))

-- a field within the lowest t bits of a number
pub low_field : (t n word w k : ℕ) → word ≡ n % 2 ^ t → w + k ≤ t → word / 2 ^ k % 2 ^ w ≡ n / 2 ^ k % 2 ^ w
low_field t n word w k is room =
    let e : t ≡ (t - (w + k)) + (w + k) = omega arith in
    let m : n % 2 ^ t % 2 ^ (w + k) ≡ n % 2 ^ (w + k) = subst (λ z. n % 2 ^ z % 2 ^ (w + k) ≡ n % 2 ^ (w + k)) (sym e) (mod-mod-pow n (t - (w + k)) (w + k)) in
    sym (field_of word w k) ∙ ap (λ z. z % 2 ^ (w + k) / 2 ^ k) is ∙ ap (λ z. z / 2 ^ k) m ∙ field_of n w k

-- ---- zeros

pub field_zero_add : (bs : List ℕ) (bit i j : ℕ) → field bs bit i ≡ 0 → field bs (bit + i) j ≡ 0 → field bs bit (i + j) ≡ 0
field_zero_add bs bit i j a b = field-add bs bit i j ∙ ap (λ z. field bs bit i + z * 2 ^ i) b ∙ omega arith

pub field_zero_part : (bs : List ℕ) (bit i j : ℕ) → field bs bit (i + j) ≡ 0 → field bs (bit + i) j ≡ 0
field_zero_part bs bit i j h =
    let p : 0 < 2 ^ i = pow_pos i in
    let s : field bs bit (i + j) ≡ field bs bit i + field bs (bit + i) j * 2 ^ i = field-add bs bit i j in
    let le : field bs (bit + i) j ≤ field bs (bit + i) j * 2 ^ i = grind arith in
    omega arith

even_digit : (n : ℕ) → nat_eq (n % 2) 1 ≡ false → n % 2 ≡ 0
even_digit n h = grind (arith, nat_tests)

bits_clear : (w k : ℕ) (d : Bool) → k < w → get_or (bits w 0) k d ≡ false
bits_clear zero k d h = absurd (omega arith)
bits_clear (suc w) zero d h = refl
bits_clear (suc w) (suc k) d h = bits_clear w k d (omega arith)

-- the bits of a number are all clear exactly where the number is 0
pub bits_zero : (w : ℕ) → All (λ b. b ≡ false) (bits w 0)
bits_zero w k d h = bits_clear w k d (omega (arith, length-bits w 0))

pub zero_bits : (w n : ℕ) → n < 2 ^ w → All (λ b. b ≡ false) (bits w n) → n ≡ 0
zero_bits zero n fits h = omega arith
zero_bits (suc w) n fits h =
    let here : nat_eq (n % 2) 1 ≡ false = h 0 false (omega arith) in
    let rest : n / 2 ≡ 0 = zero_bits w (n / 2) (omega (arith, pow-suc 2 w)) (λ k d lt. h (suc k) d (omega arith)) in
    omega (arith, even_digit n here)

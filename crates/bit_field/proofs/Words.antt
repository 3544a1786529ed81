-- Fields in a word of eight bytes, and over a part of the ninth.
use Rattle.std.proofs.Common.{◌≡◌, ℕ, zero, suc, ◌+◌, ◌-◌, ◌*◌, ◌/◌, ◌%◌, ◌^◌, ◌<◌, ◌≤◌, List, drop, ap, sym, ◌∙◌, arith, bit_and, add-zero}
use Rattle.std.proofs.lemmas.Nat.{mod_low, and_mask}
use Rattle.std.proofs.Math.Nat.{pow-suc}
use Rattle.byteorder.specs.Endian.{little_from, little_number}
use Rattle.frozen_model.specs.Bits.{number, field}
use Rattle.frozen_model.specs.BitLaws.{IsBytes}
use Rattle.frozen_model.proofs.Fields.{number-rest, field-drop, low_field}

-- the first bytes, and the rest
pub number_first : (bs : List ℕ) (i n : ℕ) → number (drop i bs) ≡ little_from i n bs + 256 ^ n * number (drop (i + n) bs)
number_first bs i zero = rw add-zero (omega arith)
number_first bs i (suc n) =
    let e : i + suc n ≡ suc i + n = omega arith in
    let p : 256 ^ suc n ≡ 256 * 256 ^ n = omega (arith, pow-suc 256 n) in
    rw (e, p) (omega (arith, number-rest bs i, number_first bs (suc i) n))

-- eight bytes are the lowest 64 bits of the number
pub word_of : (bs : List ℕ) (word : ℕ) → word < 2 ^ 64 → word ≡ little_number 8 bs → word ≡ number bs % 2 ^ 64
word_of bs word w is =
    let e : number bs ≡ number (drop 8 bs) * 2 ^ 64 + word = omega (arith, number_first bs 0 8) in
    rw e (sym (mod_low (number (drop 8 bs)) 64 word w))

-- what the shift and the mask of a word leave
pub word_field : (bs : List ℕ) (q k w word mask : ℕ) → IsBytes bs → word ≡ number (drop q bs) % 2 ^ 64 → mask ≡ 2 ^ w - 1 → k + w ≤ 64
    → bit_and (word / 2 ^ k) mask ≡ field bs (8 * q + k) w
word_field bs q k w word mask h is m room =
    let inside : w + k ≤ 64 = omega arith in
    ap (bit_and (word / 2 ^ k)) m ∙ and_mask (word / 2 ^ k) w ∙ low_field 64 (number (drop q bs)) word w k is inside ∙ sym (field-drop bs q k w h)

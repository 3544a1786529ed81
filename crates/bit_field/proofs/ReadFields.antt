-- Fields near the end of the bytes, and what a field says of its bits.
use Rattle.std.proofs.Common.{◌≡◌, ℕ, ℤ, ◌+◌, ◌-◌, ◌*◌, ◌/◌, ◌%◌, ◌^◌, ◌<◌, ◌≤◌, List, ◌++◌, false, length, get_or, take, drop, ap, sym, ◌∙◌, subst, arith, bit_and}
use Rattle.std.proofs.lemmas.Nat.{shr-shr, mod_low, mod-pow-add, pow_pos, mod_below, and_mask, shl_whole}
use Rattle.std.proofs.lemmas.List.{get_or-drop}
use Rattle.std.proofs.Math.Pow.{mod-mod-pow, pow_mono, shr_mod}
use Rattle.byteorder.specs.Endian.{little_number}
use Rattle.frozen_model.specs.Bits.{bits, bits_of, number, field, signed, complement, need_signed}
use Rattle.frozen_model.specs.BitLaws.{IsBytes}
use Rattle.frozen_model.proofs.Fields.{number-rest, number-append, number-drop, field-drop, field-add, field_fits, low_field, bytes-drop, bits-field, bits_zero, zero_bits, field_zero_add, field_zero_part}
use Rattle.frozen_model.proofs.Digits.{signed_is}
use Rattle.std.specs.List.{All}
use Rattle.bit_field.proofs.Words.{word_of}

-- ---- a slice of fewer than eight bytes, with zeros behind it

pub padded_field : (old front zeros : List ℕ) (bit w word mask : ℕ) → front ≡ old → number zeros ≡ 0 → word < 2 ^ 64 → word ≡ little_number 8 (front ++ zeros)
    → mask ≡ 2 ^ w - 1 → bit + w ≤ 64 → bit_and (word / 2 ^ bit) mask ≡ field old bit w
unfolding field
padded_field old front zeros bit w word mask e none wf is m room =
    let inside : w + bit ≤ 64 = omega arith in
    let same : number (front ++ zeros) ≡ number old =
    number-append front zeros ∙ omega (arith, ap (λ z. 2 ^ (8 * length front) * z) none) ∙ ap number e in
    let w64 : word ≡ number old % 2 ^ 64 = word_of (front ++ zeros) word wf is ∙ ap (λ z. z % 2 ^ 64) same in
    ap (bit_and (word / 2 ^ bit)) m ∙ and_mask (word / 2 ^ bit) w ∙ low_field 64 (number old) word w bit w64 inside

-- ---- eight bytes and a part of the ninth

-- the lowest bits of the ninth byte
ninth : (bs : List ℕ) (b : ℕ) → IsBytes bs → b ≤ 8 → number (drop 8 bs) % 2 ^ b ≡ get_or bs 8 0 % 2 ^ b
ninth bs b h le =
    let f : get_or bs 8 0 < 2 ^ 8 = h 8 in
    let e : number (drop 8 bs) ≡ number (drop 9 bs) * 2 ^ 8 + get_or bs 8 0 = omega (arith, number-rest bs 8) in
    let m : number (drop 8 bs) % 2 ^ 8 ≡ get_or bs 8 0 = rw e (mod_low (number (drop 9 bs)) 8 (get_or bs 8 0) f) in
    let s : 8 ≡ (8 - b) + b = omega arith in
    let c : number (drop 8 bs) % 2 ^ 8 % 2 ^ b ≡ number (drop 8 bs) % 2 ^ b =
    subst (λ z. number (drop 8 bs) % 2 ^ z % 2 ^ b ≡ number (drop 8 bs) % 2 ^ b) (sym s) (mod-mod-pow (number (drop 8 bs)) (8 - b) b) in
    sym c ∙ ap (λ z. z % 2 ^ b) m

across : (bs : List ℕ) (k a b word : ℕ) → IsBytes bs → word < 2 ^ 64 → word ≡ number bs % 2 ^ 64 → k + a ≡ 64 → b ≤ 8
    → number bs / 2 ^ k % 2 ^ (b + a) ≡ get_or bs 8 0 % 2 ^ b * 2 ^ a + word / 2 ^ k
across bs k a b word h wf m all le =
    let t : a + k ≡ 64 = omega arith in
    let small : word < 2 ^ (a + k) = rw t (omega arith) in
    let room : a + k ≤ 64 = omega arith in
    let low : number bs / 2 ^ k % 2 ^ a ≡ word / 2 ^ k = sym (low_field 64 (number bs) word a k m room) ∙ shr_mod a k small in
    let high : number bs / 2 ^ k / 2 ^ a ≡ number (drop 8 bs) = shr-shr (number bs) k a ∙ ap (λ z. number bs / 2 ^ z) all ∙ number-drop bs 8 h in
    mod-pow-add (number bs / 2 ^ k) b a ∙ ap (λ z. z % 2 ^ b * 2 ^ a + number bs / 2 ^ k % 2 ^ a) high
    ∙ ap (λ z. z * 2 ^ a + number bs / 2 ^ k % 2 ^ a) (ninth bs b h le) ∙ ap (λ z. get_or bs 8 0 % 2 ^ b * 2 ^ a + z) low

pub nine_field : (bs : List ℕ) (q k a b bit w word byte mask : ℕ) → IsBytes bs → word < 2 ^ 64 → word ≡ number (drop q bs) % 2 ^ 64 → byte ≡ get_or bs (q + 8) 0
    → 8 * q + k ≡ bit → k + a ≡ 64 → b + a ≡ w → k < 8 → w ≤ 64 → mask ≡ 2 ^ b - 1
    → word / 2 ^ k + bit_and byte mask * 2 ^ a % 18446744073709551616 ≡ field bs bit w
nine_field bs q k a b bit w word byte mask h wf is nine place all sum inner wide m =
    let small : b ≤ 8 = omega arith in
    let room : b + a ≤ 64 = omega arith in
    let at : byte ≡ get_or (drop q bs) 8 0 = nine ∙ sym (get_or-drop q bs 8 0) in
    let fit : byte % 2 ^ b < 2 ^ b = mod_below byte (2 ^ b) (pow_pos b) in
    let part : bit_and byte mask * 2 ^ a % 18446744073709551616 ≡ byte % 2 ^ b * 2 ^ a =
    ap (λ z. z * 2 ^ a % 18446744073709551616) (ap (bit_and byte) m ∙ and_mask byte b) ∙ shl_whole (byte % 2 ^ b) b a 64 fit room in
    let got : number (drop q bs) / 2 ^ k % 2 ^ (b + a) ≡ byte % 2 ^ b * 2 ^ a + word / 2 ^ k =
    across (drop q bs) k a b word (bytes-drop bs q h) wf is all small ∙ ap (λ z. z % 2 ^ b * 2 ^ a + word / 2 ^ k) (sym at) in
    let whole : field bs bit w ≡ byte % 2 ^ b * 2 ^ a + word / 2 ^ k =
    ap (λ z. field bs z w) (sym place) ∙ field-drop bs q k w h ∙ ap (λ z. number (drop q bs) / 2 ^ k % 2 ^ z) (sym sum) ∙ got in
    omega (arith, part, whole)

pub fits_word : (bs : List ℕ) (bit w x : ℕ) → w ≤ 64 → x ≡ field bs bit w → x < 2 ^ 64
fits_word bs bit w x le is =
    let f : field bs bit w < 2 ^ w = field_fits bs bit w in
    let p : 2 ^ w ≤ 2 ^ 64 = pow_mono le in
    omega arith

-- ---- what a field says of its bits

pub value_fits : (bs : List ℕ) (bit w x : ℕ) → x ≡ field bs bit w → x < 2 ^ w
value_fits bs bit w x is = rw is (field_fits bs bit w)

pub value_bits : (bs : List ℕ) (b bit w x : ℕ) → IsBytes bs → bit + w ≤ 8 * length bs → b ≡ bit → x ≡ field bs b w → take w (drop bit (bits_of bs)) ≡ bits w x
value_bits bs b bit w x h inside e is = bits-field bs bit w h inside ∙ ap (bits w) (sym (is ∙ ap (λ z. field bs z w) e))

pub signed_fits : (bs : List ℕ) (bit w : ℕ) (z : ℤ) → z ≡ signed w (field bs bit w) → need_signed z ≤ w
signed_fits bs bit w z is = rw is (signed_is w (field bs bit w) (field_fits bs bit w)).fits

pub signed_bits : (bs : List ℕ) (bit w : ℕ) (z : ℤ) → IsBytes bs → bit + w ≤ 8 * length bs → z ≡ signed w (field bs bit w)
    → take w (drop bit (bits_of bs)) ≡ bits w (complement w z)
signed_bits bs bit w z h inside is =
    bits-field bs bit w h inside
    ∙ ap (bits w) (sym (ap (complement w) is ∙ (signed_is w (field bs bit w) (field_fits bs bit w)).back))

-- ---- zeros

pub all_clear : (bs : List ℕ) (from n : ℕ) → IsBytes bs → from + n ≤ 8 * length bs → field bs from n ≡ 0 → All (λ b. b ≡ false) (take n (drop from (bits_of bs)))
all_clear bs from n h inside e =
    subst (λ z. All (λ b. b ≡ false) z) (sym (bits-field bs from n h inside ∙ ap (bits n) e)) (bits_zero n)

pub clear_all : (bs : List ℕ) (from n : ℕ) → IsBytes bs → from + n ≤ 8 * length bs → All (λ b. b ≡ false) (take n (drop from (bits_of bs))) → field bs from n ≡ 0
clear_all bs from n h inside all =
    zero_bits n (field bs from n) (field_fits bs from n) (subst (λ z. All (λ b. b ≡ false) z) (bits-field bs from n h inside) all)

-- a step of the loop over zeros
pub zero_step : (bs : List ℕ) (from at j to : ℕ) → from ≤ at → to ≡ at + j → field bs from (at - from) ≡ 0 → field bs at j ≡ 0 → field bs from (to - from) ≡ 0
zero_step bs from at j to le e a b =
    let here : from + (at - from) ≡ at = omega arith in
    let sum : (at - from) + j ≡ to - from = omega arith in
    subst (λ z. field bs from z ≡ 0) sum (field_zero_add bs from (at - from) j a (subst (λ z. field bs z j ≡ 0) (sym here) b))

-- and back: a part of zeros is zero
pub zero_within : (bs : List ℕ) (from at j to : ℕ) → from ≤ at → at + j ≤ to → field bs from (to - from) ≡ 0 → field bs at j ≡ 0
zero_within bs from at j to le inside h =
    let here : from + (at - from) ≡ at = omega arith in
    let sum : to - from ≡ (at - from) + (j + (to - (at + j))) = omega arith in
    let rest : field bs (from + (at - from)) (j + (to - (at + j))) ≡ 0 = field_zero_part bs from (at - from) (j + (to - (at + j))) (subst (λ z. field bs from z ≡ 0) sum h) in
    let there : field bs at (j + (to - (at + j))) ≡ 0 = subst (λ z. field bs z (j + (to - (at + j))) ≡ 0) here rest in
    let s = field-add bs at j (to - (at + j)) in
    omega arith

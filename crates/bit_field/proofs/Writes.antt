-- A field that is written into a word of eight bytes.
use Rattle.std.proofs.Common.{◌≡◌, ℕ, zero, suc, inl, inr, [], ◌∷◌, ◌+◌, ◌-◌, ◌*◌, ◌/◌, ◌%◌, ◌^◌, ◌<◌, ◌≤◌, List, ◌++◌, length, take, drop, replicate, refl, ap, sym, ◌∙◌, subst, arith, bit_and}
use Rattle.std.proofs.lemmas.Nat.{shr-shr, pow_pos, pow-add, mod_below, shr_split, and_mask, and_comm, and_le_l, and_block, and-not, shl_whole, shr_below, shr_high, mul-add-lt}
use Rattle.std.proofs.lemmas.List.{take-append-drop, length-take, length-take-le, length-drop, append-nil, drop_all, length-append, drop-replicate, get_or_append_left, get_or_past}
use Rattle.std.proofs.lemmas.Bool.{cases_lt}
use Rattle.std.proofs.Math.Nat.{mod-le}
use Rattle.byteorder.specs.Endian.{little_bytes}
use Rattle.byteorder.specs.Numbers.{little_number-reads_back}
use borrow.Rule.Slice.PartMut.{put_mid}
use Rattle.frozen_model.specs.Bits.{bits, bits_of, number, field}
use Rattle.frozen_model.specs.BitLaws.{IsBytes}
use Rattle.frozen_model.proofs.Fields.{number-append, number-drop, field-drop, field-add, low_field, bytes-drop, bits-replaced, replaced_parts}
use Rattle.bit_field.proofs.Words.{number_first}
use Rattle.bit_field.specs.Words.{Replaces}

-- the bits of a word replaced: no step wraps
replace_sum : (H F L P Q T x word : ℕ) → word ≡ (H * Q + F) * P + L → L < P → x < Q → H < T → word - F * P + x * P < T * Q * P
replace_sum H F L P Q T x word is l xq ht =
    let e : word - F * P + x * P ≡ (H * Q + x) * P + L = omega arith in
    let one : H * Q + x < Q * T = mul-add-lt H Q x T ht xq in
    let two : (H * Q + x) * P + L < P * (Q * T) = mul-add-lt (H * Q + x) P L (Q * T) one l in
    omega arith

replace_fits : (t n w k x : ℕ) → n < 2 ^ t → k + w ≤ t → x < 2 ^ w → n - n / 2 ^ k % 2 ^ w * 2 ^ k + x * 2 ^ k < 2 ^ t
replace_fits t n w k x fits room xw =
    let v : ℕ = t - (w + k) in
    let all : t ≡ v + (w + k) = omega arith in
    let is : n ≡ (n / 2 ^ k / 2 ^ w * 2 ^ w + n / 2 ^ k % 2 ^ w) * 2 ^ k + n % 2 ^ k =
    sym (shr_split n k) ∙ ap (λ z. z * 2 ^ k + n % 2 ^ k) (sym (shr_split (n / 2 ^ k) w)) in
    let l : n % 2 ^ k < 2 ^ k = mod_below n (2 ^ k) (pow_pos k) in
    let wall : t ≡ v + (k + w) = omega arith in
    let wide : n < 2 ^ (v + (k + w)) = subst (λ z. n < 2 ^ z) wall fits in
    let h : n / 2 ^ k / 2 ^ w < 2 ^ v = rw shr-shr (shr_below n v (k + w) wide) in
    let p : 2 ^ t ≡ 2 ^ v * 2 ^ w * 2 ^ k = ap (λ z. 2 ^ z) all ∙ pow-add 2 v (w + k) ∙ ap (λ z. 2 ^ v * z) (pow-add 2 w k) ∙ omega arith in
    rw p (replace_sum (n / 2 ^ k / 2 ^ w) (n / 2 ^ k % 2 ^ w) (n % 2 ^ k) (2 ^ k) (2 ^ w) (2 ^ v) x n is l xw h)

-- a field of a word, cut out
cut : (word w k mask : ℕ) → mask ≡ 2 ^ w - 1 → k + w ≤ 64 → mask * 2 ^ k % 18446744073709551616 ≡ mask * 2 ^ k
cut word w k mask m inside =
    let room : w + k ≤ 64 = omega arith in
    let p : 0 < 2 ^ w = pow_pos w in
    let fits : mask < 2 ^ w = omega arith in
    shl_whole mask w k 64 fits room

cut_within : (word w k : ℕ) → word / 2 ^ k % 2 ^ w * 2 ^ k ≤ word
cut_within word w k =
    let a : word / 2 ^ k % 2 ^ w ≤ word / 2 ^ k = mod-le (word / 2 ^ k) (2 ^ w) in
    let b : word / 2 ^ k % 2 ^ w * 2 ^ k ≤ word / 2 ^ k * 2 ^ k = grind arith in
    omega (arith, shr_split word k)

-- the bits of a word under a mask that was shifted
under : (word w k mask : ℕ) → mask ≡ 2 ^ w - 1 → bit_and (mask * 2 ^ k) word ≡ word / 2 ^ k % 2 ^ w * 2 ^ k
under word w k mask m =
    let p : 0 < 2 ^ k = pow_pos k in
    let low : word % 2 ^ k < 2 ^ k = mod_below word (2 ^ k) p in
    let e : mask * 2 ^ k ≡ mask * 2 ^ k + 0 = omega arith in
    let none : bit_and 0 (word % 2 ^ k) ≡ 0 = omega (arith, and_le_l 0 (word % 2 ^ k)) in
    let field_is : bit_and mask (word / 2 ^ k) ≡ word / 2 ^ k % 2 ^ w = and_comm mask (word / 2 ^ k) ∙ ap (bit_and (word / 2 ^ k)) m ∙ and_mask (word / 2 ^ k) w in
    ap (λ z. bit_and z word) e ∙ ap (bit_and (mask * 2 ^ k + 0)) (sym (shr_split word k)) ∙ and_block k mask (word / 2 ^ k) 0 (word % 2 ^ k) p low
    ∙ ap (λ z. z * 2 ^ k + bit_and 0 (word % 2 ^ k)) field_is ∙ ap (λ z. word / 2 ^ k % 2 ^ w * 2 ^ k + z) none ∙ omega arith

-- the word that the code writes
abbrev pub replaced : ℕ → ℕ → ℕ → ℕ → ℕ
replaced word k mask x = bit_and word (18446744073709551615 - mask * 2 ^ k % 18446744073709551616) + x * 2 ^ k % 18446744073709551616

-- the other bits of a word
others_are : (word w k mask : ℕ) → mask ≡ 2 ^ w - 1 → k + w ≤ 64 → word < 2 ^ 64
    → bit_and word (18446744073709551615 - mask * 2 ^ k % 18446744073709551616) ≡ word - word / 2 ^ k % 2 ^ w * 2 ^ k
others_are word w k mask m inside wf =
    let c : mask * 2 ^ k % 18446744073709551616 ≡ mask * 2 ^ k = cut word w k mask m inside in
    let fits : mask * 2 ^ k < 2 ^ 64 = omega (arith, mod_below (mask * 2 ^ k) 18446744073709551616 (omega arith)) in
    let n : bit_and (18446744073709551615 - mask * 2 ^ k) word + bit_and (mask * 2 ^ k) word ≡ word = and-not 64 (mask * 2 ^ k) word fits wf in
    let u : bit_and (mask * 2 ^ k) word ≡ word / 2 ^ k % 2 ^ w * 2 ^ k = under word w k mask m in
    ap (λ z. bit_and word (18446744073709551615 - z)) c ∙ and_comm word (18446744073709551615 - mask * 2 ^ k) ∙ omega arith

replaced_is : (word w k mask x : ℕ) → mask ≡ 2 ^ w - 1 → k + w ≤ 64 → x < 2 ^ w → word < 2 ^ 64 → replaced word k mask x ≡ word - word / 2 ^ k % 2 ^ w * 2 ^ k + x * 2 ^ k
replaced_is word w k mask x m inside fits wf =
    let room : w + k ≤ 64 = omega arith in
    rw (others_are word w k mask m inside wf, shl_whole x w k 64 fits room) refl

pub replaced_fits : (word w k mask x : ℕ) → mask ≡ 2 ^ w - 1 → k + w ≤ 64 → x < 2 ^ w → word < 2 ^ 64 → replaced word k mask x < 2 ^ 64
replaced_fits word w k mask x m inside fits wf = rw (replaced_is word w k mask x m inside fits wf) (replace_fits 64 word w k x wf inside fits)

-- a word that begins a list
word_first : (n : ℕ) (rest : List ℕ) → n < 2 ^ 64 → number (little_bytes 8 n ++ rest) ≡ n + 2 ^ 64 * number rest
word_first n rest h =
    number_first (little_bytes 8 n ++ rest) 0 8 ∙ ap (λ z. z + 256 ^ 8 * number rest) (little_number-reads_back 8 n rest h)

-- the same in the middle of a list
sums : (A B P F x word n R : ℕ) → n + F * P ≡ word + x * P → A + B * (n + R) + F * (B * P) ≡ A + B * (word + R) + x * (B * P)
sums A B P F x word n R e = let m : B * (n + F * P) ≡ B * (word + x * P) = ap (λ z. B * z) e in omega arith

-- eight bytes of a list, and the rest
word_split : (bs : List ℕ) (word : ℕ) → word ≡ number bs % 2 ^ 64 → IsBytes bs → number bs ≡ word + 2 ^ 64 * number (drop 8 bs)
word_split bs word is h = sym (shr_split (number bs) 64) ∙ omega (arith, number-drop bs 8 h)

pub written : (old buf : List ℕ) (q k w x word n : ℕ) → IsBytes old → word ≡ number (drop q old) % 2 ^ 64 → q + 8 ≤ length old → k + w ≤ 64
    → n ≡ word - word / 2 ^ k % 2 ^ w * 2 ^ k + x * 2 ^ k → n < 2 ^ 64
    → buf ≡ little_bytes 8 n ++ drop 8 (drop q old)
    → number (put_mid q (length old - q) old buf) + field old (8 * q + k) w * 2 ^ (8 * q + k) ≡ number old + x * 2 ^ (8 * q + k)
written old buf q k w x word n h is inside room sum fits put =
    let F : ℕ = word / 2 ^ k % 2 ^ w in
    let rest : List ℕ = drop 8 (drop q old) in
    let within : w + k ≤ 64 = omega arith in
    let cutting : F * 2 ^ k ≤ word = cut_within word w k in
    let step : n + F * 2 ^ k ≡ word + x * 2 ^ k = omega arith in
    let field_is : field old (8 * q + k) w ≡ F = field-drop old q k w h ∙ sym (low_field 64 (number (drop q old)) word w k is within) in
    let power : 2 ^ (8 * q + k) ≡ 2 ^ (8 * q) * 2 ^ k = pow-add 2 (8 * q) k in
    let long : length (take q old) ≡ q = let le : q ≤ length old = omega arith in omega (arith, length-take q old) in
    let none : length (drop q old) ≤ length old - q = omega (arith, length-drop q old) in
    let new_is : number (put_mid q (length old - q) old buf) ≡ number (take q old) + 2 ^ (8 * q) * (n + 2 ^ 64 * number rest) =
    rw (drop_all (length old - q) (drop q old) none, append-nil buf, number-append (take q old) buf, long, put, word_first n rest fits) refl in
    let old_is : number old ≡ number (take q old) + 2 ^ (8 * q) * (word + 2 ^ 64 * number rest) =
    ap number (sym (take-append-drop q old)) ∙ number-append (take q old) (drop q old) ∙ ap (λ z. number (take q old) + 2 ^ (8 * z) * number (drop q old)) long
    ∙ ap (λ z. number (take q old) + 2 ^ (8 * q) * z) (word_split (drop q old) word is (bytes-drop old q h)) in
    rw (new_is, field_is, power, old_is) (sums (number (take q old)) (2 ^ (8 * q)) (2 ^ k) F x word n (2 ^ 64 * number rest) step)

pub word_written : (old buf part : List ℕ) (q k w x word mask : ℕ) → IsBytes old → word ≡ number (drop q old) % 2 ^ 64 → word < 2 ^ 64 → q + 8 ≤ length old
    → mask ≡ 2 ^ w - 1 → k + w ≤ 64 → x < 2 ^ w → part ≡ drop q old → buf ≡ little_bytes 8 (replaced word k mask x) ++ drop 8 part
    → Replaces old (put_mid q (length old - q) old buf) (8 * q + k) w x
word_written old buf part q k w x word mask h is wf inside m room fits at put = record {
  was_bytes = h;
  sum = written old buf q k w x word (replaced word k mask x) h is inside room (replaced_is word w k mask x m room fits wf)
      (replaced_fits word w k mask x m room fits wf) (put ∙ ap (λ z. little_bytes 8 (replaced word k mask x) ++ drop 8 z) at);
}

-- ---- a slice of fewer than eight bytes, with zeros behind it

number_below : (bs : List ℕ) → IsBytes bs → number bs < 2 ^ (8 * length bs)
number_below [] h = omega arith
number_below (b ∷ bs) h =
    let e : 8 * suc (length bs) ≡ 8 + 8 * length bs = omega arith in
    let here : b < 256 = h 0 in
    rw (e, pow-add 2 8 (8 * length bs)) (omega (arith, number_below bs (λ k. h (suc k))))

bytes_before : (xs ys : List ℕ) → IsBytes (xs ++ ys) → IsBytes xs
bytes_before xs ys h k = elim (cases_lt k (length xs)) [
  | inl lt ↦ subst (λ z. z < 256) (get_or_append_left xs ys 0 k lt) (h k)
  | inr le ↦ subst (λ z. z < 256) (sym (get_or_past xs k 0 le)) (omega arith)
]

only_below : (n P t d : ℕ) → n ≡ t + P * d → n < P → t ≡ n
only_below n P t zero e lt = omega arith
only_below n P t (suc d) e lt = absurd (let le : P ≤ P * suc d = grind arith in omega arith)

pub short_written : (old zeros padded final : List ℕ) (bit w x : ℕ) → number zeros ≡ 0 → Replaces (old ++ zeros) padded (8 * 0 + bit) w x
    → bit + w ≤ 8 * length old → x < 2 ^ w → length old ≤ length padded → final ≡ take (length old) padded → Replaces old final bit w x
unfolding field
short_written old zeros padded final bit w x none r inside fits long is =
    let h : IsBytes old = bytes_before old zeros r.was_bytes in
    let b : 8 * 0 + bit ≡ bit = omega arith in
    let same : number (old ++ zeros) ≡ number old = omega (arith, number-append old zeros, ap (λ z. 2 ^ (8 * length old) * z) none) in
    let sum : number padded + field (old ++ zeros) (8 * 0 + bit) w * 2 ^ (8 * 0 + bit) ≡ number (old ++ zeros) + x * 2 ^ (8 * 0 + bit) = r.sum in
    let flat : number padded + number old / 2 ^ bit % 2 ^ w * 2 ^ bit ≡ number old + x * 2 ^ bit =
    subst (λ z. number padded + z / 2 ^ bit % 2 ^ w * 2 ^ bit ≡ z + x * 2 ^ bit) same
    (subst (λ z. number padded + number (old ++ zeros) / 2 ^ z % 2 ^ w * 2 ^ z ≡ number (old ++ zeros) + x * 2 ^ z) b sum) in
    let low : number padded < 2 ^ (8 * length old) =
    let cutting : number old / 2 ^ bit % 2 ^ w * 2 ^ bit ≤ number old = cut_within (number old) w bit in
    omega (arith, replace_fits (8 * length old) (number old) w bit x (number_below old h) inside fits) in
    let front : number padded ≡ number (take (length old) padded) + 2 ^ (8 * length old) * number (drop (length old) padded) =
    ap number (sym (take-append-drop (length old) padded)) ∙ number-append (take (length old) padded) (drop (length old) padded)
    ∙ ap (λ z. number (take (length old) padded) + 2 ^ (8 * z) * number (drop (length old) padded)) (length-take-le (length old) padded long) in
    let whole : number final ≡ number padded = ap number is ∙ only_below (number padded) (2 ^ (8 * length old)) _ _ front low in
    record { was_bytes = h; sum = subst (λ z. z + number old / 2 ^ bit % 2 ^ w * 2 ^ bit ≡ number old + x * 2 ^ bit) (sym whole) flat }

number-replicate : (n : ℕ) → number (replicate n 0) ≡ 0
number-replicate zero = refl
number-replicate (suc n) = omega (arith, number-replicate n)

pub zeros_are_0 : (k : ℕ) → number (drop k (replicate 8 0)) ≡ 0
zeros_are_0 k = rw (drop-replicate {X = ℕ} k 8 0) (number-replicate (8 - k))

pub padded_written : (old front zeros padded final : List ℕ) (bit w x : ℕ) → front ≡ old → number zeros ≡ 0 → Replaces (front ++ zeros) padded (8 * 0 + bit) w x
    → bit + w ≤ 8 * length old → x < 2 ^ w → length padded ≡ length (front ++ zeros) → final ≡ take (length old) padded → Replaces old final bit w x
padded_written old front zeros padded final bit w x e none r inside fits long is =
    short_written old zeros padded final bit w x none (subst (λ z. Replaces (z ++ zeros) padded (8 * 0 + bit) w x) e r) inside fits
    (let l : length padded ≡ length (old ++ zeros) = subst (λ z. length padded ≡ length (z ++ zeros)) e long in omega (arith, length-append old zeros)) is

-- ---- a field over nine bytes, in two writes

pub high_part : (x w s : ℕ) → s ≤ w → x < 2 ^ w → x / 2 ^ s < 2 ^ (w - s)
high_part x w s le fits = let e : w ≡ (w - s) + s = omega arith in shr_below x (w - s) s (subst (λ z. x < 2 ^ z) e fits)

-- a write leaves the number above it
above : (m n bit w x : ℕ) → x < 2 ^ w → n + m / 2 ^ bit % 2 ^ w * 2 ^ bit ≡ m + x * 2 ^ bit → n / 2 ^ (bit + w) ≡ m / 2 ^ (bit + w)
above m n bit w x fits step =
    let F : ℕ = m / 2 ^ bit % 2 ^ w in
    let H : ℕ = m / 2 ^ bit / 2 ^ w in
    let L : ℕ = m % 2 ^ bit in
    let is : m ≡ (H * 2 ^ w + F) * 2 ^ bit + L = sym (shr_split m bit) ∙ ap (λ z. z * 2 ^ bit + L) (sym (shr_split (m / 2 ^ bit) w)) in
    let sum : n ≡ (H * 2 ^ w + x) * 2 ^ bit + L = replaced_parts (2 ^ bit) (2 ^ w) L F H x m n is step in
    let up : n / 2 ^ bit ≡ H * 2 ^ w + x = ap (λ z. z / 2 ^ bit) sum ∙ shr_high (H * 2 ^ w + x) bit L (mod_below m (2 ^ bit) (pow_pos bit)) in
    sym (shr-shr n bit w) ∙ ap (λ z. z / 2 ^ w) up ∙ shr_high H w x fits ∙ shr-shr m bit w

joined : (P Q F G r y x o m n : ℕ) → m + F * P ≡ o + r * P → n + G * (P * Q) ≡ m + y * (P * Q) → y * Q + r ≡ x → n + (F + G * Q) * P ≡ o + x * P
joined P Q F G r y x o m n a b e = let f : (y * Q + r) * P ≡ x * P = ap (λ z. z * P) e in omega arith

pub two_written : (old mid new : List ℕ) (bit s t low high x : ℕ) → low ≡ x % 2 ^ s → high ≡ x / 2 ^ s → Replaces old mid bit s low → Replaces mid new (bit + s) t high
    → Replaces old new bit (s + t) x
unfolding field
two_written old mid new bit s t low high x lo hi one two =
    let fits : low < 2 ^ s = rw lo (mod_below x (2 ^ s) (pow_pos s)) in
    let same : field mid (bit + s) t ≡ field old (bit + s) t = ap (λ z. z % 2 ^ t) (above (number old) (number mid) bit s low fits one.sum) in
    let b : number new + field old (bit + s) t * (2 ^ bit * 2 ^ s) ≡ number mid + high * (2 ^ bit * 2 ^ s) =
    subst (λ z. number new + field old (bit + s) t * z ≡ number mid + high * z) (pow-add 2 bit s)
    (subst (λ z. number new + z * 2 ^ (bit + s) ≡ number mid + high * 2 ^ (bit + s)) same two.sum) in
    let e : high * 2 ^ s + low ≡ x = ap (λ z. z * 2 ^ s + low) hi ∙ ap (λ z. x / 2 ^ s * 2 ^ s + z) lo ∙ shr_split x s in
    record {
      was_bytes = one.was_bytes;
      sum = ap (λ z. number new + z * 2 ^ bit) (field-add old bit s t)
          ∙ joined (2 ^ bit) (2 ^ s) (field old bit s) (field old (bit + s) t) low high x (number old) (number mid) (number new) one.sum b e;
    }

pub nine_written : (old mid new : List ℕ) (b b2 bit s t w low high x mask : ℕ) → b ≡ bit → b2 ≡ b + s → s + t ≡ w → mask ≡ 2 ^ s - 1 → low ≡ bit_and x mask → high ≡ x / 2 ^ s
    → Replaces old mid b s low → Replaces mid new b2 t high → Replaces old new bit w x
nine_written old mid new b b2 bit s t w low high x mask e e2 all m lo hi one two =
    subst (λ z. Replaces old new z w x) e (subst (λ z. Replaces old new b z x) all
    (two_written old mid new b s t low high x (lo ∙ ap (bit_and x) m ∙ and_mask x s) hi one (subst (λ z. Replaces mid new z t high) e2 two)))

-- ---- in bits

pub bits_written : (old new : List ℕ) (b bit w x : ℕ) → Replaces old new b w x → b ≡ bit → IsBytes new → length new ≡ length old → bit + w ≤ 8 * length old → x < 2 ^ w
    → bits_of new ≡ take bit (bits_of old) ++ (bits w x ++ drop (bit + w) (bits_of old))
bits_written old new b bit w x r e hn long inside fits =
    bits-replaced old new bit w x r.was_bytes hn long inside fits
    (subst (λ z. number new + field old z w * 2 ^ z ≡ number old + x * 2 ^ z) e r.sum)

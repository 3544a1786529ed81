-- What stands at a place of a list of bits, and of bytes.
use Rattle.std.proofs.Common.{◌≡◌, ℕ, zero, suc, ◌+◌, ◌*◌, ◌^◌, ◌≤◌, ◌<◌, List, [], ◌∷◌, ◌++◌, Bool, false, length, arith, refl, ap, sym, ◌∙◌, subst, replicate, take, drop, length-take}
use Rattle.std.proofs.lemmas.List.{take-append-drop}
use Rattle.std.proofs.lemmas.Nat.{pow_pos}
use Rattle.std.specs.List.{AllByRecursion}
use Rattle.frozen_model.specs.Bits.{bits, bits_of, field}
use Rattle.frozen_model.specs.BitLaws.{IsBytes}
use Rattle.frozen_model.specs.Packing.{Stands}
use Rattle.frozen_model.proofs.Digits.{bits-injective}
use Rattle.frozen_model.proofs.Fields.{length-bits, bits-field, field_fits, length_bits_of}
use Rattle.frozen_laws.proofs.Numbers.{bits_zero}

at_suc : (b xs : List Bool) (at n : ℕ) → Stands b (at + suc n) xs → Stands b (suc at + n) xs
at_suc b xs at n h = let e : at + suc n ≡ suc at + n = omega arith in rw e at h

at_suc_back : (b xs : List Bool) (at n : ℕ) → Stands b (suc at + n) xs → Stands b (at + suc n) xs
at_suc_back b xs at n h = let e : suc at + n ≡ at + suc n = omega arith in rw e at h

pub stands_append : (b xs ys : List Bool) (at : ℕ) → Stands b at xs → Stands b (at + length xs) ys → Stands b at (xs ++ ys)
stands_append b [] ys at h k = let e : at + 0 ≡ at = omega arith in rw e at k
stands_append b (x ∷ xs) ys at h k = (h.0, h.1, stands_append b xs ys (suc at) h.2 (at_suc b ys at (length xs) k))

pub stands_left : (b xs ys : List Bool) (at : ℕ) → Stands b at (xs ++ ys) → Stands b at xs
stands_left b [] ys at h = tt
stands_left b (x ∷ xs) ys at h = (h.0, h.1, stands_left b xs ys (suc at) h.2)

stands_rest : (b xs ys : List Bool) (at : ℕ) → Stands b at (xs ++ ys) → Stands b (at + length xs) ys
stands_rest b [] ys at h = let e : at ≡ at + 0 = omega arith in rw e at h
stands_rest b (x ∷ xs) ys at h = at_suc_back b ys at (length xs) (stands_rest b xs ys (suc at) h.2)

-- the second of two parts, where the first has s bits
pub stands_right : (b xs ys : List Bool) (at s : ℕ) → length xs ≡ s → Stands b at (xs ++ ys) → Stands b (at + s) ys
stands_right b xs ys at s e h = subst (λ k. Stands b (at + k) ys) e (stands_rest b xs ys at h)

-- two parts, one after another
pub stands_joined : (b xs ys : List Bool) (at s : ℕ) → length xs ≡ s → Stands b at xs → Stands b (at + s) ys → Stands b at (xs ++ ys)
stands_joined b xs ys at s e h k = stands_append b xs ys at h (subst (λ m. Stands b (at + m) ys) (sym e) k)

-- one list of so many bits stands at a place
pub stands_same : (b xs ys : List Bool) (at : ℕ) → length xs ≡ length ys → Stands b at xs → Stands b at ys → xs ≡ ys
stands_same b [] [] at e h k = refl
stands_same b [] (y ∷ ys) at e h k = absurd (omega arith)
stands_same b (x ∷ xs) [] at e h k = absurd (omega arith)
stands_same b (x ∷ xs) (y ∷ ys) at e h k =
    let here : x ≡ y = sym h.1 ∙ k.1 in
    let rest = stands_same b xs ys (suc at) (omega arith) h.2 k.2 in
    cc

pub stands_inside : (b xs : List Bool) (at : ℕ) → at ≤ length b → Stands b at xs → at + length xs ≤ length b
stands_inside b [] at h s = omega arith
stands_inside b (x ∷ xs) at h s = omega (arith, stands_inside b xs (suc at) s.0 s.2)

stands_cons : (b xs : List Bool) (y : Bool) (at : ℕ) → Stands b at xs → Stands (y ∷ b) (suc at) xs
stands_cons b [] y at h = tt
stands_cons b (x ∷ xs) y at h = (omega arith, h.1, stands_cons b xs y (suc at) h.2)

stands_here : (xs ys : List Bool) → Stands (xs ++ ys) 0 xs
stands_here [] ys = tt
stands_here (x ∷ xs) ys = (omega arith, refl, stands_cons (xs ++ ys) xs x 0 (stands_here xs ys))

pub stands_in : (pre xs ys : List Bool) → Stands (pre ++ (xs ++ ys)) (length pre) xs
stands_in [] xs ys = stands_here xs ys
stands_in (p ∷ pre) xs ys = stands_cons (pre ++ (xs ++ ys)) xs p (length pre) (stands_in pre xs ys)

-- so many bits from a place on stand there
stands_taken : (b : List Bool) (at n : ℕ) → at + n ≤ length b → Stands b at (take n (drop at b))
stands_taken b at n h =
    let pre = take at b in
    let part = take n (drop at b) in
    let post = drop n (drop at b) in
    let whole : b ≡ pre ++ (part ++ post) = sym (ap (λ r. pre ++ r) (take-append-drop n (drop at b)) ∙ take-append-drop at b) in
    let long : length pre ≡ at = omega (arith, length-take at b) in
    subst (λ k. Stands b k part) long (subst (λ q. Stands q (length pre) part) (sym whole) (stands_in pre part post))

-- ---- bytes

bits_of_append : (xs ys : List ℕ) → bits_of (xs ++ ys) ≡ bits_of xs ++ bits_of ys
bits_of_append [] ys = refl
bits_of_append (x ∷ xs) ys = ap (λ r. bits 8 x ++ r) (bits_of_append xs ys)

-- the bytes at a place, as bits
pub bytes_stand : (bs : List ℕ) (next n : ℕ) → next + n ≤ length bs → Stands (bits_of bs) (8 * next) (bits_of (take n (drop next bs)))
bytes_stand bs next n h =
    let pre = take next bs in
    let part = take n (drop next bs) in
    let post = drop n (drop next bs) in
    let whole : bs ≡ pre ++ (part ++ post) = sym (ap (λ r. pre ++ r) (take-append-drop n (drop next bs)) ∙ take-append-drop next bs) in
    let all : bits_of bs ≡ bits_of pre ++ (bits_of part ++ bits_of post) = ap bits_of whole ∙ bits_of_append pre (part ++ post) ∙ ap (λ r. bits_of pre ++ r) (bits_of_append part post) in
    let long : length (bits_of pre) ≡ 8 * next = omega (arith, length_bits_of pre, length-take next bs) in
    let there : Stands (bits_of bs) (length (bits_of pre)) (bits_of part) = subst (λ b. Stands b (length (bits_of pre)) (bits_of part)) (sym all) (stands_in (bits_of pre) (bits_of part) (bits_of post)) in
    subst (λ k. Stands (bits_of bs) k (bits_of part)) long there

pub all_bytes : (bs : List ℕ) → IsBytes bs → AllByRecursion (λ b. b < 256) bs
all_bytes [] h = tt
all_bytes (b ∷ bs) h = (h 0, all_bytes bs (λ k. h (suc k)))

pub all_drop : (P : ℕ → Type 0) (n : ℕ) (xs : List ℕ) → AllByRecursion P xs → AllByRecursion P (drop n xs)
all_drop P zero xs h = h
all_drop P (suc n) [] h = h
all_drop P (suc n) (x ∷ xs) h = all_drop P n xs h.1

pub all_take : (P : ℕ → Type 0) (n : ℕ) (xs : List ℕ) → AllByRecursion P xs → AllByRecursion P (take n xs)
all_take P zero xs h = tt
all_take P (suc n) [] h = tt
all_take P (suc n) (x ∷ xs) h = (h.0, all_take P n xs h.1)

-- ---- fields

-- the number of a field stands there
pub stands_field : (bs : List ℕ) (bit w : ℕ) → IsBytes bs → bit + w ≤ 8 * length bs → Stands (bits_of bs) bit (bits w (field bs bit w))
stands_field bs bit w h room =
    subst (λ r. Stands (bits_of bs) bit r) (bits-field bs bit w h room) (stands_taken (bits_of bs) bit w (omega (arith, length_bits_of bs)))

-- a field is the number whose bits stand there
pub field_is : (bs : List ℕ) (bit w n : ℕ) → IsBytes bs → bit ≤ 8 * length bs → n < 2 ^ w → Stands (bits_of bs) bit (bits w n) → field bs bit w ≡ n
field_is bs bit w n h inside small s =
    let room : bit + w ≤ 8 * length bs = omega (arith, stands_inside (bits_of bs) (bits w n) bit (omega (arith, length_bits_of bs)) s, length-bits w n, length_bits_of bs) in
    bits-injective w (field bs bit w) n (field_fits bs bit w) small
    (stands_same (bits_of bs) (bits w (field bs bit w)) (bits w n) bit (length-bits w (field bs bit w) ∙ sym (length-bits w n)) (stands_field bs bit w h room) s)

pub stands_zero : (bs : List ℕ) (bit w : ℕ) → IsBytes bs → bit + w ≤ 8 * length bs → field bs bit w ≡ 0 → Stands (bits_of bs) bit (replicate w false)
stands_zero bs bit w h room e = subst (λ r. Stands (bits_of bs) bit r) (ap (bits w) e ∙ bits_zero w) (stands_field bs bit w h room)

pub zero_stands : (bs : List ℕ) (bit w : ℕ) → IsBytes bs → bit ≤ 8 * length bs → Stands (bits_of bs) bit (replicate w false) → field bs bit w ≡ 0
zero_stands bs bit w h inside s = field_is bs bit w 0 h inside (pow_pos w) (subst (λ r. Stands (bits_of bs) bit r) (sym (bits_zero w)) s)

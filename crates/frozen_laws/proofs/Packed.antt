-- A packing as bytes, and as one list of bytes.
use Rattle.std.proofs.Common.{◌≡◌, ℕ, zero, suc, ◌+◌, ◌*◌, ◌%◌, ◌/◌, ◌^◌, ◌<◌, ◌≤◌, List, [], ◌∷◌, ◌++◌, Bool, true, false, length, take, drop, nat_eq, if◌then◌else◌, arith, refl, ap, sym, ◌∙◌, subst}
use Rattle.std.proofs.lemmas.List.{append-nil, take-append-drop, length-take-le, length-drop}
use Rattle.std.proofs.Math.Nat.{pow-suc}
use Rattle.frozen_model.specs.Bits.{bits, bits_of, number, number_of_bits, bytes_of}
use Rattle.frozen_model.specs.BitLaws.{IsBytes}
use Rattle.frozen_model.specs.Values.{Value, Of, cells, cell_limit}
use Rattle.frozen_model.specs.Layouts.{Layout, Described, stride}
use Rattle.frozen_model.specs.Packing.{extent, bytes_for, pack, Packs, packed}
use Rattle.frozen_model.specs.Holding.{Holds}
use Rattle.frozen_model.specs.Files.{File, four_bytes, frozen}
use Rattle.frozen_model.proofs.Fields.{length_bits_of}
use Rattle.frozen_laws.proofs.Numbers.{same_bytes}
use Rattle.frozen_laws.proofs.Standing.{all_bytes}
use Rattle.frozen_laws.proofs.Opening.{length_pack}

-- a number has the digits that it was made of
digit_low : (b : Bool) (m : ℕ) → nat_eq (((if b then 1 else 0) + 2 * m) % 2) 1 ≡ b
digit_low true m = let e : (1 + 2 * m) % 2 ≡ 1 = omega arith in ap (λ k. nat_eq k 1) e
digit_low false m = let e : (0 + 2 * m) % 2 ≡ 0 = omega arith in ap (λ k. nat_eq k 1) e

digit_rest : (b : Bool) (m : ℕ) → ((if b then 1 else 0) + 2 * m) / 2 ≡ m
digit_rest true m = omega arith
digit_rest false m = omega arith

digit_small : (b : Bool) → (if b then 1 else 0) ≤ 1
digit_small true = omega arith
digit_small false = omega arith

digits_back : (xs : List Bool) → bits (length xs) (number_of_bits xs) ≡ xs
digits_back [] = refl
digits_back (b ∷ xs) =
    let m = number_of_bits xs in
    let first = digit_low b m in
    let rest : bits (length xs) (((if b then 1 else 0) + 2 * m) / 2) ≡ xs = ap (bits (length xs)) (digit_rest b m) ∙ digits_back xs in
    cc

number_small : (xs : List Bool) → number_of_bits xs < 2 ^ length xs
number_small [] = omega arith
number_small (b ∷ xs) = omega (arith, pow-suc 2 (length xs), number_small xs, digit_small b)

first_eight : (n : ℕ) (xs : List Bool) → length xs ≡ 8 * suc n → length (take 8 xs) ≡ 8
first_eight n xs e = length-take-le 8 xs (omega arith)

-- bytes of so many times eight bits have those bits
bytes_back : (n : ℕ) (xs : List Bool) → length xs ≡ 8 * n → bits_of (bytes_of n xs) ≡ xs
bytes_back zero [] e = refl
bytes_back zero (x ∷ xs) e = absurd (omega arith)
bytes_back (suc n) xs e =
    let head : bits 8 (number_of_bits (take 8 xs)) ≡ take 8 xs = subst (λ k. bits k (number_of_bits (take 8 xs)) ≡ take 8 xs) (first_eight n xs e) (digits_back (take 8 xs)) in
    let rest : bits_of (bytes_of n (drop 8 xs)) ≡ drop 8 xs = bytes_back n (drop 8 xs) (omega (arith, length-drop 8 xs)) in
    ap (λ r. bits 8 (number_of_bits (take 8 xs)) ++ r) rest ∙ ap (λ h. h ++ drop 8 xs) head ∙ take-append-drop 8 xs

bytes_small : (n : ℕ) (xs : List Bool) → length xs ≡ 8 * n → IsBytes (bytes_of n xs)
bytes_small zero xs e k = omega arith
bytes_small (suc n) xs e zero = subst (λ k. number_of_bits (take 8 xs) < 2 ^ k) (first_eight n xs e) (number_small (take 8 xs))
bytes_small (suc n) xs e (suc k) = bytes_small n (drop 8 xs) (omega (arith, length-drop 8 xs)) k

-- a packing exists as bytes
pub packed_bytes : {l : Layout} {v : Value} → Of l v → IsBytes (packed l v)
packed_bytes {l} {v} o = bytes_small (bytes_for (stride l) + extent l v) (pack l v) (length_pack o)

pub packed_packs : {l : Layout} {v : Value} → Of l v → Packs l v (packed l v)
packed_packs {l} {v} o = bytes_back (bytes_for (stride l) + extent l v) (pack l v) (length_pack o)

-- and as no other bytes
pub bytes_once : (bs cs : List ℕ) → IsBytes bs → IsBytes cs → bits_of bs ≡ bits_of cs → bs ≡ cs
bytes_once bs cs small few e =
    let long : length bs ≡ length cs = omega (arith, length_bits_of bs, length_bits_of cs, ap length e) in
    (same_bytes bs cs [] [] (all_bytes bs small) (all_bytes cs few) long (append-nil (bits_of bs) ∙ e ∙ sym (append-nil (bits_of cs)))).0

pub packed_once : {l : Layout} {v : Value} (bs : List ℕ) → Of l v → IsBytes bs → Packs l v bs → bs ≡ packed l v
packed_once {l} {v} bs o small p = bytes_once bs (packed l v) small (packed_bytes o) (p ∙ sym (packed_packs o))

four_are : (n : ℕ) → n < 2 ^ 32 → number (four_bytes n) ≡ n
four_are n h = omega arith

-- the frozen file of a value is a file of it
pub frozen_is : (Spells : List ℕ → Described → Type 0) (write : Described → List ℕ) (d : Described) (v : Value)
    → Spells (write d) d → length (write d) < 2 ^ 32 → Holds d.tree v → cells d.tree v ≤ cell_limit → File Spells (frozen write d v) d v
frozen_is Spells write d v spelled short h few = record {
  size = four_bytes (length (write d));
  schema = write d;
  content = packed d.tree v;
  joined = refl;
  four = refl;
  sized = four_are (length (write d)) short;
  spelled = spelled;
  holds = h;
  within = few;
  packed = packed_packs h.of_kind;
}

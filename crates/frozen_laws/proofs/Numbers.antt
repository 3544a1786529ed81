-- Numbers in bits: bits have one number, and what a leaf stores means one flag or number.
use Rattle.std.proofs.Common.{◌≡◌, ℕ, zero, suc, ◌^◌, ◌≤◌, ◌<◌, List, [], ◌∷◌, ◌++◌, Bool, true, false, cond, length, arith, refl, ap, sym, ◌∙◌, subst, replicate, nat_eq, nat_lt, ℤ, pos, negsuc}
use Rattle.std.specs.Prelude.{◌≤ℤ◌, ◌-ℤ◌, ◌+ℤ◌, nat_abs}
use Rattle.std.proofs.Math.Nat.{pow-suc}
use Rattle.std.proofs.lemmas.Nat.{pow_pos}
use Rattle.std.proofs.lemmas.Bool.Decides.{nat_tests}
use Rattle.std.proofs.lemmas.Int.{ints}
use Rattle.std.specs.List.{AllByRecursion}
use Rattle.frozen_model.specs.Bits.{bits, bits_of, need_signed, need_unsigned, signed}
use Rattle.frozen_model.specs.Trees.{Whole, LeafKind, Flag, Integer, value_bits, greatest}
use Rattle.frozen_model.specs.Values.{Atom, Truth, Number, InBits, IsOf}
use Rattle.frozen_model.specs.Layouts.{Version, Version1, IsCoded, flag_coded, signed_coded, based_coded, Coded, Unsigned, width, number_of, atom_of, stored, meaning, Fits, in_range, leaf_bits}
use Rattle.frozen_model.proofs.Digits.{digits_below, digits_within, bits-injective, complement_fits, signed-complement, signed_is}

-- ---- bits

pub bits_zero : (w : ℕ) → bits w 0 ≡ replicate w false
bits_zero zero = refl
bits_zero (suc w) = ap (λ r. false ∷ r) (bits_zero w)

-- two lists in two parts, the first parts of one length
pub split_same : {A : Type 0} → (xs ys r s : List A) → length xs ≡ length ys → xs ++ r ≡ ys ++ s → (xs ≡ ys) × (r ≡ s)
split_same [] [] r s e h = (refl, h)
split_same [] (y ∷ ys) r s e h = absurd (omega arith)
split_same (x ∷ xs) [] r s e h = absurd (omega arith)
split_same (x ∷ xs) (y ∷ ys) r s e h =
    let head : x ≡ y = cc in
    let more : xs ++ r ≡ ys ++ s = cc in
    let ih = split_same xs ys r s (omega arith) more in
    (let e1 = ih.0 in cc, ih.1)

-- bytes of one length
pub same_bytes : (xs bs : List ℕ) (r s : List Bool) → AllByRecursion (λ b. b < 256) xs → AllByRecursion (λ b. b < 256) bs → length xs ≡ length bs → bits_of xs ++ r ≡ bits_of bs ++ s → (xs ≡ bs) × (r ≡ s)
same_bytes [] [] r s ha hb e h = (refl, h)
same_bytes [] (b ∷ bs) r s ha hb e h = absurd (omega arith)
same_bytes (a ∷ xs) [] r s ha hb e h = absurd (omega arith)
same_bytes (a ∷ xs) (b ∷ bs) r s ha hb e h =
    let parts = split_same (bits 8 a) (bits 8 b) (bits_of xs ++ r) (bits_of bs ++ s) refl h in
    let head : a ≡ b = bits-injective 8 a b ha.0 hb.0 parts.0 in
    let ih = same_bytes xs bs r s ha.1 hb.1 (omega arith) parts.1 in
    (let e1 = ih.0 in cc, ih.1)

pub one_below : (w : ℕ) → 1 ≤ w → 1 < 2 ^ w
one_below zero h = absurd (omega arith)
one_below (suc v) h = omega (arith, pow-suc 2 v, pow_pos v)

pub one_wide : (w : ℕ) → 1 < 2 ^ w → 1 ≤ w
one_wide zero h = absurd (omega arith)
one_wide (suc w) h = omega arith

pub thin_below : (w n : ℕ) → w ≤ 1 → n < 2 ^ w → n ≤ 1
thin_below zero n h k = omega arith
thin_below (suc zero) n h k = omega arith
thin_below (suc (suc w)) n h k = absurd (omega arith)

-- ---- leaves

pub stored_fits : {n : Version} {k : LeafKind} {c : Coded} (x : Atom) → IsCoded n k c → IsOf k x → Fits c (number_of x) → stored c (number_of x) < 2 ^ width c
stored_fits x (flag_coded {w = w}) o f = digits_below (nat_abs (number_of x)) w f.wide
stored_fits (Number z) (signed_coded {w = w}) o f = complement_fits w z f.wide
stored_fits (Truth b) (signed_coded {w = w}) o f = absurd o
stored_fits x (based_coded {b = b} {w = w} r) o f = digits_below (nat_abs (number_of x -ℤ b)) w f.wide

base_back : (b z : ℤ) → b ≤ℤ z → b +ℤ pos (nat_abs (z -ℤ b)) ≡ z
base_back b z h = omega (arith, ints)

base_gap : (b : ℤ) (m : ℕ) → nat_abs ((b +ℤ pos m) -ℤ b) ≡ m
base_gap b m = omega (arith, ints)

base_low : (b : ℤ) (m : ℕ) → b ≤ℤ (b +ℤ pos m)
base_low b m = omega (arith, ints)

flag_back : (b : Bool) → pos (nat_abs (cond b (pos 1) (pos 0))) ≡ cond b (pos 1) (pos 0)
flag_back true = refl
flag_back false = refl

-- what is stored for a number that fits means that number
pub stored_back : {n : Version} {k : LeafKind} {c : Coded} (x : Atom) → IsCoded n k c → IsOf k x → Fits c (number_of x) → meaning c (stored c (number_of x)) ≡ number_of x
stored_back (Truth b) (flag_coded {w = w}) o f = flag_back b
stored_back (Number z) (flag_coded {w = w}) o f = absurd o
stored_back (Number z) (signed_coded {w = w}) o f = signed-complement w z f.wide
stored_back (Truth b) (signed_coded {w = w}) o f = absurd o
stored_back (Number z) (based_coded {b = b} {w = w} r) o f = base_back b z f.reached
stored_back (Truth d) (based_coded {b = b} {w = w} r) o f = absurd o

pub atom_back : (k : LeafKind) (x : Atom) → IsOf k x → atom_of k (number_of x) ≡ x
atom_back Flag (Truth true) o = refl
atom_back Flag (Truth false) o = refl
atom_back Flag (Number z) o = absurd o
atom_back (Integer k) (Truth b) o = absurd o
atom_back (Integer k) (Number z) o = refl

pub range_back : (k : LeafKind) (x : Atom) → IsOf k x → in_range k (number_of x) ≡ true
range_back Flag x o = refl
range_back (Integer k) (Truth b) o = absurd o
range_back (Integer k) (Number (pos n)) o = let t : nat_lt n (2 ^ value_bits k) ≡ true = grind (arith, nat_tests) in t
range_back (Integer k) (Number (negsuc n)) o = let t : nat_lt n (2 ^ value_bits k) ≡ true = grind (arith, nat_tests) in t

in_bits : (k : Whole) (z : ℤ) → in_range (Integer k) z ≡ true → InBits (value_bits k) z
in_bits k (pos n) e = grind (arith, nat_tests)
in_bits k (negsuc n) e = grind (arith, nat_tests)

-- two flags or numbers with one stored number
pub stored_same : {n : Version} {k : LeafKind} {c : Coded} (x y : Atom) → IsCoded n k c → IsOf k x → IsOf k y → Fits c (number_of x) → Fits c (number_of y) → leaf_bits c (number_of x) ≡ leaf_bits c (number_of y) → x ≡ y
stored_same {k = k} {c = c} x y i o p f g e =
    let same : stored c (number_of x) ≡ stored c (number_of y) = bits-injective (width c) (stored c (number_of x)) (stored c (number_of y)) (stored_fits x i o f) (stored_fits y i p g) e in
    let number : number_of x ≡ number_of y = sym (stored_back x i o f) ∙ ap (meaning c) same ∙ stored_back y i p g in
    sym (atom_back k x o) ∙ ap (atom_of k) number ∙ atom_back k y p

-- the flag or number that is read at a leaf
pub record IsRead (k : LeafKind) (c : Coded) (m : ℕ) (x : Atom) : Type 0 where
  pub of_kind : IsOf k x
  pub fits : Fits c (number_of x)
  pub back : stored c (number_of x) ≡ m

flag_read : (w m : ℕ) → m ≤ 1 → m < 2 ^ w → IsRead Flag (Unsigned w) m (Truth (nat_eq m 1))
flag_read w zero h k = record { of_kind = tt; fits = record { reached = tt; wide = digits_within 0 w k }; back = refl }
flag_read w (suc zero) h k = record { of_kind = tt; fits = record { reached = tt; wide = digits_within 1 w k }; back = refl }
flag_read w (suc (suc m)) h k = absurd (omega arith)

pub leaf_read : {n : Version} {k : LeafKind} {c : Coded} (m : ℕ) → IsCoded n k c → width c ≤ greatest k → m < 2 ^ width c → in_range k (meaning c m) ≡ true → IsRead k c m (atom_of k (meaning c m))
leaf_read m (flag_coded {w = w}) g h e = flag_read w m (thin_below w m g h) h
leaf_read m (signed_coded {k = k} {w = w}) g h e =
    let s = signed_is w m h in
    record { of_kind = in_bits k (signed w m) e; fits = record { reached = tt; wide = s.fits }; back = s.back }
leaf_read m (based_coded {k = k} {b = b} {w = w} r) g h e =
    let gap = base_gap b m in
    record { of_kind = in_bits k (b +ℤ pos m) e; fits = record { reached = base_low b m; wide = subst (λ d. need_unsigned d ≤ w) (sym gap) (digits_within m w h) }; back = gap }

-- ---- ranges

to_range : (k : Whole) (z : ℤ) → InBits (value_bits k) z → in_range (Integer k) z ≡ true
to_range k (pos n) h = grind (arith, nat_tests)
to_range k (negsuc n) h = grind (arith, nat_tests)

-- a number that needs so many bits and a sign lies in them
signed_within : (v : ℕ) (z : ℤ) → need_signed z ≤ suc v → InBits v z
signed_within v (pos zero) h = pow_pos v
signed_within v (pos (suc n)) h = digits_below (suc n) v (omega arith)
signed_within v (negsuc n) h = digits_below n v (omega arith)

pub always_in_range : (k : LeafKind) (c : Coded) (m : ℕ) → IsCoded Version1 k c → width c ≤ greatest k → m < 2 ^ width c → in_range k (meaning c m) ≡ true
always_in_range k c m flag_coded g h = refl
always_in_range k c m (signed_coded {k = j} {w = w}) g h = let s = signed_is w m h in to_range j (signed w m) (signed_within (value_bits j) (signed w m) (omega (arith, s.fits)))

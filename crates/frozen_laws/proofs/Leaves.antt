-- The numbers at one leaf: what they need, and when they fit.
use Rattle.std.proofs.Common.{◌≡◌, ℕ, ◌≤◌, max, List, [], ◌∷◌, ◌++◌, arith, refl, ap, sym, subst, ℤ, inl, inr}
use Rattle.std.specs.Prelude.{◌≤ℤ◌, ◌-ℤ◌, nat_abs}
use Rattle.std.proofs.lemmas.Int.{ints}
use Rattle.std.specs.List.{AllByRecursion}
use Rattle.frozen_model.specs.Bits.{digits, need_unsigned}
use Rattle.frozen_model.specs.Trees.{LeafKind}
use Rattle.frozen_model.specs.Layouts.{Version, IsCoded, flag_coded, signed_coded, based_coded, Coded, Unsigned, TwosComplement, FromBase, width, with_width, need, Fits, IsReached}
use Rattle.frozen_model.specs.Holding.{greatest_need, greatest_digits, Among, IsLeastOf, IsBasedOn}
use Rattle.frozen_laws.specs.Laws.{NoGreater, ends, then}
use Rattle.frozen_model.proofs.Digits.{digits_mono}

-- ---- what holds of all numbers of a list

pub all_map : {X : Type 0} {P Q : X → Type 0} (xs : List X) → ((x : X) → P x → Q x) → AllByRecursion P xs → AllByRecursion Q xs
all_map [] f h = tt
all_map (x ∷ xs) f h = (f x h.0, all_map xs f h.1)

pub all_join : {X : Type 0} (P : X → Type 0) (xs ys : List X) → AllByRecursion P xs → AllByRecursion P ys → AllByRecursion P (xs ++ ys)
all_join P [] ys h k = k
all_join P (x ∷ xs) ys h k = (h.0, all_join P xs ys h.1 k)

pub all_split : {X : Type 0} (P : X → Type 0) (xs ys : List X) → AllByRecursion P (xs ++ ys) → AllByRecursion P xs × AllByRecursion P ys
all_split P [] ys h = (tt, h)
all_split P (x ∷ xs) ys h = let r = all_split P xs ys h.1 in ((h.0, r.0), r.1)

-- ---- digits

pub digits_le_mono : {ms ns : List ℕ} → NoGreater ms ns → greatest_digits ms ≤ greatest_digits ns
digits_le_mono ends = omega arith
digits_le_mono (then {m = m} {n = n} h hs) = omega (arith, digits_mono m n h, digits_le_mono hs)

pub digits_fit : (ns : List ℕ) (w : ℕ) → AllByRecursion (λ (n : ℕ). need_unsigned n ≤ w) ns → greatest_digits ns ≤ w
digits_fit [] w h = omega arith
digits_fit (n ∷ ns) w h = omega (arith, h.0, digits_fit ns w h.1)

pub fit_digits : (ns : List ℕ) (w : ℕ) → greatest_digits ns ≤ w → AllByRecursion (λ (n : ℕ). need_unsigned n ≤ w) ns
fit_digits [] w h = tt
fit_digits (n ∷ ns) w h = (omega arith, fit_digits ns w (omega arith))

pub no_greater_join : {ms ns ms' ns' : List ℕ} → NoGreater ms ns → NoGreater ms' ns' → NoGreater (ms ++ ms') (ns ++ ns')
no_greater_join ends k = k
no_greater_join (then h hs) k = then h (no_greater_join hs k)

-- ---- codings

pub width_with : (c : Coded) (w : ℕ) → width (with_width c w) ≡ w
width_with (Unsigned v) w = refl
width_with (TwosComplement v) w = refl
width_with (FromBase b v) w = refl

-- a coding with another width
pub coded_with : {n : Version} {k : LeafKind} {c : Coded} → IsCoded n k c → (w : ℕ) → IsCoded n k (with_width c w)
coded_with flag_coded w = flag_coded
coded_with signed_coded w = signed_coded
coded_with (based_coded h) w = based_coded h

pub need_with : (c : Coded) (w : ℕ) (xs : List ℤ) → greatest_need (with_width c w) xs ≡ greatest_need c xs
need_with (Unsigned v) w [] = refl
need_with (TwosComplement v) w [] = refl
need_with (FromBase b v) w [] = refl
need_with (Unsigned v) w (x ∷ xs) = ap (max (need (Unsigned v) x)) (need_with (Unsigned v) w xs)
need_with (TwosComplement v) w (x ∷ xs) = ap (max (need (TwosComplement v) x)) (need_with (TwosComplement v) w xs)
need_with (FromBase b v) w (x ∷ xs) = ap (max (need (FromBase b v) x)) (need_with (FromBase b v) w xs)

pub based_with : (c : Coded) (w : ℕ) (xs : List ℤ) → IsBasedOn c xs → IsBasedOn (with_width c w) xs
based_with (Unsigned v) w xs h = tt
based_with (TwosComplement v) w xs h = tt
based_with (FromBase b v) w xs h = h

pub need_within : (c : Coded) (w : ℕ) (xs : List ℤ) → AllByRecursion (λ (x : ℤ). need c x ≤ w) xs → greatest_need c xs ≤ w
need_within c w [] h = omega arith
need_within c w (x ∷ xs) h = omega (arith, h.0, need_within c w xs h.1)

-- a number is as far above a lower base, or further
pub gap_le : (b b' x : ℤ) → b' ≤ℤ b → b ≤ℤ x → nat_abs (x -ℤ b) ≤ nat_abs (x -ℤ b')
gap_le b b' x h k = omega (arith, ints)

pub among_all : (P : ℤ → Type 0) (b : ℤ) (xs : List ℤ) → Among b xs → AllByRecursion P xs → P b
among_all P b [] a h = absurd a
among_all P b (x ∷ xs) (inl e) h = subst P (sym e) h.0
among_all P b (x ∷ xs) (inr a) h = among_all P b xs a h.1

-- what the least base needs, at another base from which all numbers fit
based_need : (b b' : ℤ) (w w' : ℕ) (xs : List ℤ) → b' ≤ℤ b → AllByRecursion (λ (y : ℤ). b ≤ℤ y) xs → AllByRecursion (Fits (FromBase b' w')) xs → greatest_need (FromBase b w) xs ≤ w'
based_need b b' w w' [] lower above fits = omega arith
based_need b b' w w' (x ∷ xs) lower above fits =
    omega (arith, fits.0.wide, digits_mono (nat_abs (x -ℤ b)) (nat_abs (x -ℤ b')) (gap_le b b' x lower above.0), based_need b b' w w' xs lower above.1 fits.1)

-- in one version, what a leaf with its base needs is at most the width of a leaf that its numbers fit
pub need_le : {n : Version} {k : LeafKind} {c d : Coded} (xs : List ℤ) → IsCoded n k c → IsCoded n k d → IsBasedOn c xs → AllByRecursion (Fits d) xs → greatest_need c xs ≤ width d
need_le xs (flag_coded {w = w}) (flag_coded {w = v}) h f = need_within (Unsigned w) v xs (all_map {P = Fits (Unsigned v)} xs (λ x g. g.wide) f)
need_le xs (signed_coded {w = w}) (signed_coded {w = v}) h f = need_within (TwosComplement w) v xs (all_map {P = Fits (TwosComplement v)} xs (λ x g. g.wide) f)
need_le [] (based_coded o) (based_coded p) h f = omega arith
need_le (x ∷ xs) (based_coded {b = b} {w = w} o) (based_coded {b = b'} {w = v} p) h f =
    based_need b b' w v (x ∷ xs) (among_all (λ (y : ℤ). b' ≤ℤ y) b (x ∷ xs) h.0 (all_map {P = Fits (FromBase b' v)} {Q = λ (y : ℤ). b' ≤ℤ y} (x ∷ xs) (λ y g. g.reached) f)) h.1 f

need_each : (c : Coded) (w : ℕ) (xs : List ℤ) → AllByRecursion (IsReached c) xs → greatest_need c xs ≤ width c → AllByRecursion (Fits c) xs
need_each c w [] r h = tt
need_each c w (x ∷ xs) r h = (record { reached = r.0; wide = omega arith }, need_each c w xs r.1 (omega arith))

all_true : {X : Type 0} (xs : List X) → AllByRecursion (λ (x : X). Unit {0}) xs
all_true [] = tt
all_true (x ∷ xs) = (tt, all_true xs)

-- a leaf that has its base, and is as wide as its numbers need, fits them
pub tight_fits : (c : Coded) (xs : List ℤ) → IsBasedOn c xs → greatest_need c xs ≤ width c → AllByRecursion (Fits c) xs
tight_fits (Unsigned v) xs h w = need_each (Unsigned v) v xs (all_true xs) w
tight_fits (TwosComplement v) xs h w = need_each (TwosComplement v) v xs (all_true xs) w
tight_fits (FromBase b v) [] h w = tt
tight_fits (FromBase b v) (x ∷ xs) h w = need_each (FromBase b v) v (x ∷ xs) h.1 w

-- ---- the need from a base

gap_up : (b x y : ℤ) → b ≤ℤ x → x ≤ℤ y → nat_abs (x -ℤ b) ≤ nat_abs (y -ℤ b)
gap_up b x y h k = omega (arith, ints)

need_up : (b y : ℤ) (w : ℕ) (xs : List ℤ) → AllByRecursion (λ (x : ℤ). b ≤ℤ x) xs → AllByRecursion (λ (x : ℤ). x ≤ℤ y) xs → greatest_need (FromBase b w) xs ≤ digits (nat_abs (y -ℤ b))
need_up b y w [] h k = omega arith
need_up b y w (x ∷ xs) h k = omega (arith, digits_mono (nat_abs (x -ℤ b)) (nat_abs (y -ℤ b)) (gap_up b x y h.0 k.0), need_up b y w xs h.1 k.1)

need_down : (b y : ℤ) (w : ℕ) (xs : List ℤ) → Among y xs → digits (nat_abs (y -ℤ b)) ≤ greatest_need (FromBase b w) xs
need_down b y w [] a = absurd a
need_down b y w (x ∷ xs) (inl e) = omega (arith, ap (λ z. digits (nat_abs (z -ℤ b))) e)
need_down b y w (x ∷ xs) (inr a) = omega (arith, need_down b y w xs a)

pub need_from_base : (b y : ℤ) (w : ℕ) (xs : List ℤ) → IsLeastOf b xs → Among y xs → AllByRecursion (λ (x : ℤ). x ≤ℤ y) xs → greatest_need (FromBase b w) xs ≡ digits (nat_abs (y -ℤ b))
need_from_base b y w [] h a k = absurd a
need_from_base b y w (x ∷ xs) h a k = omega (arith, need_up b y w (x ∷ xs) h.1 k, need_down b y w (x ∷ xs) a)

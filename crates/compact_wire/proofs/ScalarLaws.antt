-- Scalars are read exactly.
use Rattle.std.proofs.Common.{◌≡◌, ℕ, zero, suc, ◌-◌, ◌^◌, ◌<◌, ◌≤◌, ◌⊎◌, inl, inr, Bool, true, false, List}
use Rattle.std.proofs.Common.{[], ◌∷◌, ◌++◌, length, Some, refl, sym, ap, subst, ◌∙◌, arith}
use Rattle.std.specs.Prelude.{ℤ, pos, negsuc}
use Rattle.std.proofs.lemmas.Bool.Decides.{nat_tests}
use Rattle.std.proofs.lemmas.Bool.{cases_lt}
use Rattle.std.proofs.lemmas.List.{append-nil}
use Rattle.compact_wire.specs.declared.kind.Kind.{Kind}
use Rattle.compact_wire.specs.declared.kind.Kind.TheVariants as k
use Rattle.compact_wire.specs.Node.{Node, flag, i8, i16, i32, i64, double, binary}
use Rattle.compact_wire.specs.Bytes.{IsByte, AreBytes, ByteReader, OneByte}
use Rattle.exact_reading.specs.Reading.{and_then, pure, one, taken}
use Rattle.compact_wire.specs.Number.{IsNumber, zigzag}
use Rattle.compact_wire.specs.Reads.{number, signed, element_flag, signed_byte, scalar, fits}
use Rattle.compact_wire.specs.Spells.{IsSignedByte, Spells, is_true, is_false, is_i8, is_i16, is_i32, is_i64}
use Rattle.compact_wire.specs.Spells.{is_double, is_binary}
use Rattle.exact_reading.proofs.Items.{before_none}
use Rattle.exact_reading.specs.Exact.{Exact, Then, Pure}
use Rattle.exact_reading.proofs.Combinators.{one_exact, mapped_exact, then_exact, same_exact}
use Rattle.compact_wire.proofs.NumberLaws.{number_exact, zero_is}
use Rattle.compact_wire.proofs.Signed.{IsSigned, signed_exact, IsTaken, taken_exact, taken_some}

-- ---- flags

flag_of : (b : ℕ) (x : Bool) → element_flag b ≡ Some x
    → ((b ≡ 1) × (x ≡ true)) ⊎ (((b ≡ 0) ⊎ (b ≡ 2)) × (x ≡ false))
unfolding element_flag
flag_of zero x e = inr (inl refl, cc)
flag_of (suc zero) x e = inl (refl, cc)
flag_of (suc (suc zero)) x e = inr (inr refl, cc)
flag_of (suc (suc (suc b))) x e = absurd (grind (arith, nat_tests))

flag_to : (l : ℕ) (w : Node) (t : List ℕ) → Then (OneByte element_flag) (λ x. Pure (flag x)) w t
    → Spells l k.Flag w t
flag_to l w t (x, a, u, (c, byte, means, a_is), (w_is, u_is), e) =
    let t_is : t ≡ c ∷ [] = before_none t a u u_is e ∙ a_is in
    elim (flag_of c x means) [
      | inl f ↦
          subst (λ (v : Node). Spells l k.Flag v t) (sym (w_is ∙ ap flag f.1))
          (is_true l t (t_is ∙ ap (λ (z : ℕ). z ∷ []) f.0))
      | inr f ↦ subst (λ (v : Node). Spells l k.Flag v t) (sym (w_is ∙ ap flag f.1)) (is_false l c t f.0 t_is)
    ]

flag_from : (l : ℕ) (w : Node) (t : List ℕ) → Spells l k.Flag w t
    → Then (OneByte element_flag) (λ x. Pure (flag x)) w t
unfolding element_flag
flag_from l w t (is_true _ _ e) = (true, 1 ∷ [], [], (1, omega arith, refl, refl), (refl, refl), e)
flag_from l w t (is_false _ b _ (inl z) e) =
    (false, 0 ∷ [], [], (0, omega arith, refl, refl), (refl, refl), e ∙ ap (λ (z : ℕ). z ∷ []) z)
flag_from l w t (is_false _ b _ (inr z) e) =
    (false, 2 ∷ [], [], (2, omega arith, refl, refl), (refl, refl), e ∙ ap (λ (z : ℕ). z ∷ []) z)

flag_exact : (l n : ℕ) → Exact IsByte n (Spells l k.Flag) (scalar k.Flag)
unfolding scalar element_flag
flag_exact l n =
    same_exact IsByte (Then (OneByte element_flag) (λ x. Pure (flag x))) (Spells l k.Flag) (scalar k.Flag)
    (record { to = flag_to l; from = flag_from l }) n
    (mapped_exact IsByte (OneByte element_flag) (one element_flag) flag n
    (one_exact IsByte element_flag 1 true (omega arith) refl n))

-- ---- bytes with a sign

byte_low : (b : ℕ) → b < 128 → signed_byte b ≡ Some (pos b)
unfolding signed_byte
byte_low b lt = grind (arith, nat_tests)

byte_high : (b : ℕ) → 128 ≤ b → signed_byte b ≡ Some (negsuc (255 - b))
unfolding signed_byte
byte_high b le = grind (arith, nat_tests)

byte_is : (b : ℕ) (z : ℤ) → b < 256 → signed_byte b ≡ Some z → IsSignedByte z b
byte_is b z lt e =
    elim (cases_lt b 128) [
      | inl low ↦ let f : Some (pos b) ≡ Some z =
          sym (byte_low b low) ∙ e in let g : pos b ≡ z =
          cc in subst (λ (y : ℤ). IsSignedByte y b) g (low, refl)
      | inr high ↦ let f : Some (negsuc (255 - b)) ≡ Some z =
          sym (byte_high b high) ∙ e in let g : negsuc (255 - b) ≡ z =
          cc in subst (λ (y : ℤ). IsSignedByte y b) g (omega arith, omega arith)
    ]

byte_again : (b : ℕ) (z : ℤ) → IsSignedByte z b → (b < 256) × (signed_byte b ≡ Some z)
byte_again b (pos n) is =
    (omega (arith, is.0, is.1), byte_low b (omega (arith, is.0, is.1)) ∙ ap (λ (m : ℕ). Some (pos m)) is.1)
byte_again b (negsuc n) is =
    let m_is : 255 - b ≡ n =
    omega (arith, is.1) in
    (omega (arith, is.1), byte_high b (omega (arith, is.0, is.1)) ∙ ap (λ (m : ℕ). Some (negsuc m)) m_is)

i8_to : (l : ℕ) (w : Node) (t : List ℕ) → Then (OneByte signed_byte) (λ x. Pure (i8 x)) w t
    → Spells l k.I8 w t
i8_to l w t (z, a, u, (c, byte, means, a_is), (w_is, u_is), e) =
    subst (λ (v : Node). Spells l k.I8 v t) (sym w_is)
    (is_i8 l z c t (byte_is c z byte means) (before_none t a u u_is e ∙ a_is))

i8_from : (l : ℕ) (w : Node) (t : List ℕ) → Spells l k.I8 w t
    → Then (OneByte signed_byte) (λ x. Pure (i8 x)) w t
i8_from l w t (is_i8 _ z b _ is e) =
    let m = byte_again b z is in (z, b ∷ [], [], (b, m.0, m.1, refl), (refl, refl), e)

i8_exact : (l n : ℕ) → Exact IsByte n (Spells l k.I8) (scalar k.I8)
unfolding scalar
i8_exact l n =
    same_exact IsByte (Then (OneByte signed_byte) (λ x. Pure (i8 x))) (Spells l k.I8) (scalar k.I8)
    (record { to = i8_to l; from = i8_from l }) n
    (mapped_exact IsByte (OneByte signed_byte) (one signed_byte) i8 n
    (one_exact IsByte signed_byte 0 (pos 0) (omega arith) (byte_low 0 (omega arith)) n))

-- ---- signed numbers

module _ (l room greatest : ℕ) (kind : Kind) (make : ℤ → Node) (read : ByteReader Node) (n : ℕ)
    (to : (z : ℤ) (t : List ℕ) → IsNumber (suc room) greatest (zigzag z) t → Spells l kind (make z) t)
    (from : (w : Node) (t : List ℕ) → Spells l kind w t
    → (z : ℤ) × (w ≡ make z) × IsNumber (suc room) greatest (zigzag z) t) where
  integer_to : (w : Node) (t : List ℕ) → Then (IsSigned (suc room) greatest) (λ x. Pure (make x)) w t
      → Spells l kind w t
  integer_to w t (z, a, u, is, (w_is, u_is), e) =
      subst (λ (v : Node). Spells l kind v t) (sym w_is)
      (to z t (subst (IsSigned (suc room) greatest z) (sym (before_none t a u u_is e)) is))

  integer_from : (w : Node) (t : List ℕ) → Spells l kind w t
      → Then (IsSigned (suc room) greatest) (λ x. Pure (make x)) w t
  integer_from w t is = let f = from w t is in (f.0, t, [], f.2, (f.1, refl), sym (append-nil t))

  integer_exact : Exact IsByte n (Spells l kind) (and_then (signed room greatest) (λ x. pure (make x)))
  integer_exact =
      same_exact IsByte (Then (IsSigned (suc room) greatest) (λ x. Pure (make x))) (Spells l kind)
      (and_then (signed room greatest) (λ x. pure (make x))) (record { to = integer_to; from = integer_from })
      n
      (mapped_exact IsByte (IsSigned (suc room) greatest) (signed room greatest) make n
      (signed_exact room greatest n))

from_i16 : (l : ℕ) (w : Node) (t : List ℕ) → Spells l k.I16 w t
    → (z : ℤ) × (w ≡ i16 z) × IsNumber 3 (2 ^ 16 - 1) (zigzag z) t
from_i16 l w t (is_i16 _ z _ is) = (z, refl, is)

from_i32 : (l : ℕ) (w : Node) (t : List ℕ) → Spells l k.I32 w t
    → (z : ℤ) × (w ≡ i32 z) × IsNumber 5 (2 ^ 32 - 1) (zigzag z) t
from_i32 l w t (is_i32 _ z _ is) = (z, refl, is)

from_i64 : (l : ℕ) (w : Node) (t : List ℕ) → Spells l k.I64 w t
    → (z : ℤ) × (w ≡ i64 z) × IsNumber 10 (2 ^ 64 - 1) (zigzag z) t
from_i64 l w t (is_i64 _ z _ is) = (z, refl, is)

-- ---- bytes

double_to : (l : ℕ) (w : Node) (t : List ℕ) → Then (IsTaken 8) (λ x. Pure (double x)) w t
    → Spells l k.Double w t
double_to l w t (x, a, u, is, (w_is, u_is), e) =
    let t_is : a ≡ t = sym (before_none t a u u_is e) in
    subst (λ (v : Node). Spells l k.Double v t) (sym (w_is ∙ ap double (is.same ∙ t_is)))
    (is_double l t (ap length (sym t_is) ∙ is.len) (subst AreBytes t_is is.bytes))

double_from : (l : ℕ) (w : Node) (t : List ℕ) → Spells l k.Double w t
    → Then (IsTaken 8) (λ x. Pure (double x)) w t
double_from l w t (is_double _ _ len bytes) =
    (t, t, [], record { same = refl; len = len; bytes = bytes }, (refl, refl), sym (append-nil t))

double_exact : (l n : ℕ) → Exact IsByte n (Spells l k.Double) (scalar k.Double)
unfolding scalar
double_exact l n =
    same_exact IsByte (Then (IsTaken 8) (λ x. Pure (double x))) (Spells l k.Double) (scalar k.Double)
    (record { to = double_to l; from = double_from l }) n
    (mapped_exact IsByte (IsTaken 8) (taken 8) double n (taken_exact 8 n))

abbrev Sized : ℕ → Node → List ℕ → Type 0
Sized m = Then (IsTaken m) (λ x. Pure (binary x))

binary_to : (l : ℕ) (w : Node) (t : List ℕ) → Then (IsNumber 5 (2 ^ 31 - 1)) Sized w t → Spells l k.Binary w t
binary_to l w t (m, h, b, number_is, (x, a, u, is, (w_is, u_is), e2), e) =
    let x_is : b ≡ x = before_none b a u u_is e2 ∙ sym is.same in
    let len : m ≡ length x = sym is.len ∙ ap length (sym is.same) in
    subst (λ (v : Node). Spells l k.Binary v t) (sym w_is)
    (is_binary l x t h (subst (λ (j : ℕ). IsNumber 5 (2 ^ 31 - 1) j h) len number_is)
    (subst AreBytes (sym is.same) is.bytes) (e ∙ ap (λ (z : List ℕ). h ++ z) x_is))

binary_from : (l : ℕ) (w : Node) (t : List ℕ) → Spells l k.Binary w t
    → Then (IsNumber 5 (2 ^ 31 - 1)) Sized w t
binary_from l w t (is_binary _ x _ h number_is bytes e) = (
  length x,
  h,
  x,
  number_is,
  (x, x, [], record { same = refl; len = refl; bytes = bytes }, (refl, refl), sym (append-nil x)),
  e,
)

binary_exact : (l n : ℕ) → Exact IsByte n (Spells l k.Binary) (scalar k.Binary)
unfolding scalar
binary_exact l n =
    same_exact IsByte (Then (IsNumber 5 (2 ^ 31 - 1)) Sized) (Spells l k.Binary) (scalar k.Binary)
    (record { to = binary_to l; from = binary_from l }) n
    (then_exact IsByte (IsNumber 5 (2 ^ 31 - 1)) Sized (number 4 (2 ^ 31 - 1))
    (λ m. and_then (taken m) (λ x. pure (binary x))) n n (number_exact 4 (2 ^ 31 - 1))
    (λ m t p. let s = taken_some m in record {
      exact = mapped_exact IsByte (IsTaken m) (taken m) binary n (taken_exact m n);
      some = (binary s.0, s.1, (s.0, s.1, [], s.2, (refl, refl), sym (append-nil s.1)));
    }) (λ m t p. omega arith))

pub scalar_exact : (l : ℕ) (kind : Kind) (n : ℕ) → fits 0 kind ≡ true
    → Exact IsByte n (Spells l kind) (scalar kind)
unfolding scalar
scalar_exact l k.Flag n h = flag_exact l n
scalar_exact l k.I8 n h = i8_exact l n
scalar_exact l k.I16 n h =
    integer_exact l 2 (2 ^ 16 - 1) k.I16 i16 (scalar k.I16) n (λ z t is. is_i16 l z t is) (from_i16 l)
scalar_exact l k.I32 n h =
    integer_exact l 4 (2 ^ 32 - 1) k.I32 i32 (scalar k.I32) n (λ z t is. is_i32 l z t is) (from_i32 l)
scalar_exact l k.I64 n h =
    integer_exact l 9 (2 ^ 64 - 1) k.I64 i64 (scalar k.I64) n (λ z t is. is_i64 l z t is) (from_i64 l)
scalar_exact l k.Double n h = double_exact l n
scalar_exact l k.Binary n h = binary_exact l n
scalar_exact l k.List n h = absurd cc
scalar_exact l k.Set n h = absurd cc
scalar_exact l k.Map n h = absurd cc
scalar_exact l k.Struct n h = absurd cc

pub scalar_some : (l : ℕ) (kind : Kind) → fits 0 kind ≡ true → (x : Node) × (t : List ℕ) × Spells l kind x t
scalar_some l k.Flag h = (flag true, 1 ∷ [], is_true l (1 ∷ []) refl)
scalar_some l k.I8 h = (i8 (pos 0), 0 ∷ [], is_i8 l (pos 0) 0 (0 ∷ []) (omega arith, refl) refl)
scalar_some l k.I16 h = (i16 (pos 0), 0 ∷ [], is_i16 l (pos 0) (0 ∷ []) (zero_is 2 (2 ^ 16 - 1)))
scalar_some l k.I32 h = (i32 (pos 0), 0 ∷ [], is_i32 l (pos 0) (0 ∷ []) (zero_is 4 (2 ^ 32 - 1)))
scalar_some l k.I64 h = (i64 (pos 0), 0 ∷ [], is_i64 l (pos 0) (0 ∷ []) (zero_is 9 (2 ^ 64 - 1)))
scalar_some l k.Double h = let s = taken_some 8 in (double s.1, s.1, is_double l s.1 s.2.len s.2.bytes)
scalar_some l k.Binary h =
    (binary [], 0 ∷ [], is_binary l [] (0 ∷ []) (0 ∷ []) (zero_is 4 (2 ^ 31 - 1)) tt refl)
scalar_some l k.List h = absurd cc
scalar_some l k.Set h = absurd cc
scalar_some l k.Map h = absurd cc
scalar_some l k.Struct h = absurd cc

-- Bytes that are taken, numbers and what is made of values are read exactly.
use Rattle.std.proofs.Common.{◌≡◌, ℕ, List, [], true, refl, sym, arith}
use Rattle.std.specs.Prelude.{ℤ, Some}
use Rattle.std.proofs.lemmas.List.{append-nil}
use Rattle.std.specs.Int.{Width, cast_signed}
use Rattle.byteorder.specs.Endian.{big_number}
use Rattle.exact_reading.specs.Reading.{taken}
use Rattle.exact_reading.specs.Exact.{Exact}
use Rattle.exact_reading.proofs.Combinators.{mapped_exact, same_exact, one_exact}
use Rattle.exact_reading.specs.Reading.{one}
use Rattle.compact_wire.specs.declared.kind.Kind.{Kind}
use Rattle.compact_wire.specs.declared.kind.Kind.TheVariants as k
use Rattle.compact_wire.specs.Bytes.{IsByte, ByteReader, OneByte}
use Rattle.compact_wire.specs.Node.{Node}
use Rattle.compact_wire.specs.Reads.{fits}
use Rattle.compact_wire.proofs.Signed.{IsTaken, taken_exact, taken_some}
use Rattle.binary_wire.specs.BinaryCodes.{binary_kind}
use Rattle.binary_wire.specs.BinaryNumbers.{Made, Bytes, IsSigned}
use Rattle.binary_wire.specs.BinaryReads.{signed}

-- The values of a level are read exactly, at each kind that fits there, and nothing else is spelled.
pub record Layer (l : ℕ) (Spelled : Kind → Node → List ℕ → Type 0) (read : Kind → ByteReader Node) : Type 0 where
  pub exact : (kind : Kind) → fits l kind ≡ true → (n : ℕ) → Exact IsByte n (Spelled kind) (read kind)
  pub some : (kind : Kind) → fits l kind ≡ true → (x : Node) × (t : List ℕ) × Spelled kind x t
  pub only : (kind : Kind) (x : Node) (t : List ℕ) → Spelled kind x t → fits l kind ≡ true

pub made_some : {A B : Type 0} (make : A → B) (S : A → List ℕ → Type 0) → ((x : A) × (t : List ℕ) × S x t)
    → (y : B) × (t : List ℕ) × Made make S y t
made_some make S (x, t, p) = (make x, t, (x, t, [], p, (refl, refl), sym (append-nil t)))

pub bytes_exact : (m n : ℕ) → Exact IsByte n (Bytes m) (taken m)
bytes_exact m n =
    same_exact IsByte (IsTaken m) (Bytes m) (taken m)
    (record {
      to = λ x t is. (is.same, is.len, is.bytes);
      from = λ x t is. record { same = is.0; len = is.1; bytes = is.2 };
    }) n (taken_exact m n)

pub bytes_some : (m : ℕ) → (x : List ℕ) × (t : List ℕ) × Bytes m x t
bytes_some m = let s = taken_some m in (s.0, s.1, (s.2.same, s.2.len, s.2.bytes))

pub signed_exact : (w : Width) (m n : ℕ) → Exact IsByte n (IsSigned w m) (signed w m)
signed_exact w m n = mapped_exact IsByte (Bytes m) (taken m) (λ x. cast_signed w (big_number m x)) n (bytes_exact m n)

pub signed_some : (w : Width) (m : ℕ) → (z : ℤ) × (t : List ℕ) × IsSigned w m z t
signed_some w m = made_some (λ x. cast_signed w (big_number m x)) (Bytes m) (bytes_some m)

-- ---- codes

pub flag_code : binary_kind 2 ≡ Some k.Flag
unfolding binary_kind
flag_code = refl

pub code_exact : (n : ℕ) → Exact IsByte n (OneByte binary_kind) (one binary_kind)
code_exact n = one_exact IsByte binary_kind 2 k.Flag (omega arith) flag_code n

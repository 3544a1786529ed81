-- Numbers of Binary Protocol: of a fixed number of bytes, the highest first.
use Rattle.std.specs.Prelude.{◌≡◌, ℕ, ◌<◌, ◌^◌, ℤ, List, length}
use Rattle.std.specs.Int.{Width, cast_signed}
use Rattle.byteorder.specs.Endian.{big_number}
use Rattle.exact_reading.specs.Exact.{Then, Pure}
use Rattle.compact_wire.specs.Bytes.{AreBytes}

-- what is made of a value, spelled as the value is
abbrev pub Made : {A B : Type 0} → (A → B) → (A → List ℕ → Type 0) → B → List ℕ → Type 0
Made make S = Then S (λ x. Pure (make x))

-- so many bytes, which spell themselves
abbrev pub Bytes : ℕ → List ℕ → List ℕ → Type 0
Bytes n x t = (x ≡ t) × (length t ≡ n) × AreBytes t

-- a number of so many bytes in two's complement
abbrev pub IsSigned : Width → ℕ → ℤ → List ℕ → Type 0
IsSigned w n = Made (λ x. cast_signed w (big_number n x)) (Bytes n)

-- a length or a size: four bytes in two's complement, and none below 0
pub record IsSize (n : ℕ) (t : List ℕ) : Type 0 where
  pub four : length t ≡ 4
  pub bytes : AreBytes t
  pub number : n ≡ big_number 4 t
  pub small : n < 2 ^ 31

-- Laws of binary digits: fields, digits and needs in numbers.
use Rattle.std.specs.Prelude.{◌≡◌, ◌↔◌, ℕ, ◌+◌, ◌-◌, ◌*◌, ◌^◌, ◌<◌, ◌≤◌, List, ℤ, pos, ◌-ℤ◌, ◌<ℤ◌, ◌≤ℤ◌, length, take, drop, slice_index}
use Rattle.frozen_model.specs.Bits.{bits, bits_of, field, need_unsigned, need_signed, complement, signed}

-- each number of the list is a byte
abbrev pub IsBytes : List ℕ → Type 0
IsBytes bs = (k : ℕ) → slice_index bs k < 256

-- the bits of a field stand at its place
abbrev pub FieldIsBits : Type 0
FieldIsBits = (bs : List ℕ) (bit w : ℕ) → IsBytes bs → bit + w ≤ 8 * length bs
    → bits w (field bs bit w) ≡ take w (drop bit (bits_of bs))

-- numbers of w bits with the same digits are one
abbrev pub BitsAreInjective : Type 0
BitsAreInjective = (w m n : ℕ) → m < 2 ^ w → n < 2 ^ w → bits w m ≡ bits w n → m ≡ n

-- an unsigned number needs the least width that holds it
abbrev pub UnsignedNeedIsLeast : Type 0
UnsignedNeedIsLeast = (x w : ℕ) → (need_unsigned x ≤ w) ↔ (x < 2 ^ w)

-- so does a signed one, where width 0 holds 0 alone
abbrev pub SignedNeedIsLeast : Type 0
SignedNeedIsLeast = (x : ℤ) (w : ℕ) → 1 ≤ w
    → (need_signed x ≤ w) ↔ (((pos 0 -ℤ pos (2 ^ (w - 1))) ≤ℤ x) × (x <ℤ pos (2 ^ (w - 1))))

abbrev pub OnlyZeroNeedsNone : Type 0
OnlyZeroNeedsNone = (x : ℤ) → (need_signed x ≤ 0) ↔ (x ≡ pos 0)

-- a signed number that w bits hold is what its complement means
abbrev pub ComplementIsInverse : Type 0
ComplementIsInverse = (w : ℕ) (x : ℤ) → need_signed x ≤ w → (complement w x < 2 ^ w) × (signed w (complement w x) ≡ x)

-- and a number of w bits is the complement of what it means, which w bits hold
abbrev pub SignedIsInverse : Type 0
SignedIsInverse = (w n : ℕ) → n < 2 ^ w → (need_signed (signed w n) ≤ w) × (complement w (signed w n) ≡ n)

-- What a write of a field does to the number that the bytes write.
use Rattle.std.specs.Prelude.{◌≡◌, ℕ, ◌+◌, ◌*◌, ◌^◌, List}
use Rattle.frozen_model.specs.Bits.{number, field}
use Rattle.frozen_model.specs.BitLaws.{IsBytes}

-- the field's old number is taken away from the bytes' number, and x is added in its place
pub record Replaces (old new : List ℕ) (bit w x : ℕ) : Type 0 where
  pub was_bytes : IsBytes old
  pub sum : number new + field old bit w * 2 ^ bit ≡ number old + x * 2 ^ bit

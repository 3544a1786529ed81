-- Numbers on the wire: base 128, the lowest digit first, and zigzag for signed ones. A number has its
-- shortest spelling and longer ones.
use Rattle.std.specs.Prelude.{◌≡◌, ℕ, zero, suc, ◌+◌, ◌*◌, ◌/◌, ◌%◌, ◌<◌, ◌≤◌, ℤ, pos, negsuc, if◌then◌else◌}
use Rattle.std.specs.Prelude.{nat_lt, ◌==◌, List, [], ◌∷◌, length}

-- the number that writes a signed one: 2x for x from 0 up, and -2x - 1 below
abbrev pub zigzag : ℤ → ℕ
zigzag (pos n) = 2 * n
zigzag (negsuc n) = 2 * n + 1

-- the signed number that a number writes
unfoldable pub unzigzag : ℕ → ℤ
unzigzag n = if n % 2 == 0 then pos (n / 2) else negsuc (n / 2)

-- The bytes write n: seven bits in each, the lowest first. Each byte but the last is marked by 128 more.
abbrev pub IsVarint : List ℕ → ℕ → Type 0
IsVarint [] n = ⊥
IsVarint (b ∷ []) n = (b < 128) × (n ≡ b)
IsVarint (b ∷ c ∷ bs) n =
    (128 ≤ b) × (b < 256) × (high : ℕ) × (n + 128 ≡ b + 128 * high) × IsVarint (c ∷ bs) high

-- the bytes write n, in so many bytes at most, and n is no greater than the greatest
pub record IsNumber (most greatest n : ℕ) (bytes : List ℕ) : Type 0 where
  pub short_enough : length bytes ≤ most
  pub small_enough : n ≤ greatest
  pub digits : IsVarint bytes n

-- A number's digits in base 128, marked as above, where room is the most that may follow the first.
unfoldable pub digits_128 : ℕ → ℕ → List ℕ
digits_128 zero n = n ∷ []
digits_128 (suc room) n = if nat_lt n 128 then n ∷ [] else (n % 128 + 128) ∷ digits_128 room (n / 128)

-- the shortest spelling of a number below 2 ^ 70, as every u64 is
unfoldable pub shortest : ℕ → List ℕ
shortest n = digits_128 9 n

-- Binary digits: a number as a list of bits, the bits of bytes, and how many bits a number needs.
use Rattle.std.specs.Prelude.{ℕ, zero, suc, ◌+◌, ◌-◌, ◌*◌, ◌/◌, ◌%◌, ◌^◌, List, [], ◌∷◌, ◌++◌, Bool, ℤ, pos, negsuc, nat_eq, nat_lt, if◌then◌else◌, take, drop}

-- the w lowest binary digits of n, the lowest first
abbrev pub bits : ℕ → ℕ → List Bool
bits zero n = []
bits (suc w) n = nat_eq (n % 2) 1 ∷ bits w (n / 2)

-- the bits of bytes, eight for each byte, the lowest first
abbrev pub bits_of : List ℕ → List Bool
bits_of [] = []
bits_of (b ∷ bs) = bits 8 b ++ bits_of bs

-- the number whose binary digits are those of x in two's complement of width w: below 0 that is x + 2 ^ w
abbrev pub complement : ℕ → ℤ → ℕ
complement w (pos n) = n
complement w (negsuc n) = 2 ^ w - suc n

-- the number whose binary digits are those bits, the lowest first
abbrev pub number_of_bits : List Bool → ℕ
number_of_bits [] = 0
number_of_bits (b ∷ bs) = (if b then 1 else 0) + 2 * number_of_bits bs

-- the bytes of so many times eight bits
abbrev pub bytes_of : ℕ → List Bool → List ℕ
bytes_of zero bs = []
bytes_of (suc n) bs = number_of_bits (take 8 bs) ∷ bytes_of n (drop 8 bs)

-- the number of binary digits of n, where depth is at least n: 0 for 0, else one more than those of its half
abbrev pub count_digits : ℕ → ℕ → ℕ
count_digits zero n = 0
count_digits (suc depth) zero = 0
count_digits (suc depth) (suc n) = suc (count_digits depth (suc n / 2))

-- the number of binary digits of n, 0 for 0: the least w with n below 2 ^ w
unfoldable pub digits : ℕ → ℕ
digits n = count_digits n n

-- the bits that an unsigned number needs
abbrev pub need_unsigned : ℕ → ℕ
need_unsigned n = digits n

-- the bits that a signed number needs in two's complement: none for 0, else its digits, or those of -1 - x below 0,
-- and a sign
abbrev pub need_signed : ℤ → ℕ
need_signed (pos zero) = 0
need_signed (pos (suc n)) = suc (digits (suc n))
need_signed (negsuc n) = suc (digits n)

-- the number that bytes write, the lowest byte first
abbrev pub number : List ℕ → ℕ
number [] = 0
number (b ∷ bs) = b + 256 * number bs

-- the number in the w bits of bytes from a bit on, as a quotient and a remainder
unfoldable pub field : List ℕ → ℕ → ℕ → ℕ
field bs bit w = number bs / 2 ^ bit % 2 ^ w

-- the number that w bits mean in two's complement, where n is what they write
abbrev pub signed : ℕ → ℕ → ℤ
signed w n = if nat_lt n (2 ^ (w - 1)) then pos n else negsuc (2 ^ w - suc n)

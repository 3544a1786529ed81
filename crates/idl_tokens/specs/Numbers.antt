-- The numbers of a text: an optional sign, and decimal digits or 0x and hexadecimal digits.
use Rattle.std.specs.Prelude.{ℕ, zero, suc, ◌+◌, ◌-◌, ◌*◌, ◌^◌, ℤ, pos, negsuc, Bool, true, false, ◌==◌, ◌&&◌, nat_lt, nat_le, if◌then◌else◌, List, [], ◌∷◌, take, drop, Option, Some, None}
use Rattle.std.specs.List.{prefix_len}
use Rattle.idl_tokens.specs.Characters.{is_digit, is_hex_digit}

abbrev pub digit_value : ℕ → ℕ
digit_value c = if is_digit c then c - 48 else (if nat_le 97 c then c - 87 else c - 55)

-- the value of digits in this base, behind digits of value n
abbrev pub value_behind : ℕ → ℕ → List ℕ → ℕ
value_behind base n [] = n
value_behind base n (c ∷ cs) = value_behind base (n * base + digit_value c) cs

abbrev pub value : ℕ → List ℕ → ℕ
value base cs = value_behind base 0 cs

-- the number of hexadecimal digits behind the 0x that a text begins with; 0 where it begins otherwise
abbrev pub hex_len : List ℕ → ℕ
hex_len [] = 0
hex_len (a ∷ []) = 0
hex_len (a ∷ b ∷ text) = if a == 48 && b == 120 then prefix_len is_hex_digit text else 0

-- a number without its sign: how many characters it has, and its value
pub record Magnitude : Type 0 where
  pub len : ℕ
  pub value : ℕ

abbrev pub make_magnitude : ℕ → ℕ → Magnitude
make_magnitude n v = record { len = n; value = v }

abbrev pub hex_magnitude : ℕ → List ℕ → Magnitude
hex_magnitude n digits = make_magnitude (n + 2) (value 16 (take n digits))

abbrev pub decimal_magnitude : ℕ → List ℕ → Magnitude
decimal_magnitude n digits = make_magnitude n (value 10 (take n digits))

-- the longest number without a sign that the text begins with; it has no characters where there is none
abbrev pub magnitude : List ℕ → Magnitude
magnitude text = if nat_lt 0 (hex_len text) then hex_magnitude (hex_len text) (drop 2 text) else decimal_magnitude (prefix_len is_digit text) text

abbrev pub negative : ℕ → ℤ
negative zero = pos 0
negative (suc n) = negsuc n

-- the number of this sign and magnitude, if it is one of 64 bits
abbrev pub in_64_bits : Bool → ℕ → Option ℤ
in_64_bits true n = if nat_le n (2 ^ 63) then Some (negative n) else None
in_64_bits false n = if nat_lt n (2 ^ 63) then Some (pos n) else None

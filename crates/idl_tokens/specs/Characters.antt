-- The characters that spaces, words, numbers and marks are made of.
use Rattle.std.specs.Prelude.{ℕ, Bool, false, ◌==◌, ◌&&◌, ◌||◌, not, nat_le, List, [], ◌∷◌}

-- space, tab, carriage return and newline
abbrev pub is_space : ℕ → Bool
is_space c = c == 32 || c == 9 || c == 13 || c == 10

abbrev pub is_digit : ℕ → Bool
is_digit c = nat_le 48 c && nat_le c 57

-- digits, a to f and A to F
abbrev pub is_hex_digit : ℕ → Bool
is_hex_digit c = is_digit c || (nat_le 97 c && nat_le c 102) || (nat_le 65 c && nat_le c 70)

abbrev pub is_letter : ℕ → Bool
is_letter c = (nat_le 65 c && nat_le c 90) || (nat_le 97 c && nat_le c 122)

-- what a word begins with: a letter or _
abbrev pub is_word_start : ℕ → Bool
is_word_start c = is_letter c || c == 95

-- what stands in a word: letters, digits, _ and .
abbrev pub is_word_character : ℕ → Bool
is_word_character c = is_letter c || is_digit c || c == 95 || c == 46

-- { } ( ) < > [ ] : = , ; * @
abbrev pub is_mark : ℕ → Bool
is_mark c =
    c == 123 || c == 125 || c == 40 || c == 41 || c == 60 || c == 62 || c == 91 || c == 93 || c == 58 || c == 61 || c == 44 || c == 59 || c == 42 || c == 64

-- any character but the newline
abbrev pub is_in_line : ℕ → Bool
is_in_line c = not (c == 10)

-- what stands in a literal between two quotes
abbrev pub is_in_literal : ℕ → ℕ → Bool
is_in_literal quote c = not (c == quote) && not (c == 10)

abbrev pub begins_with : ℕ → List ℕ → Bool
begins_with x [] = false
begins_with x (c ∷ text) = c == x

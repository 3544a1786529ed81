-- How steps are read at the front of a text: each reader gives what it finds and what is behind it, or none.
use Rattle.std.specs.Prelude.{ℕ, ◌^◌, Bool, true, false, ◌==◌, ◌&&◌, ◌||◌, nat_lt, if◌then◌else◌, List, [], ◌∷◌, length, take, drop, codes, Option, Some, None, option_map, Result, Ok, Err}
use Rattle.std.specs.Char.{is_ascii_digit}
use Rattle.std.specs.List.{prefix_len}
use Rattle.std.specs.Str.Parse.{digits_value}
use Rattle.hex.specs.Hex.{decode_of, is_hex_digit}
use Rattle.hex.specs.declared.error.FromHexError.{FromHexError}
use Rattle.idl_tokens.specs.Characters.{is_word_start}
use Rattle.idl_tokens.specs.Numbers.{in_64_bits}
use Rattle.path_text.specs.Steps.{PathKey, int_key, flag_key, text_key, bytes_key, PathStep, field_step, index_step, key_step}
use Rattle.path_text.specs.Texts.{is_name_character}

abbrev pub Found : Type 0 → Type 0
Found A = Option (A × List ℕ)

-- what is behind a word
abbrev pub behind_word : List ℕ → List ℕ → Option (List ℕ)
behind_word [] text = Some text
behind_word (c ∷ word) [] = None
behind_word (c ∷ word) (d ∷ text) = if d == c then behind_word word text else None

-- what was found, with a closing character behind it
abbrev pub closed : {A B : Type 0} → (A → B) → ℕ → Found A → Found B
closed make close None = None
closed make close (Some p) = option_map (λ rest. (make p.0, rest)) (behind_word (close ∷ []) p.1)

-- ---- names and numbers

abbrev pub begins_name : List ℕ → Bool
begins_name [] = false
begins_name (c ∷ cs) = is_word_start c

abbrev pub read_field : List ℕ → Found PathStep
read_field text =
    let n = prefix_len is_name_character text in
    if begins_name text then Some (field_step (take n text), drop n text) else None

-- the value of digits, where it is one of 64 bits
abbrev pub magnitude : List ℕ → Option ℕ
magnitude digits = if nat_lt 0 (length digits) && nat_lt (digits_value 10 digits) (2 ^ 64) then Some (digits_value 10 digits) else None

abbrev pub with_rest : {A : Type 0} → List ℕ → Option A → Found A
with_rest rest None = None
with_rest rest (Some x) = Some (x, rest)

abbrev pub read_digits : List ℕ → Found ℕ
read_digits text = let n = prefix_len is_ascii_digit text in with_rest (drop n text) (magnitude (take n text))

abbrev pub signed : Bool → Found ℕ → Found PathKey
signed minus None = None
signed minus (Some p) = with_rest p.1 (option_map int_key (in_64_bits minus p.0))

abbrev pub read_int : List ℕ → Found PathKey
read_int [] = None
read_int (c ∷ text) = if c == 45 then signed true (read_digits text) else signed false (read_digits (c ∷ text))

-- ---- keys

-- a byte of a text between two ": any but " and \, or one of these behind a \
abbrev pub escaped_byte : List ℕ → Found ℕ
escaped_byte [] = None
escaped_byte (d ∷ text) = if d == 34 || d == 92 then Some (d, text) else None

abbrev pub byte_of : List ℕ → Found ℕ
byte_of [] = None
byte_of (c ∷ text) = if c == 34 then None else (if c == 92 then escaped_byte text else Some (c, text))

-- one more byte in front of a text
abbrev pub before_text : ℕ → Found (List ℕ) → Found (List ℕ)
before_text b None = None
before_text b (Some p) = Some (b ∷ p.0, p.1)

-- a text up to the " that ends it
abbrev pub read_text : List ℕ → Found (List ℕ)
read_text [] = None
read_text (c ∷ []) = if c == 34 then Some ([], []) else None
read_text (c ∷ d ∷ text) =
    if c == 34 then Some ([], d ∷ text)
    else (if c == 92 then (if d == 34 || d == 92 then before_text d (read_text text) else None)
    else before_text c (read_text (d ∷ text)))

abbrev pub as_text : Found (List ℕ) → Found PathKey
as_text None = None
as_text (Some p) = Some (text_key p.0, p.1)

abbrev pub as_bytes : List ℕ → Result (List ℕ) FromHexError → Found PathKey
as_bytes rest (Ok bytes) = Some (bytes_key bytes, rest)
as_bytes rest (Err e) = None

abbrev pub read_bytes : List ℕ → Found PathKey
read_bytes text = let n = prefix_len is_hex_digit text in as_bytes (drop n text) (decode_of (take n text))

abbrev pub or_else : {A : Type 0} → Option A → Option A → Option A
or_else None y = y
or_else (Some x) y = Some x

abbrev pub read_word : PathKey → List ℕ → List ℕ → Found PathKey
read_word key word text = option_map (λ rest. (key, rest)) (behind_word word text)

abbrev pub read_plain : List ℕ → Found PathKey
read_plain text = or_else (read_word (flag_key true) (codes "true") text) (or_else (read_word (flag_key false) (codes "false") text) (read_int text))

abbrev pub read_key : List ℕ → Found PathKey
read_key [] = None
read_key (c ∷ text) = if c == 34 then as_text (read_text text) else (if c == 35 then read_bytes text else read_plain (c ∷ text))

-- ---- steps

abbrev pub read_step : List ℕ → Found PathStep
read_step [] = None
read_step (c ∷ text) =
    if c == 46 then read_field text
    else (if c == 91 then closed index_step 93 (read_digits text)
    else (if c == 123 then closed key_step 125 (read_key text)
    else None))

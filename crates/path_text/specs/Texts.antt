-- Which texts are which paths, and where each other text goes wrong.
use Rattle.std.specs.Prelude.{◌≡◌, ◌≢◌, ℕ, ◌+◌, ◌^◌, ◌<◌, Bool, true, false, ◌==◌, ◌&&◌, ◌||◌, if◌then◌else◌, List, [], ◌∷◌, ◌++◌, length, codes, Some, Ok}
use Rattle.std.specs.List.{list_all}
use Rattle.std.specs.Str.{all_ascii_digits}
use Rattle.std.specs.Str.Parse.{digits_value}
use Rattle.hex.specs.Hex.{decode_of}
use Rattle.idl_tokens.specs.Characters.{is_digit, is_word_start}
use Rattle.idl_tokens.specs.Numbers.{in_64_bits}
use Rattle.path_text.specs.Steps.{PathKey, int_key, flag_key, text_key, bytes_key, PathStep, field_step, index_step, key_step, PlacedStep, WholePath}

-- ---- the texts of a step

-- letters, digits and _, all ASCII
abbrev pub is_name_character : ℕ → Bool
is_name_character c = is_word_start c || is_digit c

-- a name: one such character or more, the first no digit
abbrev pub is_name : List ℕ → Bool
is_name [] = false
is_name (c ∷ cs) = is_word_start c && list_all is_name_character cs

-- decimal digits, one or more
abbrev pub IsDecimal : List ℕ → Type 0
IsDecimal digits = (0 < length digits) × (all_ascii_digits digits ≡ true)

-- digits with a - in front, or as they are
abbrev pub with_sign : Bool → List ℕ → List ℕ
with_sign true digits = 45 ∷ digits
with_sign false digits = digits

-- a text as it stands between two ": with a \ in front of each " and each \
abbrev pub escaped : List ℕ → List ℕ
escaped [] = []
escaped (c ∷ cs) = if c == 34 || c == 92 then 92 ∷ c ∷ escaped cs else c ∷ escaped cs

-- a key as a path writes it; the bytes of a binary are those of its hexadecimal digits, two digits a byte
abbrev pub KeyText : PathKey → List ℕ → Type 0
KeyText (int_key n) text = (minus : Bool) × (digits : List ℕ) × IsDecimal digits × (in_64_bits minus (digits_value 10 digits) ≡ Some n) × (text ≡ with_sign minus digits)
KeyText (flag_key true) text = text ≡ codes "true"
KeyText (flag_key false) text = text ≡ codes "false"
KeyText (text_key s) text = text ≡ 34 ∷ (escaped s ++ 34 ∷ [])
KeyText (bytes_key bytes) text = (digits : List ℕ) × (decode_of digits ≡ Ok bytes) × (text ≡ 35 ∷ digits)

-- a step: .NAME, [INDEX] or {KEY}
abbrev pub StepText : PathStep → List ℕ → Type 0
StepText (field_step name) text = (is_name name ≡ true) × (text ≡ 46 ∷ name)
StepText (index_step i) text = (digits : List ℕ) × IsDecimal digits × (digits_value 10 digits ≡ i) × (i < 2 ^ 64) × (text ≡ 91 ∷ (digits ++ 93 ∷ []))
StepText (key_step key) text = (inside : List ℕ) × KeyText key inside × (text ≡ 123 ∷ (inside ++ 125 ∷ []))

-- ---- the texts of a path

-- no character of a name
abbrev pub goes_on : List ℕ → Bool
goes_on [] = false
goes_on (c ∷ cs) = is_name_character c

-- a name goes as far as its characters go
abbrev pub IsWhole : PathStep → List ℕ → Type 0
IsWhole (field_step name) behind = goes_on behind ≡ false
IsWhole _ behind = Unit {0}

-- The text, which begins at this place, is these steps from the left, with the rest behind them.
abbrev pub Begins : ℕ → List PlacedStep → List ℕ → List ℕ → Type 0
Begins at [] text rest = text ≡ rest
Begins at (s ∷ ss) text rest = (own : List ℕ) × (behind : List ℕ) × (text ≡ own ++ behind) × (s.place ≡ at) × StepText s.step own × IsWhole s.step behind × Begins (at + length own) ss behind rest

-- the text is this path
pub record PathText (text : List ℕ) (p : WholePath) : Type 0 where
  pub steps : Begins 0 p.steps text []
  pub len : p.len ≡ length text

-- at this place the first step begins that has no such form
pub record PathFaultAt (text : List ℕ) (n : ℕ) : Type 0 where
  pub before : List PlacedStep
  pub rest : List ℕ
  pub steps : Begins 0 before text rest
  pub place : n + length rest ≡ length text
  pub more : rest ≢ []
  pub none : (s : PathStep) (own behind : List ℕ) → StepText s own → rest ≡ own ++ behind → ⊥

-- The tokens of a text. At each place the longest token is taken.
use Rattle.std.specs.Prelude.{ℕ, zero, suc, ◌+◌, ◌-◌, ℤ, Bool, true, false, ◌==◌, ◌&&◌, ◌||◌, nat_lt, if◌then◌else◌, List, [], ◌∷◌, take, drop, Option, Some, None}
use Rattle.std.specs.List.{prefix_len}
use Rattle.idl_tokens.specs.Characters.{is_space, is_digit, is_word_start, is_word_character, is_mark, is_in_line, is_in_literal, begins_with}
use Rattle.idl_tokens.specs.Numbers.{Magnitude, magnitude, in_64_bits}

pub data Tok : Type 0 where
  word : List ℕ → Tok
  -- None: outside of 64 bits
  number : Option ℤ → Tok
  -- what stands between the quotes
  literal : List ℕ → Tok
  mark : ℕ → Tok
  -- the end of the text, and what is no token
  finish : Tok
  bad : Tok

-- a token and its line: 1 plus the number of newlines before it
pub record Spot : Type 0 where
  pub token : Tok
  pub line : ℕ

abbrev pub Toks : Type 0
Toks = List Spot

abbrev pub spot : Tok → ℕ → Spot
spot t n = record { token = t; line = n }

-- what stands at a place, with the number of characters that it has behind its first
pub data Front : Type 0 where
  -- a space or a comment
  blank : ℕ → Front
  token : Tok → ℕ → Front
  -- no token begins here
  wrong : Front

-- a comment to the end of the line
abbrev pub line_comment : List ℕ → Front
line_comment text = blank (prefix_len is_in_line text)

-- how many characters end with the first */ of the text, behind n others
abbrev pub comment_end : ℕ → List ℕ → Option ℕ
comment_end n [] = None
comment_end n (c ∷ text) = if c == 42 && begins_with 47 text then Some (n + 2) else comment_end (n + 1) text

abbrev pub block_comment : Option ℕ → Front
block_comment None = wrong
block_comment (Some n) = blank n

-- behind a /
abbrev pub behind_slash : List ℕ → Front
behind_slash [] = wrong
behind_slash (c ∷ text) =
    if c == 47 then line_comment (c ∷ text)
    else (if c == 42 then block_comment (comment_end 1 text) else wrong)

-- behind a quote: what stands before the next one in this line
abbrev pub behind_quote : ℕ → List ℕ → Front
behind_quote quote text =
    let n = prefix_len (is_in_literal quote) text in
    if begins_with quote (drop n text) then token (literal (take n text)) (n + 1) else wrong

-- behind a sign
abbrev pub behind_sign : Bool → Magnitude → Front
behind_sign minus m = if nat_lt 0 m.len then token (number (in_64_bits minus m.value)) m.len else wrong

abbrev pub unsigned_number : Magnitude → Front
unsigned_number m = token (number (in_64_bits false m.value)) (m.len - 1)

-- a word, a number without a sign or a mark that begins with c
abbrev pub plain_front : ℕ → List ℕ → Front
plain_front c text =
    if is_word_start c then token (word (c ∷ take (prefix_len is_word_character text) text)) (prefix_len is_word_character text)
    else (if is_digit c then unsigned_number (magnitude (c ∷ text))
    else (if is_mark c then token (mark c) 0 else wrong))

-- what stands at the character c before the text
abbrev pub front : ℕ → List ℕ → Front
front c text =
    if is_space c then blank 0
    else (if c == 35 then line_comment text
    else (if c == 47 then behind_slash text
    else (if c == 45 then behind_sign true (magnitude text)
    else (if c == 43 then behind_sign false (magnitude text)
    else (if c == 39 || c == 34 then behind_quote c text
    else plain_front c text)))))

-- the number of characters behind the first
abbrev pub more : Front → ℕ
more (blank n) = n
more (token t n) = n
more wrong = 0

-- nothing counts behind what is no token
abbrev pub placed : Front → ℕ → Toks → Toks
placed (blank n) line ts = ts
placed (token t n) line ts = spot t line ∷ ts
placed wrong line ts = spot bad line ∷ []

abbrev pub line_after : ℕ → ℕ → ℕ
line_after c line = if c == 10 then line + 1 else line

-- the tokens of a text that begins on this line, behind so many characters that are passed over
abbrev pub tokens_behind : ℕ → ℕ → List ℕ → Toks
tokens_behind n line [] = spot finish line ∷ []
tokens_behind zero line (c ∷ text) = placed (front c text) line (tokens_behind (more (front c text)) (line_after c line) text)
tokens_behind (suc n) line (c ∷ text) = tokens_behind n (line_after c line) text

abbrev pub tokens : List ℕ → Toks
tokens text = tokens_behind 0 1 text

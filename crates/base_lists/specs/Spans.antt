-- Parts of texts, which are bytes in UTF-8.
use Rattle.std.specs.Prelude.{ℕ, Bool, true, ◌+◌, nat_le, nat_lt, ◌&&◌, ◌||◌, if◌then◌else◌, List, [], ◌∷◌, length, drop, slice_range}
use Rattle.base_lists.specs.declared.span.Span.{Span}

abbrev pub span : ℕ → ℕ → Span
span start len = record { start = start; len = len }

-- whether a text may be cut before these bytes: at its end, or where a character begins
abbrev pub may_begin : List ℕ → Bool
may_begin [] = true
may_begin (b ∷ bytes) = nat_lt b 128 || nat_le 192 b

-- whether these are two places of the text where it may be cut
abbrev pub may_cut : List ℕ → ℕ → ℕ → Bool
may_cut text from to = nat_le to (length text) && may_begin (drop from text) && may_begin (drop to text)

abbrev pub part_between : List ℕ → ℕ → ℕ → List ℕ
part_between text from to = if may_cut text from to then slice_range text from to else []

-- the part of the text at a span; none where the text ends before, or where a character would be cut
abbrev pub text_at : List ℕ → Span → List ℕ
text_at text s = part_between text s.start (s.start + s.len)

-- What the values of this crate stand for.
use Rattle.std.specs.Prelude.{ℕ, Bool, true, false, ◌+◌, ◌-◌, nat_le, nat_lt, ◌&&◌, ◌||◌, if◌then◌else◌, List, [], ◌∷◌, length, take, drop, slice_range, map, Option, Some, None}
use Rattle.idl_tokens.specs.declared.token.Token.{Token}
use Rattle.idl_tokens.specs.declared.token.Token.TheVariants as c
use Rattle.base_lists.specs.Spans.{span, text_at}
use Rattle.idl_tokens.specs.declared.token.Placed.{Placed}
use Rattle.idl_tokens.specs.declared.fronts.Piece.{Piece}
use Rattle.idl_tokens.specs.declared.fronts.Piece.TheVariants as p
use Rattle.idl_tokens.specs.declared.fronts.Front as f
use Rattle.idl_tokens.specs.Tokens.{Tok, word, number, literal, mark, finish, bad, Spot, spot, Toks, Front, blank, token, wrong}

abbrev pub tok_of : List ℕ → Token → Tok
tok_of text (c.Word w) = word (text_at text w)
tok_of text (c.Number n) = number n
tok_of text (c.Literal x) = literal (text_at text x)
tok_of text (c.Mark m) = mark m
tok_of text c.Finish = finish
tok_of text c.Bad = bad

abbrev pub spot_of : List ℕ → Placed → Spot
spot_of text p = spot (tok_of text p.token) p.line

abbrev pub toks : List ℕ → List Placed → Toks
toks text ps = map (spot_of text) ps

-- what was found at the character c before the text
abbrev pub piece_of : ℕ → List ℕ → Piece → ℕ → Front
piece_of c text p.Blank more = blank more
piece_of c text p.Word more = token (word (c ∷ take more text)) more
piece_of c text (p.Number n) more = token (number n) more
piece_of c text p.Literal more = token (literal (take (more - 1) text)) more
piece_of c text (p.Mark m) more = token (mark m) more
piece_of c text p.Wrong more = wrong

abbrev pub front_of : ℕ → List ℕ → f.Front → Front
front_of c text found = piece_of c text found.piece found.more

-- the token that was found at this place
abbrev pub token_at : ℕ → Piece → ℕ → Option Token
token_at at p.Blank more = None
token_at at p.Word more = Some (c.Word (span at (more + 1)))
token_at at (p.Number n) more = Some (c.Number n)
token_at at p.Literal more = Some (c.Literal (span (at + 1) (more - 1)))
token_at at (p.Mark m) more = Some (c.Mark m)
token_at at p.Wrong more = Some c.Bad

abbrev pub token_of : ℕ → f.Front → Option Token
token_of at found = token_at at found.piece found.more

abbrev pub placed_if : Option Token → ℕ → List Placed
placed_if None line = []
placed_if (Some t) line = record { token = t; line = line } ∷ []

abbrev pub placed_at : ℕ → ℕ → f.Front → List Placed
placed_at at line found = placed_if (token_of at found) line

abbrev pub is_wrong_piece : Piece → Bool
is_wrong_piece p.Wrong = true
is_wrong_piece _ = false

abbrev pub is_wrong : f.Front → Bool
is_wrong found = is_wrong_piece found.piece

-- One token of a text.
use Rattle.std.proofs.Common.{◌≡◌, ℕ, zero, suc, ◌+◌, ◌≤◌, Bool, true, false, ◌==◌, cond, if◌then◌else◌, List, [], ◌∷◌, ◌++◌, length, take, drop, refl, sym, ap, ◌∙◌, subst, arith, append_assoc}
use Rattle.std.specs.List.{count_by}
use Rattle.std.proofs.lemmas.List.Sums.{sum_by-cons}
use Rattle.std.proofs.lemmas.List.{drop-drop}
use Rattle.std.specs.Str.{IsUtf8}
use Rattle.idl_tokens.proofs.Cuts.{FrontCuts, front-cuts, word-is, literal-is}
use Rattle.idl_tokens.specs.declared.token.Placed.{Placed}
use Rattle.idl_tokens.specs.declared.fronts.Piece.{Piece}
use Rattle.idl_tokens.specs.declared.fronts.Piece.TheVariants as p
use Rattle.idl_tokens.specs.Tokens.{word, literal, Front, front, more, placed, spot, Toks, line_after, tokens_behind, tokens}
use Rattle.idl_tokens.specs.Spans.{spot_of, toks, piece_of, token_at, placed_if, is_wrong_piece}

abbrev pub newlines : List ℕ → ℕ
newlines cs = count_by (λ c. c == 10) cs

pub toks-append : (text : List ℕ) (xs ys : List Placed) → toks text (xs ++ ys) ≡ toks text xs ++ toks text ys
toks-append text [] ys = refl
toks-append text (x ∷ xs) ys = ap (λ z. spot_of text x ∷ z) (toks-append text xs ys)

line-cases : (b : Bool) (line n : ℕ) → (if b then line + 1 else line) + n ≡ line + (cond b 1 0 + n)
line-cases true line n = omega arith
line-cases false line n = omega arith

lines-are : (c line : ℕ) (cs : List ℕ) → line_after c line + newlines cs ≡ line + newlines (c ∷ cs)
lines-are c line cs = line-cases (c == 10) line (newlines cs) ∙ ap (λ (z : ℕ). line + z) (sym (sum_by-cons (λ (x : ℕ). cond (x == 10) 1 0) c cs))

-- so many characters are passed over
pub passing : (n line : ℕ) (text : List ℕ) → n ≤ length text → tokens_behind n line text ≡ tokens_behind 0 (line + newlines (take n text)) (drop n text)
passing zero line text h = let k : line + 0 ≡ line = omega arith in ap (λ (z : ℕ). tokens_behind 0 z text) (sym k)
passing (suc n) line [] h = absurd (omega arith)
passing (suc n) line (c ∷ text) h =
    passing n (line_after c line) text (omega arith) ∙ ap (λ (z : ℕ). tokens_behind 0 z (drop n text)) (lines-are c line (take n text))

module _ (text : List ℕ) (at line c m : ℕ) (rest : List ℕ) (u : IsUtf8 text) (e : drop at text ≡ c ∷ rest) (h : at + suc (length rest) ≡ length text) (le : m ≤ length rest) where
  abbrev behind : Front → Toks
  behind f = placed f line (tokens_behind (more f) (line_after c line) rest)

  pub keeps : (q : Piece) → is_wrong_piece q ≡ false → piece_of c rest q m ≡ front c rest
      → toks text (placed_if (token_at at q m) line) ++ tokens_behind m (line_after c line) rest ≡ tokens_behind 0 line (c ∷ rest)
  keeps p.Blank w is = ap behind is
  keeps p.Word w is =
      let cuts = subst (FrontCuts c rest) (sym is) (front-cuts c rest) in
      ap (λ (z : List ℕ). spot (word z) line ∷ tokens_behind m (line_after c line) rest) (word-is text at c m rest u e h le cuts.0 cuts.1) ∙ ap behind is
  keeps (p.Number n) w is = ap behind is
  keeps p.Literal w is =
      let cuts = subst (FrontCuts c rest) (sym is) (front-cuts c rest) in
      ap (λ (z : List ℕ). spot (literal z) line ∷ tokens_behind m (line_after c line) rest) (literal-is text at c m rest u e h le cuts.0 cuts.2 cuts.1) ∙ ap behind is
  keeps (p.Mark x) w is = ap behind is
  keeps p.Wrong w is = absurd cc

  pub stops : (q : Piece) → is_wrong_piece q ≡ true → piece_of c rest q m ≡ front c rest → toks text (placed_if (token_at at q m) line) ≡ tokens_behind 0 line (c ∷ rest)
  stops p.Wrong w is = ap behind is
  stops p.Blank w is = absurd cc
  stops p.Word w is = absurd cc
  stops (p.Number n) w is = absurd cc
  stops p.Literal w is = absurd cc
  stops (p.Mark x) w is = absurd cc

assoc : (xs ys zs : Toks) → (xs ++ ys) ++ zs ≡ xs ++ (ys ++ zs)
assoc xs ys zs = simp append_assoc

pub next-place : (text left after : List ℕ) (at m : ℕ) → left ≡ drop at text → after ≡ drop (m + 1) left → after ≡ drop (at + (m + 1)) text
next-place text left after at m place is = is ∙ ap (λ (z : List ℕ). drop (m + 1) z) place ∙ drop-drop (m + 1) at text

-- a turn of the loop
module _ (text : List ℕ) (u : IsUtf8 text) (found new : List Placed) (at line : ℕ) (left : List ℕ) (same : toks text found ++ tokens_behind 0 line left ≡ tokens text) (place : left ≡ drop at text) (count : at + length left ≡ length text)
    (c m : ℕ) (rest : List ℕ) (q : Piece) (e : left ≡ c ∷ rest) (le : m ≤ length rest) (is : piece_of c rest q m ≡ front c rest) (more_found : new ≡ found ++ placed_if (token_at at q m) line) where
  here : drop at text ≡ c ∷ rest
  here = sym place ∙ e

  room : at + suc (length rest) ≡ length text
  room = omega (arith, count, ap length e)

  all : toks text new ≡ toks text found ++ toks text (placed_if (token_at at q m) line)
  all = ap (toks text) more_found ∙ toks-append text found (placed_if (token_at at q m) line)

  behind-is : tokens_behind 0 (line + newlines (take (m + 1) left)) (drop (m + 1) left) ≡ tokens_behind m (line_after c line) rest
  behind-is = let k : m + 1 ≡ suc m = omega arith in rw (k, e) (sym (passing (suc m) line (c ∷ rest) (omega arith)))

  pub turn-keeps : is_wrong_piece q ≡ false → toks text new ++ tokens_behind 0 (line + newlines (take (m + 1) left)) (drop (m + 1) left) ≡ tokens text
  turn-keeps w =
      ap (λ (z : Toks). z ++ tokens_behind 0 (line + newlines (take (m + 1) left)) (drop (m + 1) left)) all
      ∙ assoc (toks text found) (toks text (placed_if (token_at at q m) line)) (tokens_behind 0 (line + newlines (take (m + 1) left)) (drop (m + 1) left)) ∙ ap (λ (z : Toks). toks text found ++ (toks text (placed_if (token_at at q m) line) ++ z)) behind-is
      ∙ ap (λ (z : Toks). toks text found ++ z) (keeps text at line c m rest u here room le q w is)
      ∙ ap (λ (z : List ℕ). toks text found ++ tokens_behind 0 line z) (sym e) ∙ same

  pub turn-stops : is_wrong_piece q ≡ true → toks text new ≡ tokens text
  turn-stops w =
      all ∙ ap (λ (z : Toks). toks text found ++ z) (stops text at line c m rest u here room le q w is)
      ∙ ap (λ (z : List ℕ). toks text found ++ tokens_behind 0 line z) (sym e) ∙ same

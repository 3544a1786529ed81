-- No literal of a text is longer than the text, and what a grammar leaves of such tokens are such tokens.
use Rattle.std.proofs.Common.{◌≡◌, ℕ, zero, suc, ◌≤◌, Bool, true, false, ◌==◌, ◌||◌, List, [], ◌∷◌, length, drop, Option, Some, None, Result, Ok, subst, arith}
use Rattle.std.specs.Prelude.{nat_lt}
use Rattle.std.specs.List.{prefix_len}
use Rattle.std.proofs.lemmas.List.{length-take}
use Rattle.std.proofs.lemmas.Bool.{cond_both}
use Rattle.idl_grammar.specs.declared.fault.Fault.{Fault}
use Rattle.idl_tokens.specs.Characters.{is_space, is_digit, is_word_start, is_mark, is_in_literal, begins_with}
use Rattle.idl_tokens.specs.Numbers.{Magnitude, magnitude}
use Rattle.idl_tokens.specs.Tokens.{Tok, literal, Toks, Front, blank, token as token_front, wrong as wrong_front, comment_end, block_comment, behind_slash, behind_quote, behind_sign, plain_front, front, more as more_front, placed, line_after, tokens_behind, tokens}
use Rattle.idl_grammar.specs.Grammar.{Turn, Grammar, give, token, next, look, loop, Turns, done, more, Spells}
use Rattle.idl_profile.proofs.Each.{Each}

module _ (most : ℕ) where
  abbrev pub IsShortToken : Tok → Type 0
  IsShortToken (literal x) = length x ≤ most
  IsShortToken _ = Unit {0}

  abbrev pub AreShort : Toks → Type 0
  AreShort ts = Each (λ s. IsShortToken s.token) ts

  -- ---- the tokens of a text

  abbrev IsShortFront : Front → Type 0
  IsShortFront (token_front t n) = IsShortToken t
  IsShortFront _ = Unit {0}

  block_comment_short : (o : Option ℕ) → IsShortFront (block_comment o)
  block_comment_short None = tt
  block_comment_short (Some n) = tt

  slash_short : (text : List ℕ) → IsShortFront (behind_slash text)
  slash_short [] = tt
  slash_short (c ∷ text) =
      cond_both (c == 47) _ _ IsShortFront (λ e. tt) (λ e. cond_both (c == 42) _ _ IsShortFront (λ f. block_comment_short (comment_end 1 text)) (λ f. tt))

  sign_short : (minus : Bool) (m : Magnitude) → IsShortFront (behind_sign minus m)
  sign_short minus m = cond_both (nat_lt 0 m.len) _ _ IsShortFront (λ e. tt) (λ e. tt)

  quote_short : (q : ℕ) (text : List ℕ) → length text ≤ most → IsShortFront (behind_quote q text)
  quote_short q text h =
      let n = prefix_len (is_in_literal q) text in
      cond_both (begins_with q (drop n text)) _ _ IsShortFront (λ f. omega (arith, length-take n text)) (λ f. tt)

  plain_short : (c : ℕ) (text : List ℕ) → IsShortFront (plain_front c text)
  plain_short c text = cond_both (is_word_start c) _ _ IsShortFront (λ e. tt) (λ e. cond_both (is_digit c) _ _ IsShortFront (λ f. tt) (λ f. cond_both (is_mark c) _ _ IsShortFront (λ g. tt) (λ g. tt)))

  front_short : (c : ℕ) (text : List ℕ) → length text ≤ most → IsShortFront (front c text)
  front_short c text small =
      cond_both (is_space c) _ _ IsShortFront (λ e. tt)
      (λ e. cond_both (c == 35) _ _ IsShortFront (λ f. tt)
      (λ f. cond_both (c == 47) _ _ IsShortFront (λ g. slash_short text)
      (λ g. cond_both (c == 45) _ _ IsShortFront (λ i. sign_short true (magnitude text))
      (λ i. cond_both (c == 43) _ _ IsShortFront (λ i. sign_short false (magnitude text))
      (λ i. cond_both (c == 39 || c == 34) _ _ IsShortFront (λ j. quote_short c text small) (λ j. plain_short c text))))))

  placed_short : (f : Front) (l : ℕ) (ts : Toks) → IsShortFront f → AreShort ts → AreShort (placed f l ts)
  placed_short (blank n) l ts h g = g
  placed_short (token_front t n) l ts h g = (h, g)
  placed_short wrong_front l ts h g = (tt, tt)

  behind_short : (n l : ℕ) (text : List ℕ) → length text ≤ most → AreShort (tokens_behind n l text)
  behind_short n l [] h = (tt, tt)
  behind_short zero l (c ∷ text) h =
      placed_short (front c text) l (tokens_behind (more_front (front c text)) (line_after c l) text) (front_short c text (omega arith))
      (behind_short (more_front (front c text)) (line_after c l) text (omega arith))
  behind_short (suc n) l (c ∷ text) h = behind_short n (line_after c l) text (omega arith)

  pub tokens_short : (text : List ℕ) → length text ≤ most → AreShort (tokens text)
  tokens_short text h = behind_short 0 1 text h

  -- ---- what a grammar leaves

  turns_left : {S B : Type 0} (turn : S → Tok → Tok → Turn B) (Body : S → B → S → Toks → Toks → Type 0) → ((s : S) (b : B) (m : S) (ts mid : Toks) → Body s b m ts mid → AreShort ts → AreShort mid)
      → (s e : S) (ts rest : Toks) → Turns turn Body s e ts rest → AreShort ts → AreShort rest
  turns_left turn Body ih _ _ _ _ (done s t ts q) f = f
  turns_left turn Body ih _ _ _ _ (more s m e b t ts mid rest q is others) f = turns_left turn Body ih m e mid rest others (ih s b m ts mid is f.1)

  pub left_short : {A : Type 0} (g : Grammar A) (x : A) (ts rest : Toks) → Spells g x ts rest → AreShort ts → AreShort rest
  left_short (give y) x ts rest h f = subst AreShort h.1 f
  left_short (token v) x [] rest h f = absurd h
  left_short (token v) x (t ∷ ts) rest h f = subst AreShort h.1 f.1
  left_short (next g k) x ts rest h f = left_short (k h.0) x h.1 rest h.3 (left_short g h.0 ts h.1 h.2 f)
  left_short (look k) x [] rest h f = absurd h
  left_short (look k) x (t ∷ ts) rest h f = left_short (k t.token) x (t ∷ ts) rest h f
  left_short (loop turn g s) x ts rest h f = turns_left turn (λ m b e. Spells (g m b) e) (λ m b y us mid. left_short (g m b) y us mid) s x ts rest h f

  -- what each turn keeps holds in the end
  pub turns_hold : {S B : Type 0} (turn : S → Tok → Tok → Turn B) (g : S → B → Grammar S) (Holds : S → Type 0)
      → ((s : S) (b : B) (m : S) (ts mid : Toks) → AreShort ts → Spells (g s b) m ts mid → Holds s → Holds m)
      → (s e : S) (ts rest : Toks) → Turns turn (λ m b x. Spells (g m b) x) s e ts rest → AreShort ts → Holds s → Holds e
  turns_hold turn g Holds step _ _ _ _ (done s t ts q) f h = h
  turns_hold turn g Holds step _ _ _ _ (more s m e b t ts mid rest q is others) f h =
      turns_hold turn g Holds step m e mid rest others (left_short (g s b) m ts mid is f.1) (step s b m ts mid f.1 is h)

  -- the token that is taken
  pub token_short : {A : Type 0} (v : Tok → Result A Fault) (x : A) (ts rest : Toks) → Spells (token v) x ts rest → AreShort ts → (t : Tok) × IsShortToken t × (v t ≡ Ok x)
  token_short v x [] rest h f = absurd h
  token_short v x (t ∷ ts) rest h f = (t.token, f.0, h.0)

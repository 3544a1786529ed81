-- What holds of each token of a text, and of what a grammar leaves of tokens.
use Rattle.std.proofs.Common.{◌≡◌, inl, inr, ℕ, zero, suc, ◌+◌, ◌-◌, ◌^◌, ◌<◌, Bool, true, false, ◌==◌, ◌||◌, cond, List, [], ◌∷◌, ◌++◌, length, take, drop, Option, Some, None, Result, Ok, refl, sym, ap, ◌∙◌, subst, arith, get_or, append_assoc, length-append, take-append-drop}
use Rattle.std.specs.Prelude.{pos, nat_lt, nat_le}
use Rattle.std.specs.List.{prefix_len}
use Rattle.std.specs.Str.{IsUtf8, IsCharBoundary}
use Rattle.std.proofs.lemmas.Str.{IsCharBoundary-after_ascii, IsCharBoundary-before_ascii, IsUtf8-between}
use Rattle.std.proofs.lemmas.Bool.{cond_both, eqb-true}
use Rattle.std.proofs.lemmas.Bool.Decides.{nat_tests}
use Rattle.idl_grammar.specs.declared.fault.Fault.{Fault}
use Rattle.idl_tokens.specs.Characters.{is_space, is_digit, is_word_start, is_word_character, is_mark, is_in_literal, begins_with}
use Rattle.idl_tokens.specs.Numbers.{Magnitude, magnitude, negative, in_64_bits}
use Rattle.idl_tokens.specs.Tokens.{Tok, word, number, literal, Spot, Toks, Front, blank, token as token_front, wrong as wrong_front, line_comment, comment_end, block_comment, behind_slash, behind_quote, behind_sign, plain_front, front, more as more_front, placed, line_after, tokens_behind, tokens}
use Rattle.idl_grammar.specs.Grammar.{Turn, enter, Grammar, give, token, next, look, loop, first, Turns, done, more, Spells}
use Rattle.idl_tokens.proofs.Cuts.{quote-small}
use Rattle.idl_proper.proofs.Lists.{front-taken, front-dropped}
use Rattle.idl_proper.specs.Proper.{Every, Is64, IsLiteral, IsWord, Quoted}
use Rattle.idl_profile.proofs.Each.{Each}

abbrev pub TokFits : Tok → Type 0
TokFits (word w) = IsWord w
TokFits (number (Some z)) = Is64 z
TokFits (literal x) = IsLiteral x
TokFits _ = Unit {0}

abbrev pub SpotFits : Spot → Type 0
SpotFits s = TokFits s.token

abbrev pub Fits : Toks → Type 0
Fits ts = Each SpotFits ts

-- ---- the tokens of a text

abbrev FrontFits : Front → Type 0
FrontFits (token_front t n) = TokFits t
FrontFits _ = Unit {0}

every-front : (p : ℕ → Bool) (text : List ℕ) → Every p (take (prefix_len p text) text)
every-front p [] = tt
every-front p (c ∷ text) = by_test (every-front p text) (p c) refl
  where
    by_test : Every p (take (prefix_len p text) text) → (b : Bool) → p c ≡ b → Every p (take (cond b (1 + prefix_len p text) 0) (c ∷ text))
    by_test ih true e = let k : 1 + prefix_len p text ≡ suc (prefix_len p text) = omega arith in rw k (e, ih)
    by_test ih false e = tt

number-fits : (minus : Bool) (n : ℕ) → TokFits (number (in_64_bits minus n))
number-fits true n = cond_both (nat_le n (2 ^ 63)) (Some (negative n)) None (λ o. TokFits (number o)) (λ e. by_zero n e) (λ e. tt)
  where
    by_zero : (k : ℕ) → nat_le k (2 ^ 63) ≡ true → Is64 (negative k)
    by_zero zero e = omega arith
    by_zero (suc k) e = grind (arith, nat_tests)
number-fits false n = cond_both (nat_lt n (2 ^ 63)) (Some (pos n)) None (λ o. TokFits (number o)) (λ e. grind (arith, nat_tests)) (λ e. tt)

line_comment-fits : (text : List ℕ) → FrontFits (line_comment text)
line_comment-fits text = tt

block_comment-fits : (o : Option ℕ) → FrontFits (block_comment o)
block_comment-fits None = tt
block_comment-fits (Some n) = tt

slash-fits : (text : List ℕ) → FrontFits (behind_slash text)
slash-fits [] = tt
slash-fits (c ∷ text) =
    cond_both (c == 47) _ _ FrontFits (λ e. tt) (λ e. cond_both (c == 42) _ _ FrontFits (λ f. block_comment-fits (comment_end 1 text)) (λ f. tt))

sign-fits : (minus : Bool) (m : Magnitude) → FrontFits (behind_sign minus m)
sign-fits minus m = cond_both (nat_lt 0 m.len) _ _ FrontFits (λ e. number-fits minus m.value) (λ e. tt)

-- a text behind which an ASCII character stands, and one before which it stands
get-here : (xs ys : List ℕ) (c : ℕ) → get_or (xs ++ c ∷ ys) (length xs) 0 ≡ c
get-here [] ys c = refl
get-here (x ∷ xs) ys c = get-here xs ys c

between-ascii : (full pre x rest : List ℕ) (c d : ℕ) → IsUtf8 full → full ≡ pre ++ c ∷ (x ++ d ∷ rest) → c < 128 → d < 128 → IsUtf8 x
between-ascii full pre x rest c d u is cl dl =
    let lens : length full ≡ length pre + suc (length x + suc (length rest)) = ap length is ∙ length-append pre (c ∷ (x ++ d ∷ rest)) ∙ ap (λ (z : ℕ). length pre + suc z) (length-append x (d ∷ rest)) in
    let first : get_or full (length pre) 0 ≡ c = ap (λ (z : List ℕ). get_or z (length pre) 0) is ∙ get-here pre (x ++ d ∷ rest) c in
    let from : IsCharBoundary full (length pre + 1) = IsCharBoundary-after_ascii full (length pre) u (omega arith) (omega (arith, first)) in
    let same : full ≡ ((pre ++ c ∷ []) ++ x) ++ d ∷ rest = is ∙ simp append_assoc in
    let long : length ((pre ++ c ∷ []) ++ x) ≡ length pre + 1 + length x = length-append (pre ++ c ∷ []) x ∙ ap (λ (z : ℕ). z + length x) (length-append pre (c ∷ [])) in
    let last : get_or full (length pre + 1 + length x) 0 ≡ d = ap (λ (n : ℕ). get_or full n 0) (sym long) ∙ ap (λ (z : List ℕ). get_or z (length ((pre ++ c ∷ []) ++ x)) 0) same ∙ get-here ((pre ++ c ∷ []) ++ x) rest d in
    let to : IsCharBoundary full (length pre + 1 + length x) = IsCharBoundary-before_ascii full (length pre + 1 + length x) (omega arith) (omega (arith, last)) in
    let here : IsUtf8 (take (length pre + 1 + length x - (length pre + 1)) (drop (length pre + 1) full)) = IsUtf8-between full (length pre + 1) (length pre + 1 + length x) u (omega arith) from to in
    let n : length pre + 1 + length x - (length pre + 1) ≡ length x = omega arith in
    let one : length pre + 1 ≡ length (pre ++ c ∷ []) = sym (length-append pre (c ∷ [])) in
    let behind : drop (length pre + 1) full ≡ x ++ d ∷ rest =
    ap (λ (k : ℕ). drop k full) one ∙ ap (λ (z : List ℕ). drop (length (pre ++ c ∷ [])) z) (is ∙ simp append_assoc) ∙ front-dropped (pre ++ c ∷ []) (x ++ d ∷ rest)
    in
    let e : take (length pre + 1 + length x - (length pre + 1)) (drop (length pre + 1) full) ≡ x = ap (λ (k : ℕ). take k (drop (length pre + 1) full)) n ∙ ap (λ (z : List ℕ). take (length x) z) behind ∙ front-taken x (d ∷ rest) in
    subst IsUtf8 e here

begins-is : (q : ℕ) (text : List ℕ) → begins_with q text ≡ true → (rest : List ℕ) × (text ≡ q ∷ rest)
begins-is q [] e = absurd cc
begins-is q (c ∷ text) e = (text, ap (λ (z : ℕ). z ∷ text) (eqb-true c q e))

quote-fits : (full pre : List ℕ) (q : ℕ) (text : List ℕ) → IsUtf8 full → full ≡ pre ++ q ∷ text → (q == 39 || q == 34) ≡ true → FrontFits (behind_quote q text)
quote-fits full pre q text u is e = cond_both (begins_with q (drop (prefix_len (is_in_literal q) text) text)) _ _ FrontFits (λ f. (by_quote (q == 39) (q == 34) refl refl e, utf8 f)) (λ f. tt)
  where
    by_quote : (a b : Bool) → (q == 39) ≡ a → (q == 34) ≡ b → (a || b) ≡ true → Quoted (take (prefix_len (is_in_literal q) text) text)
    by_quote true b s t o = inr (subst (λ (z : ℕ). Every (is_in_literal z) (take (prefix_len (is_in_literal q) text) text)) (eqb-true q 39 s) (every-front (is_in_literal q) text))
    by_quote false true s t o = inl (subst (λ (z : ℕ). Every (is_in_literal z) (take (prefix_len (is_in_literal q) text) text)) (eqb-true q 34 t) (every-front (is_in_literal q) text))
    by_quote false false s t o = absurd cc

    utf8 : begins_with q (drop (prefix_len (is_in_literal q) text) text) ≡ true → IsUtf8 (take (prefix_len (is_in_literal q) text) text)
    utf8 f =
        let n = prefix_len (is_in_literal q) text in
        let r = begins-is q (drop n text) f in
        let parts : text ≡ take n text ++ q ∷ r.0 = sym (take-append-drop n text) ∙ ap (λ (z : List ℕ). take n text ++ z) r.1 in
        between-ascii full pre (take n text) r.0 q q u (is ∙ ap (λ (z : List ℕ). pre ++ q ∷ z) parts) (quote-small q e) (quote-small q e)

plain-fits : (c : ℕ) (text : List ℕ) → FrontFits (plain_front c text)
plain-fits c text =
    cond_both (is_word_start c) _ _ FrontFits (λ e. (e, every-front is_word_character text))
    (λ e. cond_both (is_digit c) _ _ FrontFits (λ f. number-fits false (magnitude (c ∷ text)).value) (λ f. cond_both (is_mark c) _ _ FrontFits (λ g. tt) (λ g. tt)))

front-fits : (full pre : List ℕ) (c : ℕ) (text : List ℕ) → IsUtf8 full → full ≡ pre ++ c ∷ text → FrontFits (front c text)
front-fits full pre c text u is =
    cond_both (is_space c) _ _ FrontFits (λ e. tt)
    (λ e. cond_both (c == 35) _ _ FrontFits (λ f. line_comment-fits text)
    (λ f. cond_both (c == 47) _ _ FrontFits (λ g. slash-fits text)
    (λ g. cond_both (c == 45) _ _ FrontFits (λ h. sign-fits true (magnitude text))
    (λ h. cond_both (c == 43) _ _ FrontFits (λ i. sign-fits false (magnitude text))
    (λ i. cond_both (c == 39 || c == 34) _ _ FrontFits (λ j. quote-fits full pre c text u is j) (λ j. plain-fits c text))))))

placed-fits : (f : Front) (l : ℕ) (ts : Toks) → FrontFits f → Fits ts → Fits (placed f l ts)
placed-fits (blank n) l ts h g = g
placed-fits (token_front t n) l ts h g = (h, g)
placed-fits wrong_front l ts h g = (tt, tt)

behind-fits : (full pre : List ℕ) (n l : ℕ) (text : List ℕ) → IsUtf8 full → full ≡ pre ++ text → Fits (tokens_behind n l text)
behind-fits full pre n l [] u is = (tt, tt)
behind-fits full pre zero l (c ∷ text) u is =
    placed-fits (front c text) l (tokens_behind (more_front (front c text)) (line_after c l) text) (front-fits full pre c text u is)
    (behind-fits full (pre ++ c ∷ []) (more_front (front c text)) (line_after c l) text u (is ∙ sym (append_assoc pre (c ∷ []) text)))
behind-fits full pre (suc n) l (c ∷ text) u is = behind-fits full (pre ++ c ∷ []) n (line_after c l) text u (is ∙ sym (append_assoc pre (c ∷ []) text))

pub tokens-fit : (text : List ℕ) → IsUtf8 text → Fits (tokens text)
tokens-fit text u = behind-fits text [] 0 1 text u refl

-- ---- what a grammar leaves

turns-left : {S B : Type 0} (turn : S → Tok → Tok → Turn B) (Body : S → B → S → Toks → Toks → Type 0) → ((s : S) (b : B) (m : S) (ts mid : Toks) → Body s b m ts mid → Fits ts → Fits mid)
    → (s e : S) (ts rest : Toks) → Turns turn Body s e ts rest → Fits ts → Fits rest
turns-left turn Body ih _ _ _ _ (done s t ts q) f = f
turns-left turn Body ih _ _ _ _ (more s m e b t ts mid rest q is others) f = turns-left turn Body ih m e mid rest others (ih s b m ts mid is f.1)

pub left-fits : {A : Type 0} (g : Grammar A) (x : A) (ts rest : Toks) → Spells g x ts rest → Fits ts → Fits rest
left-fits (give y) x ts rest h f = subst Fits h.1 f
left-fits (token v) x [] rest h f = absurd h
left-fits (token v) x (t ∷ ts) rest h f = subst Fits h.1 f.1
left-fits (next g k) x ts rest h f = left-fits (k h.0) x h.1 rest h.3 (left-fits g h.0 ts h.1 h.2 f)
left-fits (look k) x [] rest h f = absurd h
left-fits (look k) x (t ∷ ts) rest h f = left-fits (k t.token) x (t ∷ ts) rest h f
left-fits (loop turn g s) x ts rest h f = turns-left turn (λ m b e. Spells (g m b) e) (λ m b y us mid. left-fits (g m b) y us mid) s x ts rest h f

-- what each turn keeps holds in the end
pub turns-keep : {S B : Type 0} (turn : S → Tok → Tok → Turn B) (g : S → B → Grammar S) (Holds : S → Type 0)
    → ((s : S) (b : B) (t after : Tok) (m : S) (ts mid : Toks) → TokFits t → Fits ts → turn s t after ≡ enter b → Spells (g s b) m ts mid → Holds s → Holds m)
    → (s e : S) (ts rest : Toks) → Turns turn (λ m b x. Spells (g m b) x) s e ts rest → Fits ts → Holds s → Holds e
turns-keep turn g Holds step _ _ _ _ (done s t ts q) f h = h
turns-keep turn g Holds step _ _ _ _ (more s m e b t ts mid rest q is others) f h =
    turns-keep turn g Holds step m e mid rest others (left-fits (g s b) m ts mid is f.1) (step s b t.token (first ts) m ts mid f.0 f.1 q is h)

-- the token that is taken
pub one-token : {A : Type 0} (v : Tok → Result A Fault) (x : A) (ts rest : Toks) → Spells (token v) x ts rest → Fits ts → (t : Tok) × TokFits t × (v t ≡ Ok x)
one-token v x [] rest h f = absurd h
one-token v x (t ∷ ts) rest h f = (t.token, f.0, h.0)

-- the token that is looked at
pub seen : {A : Type 0} (k : Tok → Grammar A) (x : A) (ts rest : Toks) → Spells (look k) x ts rest → (t : Tok) × Spells (k t) x ts rest
seen k x [] rest h = absurd h
seen k x (t ∷ ts) rest h = (t.token, h)

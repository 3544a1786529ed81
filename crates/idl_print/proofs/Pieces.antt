-- The tokens of pieces of a printed text before its rest.
use Rattle.std.proofs.Common.{append_assoc, length-append, inl, inr, ◌≡◌, ℕ, suc, ◌+◌, Bool, true, false, ◌==◌, ◌||◌, List, [], ◌∷◌, ◌++◌, length, refl, sym, ap, ◌∙◌, arith}
use Rattle.std.specs.List.{prefix_len, list_any}
use Rattle.idl_proper.proofs.Lists.{front-taken, front-dropped, neither}
use Rattle.idl_proper.specs.Proper.{Every, IsWord, Quoted, IsLiteral}
use Rattle.idl_print.specs.Printed.{literal_text}
use Rattle.std.proofs.lemmas.Bool.Decides.{nat_tests}
use Rattle.idl_tokens.specs.Characters.{is_space, is_word_start, is_word_character, is_in_line, is_in_literal}
use Rattle.idl_tokens.specs.Tokens.{behind_quote, token, word, literal, front, spot, Toks, line_after, tokens_behind}

-- a text that no word and no number goes on with
abbrev pub Apart : List ℕ → Type 0
Apart [] = Unit {0}
Apart (c ∷ cs) = is_word_character c ≡ false

pub front-len : (p : ℕ → Bool) (w rest : List ℕ) → Every p w → prefix_len p rest ≡ 0 → prefix_len p (w ++ rest) ≡ length w
front-len p [] rest h e = e
front-len p (c ∷ w) rest h e = let k : 1 + length w ≡ suc (length w) = omega arith in rw (h.0, front-len p w rest h.1 e) k

pub same_line : (c l : ℕ) → is_in_line c ≡ true → line_after c l ≡ l
same_line c l h = grind (arith, nat_tests)

-- characters of one line are passed over
pub passed : (w rest : List ℕ) (l : ℕ) → Every is_in_line w → tokens_behind (length w) l (w ++ rest) ≡ tokens_behind 0 l rest
passed [] rest l h = refl
passed (c ∷ w) rest l h = rw (same_line c l h.0) (passed w rest l h.1)

pub passed_with : (w rest : List ℕ) (l n : ℕ) → n ≡ length w → Every is_in_line w → tokens_behind n l (w ++ rest) ≡ tokens_behind 0 l rest
passed_with w rest l n e h = ap (λ (z : ℕ). tokens_behind z l (w ++ rest)) e ∙ passed w rest l h

pub every-append : (p : ℕ → Bool) (v w : List ℕ) → Every p v → Every p w → Every p (v ++ w)
every-append p [] w g h = h
every-append p (c ∷ v) w g h = (g.0, every-append p v w g.1 h)

pub every-map : (p q : ℕ → Bool) (w : List ℕ) → ((c : ℕ) → p c ≡ true → q c ≡ true) → Every p w → Every q w
every-map p q [] f h = tt
every-map p q (c ∷ w) f h = (f c h.0, every-map p q w f h.1)

-- ---- words

no_word-ahead : (rest : List ℕ) → Apart rest → prefix_len is_word_character rest ≡ 0
no_word-ahead [] h = refl
no_word-ahead (c ∷ rest) h = rw h refl

in_line-word : (c : ℕ) → is_word_character c ≡ true → is_in_line c ≡ true
in_line-word c h = grind (arith, nat_tests)

start-in_line : (c : ℕ) → is_word_start c ≡ true → is_in_line c ≡ true
start-in_line c h = grind (arith, nat_tests)

start-space : (c : ℕ) → is_word_start c ≡ true → is_space c ≡ false
start-space c h = grind (arith, nat_tests)

start-35 : (c : ℕ) → is_word_start c ≡ true → (c == 35) ≡ false
start-35 c h = grind (arith, nat_tests)

start-47 : (c : ℕ) → is_word_start c ≡ true → (c == 47) ≡ false
start-47 c h = grind (arith, nat_tests)

start-45 : (c : ℕ) → is_word_start c ≡ true → (c == 45) ≡ false
start-45 c h = grind (arith, nat_tests)

start-43 : (c : ℕ) → is_word_start c ≡ true → (c == 43) ≡ false
start-43 c h = grind (arith, nat_tests)

start-quote : (c : ℕ) → is_word_start c ≡ true → (c == 39 || c == 34) ≡ false
start-quote c h = grind (arith, nat_tests)

front-word : (c : ℕ) (w rest : List ℕ) → is_word_start c ≡ true → Every is_word_character w → Apart rest → front c (w ++ rest) ≡ token (word (c ∷ w)) (length w)
front-word c w rest s h a =
    let n : prefix_len is_word_character (w ++ rest) ≡ length w = front-len is_word_character w rest h (no_word-ahead rest a) in
    rw (start-space c s, start-35 c s, start-47 c s, start-45 c s, start-43 c s, start-quote c s, s, n, front-taken w rest) refl

pub word-tokens : (w rest : List ℕ) (l : ℕ) → IsWord w → Apart rest → tokens_behind 0 l (w ++ rest) ≡ spot (word w) l ∷ tokens_behind 0 l rest
word-tokens [] rest l h a = absurd h
word-tokens (c ∷ w) rest l h a =
    let e : front c (w ++ rest) ≡ token (word (c ∷ w)) (length w) = front-word c w rest h.0 h.1 a in
    rw (e, same_line c l (start-in_line c h.0)) (ap (λ (z : Toks). spot (word (c ∷ w)) l ∷ z) (passed w rest l (every-map is_word_character is_in_line w in_line-word h.1)))

-- ---- literals

literal-by : (q : ℕ) (x rest : List ℕ) (l : ℕ) → Every (is_in_literal q) x → prefix_len (is_in_literal q) (q ∷ rest) ≡ 0 → (q == q) ≡ true → is_in_line q ≡ true → ((c : ℕ) → is_in_literal q c ≡ true → is_in_line c ≡ true)
    → front q (x ++ q ∷ rest) ≡ behind_quote q (x ++ q ∷ rest) → tokens_behind 0 l (q ∷ x ++ q ∷ rest) ≡ spot (literal x) l ∷ tokens_behind 0 l rest
literal-by q x rest l h line_fault same line in_line is =
    let n : prefix_len (is_in_literal q) (x ++ q ∷ rest) ≡ length x = front-len (is_in_literal q) x (q ∷ rest) h line_fault in
    let e : front q (x ++ q ∷ rest) ≡ token (literal x) (length x + 1) = is ∙ rw (n, front-dropped x (q ∷ rest), same, front-taken x (q ∷ rest)) refl in
    let a : x ++ q ∷ rest ≡ (x ++ q ∷ []) ++ rest = simp append_assoc in
    rw (e, same_line q l line)
    (ap (λ (z : Toks). spot (literal x) l ∷ z)
    (ap (tokens_behind (length x + 1) l) a ∙ passed_with (x ++ q ∷ []) rest l (length x + 1) (sym (length-append x (q ∷ []))) (every-append is_in_line x (q ∷ []) (every-map (is_in_literal q) is_in_line x in_line h) (line, tt))))

in_line-literal : (q c : ℕ) → is_in_literal q c ≡ true → is_in_line c ≡ true
in_line-literal q c h = grind (arith, nat_tests)

no_quote : (x : List ℕ) → Every (is_in_literal 34) x → list_any (λ c. c == 34) x ≡ false
no_quote [] h = refl
no_quote (c ∷ x) h = let e : (c == 34) ≡ false = not_34 c h.0 in rw (e, no_quote x h.1) refl
  where
    not_34 : (c : ℕ) → is_in_literal 34 c ≡ true → (c == 34) ≡ false
    not_34 c h = grind (arith, nat_tests)

with_34 : (x : List ℕ) → Every (is_in_literal 39) x → list_any (λ c. c == 34) x ≡ false → Every (is_in_literal 34) x
with_34 [] h e = tt
with_34 (c ∷ x) h e = let a = neither (c == 34) (list_any (λ d. d == 34) x) e in (both c h.0 a.0, with_34 x h.1 a.1)
  where
    both : (c : ℕ) → is_in_literal 39 c ≡ true → (c == 34) ≡ false → is_in_literal 34 c ≡ true
    both c h e = grind (arith, nat_tests)

pub literal-tokens : (x rest : List ℕ) (l : ℕ) → IsLiteral x → tokens_behind 0 l (literal_text x ++ rest) ≡ spot (literal x) l ∷ tokens_behind 0 l rest
literal-tokens x rest l h = by_quote (list_any (λ c. c == 34) x) refl h.0
  where
    again : (q : ℕ) → (q ∷ x ++ q ∷ []) ++ rest ≡ q ∷ x ++ q ∷ rest
    again q = simp append_assoc

    by_quote : (b : Bool) → list_any (λ c. c == 34) x ≡ b → Quoted x → tokens_behind 0 l (literal_text x ++ rest) ≡ spot (literal x) l ∷ tokens_behind 0 l rest
    by_quote true e (inl g) = absurd (let n = no_quote x g in cc)
    by_quote true e (inr g) = rw e (ap (tokens_behind 0 l) (again 39) ∙ literal-by 39 x rest l g refl refl refl (in_line-literal 39) refl)
    by_quote false e (inl g) = rw e (ap (tokens_behind 0 l) (again 34) ∙ literal-by 34 x rest l g refl refl refl (in_line-literal 34) refl)
    by_quote false e (inr g) = rw e (ap (tokens_behind 0 l) (again 34) ∙ literal-by 34 x rest l (with_34 x g e) refl refl refl (in_line-literal 34) refl)

-- A text that is read between two " is UTF-8 where the bytes that it is read from are.
use Rattle.std.proofs.Common.{◌≡◌, ℕ, suc, ◌<◌, ◌≤◌, inl, inr, true, false, ◌||◌, ◌==◌, List, [], ◌∷◌, ◌++◌, length, get_or, Some, None, refl, sym, ap, ◌∙◌, subst, arith}
use Rattle.std.specs.Str.{IsUtf8}
use Rattle.std.proofs.lemmas.Bool.{and_parts, cases_lt, cond_both, eqb-true}
use Rattle.std.proofs.lemmas.Bool.Decides.{nat_tests}
use Rattle.std.proofs.lemmas.List.{append-nil}
use Rattle.std.proofs.lemmas.Str.{encode_ascii, inside_one, length-encode, len_utf8_bounds}
use lib.Utf8.{scalar, scalars, encode, encodes}
use Rattle.path_text.specs.Reading.{Found, behind_word, before_text, byte_of, read_text}
use Rattle.path_text.proofs.Found.{pair-is}
use Rattle.path_text.proofs.Complete.{plain-byte}
use Rattle.path_text.proofs.Sound.{before-is}
use Rattle.path_text.proofs.PieceLaws.{after_bytes, no-bytes, read-end}

-- no byte is ASCII
abbrev High : List ℕ → Type 0
High xs = (k : ℕ) → k < length xs → 128 ≤ get_or xs k 0

high-bytes : (c : ℕ) → 128 ≤ c → High (encode c)
high-bytes c h k l =
    elim (cases_lt (get_or (encode c) k 0) 128) [
      | inl low ↦ let e = inside_one c [] (encode c) k (sym (append-nil (encode c))) l low in absurd (omega arith)
      | inr high ↦ high
    ]

some-byte : (c : ℕ) → 0 < length (encode c)
some-byte c = let k = length-encode c in let m = (len_utf8_bounds c).0 in omega arith

high-tail : (x : ℕ) (xs : List ℕ) → High (x ∷ xs) → High xs
high-tail x xs h k l = h (suc k) (omega arith)

not-mark : (x : ℕ) → 128 ≤ x → (x == 34 || x == 92) ≡ false
not-mark x h = grind (arith, nat_tests)

one-more : (x : ℕ) (xs : List ℕ) (f : Found (List ℕ)) → before_text x (after_bytes xs f) ≡ after_bytes (x ∷ xs) f
one-more x xs None = refl
one-more x xs (Some p) = refl

pass-high : (xs text : List ℕ) → High xs → read_text (xs ++ text) ≡ after_bytes xs (read_text text)
pass-high [] text h = no-bytes (read_text text)
pass-high (x ∷ xs) text h =
    plain-byte x (xs ++ text) (not-mark x (h 0 (omega arith))) ∙ ap (before_text x) (pass-high xs text (high-tail x xs h)) ∙ one-more x xs (read_text text)

-- a \ in front of a byte that is not ASCII
no-escape : (xs text : List ℕ) → 0 < length xs → High xs → read_text (92 ∷ (xs ++ text)) ≡ None
no-escape [] text l h = absurd (omega arith)
no-escape (x ∷ xs) text l h = rw (not-mark x (h 0 (omega arith))) refl

utf8-char : (c : ℕ) (u : List ℕ) → scalar c ≡ true → IsUtf8 u → IsUtf8 (encode c ++ u)
utf8-char c u h (cs, (k, e)) = (c ∷ cs, (rw (h, k) refl, ap (λ (z : List ℕ). encode c ++ z) e))

utf8-byte : (c : ℕ) (u : List ℕ) → c < 128 → scalar c ≡ true → IsUtf8 u → IsUtf8 (c ∷ u)
utf8-byte c u l h k = subst (λ (z : List ℕ). IsUtf8 (z ++ u)) (encode_ascii c l) (utf8-char c u h k)

after-is : (bytes : List ℕ) (f : Found (List ℕ)) (s rest : List ℕ) → after_bytes bytes f ≡ Some (s, rest) → (u : List ℕ) × (f ≡ Some (u, rest)) × (s ≡ bytes ++ u)
after-is bytes None s rest e = absurd cc
after-is bytes (Some p) s rest e = let k = pair-is (bytes ++ p.0, p.1) s rest e in (p.0, ap (λ (z : List ℕ). Some (p.0, z)) k.rest, sym k.value)

high-utf8 : (c : ℕ) (text s rest : List ℕ) → 128 ≤ c → scalar c ≡ true → ((u : List ℕ) → read_text text ≡ Some (u, rest) → IsUtf8 u) → read_text (encode c ++ text) ≡ Some (s, rest) → IsUtf8 s
high-utf8 c text s rest l h more e =
    let k = after-is (encode c) (read_text text) s rest (sym (pass-high (encode c) text (high-bytes c l)) ∙ e) in
    subst IsUtf8 (sym k.2) (utf8-char c k.0 h (more k.0 k.1))

low-utf8 : (c : ℕ) (text s rest : List ℕ) → c < 128 → scalar c ≡ true → ((u : List ℕ) → read_text text ≡ Some (u, rest) → IsUtf8 u) → (read_text (92 ∷ text) ≡ Some (s, rest) → IsUtf8 s) → read_text (c ∷ text) ≡ Some (s, rest) → IsUtf8 s
low-utf8 c text s rest l h more escape e =
    elim (c == 34) as (λ b. (c == 34) ≡ b → IsUtf8 s) [
      | true ↦ λ q. let k = pair-is ([], text) s rest (sym (ended c text q) ∙ e) in subst IsUtf8 k.value ([], (refl, refl))
      | false ↦ λ q. elim (c == 92) as (λ b. (c == 92) ≡ b → IsUtf8 s) [
        | true ↦ λ t. escape (subst (λ (n : ℕ). read_text (n ∷ text) ≡ Some (s, rest)) (eqb-true c 92 t) e)
        | false ↦ λ t.
            let k = before-is c (read_text text) s rest (sym (plain-byte c text (rw (q, t) refl)) ∙ e) in
            subst IsUtf8 (sym k.2) (utf8-byte c k.0 l h (more k.0 k.1))
      ] refl
    ] refl
  where
    ended : (c : ℕ) (text : List ℕ) → (c == 34) ≡ true → read_text (c ∷ text) ≡ Some ([], text)
    ended c [] q = rw q refl
    ended c (d ∷ text) q = rw q refl

by-char : (c : ℕ) (text s rest : List ℕ) → scalar c ≡ true → ((u : List ℕ) → read_text text ≡ Some (u, rest) → IsUtf8 u) → (read_text (92 ∷ text) ≡ Some (s, rest) → IsUtf8 s) → read_text (encode c ++ text) ≡ Some (s, rest) → IsUtf8 s
by-char c text s rest h more escape e =
    elim (cases_lt c 128) [
      | inl low ↦ low-utf8 c text s rest low h more escape (subst (λ (z : List ℕ). read_text (z ++ text) ≡ Some (s, rest)) (encode_ascii c low) e)
      | inr high ↦ high-utf8 c text s rest high h more e
    ]

escaped-low : (c : ℕ) (text s rest : List ℕ) → c < 128 → scalar c ≡ true → ((u : List ℕ) → read_text text ≡ Some (u, rest) → IsUtf8 u) → read_text (92 ∷ c ∷ text) ≡ Some (s, rest) → IsUtf8 s
escaped-low c text s rest l h more e =
    cond_both (c == 34 || c == 92) (before_text c (read_text text)) None (λ o. o ≡ Some (s, rest) → IsUtf8 s)
    (λ t g. let k = before-is c (read_text text) s rest g in subst IsUtf8 (sym k.2) (utf8-byte c k.0 l h (more k.0 k.1))) (λ t g. absurd cc) e

by-escape : (c : ℕ) (text s rest : List ℕ) → scalar c ≡ true → ((u : List ℕ) → read_text text ≡ Some (u, rest) → IsUtf8 u) → read_text (92 ∷ (encode c ++ text)) ≡ Some (s, rest) → IsUtf8 s
by-escape c text s rest h more e =
    elim (cases_lt c 128) [
      | inl low ↦ escaped-low c text s rest low h more (subst (λ (z : List ℕ). read_text (92 ∷ (z ++ text)) ≡ Some (s, rest)) (encode_ascii c low) e)
      | inr high ↦ let k = no-escape (encode c) text (some-byte c) (high-bytes c high) in absurd cc
    ]

text-utf8 : (cs : List ℕ) (s rest : List ℕ) → scalars cs ≡ true → read_text (encodes cs) ≡ Some (s, rest) → IsUtf8 s
text-utf8 [] s rest h e = absurd cc
text-utf8 (c ∷ []) s rest h e =
    by-char c [] s rest (and_parts (scalar c) (scalars []) h).0 (λ u k. absurd cc) (λ k. absurd cc) e
text-utf8 (c ∷ d ∷ cs) s rest h e =
    let k = and_parts (scalar c) (scalars (d ∷ cs)) h in
    let m = and_parts (scalar d) (scalars cs) k.1 in
    by-char c (encodes (d ∷ cs)) s rest k.0 (λ u g. text-utf8 (d ∷ cs) u rest k.1 g)
    (λ g. by-escape d (encodes cs) s rest m.0 (λ u i. text-utf8 cs u rest m.1 i) g) e

pub read-utf8 : (text s rest : List ℕ) → IsUtf8 text → read_text text ≡ Some (s, rest) → IsUtf8 s
read-utf8 text s rest (cs, (h, e)) r = text-utf8 cs s rest h (ap read_text e ∙ r)

-- the bytes that were read up to the end of a text
pub spelled-end : (bytes rest text behind : List ℕ) → read_text text ≡ after_bytes bytes (read_text rest) → byte_of rest ≡ None → behind_word (34 ∷ []) rest ≡ Some behind → read_text text ≡ Some (bytes, behind)
spelled-end bytes rest text behind e n w =
    let k : read_text rest ≡ Some ([], behind) = read-end rest n ∙ rw w refl in
    e ∙ ap (after_bytes bytes) k ∙ ap (λ (z : List ℕ). Some (z, behind)) (append-nil bytes)

-- where no " ends it
pub spelled-none : (bytes rest text : List ℕ) → read_text text ≡ after_bytes bytes (read_text rest) → byte_of rest ≡ None → behind_word (34 ∷ []) rest ≡ None → read_text text ≡ None
spelled-none bytes rest text e n w =
    let k : read_text rest ≡ None = read-end rest n ∙ rw w refl in
    e ∙ ap (after_bytes bytes) k

pub spelled-utf8 : (bytes rest text behind : List ℕ) → IsUtf8 text → read_text text ≡ after_bytes bytes (read_text rest) → byte_of rest ≡ None → behind_word (34 ∷ []) rest ≡ Some behind → IsUtf8 bytes
spelled-utf8 bytes rest text behind u e n w = read-utf8 text bytes behind u (spelled-end bytes rest text behind e n w)

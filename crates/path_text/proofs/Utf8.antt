-- What is behind a step of a text in UTF-8 is one too, and so is the text of a key.
use Rattle.std.proofs.Common.{◌≡◌, ℕ, ◌+◌, ◌<◌, true, List, [], ◌∷◌, ◌++◌, length, get_or, refl, sym, ap, ◌∙◌, subst, arith, append_assoc, length-append}
use Rattle.std.specs.List.{list_all}
use Rattle.std.specs.Str.{IsUtf8, IsCharBoundary}
use Rattle.std.proofs.Math.Seq.{drop-append-add}
use Rattle.std.proofs.lemmas.Bool.{and_parts}
use Rattle.std.proofs.lemmas.Bool.Decides.{nat_tests}
use Rattle.std.proofs.lemmas.Str.{IsUtf8-drop, IsCharBoundary-after_ascii}
use Rattle.idl_tokens.specs.Characters.{is_word_start}
use Rattle.path_text.specs.Steps.{PathStep, field_step, index_step, key_step}
use Rattle.path_text.specs.Texts.{is_name_character, StepText}

-- a list with an ASCII character at its end
pub record EndsAscii (own : List ℕ) : Type 0 where
  pub front : List ℕ
  pub last : ℕ
  pub parts : own ≡ front ++ last ∷ []
  pub small : last < 128

pub name-small : (c : ℕ) → is_name_character c ≡ true → c < 128
name-small c h = grind (arith, nat_tests)

name-ends : (c : ℕ) (name : List ℕ) → c < 128 → list_all is_name_character name ≡ true → EndsAscii (c ∷ name)
name-ends c [] h e = record { front = []; last = c; parts = refl; small = h }
name-ends c (d ∷ name) h e =
    let p = and_parts (is_name_character d) (list_all is_name_character name) e in
    let k = name-ends d name (name-small d p.0) p.1 in
    record { front = c ∷ k.front; last = k.last; parts = ap (λ (z : List ℕ). c ∷ z) k.parts; small = k.small }

start-passes : (c : ℕ) → is_word_start c ≡ true → is_name_character c ≡ true
start-passes c h = rw h refl

pub step-ends : (s : PathStep) (own : List ℕ) → StepText s own → EndsAscii own
step-ends (field_step []) own (h, is) = absurd cc
step-ends (field_step (c ∷ name)) own (h, is) =
    let p = and_parts (is_word_start c) (list_all is_name_character name) h in
    rw is (name-ends 46 (c ∷ name) (omega arith) (rw (start-passes c p.0, p.1) refl))
step-ends (index_step i) own (digits, d, v, small, is) = record { front = 91 ∷ digits; last = 93; parts = is; small = omega arith }
step-ends (key_step key) own (inside, k, is) = record { front = 123 ∷ inside; last = 125; parts = is; small = omega arith }

seam : (front : List ℕ) (c : ℕ) (rest : List ℕ) → get_or (front ++ c ∷ rest) (length front) 0 ≡ c
seam [] c rest = refl
seam (d ∷ front) c rest = seam front c rest

pub behind-ascii : (front : List ℕ) (c : ℕ) (rest : List ℕ) → c < 128 → IsUtf8 (front ++ c ∷ rest) → IsUtf8 rest
behind-ascii front c rest h u =
    let text = front ++ c ∷ rest in
    let long : length front < length text = simp (length-append) (omega arith) in
    let cut : IsCharBoundary text (length front + 1) = IsCharBoundary-after_ascii text (length front) u long (omega (arith, seam front c rest)) in
    subst IsUtf8 (drop-append-add front (c ∷ rest) 1) (IsUtf8-drop text (length front + 1) u cut)

pub behind-step : (text own rest : List ℕ) → text ≡ own ++ rest → EndsAscii own → IsUtf8 text → IsUtf8 rest
behind-step text own rest e k u =
    behind-ascii k.front k.last rest k.small (subst IsUtf8 (e ∙ ap (λ (z : List ℕ). z ++ rest) k.parts ∙ append_assoc k.front (k.last ∷ []) rest) u)

-- what is behind an ASCII character
pub utf8-behind : (c n : ℕ) (text rest : List ℕ) → text ≡ c ∷ rest → c ≡ n → n < 128 → IsUtf8 text → IsUtf8 rest
utf8-behind c n text rest e q h u = behind-ascii [] c rest (subst (λ (z : ℕ). z < 128) (sym q) h) (subst IsUtf8 e u)

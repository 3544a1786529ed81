-- Each text of a step is read, whatever is behind it.
use Rattle.std.proofs.Common.{◌≡◌, ℕ, ◌<◌, ◌^◌, Bool, true, false, ◌&&◌, ◌||◌, ◌==◌, nat_lt, nat_le, List, [], ◌∷◌, ◌++◌, length, Some, None, Ok, refl, sym, ap, ◌∙◌, subst, arith, append_assoc}
use Rattle.std.specs.Prelude.{ℤ}
use Rattle.std.specs.Char.{is_ascii_digit}
use Rattle.std.specs.List.{list_all}
use Rattle.std.specs.Str.{all_ascii_digits}
use Rattle.std.specs.Str.Parse.{digits_value}
use Rattle.std.proofs.lemmas.Bool.{cond_both, cond-true, and_parts}
use Rattle.std.proofs.lemmas.Bool.Decides.{nat_tests}
use Rattle.std.proofs.lemmas.List.Sums.{list_all-from_AllPass}
use Rattle.hex.specs.Hex.{decode_of, is_hex_digit}
use Rattle.hex.proofs.HexLemmas.{decode_of-ok}
use Rattle.idl_tokens.specs.Characters.{is_word_start}
use Rattle.idl_tokens.specs.Numbers.{in_64_bits, negative}
use Rattle.path_text.specs.Steps.{PathKey, int_key, flag_key, text_key, bytes_key, PathStep, field_step, index_step, key_step}
use Rattle.path_text.specs.Texts.{is_name_character, is_name, IsDecimal, with_sign, escaped, KeyText, StepText, goes_on, IsWhole}
use Rattle.path_text.specs.Reading.{read_field, magnitude, read_digits, signed, read_int, before_text, read_text, read_bytes, read_key, read_step}
use Rattle.path_text.proofs.Runs.{Stops, run-take, run-drop}

-- ---- numbers

pub digits-pass : (digits : List ℕ) → list_all is_ascii_digit digits ≡ all_ascii_digits digits
digits-pass [] = refl
digits-pass (c ∷ digits) = ap (λ (b : Bool). is_ascii_digit c && b) (digits-pass digits)

number-tests : (n v m : ℕ) → 0 < n → v < m → (nat_lt 0 n && nat_lt v m) ≡ true
number-tests n v m h k = grind (arith, nat_tests)

pub magnitude-is : (digits : List ℕ) → 0 < length digits → digits_value 10 digits < 2 ^ 64 → magnitude digits ≡ Some (digits_value 10 digits)
magnitude-is digits h k = cond-true _ _ _ (number-tests (length digits) (digits_value 10 digits) (2 ^ 64) h k)

pub digits-found : (digits rest : List ℕ) → IsDecimal digits → digits_value 10 digits < 2 ^ 64 → Stops is_ascii_digit rest → read_digits (digits ++ rest) ≡ Some (digits_value 10 digits, rest)
digits-found digits rest d h s =
    let e = digits-pass digits ∙ d.1 in
    rw (run-take is_ascii_digit digits rest e s, run-drop is_ascii_digit digits rest e s, magnitude-is digits d.0 h) refl

pub in-64 : (minus : Bool) (v : ℕ) (n : ℤ) → in_64_bits minus v ≡ Some n → v < 2 ^ 64
in-64 true v n e = cond_both (nat_le v (2 ^ 63)) (Some (negative v)) None (λ o. o ≡ Some n → v < 2 ^ 64) (λ t h. grind (arith, nat_tests)) (λ t h. absurd cc) e
in-64 false v n e = cond_both (nat_lt v (2 ^ 63)) _ None (λ o. o ≡ Some n → v < 2 ^ 64) (λ t h. grind (arith, nat_tests)) (λ t h. absurd cc) e

signed-found : (minus : Bool) (digits rest : List ℕ) (n : ℤ) → IsDecimal digits → in_64_bits minus (digits_value 10 digits) ≡ Some n → Stops is_ascii_digit rest → signed minus (read_digits (digits ++ rest)) ≡ Some (int_key n, rest)
signed-found minus digits rest n d e s = rw (digits-found digits rest d (in-64 minus (digits_value 10 digits) n e) s, e) refl

-- what begins no key but a number
pub record IsPlain (c : ℕ) : Type 0 where
  pub quote : (c == 34) ≡ false
  pub hash : (c == 35) ≡ false
  pub t : (c == 116) ≡ false
  pub f : (c == 102) ≡ false

digit-plain : (c : ℕ) → is_ascii_digit c ≡ true → IsPlain c × ((c == 45) ≡ false)
digit-plain c h = (record { quote = grind (arith, nat_tests); hash = grind (arith, nat_tests); t = grind (arith, nat_tests); f = grind (arith, nat_tests) }, grind (arith, nat_tests))

plain-key : (c : ℕ) (text : List ℕ) → IsPlain c → read_key (c ∷ text) ≡ read_int (c ∷ text)
plain-key c text p = rw (p.quote, p.hash, p.t, p.f) refl

int-found : (minus : Bool) (digits rest : List ℕ) (n : ℤ) → IsDecimal digits → in_64_bits minus (digits_value 10 digits) ≡ Some n → Stops is_ascii_digit rest → read_key (with_sign minus digits ++ rest) ≡ Some (int_key n, rest)
int-found true digits rest n d e s = signed-found true digits rest n d e s
int-found false [] rest n d e s = absurd (omega arith)
int-found false (c ∷ digits) rest n d e s =
    let k = digit-plain c (and_parts (is_ascii_digit c) (all_ascii_digits digits) d.1).0 in
    plain-key c (digits ++ rest) k.0 ∙ rw k.1 (signed-found false (c ∷ digits) rest n d e s)

-- ---- texts and bytes

pub plain-byte : (c : ℕ) (text : List ℕ) → (c == 34 || c == 92) ≡ false → read_text (c ∷ text) ≡ before_text c (read_text text)
plain-byte c [] h = let q : (c == 34) ≡ false = grind (arith, nat_tests) in rw q refl
plain-byte c (d ∷ text) h =
    let q : (c == 34) ≡ false = grind (arith, nat_tests) in
    let b : (c == 92) ≡ false = grind (arith, nat_tests) in
    rw (q, b) refl

pub text-found : (s rest : List ℕ) → read_text (escaped s ++ 34 ∷ rest) ≡ Some (s, rest)
text-found [] [] = refl
text-found [] (c ∷ rest) = refl
text-found (c ∷ s) rest =
    cond_both (c == 34 || c == 92) (92 ∷ c ∷ escaped s) (c ∷ escaped s) (λ (t : List ℕ). read_text (t ++ 34 ∷ rest) ≡ Some (c ∷ s, rest))
    (λ h. rw (h, text-found s rest) refl) (λ h. plain-byte c (escaped s ++ 34 ∷ rest) h ∙ ap (before_text c) (text-found s rest))

bytes-found : (digits bytes rest : List ℕ) → decode_of digits ≡ Ok bytes → Stops is_hex_digit rest → read_bytes (digits ++ rest) ≡ Some (bytes_key bytes, rest)
bytes-found digits bytes rest e s =
    let k = list_all-from_AllPass is_hex_digit digits (decode_of-ok digits bytes e).1 in
    rw (run-take is_hex_digit digits rest k s, run-drop is_hex_digit digits rest k s, e) refl

-- ---- keys and steps

pub key-found : (key : PathKey) (inside rest : List ℕ) → KeyText key inside → read_key (inside ++ 125 ∷ rest) ≡ Some (key, 125 ∷ rest)
key-found (int_key n) inside rest (minus, digits, d, e, is) = rw is (int-found minus digits (125 ∷ rest) n d e refl)
key-found (flag_key true) inside rest is = rw is refl
key-found (flag_key false) inside rest is = rw is refl
key-found (text_key s) inside rest is = rw (is, append_assoc (escaped s) (34 ∷ []) (125 ∷ rest), text-found s (125 ∷ rest)) refl
key-found (bytes_key bytes) inside rest (digits, e, is) = rw is (bytes-found digits bytes (125 ∷ rest) e refl)

goes-stops : (rest : List ℕ) → goes_on rest ≡ false → Stops is_name_character rest
goes-stops [] h = tt
goes-stops (c ∷ rest) h = h

field-found : (name rest : List ℕ) → is_name name ≡ true → goes_on rest ≡ false → read_field (name ++ rest) ≡ Some (field_step name, rest)
field-found [] rest h s = absurd cc
field-found (c ∷ name) rest h s =
    let e = and_parts (is_word_start c) (list_all is_name_character name) h in
    let k : list_all is_name_character (c ∷ name) ≡ true = rw (e.0, e.1) refl in
    rw (run-take is_name_character (c ∷ name) rest k (goes-stops rest s), run-drop is_name_character (c ∷ name) rest k (goes-stops rest s), e.0) refl

pub step-found : (s : PathStep) (own rest : List ℕ) → StepText s own → IsWhole s rest → read_step (own ++ rest) ≡ Some (s, rest)
step-found (field_step name) own rest (h, is) w = rw is (field-found name rest h w)
step-found (index_step i) own rest (digits, d, v, small, is) w =
    rw (is, append_assoc digits (93 ∷ []) rest, digits-found digits (93 ∷ rest) d (subst (λ (n : ℕ). n < 2 ^ 64) (sym v) small) refl, v) refl
step-found (key_step key) own rest (inside, k, is) w = rw (is, append_assoc inside (125 ∷ []) rest, key-found key inside rest k) refl

-- a step begins here, though its name may go on
pub step-begins : (s : PathStep) (own rest : List ℕ) → StepText s own → read_step (own ++ rest) ≡ None → ⊥
step-begins (field_step []) own rest (h, is) e = absurd cc
step-begins (field_step (c ∷ name)) own rest (h, is) e =
    let k = and_parts (is_word_start c) (list_all is_name_character name) h in
    let m = rw (is, k.0) at e in absurd cc
step-begins (index_step i) own rest t e = let k = step-found (index_step i) own rest t tt in absurd cc
step-begins (key_step key) own rest t e = let k = step-found (key_step key) own rest t tt in absurd cc

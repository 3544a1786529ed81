-- What is read as a step is a text of it.
use Rattle.std.proofs.Common.{◌≡◌, ℕ, suc, ◌+◌, ◌<◌, ◌^◌, Bool, true, false, ◌&&◌, ◌||◌, ◌==◌, nat_lt, List, [], ◌∷◌, ◌++◌, length, take, drop, Option, Some, None, Result, Ok, Err, refl, sym, ap, ◌∙◌, subst, arith, append_assoc, cond}
use Rattle.std.specs.Prelude.{ℤ, codes, option_map}
use Rattle.std.specs.Char.{is_ascii_digit}
use Rattle.std.specs.List.{prefix_len}
use Rattle.std.specs.Str.Parse.{digits_value}
use Rattle.std.proofs.lemmas.Bool.{cond_both, cond-true, cond-false, and_parts, ltb-true, eqb-true}
use Rattle.std.proofs.lemmas.List.{take-append-drop}
use Rattle.hex.specs.Hex.{decode_of, is_hex_digit}
use Rattle.hex.specs.declared.error.FromHexError.{FromHexError}
use Rattle.idl_tokens.specs.Numbers.{in_64_bits}
use Rattle.path_text.specs.Steps.{PathKey, int_key, flag_key, text_key, bytes_key, PathStep, field_step, index_step, key_step}
use Rattle.path_text.specs.Texts.{is_name_character, is_name, IsDecimal, with_sign, escaped, KeyText, StepText, goes_on, IsWhole}
use Rattle.path_text.specs.Reading.{Found, behind_word, begins_name, read_field, magnitude, with_rest, read_digits, signed, read_int, before_text, read_text, as_text, as_bytes, read_bytes, or_else, read_plain, read_key, closed, read_step}
use Rattle.path_text.proofs.Runs.{Stops, run-front, run-stops}
use Rattle.path_text.proofs.Found.{some-is, Pair, pair-is, word-is, closed-is, with-rest-is}
use Rattle.path_text.proofs.Complete.{digits-pass}

-- ---- numbers

magnitude-parts : (digits : List ℕ) (v : ℕ) → magnitude digits ≡ Some v → (0 < length digits) × (digits_value 10 digits ≡ v) × (v < 2 ^ 64)
magnitude-parts digits v e =
    cond_both (nat_lt 0 (length digits) && nat_lt (digits_value 10 digits) (2 ^ 64)) (Some (digits_value 10 digits)) None
    (λ o. o ≡ Some v → (0 < length digits) × (digits_value 10 digits ≡ v) × (v < 2 ^ 64))
    (λ t h.
    let k = and_parts (nat_lt 0 (length digits)) (nat_lt (digits_value 10 digits) (2 ^ 64)) t in
    let m = some-is h in
    (ltb-true 0 (length digits) k.0, m, subst (λ (n : ℕ). n < 2 ^ 64) m (ltb-true (digits_value 10 digits) (2 ^ 64) k.1)))
    (λ t h. absurd cc) e

pub record Digits (text : List ℕ) (v : ℕ) (rest : List ℕ) : Type 0 where
  pub digits : List ℕ
  pub decimal : IsDecimal digits
  pub value : digits_value 10 digits ≡ v
  pub small : v < 2 ^ 64
  pub parts : text ≡ digits ++ rest

pub digits-is : (text : List ℕ) (v : ℕ) (rest : List ℕ) → read_digits text ≡ Some (v, rest) → Digits text v rest
digits-is text v rest e =
    let n = prefix_len is_ascii_digit text in
    let k = with-rest-is (drop n text) (magnitude (take n text)) v rest e in
    let m = magnitude-parts (take n text) v k.0 in
    record {
      digits = take n text;
      decimal = (m.0, sym (digits-pass (take n text)) ∙ run-front is_ascii_digit text);
      value = m.1;
      small = m.2;
      parts = sym (take-append-drop n text) ∙ ap (λ (z : List ℕ). take n text ++ z) k.1;
    }

-- ---- keys

pub record KeyHere (text : List ℕ) (key : PathKey) (rest : List ℕ) : Type 0 where
  pub inside : List ℕ
  pub is : KeyText key inside
  pub parts : text ≡ inside ++ rest

key-as : (text : List ℕ) (k key : PathKey) (rest : List ℕ) → k ≡ key → KeyHere text k rest → KeyHere text key rest
key-as text k key rest e h = subst (λ (z : PathKey). KeyHere text z rest) e h

signed-by : (minus : Bool) (text : List ℕ) (key : PathKey) (rest : List ℕ) (v : ℕ) (behind : List ℕ) (o : Option ℤ) → in_64_bits minus v ≡ o → read_digits text ≡ Some (v, behind) → with_rest behind (option_map int_key o) ≡ Some (key, rest) → KeyHere (with_sign minus text) key rest
signed-by minus text key rest v behind None i d e = absurd cc
signed-by minus text key rest v behind (Some n) i d e =
    let k = with-rest-is behind (Some (int_key n)) key rest e in
    let m = digits-is text v behind d in
    let moved : with_sign minus text ≡ with_sign minus m.digits ++ rest = elim minus as (λ b. with_sign b text ≡ with_sign b m.digits ++ rest) [
      | true ↦ ap (λ (z : List ℕ). 45 ∷ z) (m.parts ∙ ap (λ (z : List ℕ). m.digits ++ z) k.1)
      | false ↦ m.parts ∙ ap (λ (z : List ℕ). m.digits ++ z) k.1
    ] in
    key-as (with_sign minus text) (int_key n) key rest (some-is k.0) (record {
      inside = with_sign minus m.digits;
      is = (minus, m.digits, m.decimal, ap (in_64_bits minus) m.value ∙ i, refl);
      parts = moved;
    })

signed-is : (minus : Bool) (text : List ℕ) (key : PathKey) (rest : List ℕ) (f : Found ℕ) → read_digits text ≡ f → signed minus f ≡ Some (key, rest) → KeyHere (with_sign minus text) key rest
signed-is minus text key rest None d e = absurd cc
signed-is minus text key rest (Some p) d e = signed-by minus text key rest p.0 p.1 (in_64_bits minus p.0) refl d e

int-is : (text : List ℕ) (key : PathKey) (rest : List ℕ) → read_int text ≡ Some (key, rest) → KeyHere text key rest
int-is [] key rest e = absurd cc
int-is (c ∷ text) key rest e =
    cond_both (c == 45) (signed true (read_digits text)) (signed false (read_digits (c ∷ text))) (λ o. o ≡ Some (key, rest) → KeyHere (c ∷ text) key rest)
    (λ t h. subst (λ (n : ℕ). KeyHere (n ∷ text) key rest) (sym (eqb-true c 45 t)) (signed-is true text key rest (read_digits text) refl h))
    (λ t h. signed-is false (c ∷ text) key rest (read_digits (c ∷ text)) refl h) e

flag-is : (b : Bool) (word text : List ℕ) (key : PathKey) (rest : List ℕ) (o : Option (List ℕ)) (more : Found PathKey) → KeyText (flag_key b) word → behind_word word text ≡ o
    → (more ≡ Some (key, rest) → KeyHere text key rest) → or_else (option_map {U = PathKey × List ℕ} (λ (r : List ℕ). (flag_key b, r)) o) more ≡ Some (key, rest) → KeyHere text key rest
flag-is b word text key rest None more is w others e = others e
flag-is b word text key rest (Some r) more is w others e =
    let k = pair-is (flag_key b, r) key rest e in
    key-as text (flag_key b) key rest k.value (record { inside = word; is = is; parts = word-is word text r w ∙ ap (λ (z : List ℕ). word ++ z) k.rest })

plain-is : (text : List ℕ) (key : PathKey) (rest : List ℕ) → read_plain text ≡ Some (key, rest) → KeyHere text key rest
plain-is text key rest e =
    flag-is true (codes "true") text key rest (behind_word (codes "true") text) _ refl refl
    (λ h. flag-is false (codes "false") text key rest (behind_word (codes "false") text) _ refl refl (λ m. int-is text key rest m) h) e

pub before-is : (b : ℕ) (f : Found (List ℕ)) (s rest : List ℕ) → before_text b f ≡ Some (s, rest) → (t : List ℕ) × (f ≡ Some (t, rest)) × (s ≡ b ∷ t)
before-is b None s rest e = absurd cc
before-is b (Some p) s rest e = let k = pair-is (b ∷ p.0, p.1) s rest e in (p.0, ap (λ (z : List ℕ). Some (p.0, z)) k.rest, sym k.value)

-- a byte and what it is written as
escaped-yes : (c : ℕ) (s : List ℕ) → (c == 34 || c == 92) ≡ true → escaped (c ∷ s) ≡ 92 ∷ c ∷ escaped s
escaped-yes c s h = cond-true (c == 34 || c == 92) (92 ∷ c ∷ escaped s) (c ∷ escaped s) h

escaped-no : (c : ℕ) (s : List ℕ) → (c == 34) ≡ false → (c == 92) ≡ false → escaped (c ∷ s) ≡ c ∷ escaped s
escaped-no c s h k = cond-false (c == 34 || c == 92) (92 ∷ c ∷ escaped s) (c ∷ escaped s) (rw (h, k) refl)

ended : (c : ℕ) (behind s rest : List ℕ) → c ≡ 34 → Pair [] s behind rest → c ∷ behind ≡ escaped s ++ 34 ∷ rest
ended c behind s rest q p = subst (λ (z : List ℕ). c ∷ behind ≡ escaped z ++ 34 ∷ rest) p.value (rw (q, p.rest) refl)

pub text-is : (text s rest : List ℕ) → read_text text ≡ Some (s, rest) → text ≡ escaped s ++ 34 ∷ rest
text-is [] s rest e = absurd cc
text-is (c ∷ []) s rest e =
    cond_both (c == 34) (Some ([], [])) None (λ o. o ≡ Some (s, rest) → c ∷ [] ≡ escaped s ++ 34 ∷ rest)
    (λ t h. ended c [] s rest (eqb-true c 34 t) (pair-is ([], []) s rest h)) (λ t h. absurd cc) e
text-is (c ∷ d ∷ text) s rest e =
    cond_both (c == 34) (Some ([], d ∷ text)) (cond (c == 92) (cond (d == 34 || d == 92) (before_text d (read_text text)) None) (before_text c (read_text (d ∷ text))))
    (λ o. o ≡ Some (s, rest) → c ∷ d ∷ text ≡ escaped s ++ 34 ∷ rest)
    (λ t h. ended c (d ∷ text) s rest (eqb-true c 34 t) (pair-is ([], d ∷ text) s rest h))
    (λ n g. cond_both (c == 92) (cond (d == 34 || d == 92) (before_text d (read_text text)) None) (before_text c (read_text (d ∷ text)))
    (λ o. o ≡ Some (s, rest) → c ∷ d ∷ text ≡ escaped s ++ 34 ∷ rest)
    (λ t h. cond_both (d == 34 || d == 92) (before_text d (read_text text)) None (λ o. o ≡ Some (s, rest) → c ∷ d ∷ text ≡ escaped s ++ 34 ∷ rest)
    (λ u m. let k = before-is d (read_text text) s rest m in rw (k.2, escaped-yes d k.0 u, eqb-true c 92 t) (ap (λ (z : List ℕ). 92 ∷ d ∷ z) (text-is text k.0 rest k.1)))
    (λ u m. absurd cc) h)
    (λ t h. let k = before-is c (read_text (d ∷ text)) s rest h in rw (k.2, escaped-no c k.0 n t) (ap (λ (z : List ℕ). c ∷ z) (text-is (d ∷ text) k.0 rest k.1))) g)
    e

quoted-is : (text : List ℕ) (key : PathKey) (rest : List ℕ) (f : Found (List ℕ)) → read_text text ≡ f → as_text f ≡ Some (key, rest) → KeyHere (34 ∷ text) key rest
quoted-is text key rest None r e = absurd cc
quoted-is text key rest (Some p) r e =
    let k = pair-is (text_key p.0, p.1) key rest e in
    let m = text-is text p.0 p.1 r in
    key-as (34 ∷ text) (text_key p.0) key rest k.value (record {
      inside = 34 ∷ (escaped p.0 ++ 34 ∷ []);
      is = refl;
      parts = ap (λ (z : List ℕ). 34 ∷ z) (m ∙ ap (λ (z : List ℕ). escaped p.0 ++ 34 ∷ z) k.rest ∙ sym (append_assoc (escaped p.0) (34 ∷ []) rest));
    })

bytes-by : (digits behind : List ℕ) (key : PathKey) (rest : List ℕ) (r : Result (List ℕ) FromHexError) → decode_of digits ≡ r → as_bytes behind r ≡ Some (key, rest) → KeyHere (35 ∷ (digits ++ behind)) key rest
bytes-by digits behind key rest (Err x) d e = absurd cc
bytes-by digits behind key rest (Ok bytes) d e =
    let k = pair-is (bytes_key bytes, behind) key rest e in
    key-as (35 ∷ (digits ++ behind)) (bytes_key bytes) key rest k.value (record {
      inside = 35 ∷ digits;
      is = (digits, d, refl);
      parts = ap (λ (z : List ℕ). 35 ∷ (digits ++ z)) k.rest;
    })

bytes-is : (text : List ℕ) (key : PathKey) (rest : List ℕ) → read_bytes text ≡ Some (key, rest) → KeyHere (35 ∷ text) key rest
bytes-is text key rest e =
    let n = prefix_len is_hex_digit text in
    subst (λ (z : List ℕ). KeyHere (35 ∷ z) key rest) (take-append-drop n text) (bytes-by (take n text) (drop n text) key rest (decode_of (take n text)) refl e)

key-is : (text : List ℕ) (key : PathKey) (rest : List ℕ) → read_key text ≡ Some (key, rest) → KeyHere text key rest
key-is [] key rest e = absurd cc
key-is (c ∷ text) key rest e =
    cond_both (c == 34) (as_text (read_text text)) (cond (c == 35) (read_bytes text) (read_plain (c ∷ text))) (λ o. o ≡ Some (key, rest) → KeyHere (c ∷ text) key rest)
    (λ t h. subst (λ (n : ℕ). KeyHere (n ∷ text) key rest) (sym (eqb-true c 34 t)) (quoted-is text key rest (read_text text) refl h))
    (λ n g. cond_both (c == 35) (read_bytes text) (read_plain (c ∷ text)) (λ o. o ≡ Some (key, rest) → KeyHere (c ∷ text) key rest)
    (λ t h. subst (λ (m : ℕ). KeyHere (m ∷ text) key rest) (sym (eqb-true c 35 t)) (bytes-is text key rest h))
    (λ t h. plain-is (c ∷ text) key rest h) g)
    e

-- ---- steps

pub record StepHere (text : List ℕ) (s : PathStep) (rest : List ℕ) : Type 0 where
  pub own : List ℕ
  pub is : StepText s own
  pub parts : text ≡ own ++ rest
  pub whole : IsWhole s rest

step-as : (text : List ℕ) (t s : PathStep) (rest : List ℕ) → t ≡ s → StepHere text t rest → StepHere text s rest
step-as text t s rest e h = subst (λ (z : PathStep). StepHere text z rest) e h

stops-goes : (rest : List ℕ) → Stops is_name_character rest → goes_on rest ≡ false
stops-goes [] h = refl
stops-goes (c ∷ rest) h = h

-- a name begins at a letter or _, and is what goes on from there
name-run : (text : List ℕ) → begins_name text ≡ true → is_name (take (prefix_len is_name_character text) text) ≡ true
name-run [] h = absurd cc
name-run (c ∷ text) h =
    let s : is_name_character c ≡ true = rw h refl in
    let k : prefix_len is_name_character (c ∷ text) ≡ suc (prefix_len is_name_character text) = cond-true (is_name_character c) (1 + prefix_len is_name_character text) 0 s ∙ (omega arith) in
    rw (k, h) (run-front is_name_character text)

field-is : (text : List ℕ) (s : PathStep) (rest : List ℕ) → read_field text ≡ Some (s, rest) → StepHere (46 ∷ text) s rest
field-is text s rest e =
    let n = prefix_len is_name_character text in
    cond_both (begins_name text) (Some (field_step (take n text), drop n text)) None (λ o. o ≡ Some (s, rest) → StepHere (46 ∷ text) s rest)
    (λ t h.
    let k = pair-is (field_step (take n text), drop n text) s rest h in
    step-as (46 ∷ text) (field_step (take n text)) s rest k.value (record {
      own = 46 ∷ take n text;
      is = (name-run text t, refl);
      parts = ap (λ (z : List ℕ). 46 ∷ z) (sym (take-append-drop n text) ∙ ap (λ (z : List ℕ). take n text ++ z) k.rest);
      whole = subst (λ (z : List ℕ). goes_on z ≡ false) k.rest (stops-goes (drop n text) (run-stops is_name_character text));
    }))
    (λ t h. absurd cc) e

index-is : (text : List ℕ) (s : PathStep) (rest : List ℕ) → closed index_step 93 (read_digits text) ≡ Some (s, rest) → StepHere (91 ∷ text) s rest
index-is text s rest e =
    let k = closed-is index_step 93 (read_digits text) s rest e in
    let m = digits-is text k.value (93 ∷ rest) k.inside in
    step-as (91 ∷ text) (index_step k.value) s rest k.made (record {
      own = 91 ∷ (m.digits ++ 93 ∷ []);
      is = (m.digits, m.decimal, m.value, m.small, refl);
      parts = ap (λ (z : List ℕ). 91 ∷ z) (m.parts ∙ sym (append_assoc m.digits (93 ∷ []) rest));
      whole = tt;
    })

key-step-is : (text : List ℕ) (s : PathStep) (rest : List ℕ) → closed key_step 125 (read_key text) ≡ Some (s, rest) → StepHere (123 ∷ text) s rest
key-step-is text s rest e =
    let k = closed-is key_step 125 (read_key text) s rest e in
    let m = key-is text k.value (125 ∷ rest) k.inside in
    step-as (123 ∷ text) (key_step k.value) s rest k.made (record {
      own = 123 ∷ (m.inside ++ 125 ∷ []);
      is = (m.inside, m.is, refl);
      parts = ap (λ (z : List ℕ). 123 ∷ z) (m.parts ∙ sym (append_assoc m.inside (125 ∷ []) rest));
      whole = tt;
    })

pub step-is : (text : List ℕ) (s : PathStep) (rest : List ℕ) → read_step text ≡ Some (s, rest) → StepHere text s rest
step-is [] s rest e = absurd cc
step-is (c ∷ text) s rest e =
    let Here : Found PathStep → Type 0 = λ o. o ≡ Some (s, rest) → StepHere (c ∷ text) s rest in
    let at : (n : ℕ) → (c == n) ≡ true → StepHere (n ∷ text) s rest → StepHere (c ∷ text) s rest = λ n t h. subst (λ (m : ℕ). StepHere (m ∷ text) s rest) (sym (eqb-true c n t)) h in
    cond_both (c == 46) (read_field text) (cond (c == 91) (closed index_step 93 (read_digits text)) (cond (c == 123) (closed key_step 125 (read_key text)) None)) Here
    (λ t h. at 46 t (field-is text s rest h))
    (λ n g. cond_both (c == 91) (closed index_step 93 (read_digits text)) (cond (c == 123) (closed key_step 125 (read_key text)) None) Here
    (λ t h. at 91 t (index-is text s rest h))
    (λ m i. cond_both (c == 123) (closed key_step 125 (read_key text)) None Here (λ t h. at 123 t (key-step-is text s rest h)) (λ t h. absurd cc) i) g)
    e

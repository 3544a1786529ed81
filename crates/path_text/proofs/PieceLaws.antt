-- What the small functions of reading give.
use Rattle.std.proofs.Common.{◌≡◌, ℕ, ◌+◌, ◌<◌, ◌^◌, Bool, true, false, ◌&&◌, ◌||◌, ◌==◌, nat_lt, List, [], ◌∷◌, ◌++◌, length, take, drop, Option, Some, None, Result, Ok, Err, refl, sym, ap, ◌∙◌, subst, arith, append_assoc, cond}
use Rattle.std.specs.Prelude.{option_map}
use Rattle.std.specs.Borrow.{Bor}
use Rattle.std.specs.Option.{MatchOption}
use Rattle.std.specs.Result.{result_ok}
use Rattle.std.specs.List.{list_all}
use Rattle.std.specs.Str.{IsUtf8, IsAscii, all_ascii_digits}
use Rattle.std.specs.Str.Parse.{digits_value, ParsesUnsigned}
use Rattle.std.specs.Char.{is_ascii_digit}
use Rattle.std.proofs.lemmas.Bool.{cond_both, and_parts, ltb-true}
use Rattle.std.proofs.lemmas.Bool.Decides.{nat_tests}
use Rattle.std.proofs.lemmas.Str.{IsUtf8-from_ascii}
use Rattle.std.proofs.lemmas.Str.Ascii.{IsAscii-nil, IsAscii-cons}
use Rattle.std.proofs.lemmas.Str.Parse.{IsNumeralModel, tells_all_ascii_digits, numerals_by_value, parse_digits}
use Rattle.path_text.specs.Texts.{is_name_character}
use Rattle.path_text.specs.Reading.{Found, behind_word, magnitude, byte_of, before_text, read_text}
use Rattle.path_text.proofs.Found.{pair-is}
use Rattle.path_text.proofs.Complete.{magnitude-is}
use Rattle.path_text.proofs.Utf8.{name-small}
use lib.Pointwise.{pointwise}
use lib.Dec.{eqb}

-- ---- words

front-test : (word text : List ℕ) → behind_word word text ≡ cond (pointwise eqb (take (length word) text) word) (Some (drop (length word) text)) None
front-test [] text = refl
front-test (c ∷ word) [] = refl
front-test (c ∷ word) (d ∷ text) =
    cond_both (d == c) (behind_word word text) None (λ o. o ≡ cond (eqb d c && pointwise eqb (take (length word) text) word) (Some (drop (length word) text)) None)
    (λ h. rw h (front-test word text)) (λ h. rw h refl)

pub stripped : (o : Option (Bor (List ℕ))) (word text : List ℕ)
    → MatchOption o (pointwise eqb (take (length word) text) word ≡ false) (λ x. (pointwise eqb (take (length word) text) word ≡ true) × (x.now ≡ drop (length word) text) × (length x.now + length word ≡ length text))
    → option_map {T = Bor (List ℕ)} {U = List ℕ} (λ x. x.now) o ≡ behind_word word text
stripped None word text h = sym (front-test word text ∙ rw h refl)
stripped (Some x) word text h = sym (front-test word text ∙ rw (h.0, h.1) refl)

-- ---- digits and names

digits-model : IsNumeralModel (λ ds. all_ascii_digits ds ≡ true) (digits_value 10)
digits-model = numerals_by_value (λ ds. all_ascii_digits ds ≡ true) tells_all_ascii_digits

magnitude-none : (digits : List ℕ) → ((0 < length digits) × (digits_value 10 digits < 2 ^ 64) → ⊥) → None ≡ magnitude digits
magnitude-none digits h =
    cond_both (nat_lt 0 (length digits) && nat_lt (digits_value 10 digits) (2 ^ 64)) (Some (digits_value 10 digits)) None (λ o. None ≡ o)
    (λ t. let k = and_parts (nat_lt 0 (length digits)) (nat_lt (digits_value 10 digits) (2 ^ 64)) t in absurd (h (ltb-true 0 (length digits) k.0, ltb-true (digits_value 10 digits) (2 ^ 64) k.1)))
    (λ t. refl)

pub parsed : {E : Type 0} → (text digits : List ℕ) (r : Result ℕ E) → text ≡ digits → ParsesUnsigned 64 10 text r → all_ascii_digits digits ≡ true → result_ok r ≡ magnitude digits
parsed {E} text digits (Ok x) e h p =
    let k = parse_digits digits-model {E = E} 64 digits (Ok x) (subst (λ (z : List ℕ). ParsesUnsigned {E = E} 64 10 z (Ok x)) e h) p in
    ap (λ (n : ℕ). Some n) k.1 ∙ sym (magnitude-is digits k.0.0 k.0.1)
parsed {E} text digits (Err x) e h p =
    let k = parse_digits digits-model {E = E} 64 digits (Err x) (subst (λ (z : List ℕ). ParsesUnsigned {E = E} 64 10 z (Err x)) e h) p in
    magnitude-none digits k

digit-small : (c : ℕ) → is_ascii_digit c ≡ true → c < 128
digit-small c h = grind (arith, nat_tests)

digits-ascii : (digits : List ℕ) → all_ascii_digits digits ≡ true → IsAscii digits
digits-ascii [] h = IsAscii-nil
digits-ascii (c ∷ digits) h = let k = and_parts (is_ascii_digit c) (all_ascii_digits digits) h in IsAscii-cons c digits (digit-small c k.0) (digits-ascii digits k.1)

pub digits-utf8 : (digits : List ℕ) → all_ascii_digits digits ≡ true → IsUtf8 digits
digits-utf8 digits h = IsUtf8-from_ascii digits (digits-ascii digits h)

name-ascii : (name : List ℕ) → list_all is_name_character name ≡ true → IsAscii name
name-ascii [] h = IsAscii-nil
name-ascii (c ∷ name) h = let k = and_parts (is_name_character c) (list_all is_name_character name) h in IsAscii-cons c name (name-small c k.0) (name-ascii name k.1)

pub name-utf8 : (name : List ℕ) → list_all is_name_character name ≡ true → IsUtf8 name
name-utf8 name h = IsUtf8-from_ascii name (name-ascii name h)

-- ---- the bytes of a text

-- bytes in front of what is found
abbrev pub after_bytes : List ℕ → Found (List ℕ) → Found (List ℕ)
after_bytes bytes None = None
after_bytes bytes (Some p) = Some (bytes ++ p.0, p.1)

pub no-bytes : (f : Found (List ℕ)) → f ≡ after_bytes [] f
no-bytes None = refl
no-bytes (Some p) = refl

pub more-bytes : (bytes : List ℕ) (b : ℕ) (f : Found (List ℕ)) → after_bytes bytes (before_text b f) ≡ after_bytes (bytes ++ b ∷ []) f
more-bytes bytes b None = refl
more-bytes bytes b (Some p) = ap (λ (z : List ℕ). Some (z, p.1)) (sym (append_assoc bytes (b ∷ []) p.0))

-- the byte in front of c ∷ d ∷ text, and the text read there, by what the bytes are
abbrev byte_by : Bool → Bool → Bool → ℕ → ℕ → List ℕ → Found ℕ
byte_by q s t c d text = cond {A = Found ℕ} q None (cond {A = Found ℕ} s (cond {A = Found ℕ} t (Some (d, text)) None) (Some (c, d ∷ text)))

abbrev text_by : Bool → Bool → Bool → ℕ → ℕ → List ℕ → Found (List ℕ)
text_by q s t c d text =
    cond {A = Found (List ℕ)} q (Some ([], d ∷ text))
    (cond {A = Found (List ℕ)} s (cond {A = Found (List ℕ)} t (before_text d (read_text text)) None) (before_text c (read_text (d ∷ text))))

byte-cases : (q s t : Bool) (c d : ℕ) (text : List ℕ) (b : ℕ) (rest : List ℕ) → byte_by q s t c d text ≡ Some (b, rest)
    → text_by q s t c d text ≡ before_text b (read_text rest)
byte-cases true s t c d text b rest e = absurd cc
byte-cases false true true c d text b rest e = let k = pair-is (d, text) b rest e in ap (λ (n : ℕ). before_text n (read_text text)) k.value ∙ ap (λ (z : List ℕ). before_text b (read_text z)) k.rest
byte-cases false true false c d text b rest e = absurd cc
byte-cases false false t c d text b rest e = let k = pair-is (c, d ∷ text) b rest e in ap (λ (n : ℕ). before_text n (read_text (d ∷ text))) k.value ∙ ap (λ (z : List ℕ). before_text b (read_text z)) k.rest

single-cases : (q s : Bool) (c b : ℕ) (rest : List ℕ) → cond {A = Found ℕ} q None (cond {A = Found ℕ} s None (Some (c, []))) ≡ Some (b, rest) → cond {A = Found (List ℕ)} q (Some ([], [])) None ≡ before_text b (read_text rest)
single-cases true s c b rest e = absurd cc
single-cases false true c b rest e = absurd cc
single-cases false false c b rest e = let k = pair-is (c, []) b rest e in subst (λ (z : List ℕ). None ≡ before_text b (read_text z)) k.rest refl

pub read-byte : (text : List ℕ) (b : ℕ) (rest : List ℕ) → byte_of text ≡ Some (b, rest) → read_text text ≡ before_text b (read_text rest)
read-byte [] b rest e = absurd cc
read-byte (c ∷ []) b rest e = single-cases (c == 34) (c == 92) c b rest e
read-byte (c ∷ d ∷ text) b rest e = byte-cases (c == 34) (c == 92) (d == 34 || d == 92) c d text b rest e

no-byte-cases : (q s t : Bool) (c d : ℕ) (text : List ℕ) → byte_by q s t c d text ≡ None
    → text_by q s t c d text ≡ option_map {U = List ℕ × List ℕ} (λ (r : List ℕ). ([], r)) (cond q (Some (d ∷ text)) None)
no-byte-cases true s t c d text e = refl
no-byte-cases false true true c d text e = absurd cc
no-byte-cases false true false c d text e = refl
no-byte-cases false false t c d text e = absurd cc

pub read-end : (text : List ℕ) → byte_of text ≡ None → read_text text ≡ option_map {U = List ℕ × List ℕ} (λ (r : List ℕ). ([], r)) (behind_word (34 ∷ []) text)
read-end [] e = refl
read-end (c ∷ []) e = cond_both (c == 34) (Some []) None (λ (o : Option (List ℕ)). cond {A = Found (List ℕ)} (c == 34) (Some ([], [])) None ≡ option_map {U = List ℕ × List ℕ} (λ (r : List ℕ). ([], r)) o) (λ h. rw h refl) (λ h. rw h refl)
read-end (c ∷ d ∷ text) e = no-byte-cases (c == 34) (c == 92) (d == 34 || d == 92) c d text e

shorter-cases : (q s t : Bool) (c d : ℕ) (text : List ℕ) (b : ℕ) (rest : List ℕ) → byte_by q s t c d text ≡ Some (b, rest) → length rest < length (c ∷ d ∷ text)
shorter-cases true s t c d text b rest e = absurd cc
shorter-cases false true true c d text b rest e = let k = ap length (pair-is (d, text) b rest e).rest in omega arith
shorter-cases false true false c d text b rest e = absurd cc
shorter-cases false false t c d text b rest e = let k = ap length (pair-is (c, d ∷ text) b rest e).rest in omega arith

pub byte-shorter : (text : List ℕ) (b : ℕ) (rest : List ℕ) → byte_of text ≡ Some (b, rest) → length rest < length text
byte-shorter [] b rest e = absurd cc
byte-shorter (c ∷ []) b rest e =
    cond_both {A = Found ℕ} (c == 34) None (cond {A = Found ℕ} (c == 92) None (Some (c, []))) (λ o. o ≡ Some (b, rest) → length rest < 1) (λ h g. absurd cc)
    (λ h g. cond_both {A = Found ℕ} (c == 92) None (Some (c, [])) (λ o. o ≡ Some (b, rest) → length rest < 1) (λ h g. absurd cc) (λ h g. let k = ap length (pair-is (c, []) b rest g).rest in omega arith) g) e
byte-shorter (c ∷ d ∷ text) b rest e = shorter-cases (c == 34) (c == 92) (d == 34 || d == 92) c d text b rest e

-- one more byte of a text
pub spelled-more : (bytes rest text behind more : List ℕ) (b : ℕ) → read_text text ≡ after_bytes bytes (read_text rest) → byte_of rest ≡ Some (b, behind) → more ≡ bytes ++ b ∷ [] → read_text text ≡ after_bytes more (read_text behind)
spelled-more bytes rest text behind more b e n m =
    e ∙ ap (after_bytes bytes) (read-byte rest b behind n) ∙ more-bytes bytes b (read_text behind) ∙ ap (λ (z : List ℕ). after_bytes z (read_text behind)) (sym m)

-- The tokens of printed numbers.
use Rattle.std.proofs.Common.{◌≡◌, ℕ, suc, ◌+◌, ◌-◌, ◌*◌, ◌^◌, ◌<◌, ◌≤◌, Bool, true, false, ◌==◌, ◌&&◌, ◌||◌, if◌then◌else◌, List, [], ◌∷◌, ◌++◌, length, Some, refl, ap, ◌∙◌, arith}
use Rattle.std.specs.Prelude.{ℤ, pos, negsuc, ◌/◌, ◌%◌, nat_le, nat_lt}
use Rattle.std.specs.List.{prefix_len}
use Rattle.std.specs.Fmt.{decimal, signed_decimal}
use Rattle.std.proofs.lemmas.Fmt.{decimal_by_steps, decimal_nonempty}
use Rattle.std.proofs.lemmas.Bool.Decides.{nat_tests}
use Rattle.idl_tokens.specs.Characters.{is_space, is_digit, is_hex_digit, is_word_start, is_word_character, is_in_line}
use Rattle.idl_tokens.specs.Numbers.{digit_value, value_behind, value, hex_len, make_magnitude, magnitude, in_64_bits}
use Rattle.idl_tokens.specs.Tokens.{behind_sign, unsigned_number, token, number, front, spot, Toks, tokens_behind}
use Rattle.idl_proper.proofs.Lists.{front-taken}
use Rattle.idl_proper.specs.Proper.{Every, Is64}
use Rattle.idl_print.proofs.Pieces.{Apart, front-len, every-append, every-map, passed, same_line}

digit-is : (n : ℕ) → n < 10 → is_digit (48 + n) ≡ true
digit-is n h = grind (arith, nat_tests)

value-is : (n : ℕ) → n < 10 → digit_value (48 + n) ≡ n
value-is n h = let e : 48 + n - 48 ≡ n = omega arith in rw (digit-is n h) e

value-append : (b n : ℕ) (v w : List ℕ) → value_behind b n (v ++ w) ≡ value_behind b (value_behind b n v) w
value-append b n [] w = refl
value-append b n (c ∷ v) w = value-append b (n * b + digit_value c) v w

abbrev Writes : ℕ → List ℕ → Type 0
Writes n ds = Every is_digit ds × (value 10 ds ≡ n)

one : (n : ℕ) → n < 10 → Writes n ((48 + n) ∷ [])
one n h = let e : 0 * 10 + n ≡ n = omega arith in ((digit-is n h, tt), ap (λ (z : ℕ). 0 * 10 + z) (value-is n h) ∙ e)

one_more : (n : ℕ) (ds : List ℕ) → 10 ≤ n → Writes (n / 10) ds → Writes n (ds ++ (48 + n % 10) ∷ [])
one_more n ds h w =
    let lt : n % 10 < 10 = omega arith in
    let e : n / 10 * 10 + n % 10 ≡ n = omega arith in (
      every-append is_digit ds ((48 + n % 10) ∷ []) w.0 (digit-is (n % 10) lt, tt),
      value-append 10 0 ds ((48 + n % 10) ∷ []) ∙ ap (λ (z : ℕ). z * 10 + digit_value (48 + n % 10)) w.1 ∙ ap (λ (z : ℕ). n / 10 * 10 + z) (value-is (n % 10) lt) ∙ e,
    )

written : (n : ℕ) → n < 2 ^ 64 → Writes n (decimal n)
written n h = decimal_by_steps Writes one one_more n h

digit-word : (c : ℕ) → is_digit c ≡ true → is_word_character c ≡ true
digit-word c h = grind (arith, nat_tests)

no_word-digit : (c : ℕ) → is_word_character c ≡ false → is_digit c ≡ false
no_word-digit c h = grind (arith, nat_tests)

no_word-120 : (c : ℕ) → is_word_character c ≡ false → (c == 120) ≡ false
no_word-120 c h = grind (arith, nat_tests)

digit-120 : (c : ℕ) → is_digit c ≡ true → (c == 120) ≡ false
digit-120 c h = grind (arith, nat_tests)

no_digit-ahead : (rest : List ℕ) → Apart rest → prefix_len is_digit rest ≡ 0
no_digit-ahead [] a = refl
no_digit-ahead (c ∷ rest) a = rw (no_word-digit c a) refl

not_hex : (p : Bool) (n : ℕ) → (if p && false then n else 0) ≡ 0
not_hex true n = refl
not_hex false n = refl

decimal-ahead : (ds rest : List ℕ) → Every is_digit ds → Apart rest → hex_len (ds ++ rest) ≡ 0
decimal-ahead [] [] h a = refl
decimal-ahead [] (c ∷ []) h a = refl
decimal-ahead [] (c ∷ d ∷ rest) h a = let e : (c == 48) ≡ false = not_48 c a in rw e refl
  where
    not_48 : (c : ℕ) → is_word_character c ≡ false → (c == 48) ≡ false
    not_48 c h = grind (arith, nat_tests)
decimal-ahead (c ∷ []) [] h a = refl
decimal-ahead (c ∷ []) (d ∷ rest) h a = rw (no_word-120 d a) (not_hex (c == 48) (prefix_len is_hex_digit rest))
decimal-ahead (c ∷ d ∷ ds) rest h a = rw (digit-120 d h.1.0) (not_hex (c == 48) (prefix_len is_hex_digit (ds ++ rest)))

magnitude-is : (ds rest : List ℕ) → Every is_digit ds → Apart rest → magnitude (ds ++ rest) ≡ make_magnitude (length ds) (value 10 ds)
magnitude-is ds rest h a =
    let x : hex_len (ds ++ rest) ≡ 0 = decimal-ahead ds rest h a in
    let n : prefix_len is_digit (ds ++ rest) ≡ length ds = front-len is_digit ds rest h (no_digit-ahead rest a) in
    rw (x, n, front-taken ds rest) refl

digit-space : (c : ℕ) → is_digit c ≡ true → is_space c ≡ false
digit-space c h = grind (arith, nat_tests)

digit-35 : (c : ℕ) → is_digit c ≡ true → (c == 35) ≡ false
digit-35 c h = grind (arith, nat_tests)

digit-47 : (c : ℕ) → is_digit c ≡ true → (c == 47) ≡ false
digit-47 c h = grind (arith, nat_tests)

digit-45 : (c : ℕ) → is_digit c ≡ true → (c == 45) ≡ false
digit-45 c h = grind (arith, nat_tests)

digit-43 : (c : ℕ) → is_digit c ≡ true → (c == 43) ≡ false
digit-43 c h = grind (arith, nat_tests)

digit-quote : (c : ℕ) → is_digit c ≡ true → (c == 39 || c == 34) ≡ false
digit-quote c h = grind (arith, nat_tests)

digit-start : (c : ℕ) → is_digit c ≡ true → is_word_start c ≡ false
digit-start c h = grind (arith, nat_tests)

digit-in_line : (c : ℕ) → is_digit c ≡ true → is_in_line c ≡ true
digit-in_line c h = grind (arith, nat_tests)

fits : (n : ℕ) → n < 2 ^ 63 → in_64_bits false n ≡ Some (pos n)
fits n h = let e : nat_lt n (2 ^ 63) ≡ true = grind (arith, nat_tests) in rw e refl

fits-negative : (n : ℕ) → suc n ≤ 2 ^ 63 → in_64_bits true (suc n) ≡ Some (negsuc n)
fits-negative n h = let e : nat_le (suc n) (2 ^ 63) ≡ true = grind (arith, nat_tests) in rw e refl

digits-tokens : (ds rest : List ℕ) (n l : ℕ) → 0 < length ds → Every is_digit ds → value 10 ds ≡ n → n < 2 ^ 63 → Apart rest → tokens_behind 0 l (ds ++ rest) ≡ spot (number (Some (pos n))) l ∷ tokens_behind 0 l rest
digits-tokens [] rest n l some h v lt a = absurd (omega arith)
digits-tokens (c ∷ ds) rest n l some h v lt a =
    let m : magnitude (c ∷ (ds ++ rest)) ≡ make_magnitude (suc (length ds)) (value 10 (c ∷ ds)) = magnitude-is (c ∷ ds) rest h a in
    let one : suc (length ds) - 1 ≡ length ds = omega arith in
    let u : front c (ds ++ rest) ≡ unsigned_number (magnitude (c ∷ (ds ++ rest))) =
    rw (digit-space c h.0, digit-35 c h.0, digit-47 c h.0, digit-45 c h.0, digit-43 c h.0, digit-quote c h.0, digit-start c h.0, h.0) refl
    in
    let e : front c (ds ++ rest) ≡ token (number (Some (pos n))) (length ds) = u ∙ ap unsigned_number m ∙ rw (v, fits n lt, one) refl in
    rw (e, same_line c l (digit-in_line c h.0)) (ap (λ (z : Toks). spot (number (Some (pos n))) l ∷ z) (passed ds rest l (every-map is_digit is_in_line ds digit-in_line h.1)))

minus-tokens : (ds rest : List ℕ) (n l : ℕ) → 0 < length ds → Every is_digit ds → value 10 ds ≡ suc n → suc n ≤ 2 ^ 63 → Apart rest → tokens_behind 0 l (45 ∷ ds ++ rest) ≡ spot (number (Some (negsuc n))) l ∷ tokens_behind 0 l rest
minus-tokens ds rest n l some h v le a =
    let m : magnitude (ds ++ rest) ≡ make_magnitude (length ds) (value 10 ds) = magnitude-is ds rest h a in
    let s : nat_lt 0 (length ds) ≡ true = grind (arith, nat_tests) in
    let e : front 45 (ds ++ rest) ≡ token (number (Some (negsuc n))) (length ds) = ap (behind_sign true) m ∙ rw (s, v, fits-negative n le) refl in
    rw e (ap (λ (z : Toks). spot (number (Some (negsuc n))) l ∷ z) (passed ds rest l (every-map is_digit is_in_line ds digit-in_line h)))

pub number-tokens : (z : ℤ) (rest : List ℕ) (l : ℕ) → Is64 z → Apart rest → tokens_behind 0 l (signed_decimal z ++ rest) ≡ spot (number (Some z)) l ∷ tokens_behind 0 l rest
number-tokens (pos n) rest l h a =
    let w = written n (omega arith) in
    digits-tokens (decimal n) rest n l (decimal_nonempty n (omega arith)) w.0 w.1 h a
number-tokens (negsuc n) rest l h a =
    let w = written (suc n) (omega arith) in
    minus-tokens (decimal (suc n)) rest n l (decimal_nonempty (suc n) (omega arith)) w.0 w.1 h a

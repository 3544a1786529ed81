-- The number of rows that a word spells, as `parse` reads it.
use Rattle.std.proofs.Common.{◌≡◌, ◌≤◌, ◌<◌, ℕ, List, [], ◌∷◌, length, Bool, true, false, ◌&&◌, if◌then◌else◌, nat_le, Some, None, Result, Ok, Err, refl, sym, ◌∙◌, arith}
use Rattle.std.specs.Str.{all_ascii_digits}
use Rattle.std.specs.Str.Parse.{ParsesUnsigned, digits_value}
use Rattle.std.proofs.lemmas.Bool.{and_parts}
use Rattle.std.proofs.lemmas.Bool.Decides.{nat_tests}
use Rattle.std.proofs.lemmas.Str.Parse.{numerals_by_value, tells_all_ascii_digits, parse_gives}
use Rattle.frozen_cli.specs.Reply.{row_count}

-- what is not read is no number of rows
pub unread : {E : Type 0} (word : List ℕ) (r : Result ℕ E) (e : E) → ParsesUnsigned 32 10 word r → r ≡ Err e
    → None ≡ row_count word
unread {E} word r e parses is = by (all_ascii_digits word && nat_le (length word) 6
    && nat_le 1 (digits_value 10 word) && nat_le (digits_value 10 word) 100000) refl
  where
    not_empty : (w : List ℕ) → 1 ≤ digits_value 10 w → 0 < length w
    not_empty [] h = absurd (omega (arith, h))
    not_empty (c ∷ cs) h = omega arith

    read : all_ascii_digits word ≡ true → 1 ≤ digits_value 10 word → digits_value 10 word ≤ 100000 → ⊥
    read digits some few =
        let model = numerals_by_value (λ ds. all_ascii_digits ds ≡ true) tells_all_ascii_digits in
        let got : r ≡ Ok (digits_value 10 word) = parse_gives model 32 word r parses digits (not_empty word some)
        (omega (arith, few)) in
        let no : Err e ≡ Ok (digits_value 10 word) = sym is ∙ got in
        cc

    by : (b : Bool) → (all_ascii_digits word && nat_le (length word) 6 && nat_le 1 (digits_value 10 word)
        && nat_le (digits_value 10 word) 100000) ≡ b → None ≡ (if b then Some (digits_value 10 word) else None)
    by false h = refl
    by true h =
        let last = and_parts (all_ascii_digits word && nat_le (length word) 6 && nat_le 1 (digits_value 10 word))
        (nat_le (digits_value 10 word) 100000) h in
        let third = and_parts (all_ascii_digits word && nat_le (length word) 6) (nat_le 1 (digits_value 10 word)) last.0 in
        let first = and_parts (all_ascii_digits word) (nat_le (length word) 6) third.0 in
        absurd (read first.0 (grind (arith, nat_tests, third.1)) (grind (arith, nat_tests, last.1)))

-- The steps of reading a number, as the code takes them.
use Rattle.std.proofs.Common.{◌≡◌, ℕ, zero, suc, ◌+◌, ◌-◌, ◌*◌, ◌/◌, ◌%◌, ◌<◌, ◌≤◌, ◌⊎◌, List, [], ◌∷◌, length}
use Rattle.std.proofs.Common.{Some, None, Result, Ok, Err, refl, ap, ◌∙◌, arith}
use Rattle.std.proofs.Math.Nat.{mul-le-mul_left}
use Rattle.std.proofs.lemmas.Bool.Decides.{nat_tests}
use Rattle.exact_reading.specs.declared.stop.Stop.{Stop}
use Rattle.exact_reading.specs.declared.stop.Stop.TheVariants.{Ended, Refused}
use Rattle.exact_reading.specs.Reading.{◌>>=◌}
use Rattle.compact_wire.specs.Reads.{more, digit, number}
use Rattle.compact_wire.proofs.NumberLaws.{digit_last}

pub number-nil : (room greatest : ℕ) → number room greatest [] ≡ Err Ended
unfolding number
number-nil zero greatest = refl
number-nil (suc room) greatest = refl

none_great : (room greatest b : ℕ) → b < 128 → greatest < b → digit room greatest b ≡ None
unfolding digit
none_great room greatest b lt h = grind (arith, nat_tests)

none_long : (room greatest b : ℕ) → 128 ≤ b → (room ≡ 0) ⊎ (greatest < b - 128) → digit room greatest b ≡ None
unfolding digit
none_long room greatest b le h = grind (arith, nat_tests)

some_more : (room greatest b : ℕ) → 128 ≤ b → 0 < room → b - 128 ≤ greatest
    → digit room greatest b ≡ Some (more (b - 128))
unfolding digit
some_more room greatest b le h low = grind (arith, nat_tests)

number-none : (room greatest b : ℕ) (rest : List ℕ) → digit room greatest b ≡ None
    → number room greatest (b ∷ rest) ≡ Err (Refused (suc (length rest)))
unfolding number
number-none zero greatest b rest e = rw e refl
number-none (suc room) greatest b rest e = rw e refl

pub number-great : (room greatest b : ℕ) (rest : List ℕ) → b < 128 → greatest < b
    → number room greatest (b ∷ rest) ≡ Err (Refused (suc (length rest)))
number-great room greatest b rest lt h = number-none room greatest b rest (none_great room greatest b lt h)

pub number-long : (room greatest b : ℕ) (rest : List ℕ) → 128 ≤ b → (room ≡ 0) ⊎ (greatest < b - 128)
    → number room greatest (b ∷ rest) ≡ Err (Refused (suc (length rest)))
number-long room greatest b rest le h = number-none room greatest b rest (none_long room greatest b le h)

pub number-last : (room greatest b : ℕ) (rest : List ℕ) → b < 128 → b ≤ greatest
    → number room greatest (b ∷ rest) ≡ Ok (b, rest)
unfolding number
number-last zero greatest b rest lt le = rw (digit_last zero greatest b lt le) refl
number-last (suc room) greatest b rest lt le = rw (digit_last (suc room) greatest b lt le) refl

pub number-more : (room greatest b : ℕ) (rest : List ℕ) → 128 ≤ b → 0 < room → b - 128 ≤ greatest
    → number room greatest
    (b ∷ rest) ≡ (number (room - 1) ((greatest - (b - 128)) / 128) rest >>= λ p. Ok
    (b - 128 + 128 * p.0, p.1))
unfolding number
number-more zero greatest b rest le h low = absurd (omega arith)
number-more (suc room) greatest b rest le h low =
    let r : suc room - 1 ≡ room = omega arith in rw (some_more (suc room) greatest b le h low, r) refl

pub number-more_ok : (room greatest b : ℕ) (rest : List ℕ) (high : ℕ) (after : List ℕ) → 128 ≤ b → 0 < room
    → b - 128 ≤ greatest
    → number (room - 1) ((greatest - (b - 128)) / 128) rest ≡ Ok (high, after)
    → number room greatest (b ∷ rest) ≡ Ok (b - 128 + 128 * high, after)
number-more_ok room greatest b rest high after le h low e =
    rw (number-more room greatest b rest le h low, e) refl

pub number-more_err : (room greatest b : ℕ) (rest : List ℕ) (d : Stop) → 128 ≤ b → 0 < room
    → b - 128 ≤ greatest
    → number (room - 1) ((greatest - (b - 128)) / 128) rest ≡ Err d → number room greatest (b ∷ rest) ≡ Err d
number-more_err room greatest b rest d le h low e = rw (number-more room greatest b rest le h low, e) refl

-- ---- digits behind others

-- The next weight wraps only where no digit but 0 may follow.
weight_next : (weight low most top n : ℕ) → weight * most ≤ top → top < 18446744073709551616
    → low + 128 * n ≤ most → weight * 128 % 18446744073709551616 * n ≡ weight * (128 * n)
weight_next weight low most top zero bound fits within = omega arith
weight_next weight low most top (suc n) bound fits within =
    let more : 128 ≤ most = omega (arith, within) in
    let small : weight * 128 ≤ weight * most = mul-le-mul_left weight more in
    let same : weight * 128 % 18446744073709551616 ≡ weight * 128 = omega (arith, small, bound, fits) in
    rw same (omega arith)

-- What the number in the bytes from some place on gives or where it stops, the whole number gives or stops at.
pub record Goes (whole : Result (ℕ × List ℕ) Stop) (sum weight most : ℕ)
    (here : Result (ℕ × List ℕ) Stop) : Type 0 where
  pub gives : (n : ℕ) (after : List ℕ) → n ≤ most → here ≡ Ok (n, after) → whole ≡ Ok (sum + weight * n, after)
  pub stops : (d : Stop) → here ≡ Err d → whole ≡ Err d

module _ {whole : Result (ℕ × List ℕ) Stop} {sum weight : ℕ} (room most : ℕ) (rest : List ℕ)
    (goes : Goes whole sum weight most (number room most rest)) where
  pub goes_ended : rest ≡ [] → whole ≡ Err Ended
  goes_ended e = goes.stops Ended (ap (number room most) e ∙ number-nil room most)

  pub goes_great : (b : ℕ) (behind : List ℕ) → rest ≡ b ∷ behind → b < 128 → most < b
      → whole ≡ Err (Refused (length rest))
  goes_great b behind e lt h = goes.stops (Refused (length rest)) (rw e (number-great room most b behind lt h))

  pub goes_long : (b : ℕ) (behind : List ℕ) → rest ≡ b ∷ behind → 128 ≤ b → (room ≡ 0) ⊎ (most < b - 128)
      → whole ≡ Err (Refused (length rest))
  goes_long b behind e le h = goes.stops (Refused (length rest)) (rw e (number-long room most b behind le h))

  pub goes_last : (b : ℕ) (behind : List ℕ) → rest ≡ b ∷ behind → b < 128 → b ≤ most
      → whole ≡ Ok (sum + weight * b, behind)
  goes_last b behind e lt le = goes.gives b behind le (ap (number room most) e ∙ number-last room most b behind lt le)

  pub goes_more : (b : ℕ) (behind : List ℕ) (top : ℕ) → rest ≡ b ∷ behind → 128 ≤ b → 0 < room → b - 128 ≤ most
      → sum + weight * most ≤ top → top < 18446744073709551616
      → Goes whole (sum + weight * (b - 128)) (weight * 128 % 18446744073709551616) ((most - (b - 128)) / 128)
      (number (room - 1) ((most - (b - 128)) / 128) behind)
  goes_more b behind top e le left low bound fits = record {
    gives = λ n after few is.
        let within : b - 128 + 128 * n ≤ most = omega (arith, few, low) in
        let next = weight_next weight (b - 128) most top n (omega (arith, bound)) fits within in
        let sums : sum + weight * (b - 128 + 128 * n)
        ≡ sum + weight * (b - 128) + weight * 128 % 18446744073709551616 * n =
        rw next (omega arith) in
        goes.gives (b - 128 + 128 * n) after within
        (ap (number room most) e ∙ number-more_ok room most b behind n after le left low is)
        ∙ ap (λ k. Ok (k, after)) sums;
    stops = λ d is. goes.stops d (ap (number room most) e ∙ number-more_err room most b behind d le left low is);
  }

pub goes_within : (sum weight low most top : ℕ) → sum + weight * most ≤ top → top < 18446744073709551616
    → low ≤ most → sum + weight * low + weight * 128 % 18446744073709551616 * ((most - low) / 128) ≤ top
goes_within sum weight low most top bound fits le =
    let within : low + 128 * ((most - low) / 128) ≤ most = omega (arith, le) in
    let less : weight * (low + 128 * ((most - low) / 128)) ≤ weight * most = mul-le-mul_left weight within in
    rw (weight_next weight low most top ((most - low) / 128) (omega (arith, bound)) fits within)
    (omega (arith, less, bound))

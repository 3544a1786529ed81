-- Numbers are read exactly.
use Rattle.std.proofs.Common.{◌≡◌, ℕ, zero, suc, ◌+◌, ◌-◌, ◌*◌, ◌/◌, ◌<◌, ◌≤◌, List, [], ◌∷◌, ◌++◌, Some, Err}
use Rattle.std.proofs.Common.{refl, sym, ap, subst, ◌∙◌, arith}
use Rattle.std.proofs.lemmas.Bool.Decides.{nat_tests}
use Rattle.std.proofs.lemmas.List.{append-nil}
use Rattle.exact_reading.specs.declared.stop.Stop.TheVariants.{Ended}
use Rattle.compact_wire.specs.Bytes.{IsByte, ByteReader, OneByte}
use Rattle.exact_reading.specs.Reading.{and_then, pure, one}
use Rattle.compact_wire.specs.Number.{IsNumber}
use Rattle.compact_wire.specs.Reads.{Digit, last, more, digit, number_tail, number}
use Rattle.exact_reading.specs.Exact.{Exact, Then, Pure, Follows}
use Rattle.exact_reading.proofs.Combinators.{one_exact, pure_exact, then_exact, same_exact}

-- what a byte that is taken says of itself
pub record IsDigit (room greatest b : ℕ) (d : Digit) : Type 0 where
  pub is_last : (n : ℕ) → d ≡ last n → (b < 128) × (n ≡ b) × (b ≤ greatest)
  pub is_more : (low : ℕ) → d ≡ more low → (128 ≤ b) × (b ≡ low + 128) × (low ≤ greatest) × (0 < room)

digit_is_last : (room greatest b n : ℕ) → digit room greatest b ≡ Some (last n)
    → (b < 128) × (n ≡ b) × (b ≤ greatest)
unfolding digit
digit_is_last room greatest b n e = grind (arith, nat_tests)

digit_is_more : (room greatest b low : ℕ) → digit room greatest b ≡ Some (more low)
    → (128 ≤ b) × (b ≡ low + 128) × (low ≤ greatest) × (0 < room)
unfolding digit
digit_is_more room greatest b low e = grind (arith, nat_tests)

digit_is : (room greatest b : ℕ) (d : Digit) → digit room greatest b ≡ Some d → IsDigit room greatest b d
unfolding digit
digit_is room greatest b d e = record {
  is_last = λ n h. digit_is_last room greatest b n (e ∙ ap Some h);
  is_more = λ low h. digit_is_more room greatest b low (e ∙ ap Some h);
}

pub digit_last : (room greatest b : ℕ) → b < 128 → b ≤ greatest → digit room greatest b ≡ Some (last b)
unfolding digit
digit_last room greatest b lt le = grind (arith, nat_tests)

pub digit_more : (room greatest low : ℕ) → low < 128 → low ≤ greatest → 0 < room
    → digit room greatest (low + 128) ≡ Some (more low)
unfolding digit
digit_more room greatest low lt le h = grind (arith, nat_tests)

-- what stands behind the first byte
abbrev pub NumberTail : ℕ → ℕ → Digit → ℕ → List ℕ → Type 0
NumberTail room greatest (last v) = Pure v
NumberTail room greatest (more low) =
    Then (IsNumber room ((greatest - low) / 128)) (λ high. Pure (low + 128 * high))

pub zero_is : (room greatest : ℕ) → IsNumber (suc room) greatest 0 (0 ∷ [])
zero_is room greatest =
    record { short_enough = omega arith; small_enough = omega arith; digits = (omega arith, refl) }

IsNumber-along : (room greatest n : ℕ) (t u : List ℕ) → t ≡ u → IsNumber room greatest n u
    → IsNumber room greatest n t
IsNumber-along room greatest n t u e is = subst (IsNumber room greatest n) (sym e) is

longer : (room greatest b low high n : ℕ) (u : List ℕ) → 128 ≤ b → b ≡ low + 128 → b < 256 → low ≤ greatest
    → n ≡ low + 128 * high → IsNumber room ((greatest - low) / 128) high u
    → IsNumber (suc room) greatest n (b ∷ u)
longer room greatest b low high n [] at_least b_is byte le n_is is = absurd is.digits
longer room greatest b low high n (c ∷ u) at_least b_is byte le n_is is =
    record {
      short_enough = omega (arith, is.short_enough);
      small_enough = omega (arith, is.small_enough);
      digits = (at_least, byte, high, omega arith, is.digits);
    }

number_to : (room greatest n : ℕ) (b : List ℕ) (d : Digit) (t u : List ℕ) → OneByte (digit room greatest) d t
    → NumberTail room greatest d n u → b ≡ t ++ u → IsNumber (suc room) greatest n b
number_to room greatest n b (last v) t u (c, byte, means, e1) (n_is, u_is) e =
    let d = digit_is_last room greatest c v means in
    let whole : b ≡ c ∷ [] = e ∙ ap (λ (w : List ℕ). w ++ u) e1 ∙ ap (λ (w : List ℕ). c ∷ w) u_is in
    IsNumber-along (suc room) greatest n b (c ∷ []) whole
    (record {
      short_enough = omega arith;
      small_enough = omega (arith, d, n_is);
      digits = (d.0, n_is ∙ d.1);
    })
number_to room greatest n b (more low) t u (c, byte, means, e1) (high, u1, u2, is, (n_is, u2_is), e2) e =
    let d = digit_is_more room greatest c low means in
    let rest : u ≡ u1 = e2 ∙ ap (λ (w : List ℕ). u1 ++ w) u2_is ∙ append-nil u1 in
    let whole : b ≡ c ∷ u1 = e ∙ ap (λ (w : List ℕ). w ++ u) e1 ∙ ap (λ (w : List ℕ). c ∷ w) rest in
    IsNumber-along (suc room) greatest n b (c ∷ u1) whole
    (longer room greatest c low high n u1 d.0 d.1 byte d.2 n_is is)

number_from : (room greatest n : ℕ) (b : List ℕ) → IsNumber (suc room) greatest n b
    → Then (OneByte (digit room greatest)) (NumberTail room greatest) n b
number_from room greatest n [] is = absurd is.digits
number_from room greatest n (b ∷ []) is =
    let d = is.digits in (
      last b,
      b ∷ [],
      [],
      (b, omega (arith, d.0), digit_last room greatest b d.0 (omega (arith, d.1, is.small_enough)), refl),
      (d.1, refl),
      refl,
    )
number_from room greatest n (b ∷ c ∷ bs) is =
    let d = is.digits in
    let low : ℕ = b - 128 in
    let high : ℕ = d.2 in
    let b_is : low + 128 ≡ b = omega (arith, d.0) in
    let means : digit room greatest b ≡ Some (more low) =
    subst (λ (k : ℕ). digit room greatest k ≡ Some (more low)) b_is
    (digit_more room greatest low (omega (arith, d.1, d.0)) (omega (arith, d.0, d.3, is.small_enough))
    (omega (arith, is.short_enough))) in
    let next : IsNumber room ((greatest - low) / 128) high (c ∷ bs) =
    record {
      short_enough = omega (arith, is.short_enough);
      small_enough = omega (arith, d.0, d.3, is.small_enough);
      digits = d.4;
    } in (
      more low,
      b ∷ [],
      c ∷ bs,
      (b, d.1, means, refl),
      (high, c ∷ bs, [], next, (omega (arith, d.3, d.0), refl), sym (append-nil (c ∷ bs))),
      refl,
    )

module _ (room : ℕ) (next : ℕ → ByteReader ℕ)
    (next_exact : 0 < room → (g k : ℕ) → Exact IsByte k (IsNumber room g) (next g)) (greatest n : ℕ) where
  tail_follows : (d : Digit) (t : List ℕ) → OneByte (digit room greatest) d t
      → Follows IsByte n (NumberTail room greatest d) (number_tail next greatest d)
  tail_follows (last v) t p = record { exact = pure_exact IsByte v n; some = (v, [], (refl, refl)) }
  tail_follows (more low) t (c, byte, means, e) =
      let d = digit_is_more room greatest c low means in
      let g : ℕ = (greatest - low) / 128 in
      record {
        exact = then_exact IsByte (IsNumber room g) (λ high. Pure (low + 128 * high)) (next g)
            (λ high. pure (low + 128 * high)) n n (next_exact d.3 g)
            (λ high u p.
            record {
              exact = pure_exact IsByte (low + 128 * high) n;
              some = (low + 128 * high, [], (refl, refl));
            }) (λ high u p. omega arith);
        some = some_tail low d.3;
      }
    where
      some_tail : (low : ℕ) → 0 < room → (y : ℕ) × (u : List ℕ) × NumberTail room greatest (more low) y u
      some_tail low h = let r : suc (room - 1) ≡ room = omega arith in (
        low + 128 * 0,
        0 ∷ [],
        (
          0,
          0 ∷ [],
          [],
          subst (λ (k : ℕ). IsNumber k ((greatest - low) / 128) 0 (0 ∷ [])) r
              (zero_is (room - 1) ((greatest - low) / 128)),
          (refl, refl),
          refl,
        ),
      )

  number_step : Exact IsByte n (IsNumber (suc room) greatest)
      (and_then (one (digit room greatest)) (number_tail next greatest))
  number_step =
      same_exact IsByte (Then (OneByte (digit room greatest)) (NumberTail room greatest))
      (IsNumber (suc room) greatest) (and_then (one (digit room greatest)) (number_tail next greatest))
      (record {
        to = λ x b (d, t, u, p, q, e). number_to room greatest x b d t u p q e;
        from = number_from room greatest;
      }) n
      (then_exact IsByte (OneByte (digit room greatest)) (NumberTail room greatest)
      (one (digit room greatest)) (number_tail next greatest) n n
      (one_exact IsByte (digit room greatest) 0 (last 0) (omega arith)
      (digit_last room greatest 0 (omega arith) (omega arith))) tail_follows (λ x t p. omega arith))

pub number_exact : (room greatest n : ℕ)
    → Exact IsByte n (IsNumber (suc room) greatest) (number room greatest)
unfolding number
number_exact zero greatest n = number_step zero (λ g b. Err Ended) (λ h g k. absurd (omega arith)) greatest n
number_exact (suc room) greatest n =
    number_step (suc room) (number room) (λ h g k. number_exact room g k) greatest n

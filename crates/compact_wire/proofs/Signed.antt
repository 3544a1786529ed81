-- Signed numbers, bytes that are taken, and scalars.
use Rattle.std.proofs.Common.{◌≡◌, ℕ, zero, suc, ◌+◌, ◌-◌, ◌*◌, ◌/◌, ◌%◌, ◌<◌, ◌≤◌, Bool, true, false, cond}
use Rattle.std.proofs.Common.{ltb, inl, inr, List, [], ◌∷◌, ◌++◌, length, take, drop, Ok, Err, refl, sym, ap}
use Rattle.std.proofs.Common.{subst, ◌∙◌, arith, length-append}
use Rattle.std.specs.Prelude.{ℤ, pos, negsuc}
use Rattle.std.proofs.lemmas.Bool.{cases_lt, ltb-false, ltb-true, le-ltb}
use Rattle.std.proofs.lemmas.List.{append-nil, take_at, drop_at, take-append-drop, length-take}
use Rattle.exact_reading.specs.declared.stop.Stop.{Stop}
use Rattle.exact_reading.specs.declared.stop.Stop.TheVariants.{Ended, Refused}
use Rattle.compact_wire.specs.Bytes.{IsByte, AreBytes}
use Rattle.exact_reading.specs.Reading.{pure, taken}
use Rattle.compact_wire.specs.Number.{IsNumber, zigzag, unzigzag}
use Rattle.compact_wire.specs.Reads.{number, signed}
use Rattle.exact_reading.proofs.Items.{admitted-front, admitted-append}
use Rattle.exact_reading.specs.Exact.{Exact, Then, Pure}
use Rattle.exact_reading.proofs.Combinators.{pure_exact, then_exact, same_exact}
use Rattle.compact_wire.proofs.DigitLaws.{unzigzag-zigzag, zigzag-unzigzag}
use Rattle.compact_wire.proofs.NumberLaws.{number_exact}

abbrev pub IsSigned : ℕ → ℕ → ℤ → List ℕ → Type 0
IsSigned most greatest z t = IsNumber most greatest (zigzag z) t

pub signed_exact : (room greatest n : ℕ)
    → Exact IsByte n (IsSigned (suc room) greatest) (signed room greatest)
signed_exact room greatest n =
    let Num = IsNumber (suc room) greatest in
    let Tail : ℕ → ℤ → List ℕ → Type 0 = λ n. Pure (unzigzag n) in
    same_exact IsByte (Then Num Tail) (IsSigned (suc room) greatest) (signed room greatest)
    (record {
      to = λ z t (m, a, b, p, q, e).
          let t_is : t ≡ a = e ∙ ap (λ (w : List ℕ). a ++ w) q.1 ∙ append-nil a in
          let z_is : zigzag z ≡ m = ap zigzag q.0 ∙ zigzag-unzigzag m in
          subst (λ (w : List ℕ). IsNumber (suc room) greatest (zigzag z) w) (sym t_is)
          (subst (λ (k : ℕ). IsNumber (suc room) greatest k a) (sym z_is) p);
      from = λ z t is. (zigzag z, t, [], is, (sym (unzigzag-zigzag z), refl), sym (append-nil t));
    }) n
    (then_exact IsByte Num Tail (number room greatest) (λ m. pure (unzigzag m)) n n
    (number_exact room greatest)
    (λ m t p. record { exact = pure_exact IsByte (unzigzag m) n; some = (unzigzag m, [], (refl, refl)) })
    (λ m t p. omega arith))

-- ---- so many bytes

pub record IsTaken (n : ℕ) (x t : List ℕ) : Type 0 where
  pub same : x ≡ t
  pub len : length t ≡ n
  pub bytes : AreBytes t

zeros : ℕ → List ℕ
zeros zero = []
zeros (suc n) = 0 ∷ zeros n

zeros-bytes : (n : ℕ) → AreBytes (zeros n)
unfolding zeros
zeros-bytes zero = tt
zeros-bytes (suc n) = (omega arith, zeros-bytes n)

length-zeros : (n : ℕ) → length (zeros n) ≡ n
unfolding zeros
length-zeros zero = refl
length-zeros (suc n) = ap suc (length-zeros n)

guard_ok : {A : Type 0} (b : Bool) (d : Stop) (x y : A) → cond b (Err d) (Ok x) ≡ Ok y → (b ≡ false) × (x ≡ y)
guard_ok true d x y e = absurd cc
guard_ok false d x y e = (refl, cc)

guard_err : {A : Type 0} (b : Bool) (d c : Stop) (x : A) → cond b (Err d) (Ok x) ≡ Err c
    → (b ≡ true) × (d ≡ c)
guard_err true d c x e = (refl, cc)
guard_err false d c x e = absurd cc

taken_sound : (m : ℕ) (b x rest : List ℕ) → AreBytes b → taken m b ≡ Ok (x, rest)
    → (t : List ℕ) × IsTaken m x t × (b ≡ t ++ rest)
unfolding taken
taken_sound m b x rest h e =
    let g = guard_ok (ltb (length b) m) Ended (take m b, drop m b) (x, rest) e in
    let enough : m ≤ length b = ltb-false _ _ g.0 in
    let x_is : take m b ≡ x = ap (λ (z : List ℕ × List ℕ). z.0) g.1 in
    let rest_is : drop m b ≡ rest = ap (λ (z : List ℕ × List ℕ). z.1) g.1 in
    let parts : take m b ++ drop m b ≡ b = take-append-drop m b in (
      take m b,
      record {
        same = sym x_is;
        len = omega (arith, length-take m b);
        bytes = admitted-front IsByte (take m b) (drop m b) (subst AreBytes (sym parts) h);
      },
      sym parts
          ∙ ap (λ (w : List ℕ). take m b ++ w) rest_is,
    )

taken_again : (m : ℕ) (x t rest : List ℕ) → IsTaken m x t → taken m (t ++ rest) ≡ Ok (x, rest)
unfolding taken
taken_again m x t rest is =
    let enough : ltb (length (t ++ rest)) m ≡ false =
    le-ltb _ _ (omega (arith, length-append t rest, is.len)) in
    let x_is : t ≡ x = sym is.same in
    rw (enough, take_at t rest m is.len, drop_at t rest m is.len) (ap (λ (w : List ℕ). Ok (w, rest)) x_is)

taken_short : (m : ℕ) (b : List ℕ) → AreBytes b → taken m b ≡ Err Ended
    → (x : List ℕ) × (more : List ℕ) × IsTaken m x (b ++ more)
unfolding taken
taken_short m b h e =
    let g = guard_err (ltb (length b) m) Ended Ended (take m b, drop m b) e in
    let less : length b < m = ltb-true _ _ g.0 in
    let more : List ℕ = zeros (m - length b) in (
      b ++ more,
      more,
      record {
        same = refl;
        len = omega (arith, length-append b more, length-zeros (m - length b));
        bytes = admitted-append IsByte b more h (zeros-bytes (m - length b));
      },
    )

taken_never_bad : (m : ℕ) (b : List ℕ) (left : ℕ) → taken m b ≡ Err (Refused left) → ⊥
unfolding taken
taken_never_bad m b left e =
    let g = guard_err (ltb (length b) m) Ended (Refused left) (take m b, drop m b) e in let no_such = g.1 in
    cc

pub taken_exact : (m n : ℕ) → Exact IsByte n (IsTaken m) (taken m)
taken_exact m n = record {
  admitted = λ x t is lt. is.bytes;
  sound = λ b x rest h lt e. taken_sound m b x rest h e;
  complete = λ x t rest is lt. taken_again m x t rest is;
  ends = λ b h lt e. taken_short m b h e;
  refuses = λ b left h lt e. absurd (taken_never_bad m b left e);
}

pub taken_some : (m : ℕ) → (x : List ℕ) × (t : List ℕ) × IsTaken m x t
taken_some m = (zeros m, zeros m, record { same = refl; len = length-zeros m; bytes = zeros-bytes m })

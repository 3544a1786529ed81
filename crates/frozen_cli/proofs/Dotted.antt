-- Ids with dots between them from a place on, and one id more.
use Rattle.std.proofs.Common.{◌≡◌, ◌∙◌, ◌+◌, ◌<◌, ◌++◌, ℕ, ℤ, zero, suc, List, [], ◌∷◌, true, nat_lt, drop}
use Rattle.std.proofs.Common.{length, get_or, sym, ap, refl, arith, append_assoc}
use Rattle.std.proofs.lemmas.Bool.Decides.{nat_tests}
use Rattle.std.specs.Fmt.{signed_decimal}
use Rattle.frozen_cli.specs.Refusal.{dot_if, dotted}

dropped : (ids : List ℤ) (i : ℕ) (z : ℤ) → i < length ids → drop i ids ≡ get_or ids i z ∷ drop (suc i) ids
dropped [] i z lt = absurd (omega (arith, lt))
dropped (x ∷ ids) zero z lt = refl
dropped (x ∷ ids) (suc i) z lt = dropped ids i z (omega (arith, lt))

pub id_more : (ids : List ℤ) (i : ℕ) (z : ℤ) (out mid new all : List ℕ) → i < length ids
    → mid ≡ out ++ dot_if (nat_lt 0 i) → new ≡ mid ++ signed_decimal (get_or ids i z)
    → out ++ dotted (nat_lt 0 i) (drop i ids) ≡ all
    → new ++ dotted (nat_lt 0 (i + 1)) (drop (i + 1) ids) ≡ all
id_more ids i z out mid new all lt dot written so_far =
    let d = signed_decimal (get_or ids i z) in
    let rest = dotted true (drop (suc i) ids) in
    let one : i + 1 ≡ suc i = omega arith in
    let later : nat_lt 0 (suc i) ≡ true = grind (arith, nat_tests) in
    ap (λ k. new ++ dotted (nat_lt 0 k) (drop k ids)) one ∙ ap (λ b. new ++ dotted b (drop (suc i) ids)) later
    ∙ ap (λ r. r ++ rest) (written ∙ ap (λ r. r ++ d) dot) ∙ append_assoc (out ++ dot_if (nat_lt 0 i)) d rest
    ∙ append_assoc out (dot_if (nat_lt 0 i)) (d ++ rest)
    ∙ ap (λ ks. out ++ dotted (nat_lt 0 i) ks) (sym (dropped ids i z lt)) ∙ so_far

-- The last trees joined, and keys that do not repeat.
use Rattle.std.proofs.Common.{◌≡◌, ◌≢◌, ℕ, zero, suc, ◌+◌, ◌-◌, ◌<◌, List, [], ◌∷◌, ◌++◌, length, take, drop, get_or, sym, ap, ◌∙◌, arith, length-append}
use Rattle.std.specs.List.{AllPairs, Contains, enumerate_from}
use Rattle.std.proofs.Math.Seq.{take-append_seam, drop-append_seam}
use Rattle.frozen_model.specs.Values.{Value, Absent}
use Rattle.key_order.specs.Repeats.{IsLeastRepeat}
use Rattle.typed_tree.specs.Trees.{last, but_last}

-- ---- trees put on others

pub last_is : (n : ℕ) (vs us : List Value) → length us ≡ n → last n (vs ++ us) ≡ us
last_is n vs us e =
    let k : length (vs ++ us) - n ≡ length vs = omega (arith, e, length-append vs us) in
    ap (λ (i : ℕ). drop i (vs ++ us)) k ∙ drop-append_seam vs us

pub front_is : (n : ℕ) (vs us : List Value) → length us ≡ n → but_last n (vs ++ us) ≡ vs
front_is n vs us e =
    let k : length (vs ++ us) - n ≡ length vs = omega (arith, e, length-append vs us) in
    ap (λ (i : ℕ). take i (vs ++ us)) k ∙ take-append_seam vs us

-- ---- numbered keys

numbered : (from : ℕ) (ks : List Value) (p : ℕ) (v : Value) → Contains (enumerate_from from ks) (p, v) → (i : ℕ) × (i < length ks) × (p ≡ from + i) × (get_or ks i Absent ≡ v)
numbered from [] p v c = absurd (omega (arith, c.1))
numbered from (k ∷ ks) p v (zero, lt, e) = (0, omega arith, omega (arith, ap (λ (x : ℕ × Value). x.0) e), ap (λ (x : ℕ × Value). x.1) e)
numbered from (k ∷ ks) p v (suc i, lt, e) =
    let r = numbered (from + 1) ks p v (i, omega (arith, lt), e) in
    (suc r.0, omega (arith, r.1), omega (arith, r.2), r.3)

-- keys that differ do not repeat
pub no_repeat : (ks : List Value) (first second : ℕ) → AllPairs (λ k l. k ≢ l) ks → IsLeastRepeat (enumerate_from 0 ks) first second → ⊥
no_repeat ks first second differ r =
    let a = numbered 0 ks first r.repeats.key r.repeats.at_first in
    let b = numbered 0 ks second r.repeats.key r.repeats.at_second in
    differ a.0 b.0 Absent (omega (arith, a.2, b.2, r.repeats.before)) b.1 (a.3 ∙ sym b.3)

-- Steps of the walk without values.
use Rattle.std.proofs.Common.{◌≡◌, ℕ, Bool, true, false, refl, ap, Result, Ok, Err}
use Rattle.frozen_model.specs.Walk.{Fault, Walked, require, and_then}
use Rattle.content_check.specs.Agreeing.{without_value}

abbrev pub next_of : Result (ℕ × ℕ) Fault → ℕ
next_of (Ok p) = p.0
next_of (Err e) = 0

abbrev pub cells_of : Result (ℕ × ℕ) Fault → ℕ
cells_of (Ok p) = p.1
cells_of (Err e) = 0

pub ok_step : {V W : Type 0} (r : Walked V) (f : V × ℕ × ℕ → Walked W) (n c : ℕ) (q : Result (ℕ × ℕ) Fault)
    → without_value r ≡ Ok (n, c)
    → ((x : V × ℕ × ℕ) → r ≡ Ok x → x.1 ≡ n → x.2 ≡ c → without_value (f x) ≡ q)
    → without_value (and_then r f) ≡ q
ok_step (Ok x) f n c q e h = h x refl (ap next_of e) (ap cells_of e)
ok_step (Err e) f n c q h k = absurd cc

pub err_step : {V W : Type 0} (r : Walked V) (f : V × ℕ × ℕ → Walked W) (e : Fault) → without_value r ≡ Err e
    → without_value (and_then r f) ≡ Err e
err_step (Ok x) f e h = absurd cc
err_step (Err d) f e h = h

-- a step that changes the value alone
pub without_value_map : {V W : Type 0} (r : Walked V) (f : V → W)
    → without_value (and_then r (λ x. Ok (f x.0, x.1, x.2))) ≡ without_value r
without_value_map (Ok x) f = refl
without_value_map (Err e) f = refl

pub pass : {X : Type 0} (b : Bool) (e : Fault) (r : Result X Fault) → b ≡ true → require b e r ≡ r
pass true e r h = refl
pass false e r h = absurd cc

pub fail : {X : Type 0} (b : Bool) (e : Fault) (r : Result X Fault) → b ≡ false → require b e r ≡ Err e
fail true e r h = absurd cc
fail false e r h = refl

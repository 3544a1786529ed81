-- The next of values.
use Rattle.std.proofs.Common.{◌≡◌, ℕ, zero, suc, ◌+◌, ◌<◌, arith, refl, subst, Some, None}
use Rattle.frozen_model.specs.Values.{Values, NoValue, And, count, nth}
use Rattle.bit_view.specs.declared.view.View.{View}
use Rattle.bit_view.specs.Views.{value_of_view}
use Rattle.bit_view.specs.Cursor.{from_place, IsNext}

next_some : (vs : Values) (n : ℕ) (w : View) → n < count vs → value_of_view w ≡ nth vs n
    → IsNext (from_place vs n) (Some w) (from_place vs (suc n))
next_some NoValue n w h e = absurd (omega arith)
next_some (And v vs) zero w h e = (e, refl)
next_some (And v vs) (suc n) w h e = next_some vs n w (omega arith) e

pub next_is : (vs : Values) (n m : ℕ) (w : View) → n < count vs → value_of_view w ≡ nth vs n → m ≡ n + 1
    → IsNext (from_place vs n) (Some w) (from_place vs m)
next_is vs n m w h e em =
    let s : suc n ≡ m = omega arith in
    subst (λ k. IsNext (from_place vs n) (Some w) (from_place vs k)) s (next_some vs n w h e)

pub none_is : (vs : Values) (n : ℕ) → n ≡ count vs → IsNext (from_place vs n) None (from_place vs n)
none_is NoValue zero e = refl
none_is NoValue (suc n) e = absurd (omega arith)
none_is (And v vs) zero e = absurd (omega arith)
none_is (And v vs) (suc n) e = none_is vs n (omega arith)

-- Values by rising numbers, sorted before or after they are made.
use Rattle.std.proofs.Common.{◌≡◌, List, [], ◌∷◌, map, Bool, true, false, refl, ap, ◌∙◌}
use Rattle.std.specs.Prelude.{ℤ, int_lt}
use Rattle.base_lists.specs.InOrder.{insert_by, in_order}
use Rattle.frozen_model.specs.Values.{Value, One, Number, key_less, key_of}

module _ {X : Type 0} (number : X → ℤ) (f : X → Value) (keyed : (x : X) → key_of (f x) ≡ One (Number (number x))) where
  same_test : (x y : X) → key_less (key_of (f y)) (key_of (f x)) ≡ int_lt (number y) (number x)
  same_test x y = ap (λ v. key_less v (key_of (f x))) (keyed y) ∙ ap (key_less (One (Number (number y)))) (keyed x)

  inserted : (x : X) (ys : List X) → map f (insert_by int_lt number x ys) ≡ insert_by key_less key_of (f x) (map f ys)
  inserted x [] = refl
  inserted x (y ∷ ys) = by (int_lt (number y) (number x)) refl (inserted x ys)
    where
      by : (b : Bool) → int_lt (number y) (number x) ≡ b → map f (insert_by int_lt number x ys) ≡ insert_by key_less key_of (f x) (map f ys) → map f (insert_by int_lt number x (y ∷ ys)) ≡ insert_by key_less key_of (f x) (map f (y ∷ ys))
      by true e more = rw (e, same_test x y ∙ e) (ap (λ vs. f y ∷ vs) more)
      by false e more = rw (e, same_test x y ∙ e) refl

  pub made_in_order : (xs : List X) → map f (in_order int_lt number xs) ≡ in_order key_less key_of (map f xs)
  made_in_order [] = refl
  made_in_order (x ∷ xs) = inserted x (in_order int_lt number xs) ∙ ap (insert_by key_less key_of (f x)) (made_in_order xs)

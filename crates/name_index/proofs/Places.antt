-- First places, by one name more.
use Rattle.std.proofs.Common.{◌≡◌, Bool, true, false, not, List, [], ◌∷◌, ◌++◌, length, refl, arith}
use Rattle.std.specs.Prelude.{Some, None, is_some}
use Rattle.std.specs.List.{position, list_any}
use Rattle.std.proofs.lemmas.Bool.Decides.{nat_tests}
use Rattle.std.proofs.lemmas.Grind.{common_steps}
use Rattle.std.proofs.lemmas.List.Folds.{position_or_len_push}
use Rattle.std.proofs.lemmas.List.Sums.{prefix_len-le-length}

pub kept-push : {X : Type 0} (p : X → Bool) (xs : List X) (y : X) → is_some (position p xs) ≡ true → position p (xs ++ y ∷ []) ≡ position p xs
kept-push p xs y s = grind (arith, common_steps, nat_tests, position_or_len_push p xs y)

pub new-push : {X : Type 0} (p : X → Bool) (xs : List X) (y : X) → position p xs ≡ None → p y ≡ true → position p (xs ++ y ∷ []) ≡ Some (length xs)
new-push p xs y e t = grind (arith, common_steps, nat_tests, prefix_len-le-length (λ x. not (p x)) xs, position_or_len_push p xs y)

pub other-push : {X : Type 0} (p : X → Bool) (xs : List X) (y : X) → p y ≡ false → position p (xs ++ y ∷ []) ≡ position p xs
other-push p xs y f = grind (arith, common_steps, nat_tests, position_or_len_push p xs y)

pub some-is-any : {X : Type 0} (p : X → Bool) (xs : List X) → is_some (position p xs) ≡ list_any p xs
some-is-any p [] = refl
some-is-any p (x ∷ xs) = let h = some-is-any p xs in grind (arith, common_steps, nat_tests)

-- Keys that stand at two places, in a list of places with their keys.
use Rattle.std.specs.Prelude.{◌≡◌, ℕ, ◌<◌, ◌≤◌, List}
use Rattle.std.specs.List.{Contains}
use Rattle.frozen_model.specs.Values.{Value}

-- a key stands at both places
pub record IsRepeat (ks : List (ℕ × Value)) (first second : ℕ) : Type 0 where
  pub key : Value
  pub at_first : Contains ks (first, key)
  pub at_second : Contains ks (second, key)
  pub before : first < second

-- no key stands at two places
abbrev pub HasNoRepeat : List (ℕ × Value) → Type 0
HasNoRepeat ks = (first second : ℕ) → ¬ IsRepeat ks first second

-- the second place is the least whose key stands at an earlier one too, and the first is that one
pub record IsLeastRepeat (ks : List (ℕ × Value)) (first second : ℕ) : Type 0 where
  pub repeats : IsRepeat ks first second
  pub least : (f s : ℕ) → IsRepeat ks f s → second ≤ s
  pub only : (f : ℕ) → IsRepeat ks f second → f ≡ first

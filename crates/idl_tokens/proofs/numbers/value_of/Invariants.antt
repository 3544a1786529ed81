use Rattle.std.proofs.Common.{◌≡◌, ◌≤◌, ◌-◌, ◌^◌, drop, ℕ, List}
use Rattle.std.specs.Prelude.{min}
use Rattle.idl_tokens.specs.Numbers.{value_behind}
use Rattle.idl_tokens.proofs.numbers.value_of.Given as goal

pub record Summed (base n i : ℕ) (digits : List ℕ) : Type 0 where
  pub same : min (value_behind base n (drop i digits)) (2 ^ 64 - 1) ≡ min (value_behind base 0 digits) (2 ^ 64 - 1)
  pub fits : n ≤ 2 ^ 64 - 1

abbrev pub invariant-loop-c : goal.invariant-loop-c
invariant-loop-c l = Summed l.base l.n l.c-index l.digits

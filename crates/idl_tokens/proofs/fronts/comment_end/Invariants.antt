use Rattle.std.proofs.Common.{◌≡◌, ◌+◌, length, ℕ, List}
use Rattle.idl_tokens.specs.Tokens.{comment_end}
use Rattle.idl_tokens.proofs.fronts.comment_end.Given as goal

pub record Going (passed : ℕ) (rest text : List ℕ) : Type 0 where
  pub same : comment_end passed rest ≡ comment_end 1 text
  pub count : passed + length rest ≡ length text + 1

abbrev pub invariant-characters : goal.invariant-characters
invariant-characters l = Going l.passed l.rest l.text

abbrev pub decreases-characters : goal.decreases-characters
decreases-characters l = length l.rest

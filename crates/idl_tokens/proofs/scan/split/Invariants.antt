use Rattle.std.proofs.Common.{◌≡◌, ◌≤◌, ◌+◌, ◌++◌, length, drop, ℕ, List}
use Rattle.idl_tokens.specs.declared.token.Placed.{Placed}
use Rattle.idl_tokens.specs.Tokens.{tokens, tokens_behind}
use Rattle.idl_tokens.specs.Spans.{toks}
use Rattle.idl_tokens.proofs.scan.split.Given as goal

pub record Going (text : List ℕ) (found : List Placed) (at line : ℕ) (left : List ℕ) : Type 0 where
  pub same : toks text found ++ tokens_behind 0 line left ≡ tokens text
  pub place : left ≡ drop at text
  pub count : at + length left ≡ length text
  pub lines : line ≤ at + 1

abbrev pub invariant-tokens : goal.invariant-tokens
invariant-tokens l = Going l.text l.tokens.items l.at l.line l.left

abbrev pub decreases-tokens : goal.decreases-tokens
decreases-tokens l = length l.left

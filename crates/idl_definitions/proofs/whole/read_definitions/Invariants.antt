use Rattle.std.proofs.Common.{◌≡◌, length, ℕ, List}
use Rattle.idl_tokens.specs.declared.token.Placed.{Placed}
use Rattle.idl_tokens.specs.Spans.{toks}
use Rattle.idl_grammar.specs.Grammar.{loop}
use Rattle.idl_grammar.specs.Run.{run}
use Rattle.idl_profile.specs.Judged.{a_definition}
use Rattle.idl_profile.specs.Text.{definition, whole}
use Rattle.idl_fields.specs.declared.scope.Scope.{Scope}
use Rattle.idl_fields.specs.View.{scope_of}
use Rattle.idl_fields.specs.Indexed.{IsIndexed}
use Rattle.idl_definitions.specs.Sized.{IsSized}
use Rattle.idl_definitions.proofs.whole.read_definitions.Given as goal

pub record Going (text : List ℕ) (scope : Scope) (rest tokens : List Placed) : Type 0 where
  pub same : run (loop a_definition definition (scope_of text scope)) (toks text rest) ≡ run whole (toks text tokens)
  pub sized : IsSized text scope
  pub indexed : IsIndexed text scope

abbrev pub invariant-definitions : goal.invariant-definitions
invariant-definitions l = Going l.text l.scope l.rest l.tokens

abbrev pub decreases-definitions : goal.decreases-definitions
decreases-definitions l = length l.rest

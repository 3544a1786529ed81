use Rattle.std.proofs.Common.{◌≡◌, ℕ, List, [], length}
use Rattle.idl_tokens.specs.Spans.{toks}
use Rattle.idl_grammar.specs.Run.{run}
use Rattle.idl_profile.specs.Text.{fields}
use Rattle.idl_fields.specs.View.{entries_in, scope_of, written_fields}
use Rattle.idl_fields.specs.declared.scope.Scope.{Scope}
use Rattle.idl_fields.specs.declared.found.Found.{Found}
use Rattle.idl_fields.specs.Found.{IsFound}
use Rattle.idl_tokens.specs.declared.token.Placed.{Placed}
use Rattle.idl_fields.proofs.fields.read_fields.Given as goal

pub record Going (text : List ℕ) (scope : Scope) (found : Found) (rest tokens : List Placed) : Type 0 where
  pub same : run (fields (scope_of text scope) (written_fields text (entries_in text scope) found.fields.items)) (toks text rest) ≡ run (fields (scope_of text scope) []) (toks text tokens)
  pub held : IsFound text (entries_in text scope) found

abbrev pub invariant-fields : goal.invariant-fields
invariant-fields l = Going l.text l.scope l.found l.rest l.tokens

abbrev pub decreases-fields : goal.decreases-fields
decreases-fields l = length l.rest

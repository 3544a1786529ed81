use Rattle.std.proofs.Common.{◌≡◌, length, ℕ, List}
use Rattle.idl_tokens.specs.declared.token.Placed.{Placed}
use Rattle.idl_tokens.specs.Spans.{toks}
use Rattle.idl_grammar.specs.Grammar.{loop}
use Rattle.idl_grammar.specs.Run.{run}
use Rattle.idl_profile.specs.Judged.{a_member, no_members}
use Rattle.idl_profile.specs.Text.{member}
use Rattle.idl_fields.specs.Indexed.{IndexesMembers}
use Rattle.idl_definitions.specs.declared.members.Members.{Members}
use Rattle.idl_definitions.specs.Items.{members_of}
use Rattle.idl_definitions.proofs.members.read_members.Given as goal

pub record Going (text : List ℕ) (members : Members) (rest tokens : List Placed) : Type 0 where
  pub same : run (loop a_member member (members_of text members)) (toks text rest) ≡ run (loop a_member member no_members) (toks text tokens)
  pub indexed : IndexesMembers text members.names members.found.items

abbrev pub invariant-members : goal.invariant-members
invariant-members l = Going l.text l.members l.rest l.tokens

abbrev pub decreases-members : goal.decreases-members
decreases-members l = length l.rest

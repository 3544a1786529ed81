use Rattle.std.proofs.Common.{◌≡◌, length}
use Rattle.idl_tokens.specs.Spans.{toks}
use Rattle.idl_grammar.specs.Grammar.{loop}
use Rattle.idl_grammar.specs.Run.{run}
use Rattle.idl_profile.specs.Judged.{a_note, yes}
use Rattle.idl_profile.specs.Text.{note}
use Rattle.idl_fields.proofs.notes.read_notes.Given as goal

abbrev pub invariant-notes : goal.invariant-notes
invariant-notes l = run (loop a_note (λ _ _. note) yes) (toks l.text l.rest) ≡ run (loop a_note (λ _ _. note) yes) (toks l.text l.tokens)

abbrev pub decreases-notes : goal.decreases-notes
decreases-notes l = length l.rest

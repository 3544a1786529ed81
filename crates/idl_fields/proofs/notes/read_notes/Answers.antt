use Rattle.std.proofs.Common.{Ok, ap, ◌∙◌}
use Rattle.std.proofs.lemmas.Result.{err_from_is_err_and}
use Rattle.idl_tokens.specs.Spans.{toks}
use Rattle.idl_grammar.specs.Grammar.{first}
use Rattle.idl_profile.specs.Judged.{a_note, yes}
use Rattle.idl_profile.specs.Text.{note}
use Rattle.idl_grammar.proofs.CodeLoops.{at_done, at_wrong, at_breaks, at_more, toks_fall}
use Rattle.idl_fields.proofs.notes.read_notes.Goals as goal

pub returns-in_err-note_turn : goal.returns-in_err-note_turn
returns-in_err-note_turn c =
    let p = err_from_is_err_and c.from_residual.result c.from_residual.ensures.1 in
    rw (p.1, p.2) (at_wrong a_note (λ _ _. note) c.args.text.now c.notes.rest.now c.in-Some.first.now c.in-Some.after.now c.in-Some.ensures.cases.0 yes _ c.notes.invariant c.in_err-note_turn.field-0.0 (c.in_err-note_turn.ensures _))

pub returns-in_default-2 : goal.returns-in_default-2
returns-in_default-2 c =
    at_done a_note (λ _ _. note) c.args.text.now c.notes.rest.now c.in-Some.first.now c.in-Some.after.now c.in-Some.ensures.cases.0 yes _ c.notes.invariant
    (c.in_ok-note_turn.ensures (first (toks c.args.text.now c.in-Some.after.now)) ∙ ap Ok c.in_default-2.is)

pub returns-in_err-after : goal.returns-in_err-after
returns-in_err-after c =
    let p = err_from_is_err_and c.from_residual-in_err-after.result c.from_residual-in_err-after.ensures.1 in
    rw (p.1, p.2) (at_breaks a_note (λ _ _. note) c.args.text.now c.notes.rest.now c.in-Some.first.now c.in-Some.after.now c.in-Some.ensures.cases.0 yes _ c.notes.invariant yes
    (c.in_ok-note_turn.ensures (first (toks c.args.text.now c.in-Some.after.now)) ∙ ap Ok c.in-Some-2.is) c.in_err-after.field-0.0 c.in_err-after.ensures)

pub notes-preserved : goal.notes-preserved
notes-preserved c =
    at_more a_note (λ _ _. note) c.args.text.now c.notes.rest.now c.in-Some.first.now c.in-Some.after.now c.in-Some.ensures.cases.0 yes _ c.notes.invariant yes
    (c.in_ok-note_turn.ensures (first (toks c.args.text.now c.in-Some.after.now)) ∙ ap Ok c.in-Some-2.is) yes c.in_ok-after.after.now c.in_ok-after.ensures

pub notes-smaller : goal.notes-smaller
notes-smaller c = toks_fall note c.args.text.now c.notes.rest.now c.in-Some.first.now c.in-Some.after.now c.in_ok-after.after.now yes c.in-Some.ensures.cases.0 c.in_ok-after.ensures

use Rattle.std.proofs.Common.{ap, ◌∙◌}
use Rattle.std.proofs.lemmas.Result.{err_from_is_err_and}
use Rattle.idl_tokens.specs.Spans.{toks}
use Rattle.idl_grammar.specs.Grammar.{first}
use Rattle.idl_profile.specs.Judged.{a_field}
use Rattle.idl_profile.specs.Text.{one_field, field, added}
use Rattle.idl_fields.specs.View.{entries_in, scope_of, written_fields, written_field}
use Rattle.idl_grammar.proofs.CodeLoops.{at_done, at_wrong, at_breaks, at_more, toks_fall}
use Rattle.idl_fields.proofs.FieldSteps.{one_ok, one_breaks, fields_push, id_is}
use Rattle.idl_fields.proofs.fields.read_fields.Goals as goal

pub returns-in_err-id : goal.returns-in_err-id
returns-in_err-id c =
    let p = err_from_is_err_and c.from_residual.result c.from_residual.ensures.1 in
    let h = c.in_err-id.ensures (entries_in c.args.text.now c.args.scope.now) (first (toks c.args.text.now c.in-Some.after.now)) c.fields.invariant.held in
    rw (p.1, p.2) (at_wrong a_field (one_field (scope_of c.args.text.now c.args.scope.now)) c.args.text.now c.fields.rest.now c.in-Some.first.now c.in-Some.after.now c.in-Some.ensures.cases.0
    (written_fields c.args.text.now (entries_in c.args.text.now c.args.scope.now) c.fields.found.fields.items) _ c.fields.invariant.same c.in_err-id.field-0.0 h)

pub returns-in_default-2 : goal.returns-in_default-2
returns-in_default-2 c =
    let h = c.in_ok-id.ensures (entries_in c.args.text.now c.args.scope.now) (first (toks c.args.text.now c.in-Some.after.now)) c.fields.invariant.held in
    at_done a_field (one_field (scope_of c.args.text.now c.args.scope.now)) c.args.text.now c.fields.rest.now c.in-Some.first.now c.in-Some.after.now c.in-Some.ensures.cases.0
    (written_fields c.args.text.now (entries_in c.args.text.now c.args.scope.now) c.fields.found.fields.items) _ c.fields.invariant.same
    (h ∙ ap id_is c.in_default-2.is)

pub returns-in_err-field : goal.returns-in_err-field
returns-in_err-field c =
    let p = err_from_is_err_and c.from_residual-in_err-field.result c.from_residual-in_err-field.ensures.1 in
    let h = c.in_ok-id.ensures (entries_in c.args.text.now c.args.scope.now) (first (toks c.args.text.now c.in-Some.after.now)) c.fields.invariant.held in
    let k = c.in_err-field.ensures in
    rw (p.1, p.2) (at_breaks a_field (one_field (scope_of c.args.text.now c.args.scope.now)) c.args.text.now c.fields.rest.now c.in-Some.first.now c.in-Some.after.now c.in-Some.ensures.cases.0
    (written_fields c.args.text.now (entries_in c.args.text.now c.args.scope.now) c.fields.found.fields.items) _ c.fields.invariant.same c.in-Some-2.id.id
    (h ∙ ap id_is c.in-Some-2.is) c.in_err-field.field-0.0
    (one_breaks (scope_of c.args.text.now c.args.scope.now) (written_fields c.args.text.now (entries_in c.args.text.now c.args.scope.now) c.fields.found.fields.items) c.in-Some-2.id.id (toks c.args.text.now c.in-Some.after.now) c.in_err-field.field-0.0 k))

pub fields-preserved : goal.fields-preserved
fields-preserved c =
    let h = c.in_ok-id.ensures (entries_in c.args.text.now c.args.scope.now) (first (toks c.args.text.now c.in-Some.after.now)) c.fields.invariant.held in
    let k = c.in_ok-field.ensures in
    let same = ap (written_fields c.args.text.now (entries_in c.args.text.now c.args.scope.now)) c.in_ok-add.ensures.fields ∙ fields_push c.args.text.now (entries_in c.args.text.now c.args.scope.now) c.fields.found.fields.items c.in_ok-field.field in
    let more = at_more a_field (one_field (scope_of c.args.text.now c.args.scope.now)) c.args.text.now c.fields.rest.now c.in-Some.first.now c.in-Some.after.now c.in-Some.ensures.cases.0
    (written_fields c.args.text.now (entries_in c.args.text.now c.args.scope.now) c.fields.found.fields.items) _ c.fields.invariant.same c.in-Some-2.id.id
    (h ∙ ap id_is c.in-Some-2.is)
    (added (written_fields c.args.text.now (entries_in c.args.text.now c.args.scope.now) c.fields.found.fields.items) (written_field c.args.text.now (entries_in c.args.text.now c.args.scope.now) c.in_ok-field.field)) c.in_ok-field.after.now
    (one_ok (scope_of c.args.text.now c.args.scope.now) (written_fields c.args.text.now (entries_in c.args.text.now c.args.scope.now) c.fields.found.fields.items) c.in-Some-2.id.id (toks c.args.text.now c.in-Some.after.now) (written_field c.args.text.now (entries_in c.args.text.now c.args.scope.now) c.in_ok-field.field) (toks c.args.text.now c.in_ok-field.after.now) k) in
    record { same = rw same more; held = c.in_ok-add.ensures.found _ c.fields.invariant.held }

pub fields-smaller : goal.fields-smaller
fields-smaller c =
    let k = c.in_ok-field.ensures in
    toks_fall (field (scope_of c.args.text.now c.args.scope.now) (written_fields c.args.text.now (entries_in c.args.text.now c.args.scope.now) c.fields.found.fields.items) c.in-Some-2.id.id) c.args.text.now c.fields.rest.now c.in-Some.first.now c.in-Some.after.now c.in_ok-field.after.now
    (written_field c.args.text.now (entries_in c.args.text.now c.args.scope.now) c.in_ok-field.field) c.in-Some.ensures.cases.0 k

use Rattle.std.proofs.Common.{ap, ◌∙◌}
use Rattle.std.proofs.lemmas.Result.{err_from_is_err_and}
use Rattle.idl_tokens.specs.Spans.{toks}
use Rattle.idl_grammar.specs.Grammar.{first}
use Rattle.idl_profile.specs.Judged.{a_definition}
use Rattle.idl_profile.specs.Text.{definition, with_item}
use Rattle.idl_fields.specs.View.{entries_in, scope_of}
use Rattle.idl_grammar.proofs.CodeLoops.{at_done, at_wrong, at_breaks, at_more, toks_fall}
use Rattle.idl_definitions.specs.Items.{begin_as, item_of}
use Rattle.idl_definitions.proofs.DefinitionSteps.{item_ok, item_breaks, begin_is}
use Rattle.idl_definitions.proofs.whole.read_definitions.Goals as goal

pub returns-in_err-begin : goal.returns-in_err-begin
returns-in_err-begin c =
    let p = err_from_is_err_and c.from_residual.result c.from_residual.ensures.1 in
    let h = c.in_err-begin.ensures (scope_of c.args.text.now c.definitions.scope) (first (toks c.args.text.now c.in-Some.after.now)) in
    rw (p.1, p.2) (at_wrong a_definition definition c.args.text.now c.definitions.rest.now c.in-Some.first.now c.in-Some.after.now c.in-Some.ensures.cases.0
    (scope_of c.args.text.now c.definitions.scope) _ c.definitions.invariant.same c.in_err-begin.field-0.0 h)

pub returns-in_default-2 : goal.returns-in_default-2
returns-in_default-2 c =
    let h = c.in_ok-begin.ensures (scope_of c.args.text.now c.definitions.scope) (first (toks c.args.text.now c.in-Some.after.now)) in
    at_done a_definition definition c.args.text.now c.definitions.rest.now c.in-Some.first.now c.in-Some.after.now c.in-Some.ensures.cases.0
    (scope_of c.args.text.now c.definitions.scope) _ c.definitions.invariant.same (h ∙ ap begin_is c.in_default-2.is)

pub returns-in_err-item : goal.returns-in_err-item
returns-in_err-item c =
    let p = err_from_is_err_and c.from_residual-in_err-item.result c.from_residual-in_err-item.ensures.1 in
    let s = scope_of c.args.text.now c.definitions.scope in
    let h = c.in_ok-begin.ensures s (first (toks c.args.text.now c.in-Some.after.now)) in
    let b = begin_as c.in-Some-2.begin in
    rw (p.1, p.2) (at_breaks a_definition definition c.args.text.now c.definitions.rest.now c.in-Some.first.now c.in-Some.after.now c.in-Some.ensures.cases.0
    s _ c.definitions.invariant.same b (h ∙ ap begin_is c.in-Some-2.is) c.in_err-item.field-0.0
    (item_breaks s b (toks c.args.text.now c.in-Some.after.now) c.in_err-item.field-0.0 c.in_err-item.ensures.reads))

pub definitions-preserved : goal.definitions-preserved
definitions-preserved c =
    let s = scope_of c.args.text.now c.definitions.scope in
    let h = c.in_ok-begin.ensures s (first (toks c.args.text.now c.in-Some.after.now)) in
    let b = begin_as c.in-Some-2.begin in
    let i = item_of c.args.text.now (entries_in c.args.text.now c.definitions.scope) c.in_ok-item.item in
    let k = at_more a_definition definition c.args.text.now c.definitions.rest.now c.in-Some.first.now c.in-Some.after.now c.in-Some.ensures.cases.0
    s _ c.definitions.invariant.same b (h ∙ ap begin_is c.in-Some-2.is) (with_item s i) c.in_ok-item.after.now
    (item_ok s b (toks c.args.text.now c.in-Some.after.now) i (toks c.args.text.now c.in_ok-item.after.now) c.in_ok-item.ensures.reads) in
    record { same = rw c.in_ok-add_item.ensures.same k; sized = c.in_ok-add_item.ensures.sized; indexed = c.in_ok-add_item.ensures.indexed c.definitions.invariant.indexed c.in_ok-item.ensures.indexed }

pub definitions-smaller : goal.definitions-smaller
definitions-smaller c =
    let s = scope_of c.args.text.now c.definitions.scope in
    let b = begin_as c.in-Some-2.begin in
    let i = item_of c.args.text.now (entries_in c.args.text.now c.definitions.scope) c.in_ok-item.item in
    toks_fall (definition s b) c.args.text.now c.definitions.rest.now c.in-Some.first.now c.in-Some.after.now c.in_ok-item.after.now (with_item s i) c.in-Some.ensures.cases.0
    (item_ok s b (toks c.args.text.now c.in-Some.after.now) i (toks c.args.text.now c.in_ok-item.after.now) c.in_ok-item.ensures.reads)

use Rattle.std.proofs.Common.{ap, ◌∙◌}
use Rattle.std.proofs.lemmas.Result.{err_from_is_err_and}
use Rattle.base_lists.specs.Spans.{text_at}
use Rattle.idl_profile.specs.Judged.{a_member}
use Rattle.idl_profile.specs.Text.{member, with_member}
use Rattle.idl_grammar.proofs.CodeLoops.{at_wrong, at_breaks, at_more, toks_fall}
use Rattle.idl_definitions.specs.Items.{members_of}
use Rattle.idl_definitions.proofs.MemberSteps.{name_is}
use Rattle.idl_definitions.proofs.members.read_members.Goals as goal

pub returns-in_err-name-clause-reads : goal.returns-in_err-name-clause-reads
returns-in_err-name-clause-reads c =
    let p = err_from_is_err_and c.from_residual.result c.from_residual.ensures.1 in
    rw (p.1, p.2) (at_wrong a_member member c.args.text.now c.members.rest.now c.in-Some.first.now c.in-Some.after.now c.in-Some.ensures.cases.0
    (members_of c.args.text.now c.members.members) _ c.members.invariant.same c.in_err-name.field-0.0 c.in_err-name.ensures)

pub returns-in_err-number-clause-reads : goal.returns-in_err-number-clause-reads
returns-in_err-number-clause-reads c =
    let p = err_from_is_err_and c.from_residual-in_err-number.result c.from_residual-in_err-number.ensures.1 in
    rw (p.1, p.2) (at_breaks a_member member c.args.text.now c.members.rest.now c.in-Some.first.now c.in-Some.after.now c.in-Some.ensures.cases.0
    (members_of c.args.text.now c.members.members) _ c.members.invariant.same (text_at c.args.text.now c.in-Some-2.name)
    (c.in_ok-name.ensures ∙ ap (name_is c.args.text.now) c.in-Some-2.is) c.in_err-number.field-0.0 c.in_err-number.ensures)

pub members-preserved : goal.members-preserved
members-preserved c =
    let was = members_of c.args.text.now c.members.members in
    let name = text_at c.args.text.now c.in-Some-2.name in
    let more = at_more a_member member c.args.text.now c.members.rest.now c.in-Some.first.now c.in-Some.after.now c.in-Some.ensures.cases.0
    was _ c.members.invariant.same name (c.in_ok-name.ensures ∙ ap (name_is c.args.text.now) c.in-Some-2.is)
    (with_member was name c.in_ok-number.number.value) c.in_ok-number.after.now c.in_ok-number.ensures in
    record { same = rw c.in_ok-add.ensures.same more; indexed = c.in_ok-add.ensures.indexed c.members.invariant.indexed }

pub members-smaller : goal.members-smaller
members-smaller c =
    let was = members_of c.args.text.now c.members.members in
    let name = text_at c.args.text.now c.in-Some-2.name in
    toks_fall (member was name) c.args.text.now c.members.rest.now c.in-Some.first.now c.in-Some.after.now c.in_ok-number.after.now
    (with_member was name c.in_ok-number.number.value) c.in-Some.ensures.cases.0 c.in_ok-number.ensures

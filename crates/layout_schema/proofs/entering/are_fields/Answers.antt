use Rattle.std.proofs.Common.{◌≡◌, rules, ap, sym, ◌∙◌, get_or, pos, w16}
use Rattle.std.proofs.lemmas.Int.{to_z-of_z}
use mir.Val.{SFits, to_z, of_z}
use Rattle.layout_schema.specs.Reading.{entry_told, child_told}
use Rattle.layout_schema.proofs.ReadFields.{other_count, other_field, same_field}
use Rattle.layout_schema.proofs.entering.are_fields.Goals as goal

pub returns-then-child_count-fields : goal.returns-then-child_count-fields
returns-then-child_count-fields c = sym (other_count c.args.fields.now (entry_told c.args.entry).children (λ e. c.if-child_count-fields.true (c.child_count.ensures ∙ e)))

pub returns-then-child-fields : goal.returns-then-child-fields
returns-then-child-fields c =
    sym (other_field c.args.fields.now (entry_told c.args.entry).children c.loop-i.i (child_told c.child.result) c.loop-i.invariant c.loop-i-test.true c.child.ensures
    (λ e. c.if-child-fields.true (ap (of_z w16) e)))

pub loop-i-preserved : goal.loop-i-preserved
loop-i-preserved c =
    let x = get_or c.args.fields.now c.loop-i.i (pos 0) in
    let f : SFits w16 c.child.result.field = search rules in
    let g : SFits w16 x = search rules in
    let same : c.child.result.field ≡ x = sym (to_z-of_z w16 c.child.result.field f) ∙ ap (to_z w16) c.if-child-fields.false ∙ to_z-of_z w16 x g in
    same_field c.args.fields.now (entry_told c.args.entry).children c.loop-i.i (child_told c.child.result) c.loop-i.invariant c.loop-i-test.true c.child.ensures same

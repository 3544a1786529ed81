use Rattle.std.proofs.Common.{◌≡◌, ap, pos, false, true, rules, sym, ◌∙◌, w16}
use Rattle.std.proofs.lemmas.Int.{to_z-of_z}
use lib.Signed.{le_z}
use mir.Val.{SFits}
use Rattle.layout_schema.specs.Reading.{entry_told, child_told}
use Rattle.layout_schema.proofs.ReadFields.{no_id, one_id, below_ids, above_ids}
use Rattle.layout_schema.proofs.entering.are_ids.Goals as goal

pub returns-then-child-le0 : goal.returns-then-child-le0
returns-then-child-le0 c =
    let z = c.child.result.field in
    let f : SFits w16 z = search rules in
    let low : le_z z (pos 0) ≡ true = ap (λ y. le_z y (pos 0)) (sym (to_z-of_z w16 z f)) ∙ c.if-child-le0.true in
    sym (no_id (entry_told c.args.entry).children c.loop-i.i (child_told c.child.result) c.loop-i.invariant c.child.ensures (below_ids z low))

pub loop-i-preserved : goal.loop-i-preserved
loop-i-preserved c =
    let z = c.child.result.field in
    let f : SFits w16 z = search rules in
    let high : le_z z (pos 0) ≡ false = ap (λ y. le_z y (pos 0)) (sym (to_z-of_z w16 z f)) ∙ c.if-child-le0.false in
    one_id (entry_told c.args.entry).children c.loop-i.i (child_told c.child.result) c.loop-i.invariant c.child.ensures (above_ids z f high)

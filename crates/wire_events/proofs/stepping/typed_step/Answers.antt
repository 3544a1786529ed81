use Rattle.std.proofs.Common.{[], refl, subst, rules}
use Rattle.std.proofs.lemmas.Int.{to_z-of_z}
use mir.Val.{SFits}
use mir.Syntax.{w16}
use Rattle.compact_wire.specs.declared.header.FieldType.{FieldType}
use Rattle.wire_events.specs.declared.frame.Frame.TheVariants as f
use Rattle.wire_events.specs.Frames.{IsLeft}
use Rattle.wire_events.specs.Texts.{told_text}
use Rattle.wire_events.proofs.Splits.{field_split, flag_split}
use Rattle.wire_events.proofs.stepping.typed_step.Goals as goal

pub returns-in-Of : goal.returns-in-Of
returns-in-Of c es end h =
    let n : SFits w16 c.args.id = search rules in
    let i = subst (λ (z : FieldType). IsLeft c.args.levels (f.FieldValue c.args.id z) es c.args.bytes.now end) c.in-Of.is h in
    let s = field_split c.args.levels c.args.id c.in-Of.kind es c.args.bytes.now end i in
    let e = simp to_z-of_z at c.value_step.ensures in
    e s.first es s.outs s.mid end s.reads s.parts s.left

pub returns-in-Given : goal.returns-in-Given
returns-in-Given c es end h =
    let n : SFits w16 c.args.id = search rules in
    let i = subst (λ (z : FieldType). IsLeft c.args.levels (f.FieldValue c.args.id z) es c.args.bytes.now end) c.in-Given.is h in
    let s = flag_split c.args.levels c.args.id c.in-Given.x es c.args.bytes.now end i in
    simp to_z-of_z (record { ins = []; outs = s.0; mid = c.args.bytes.now; parts = s.1; opened = (refl, refl); kept = s.2; takes = ([], told_text c.in-Given.x [] refl, refl); begins = λ le q. absurd cc })

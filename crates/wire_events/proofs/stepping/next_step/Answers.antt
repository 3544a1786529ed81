use Rattle.std.proofs.Common.{◌≡◌, ◌-◌, suc, ℕ, ap, subst, ◌∙◌, arith}
use Rattle.wire_events.specs.declared.frame.Frame.{Frame}
use Rattle.wire_events.specs.declared.frame.Frame.TheVariants as f
use Rattle.std.proofs.Common.{rules}
use Rattle.std.proofs.lemmas.Int.{to_z-of_z}
use mir.Val.{SFits}
use mir.Syntax.{w16}
use Rattle.wire_events.specs.Frames.{IsLeft}
use Rattle.wire_events.proofs.Splits.{items_split, keys_split, values_split}
use Rattle.wire_events.proofs.stepping.next_step.Goals as goal

pub returns-else-left-eq0 : goal.returns-else-left-eq0
returns-else-left-eq0 c es end h more =
    let n : c.in-Items.left ≡ suc (c.in-Items.left - 1) = omega arith in
    let i = subst (λ (g : Frame). IsLeft c.args.levels g es c.args.bytes.now end) (c.in-Items.is ∙ ap (λ (m : ℕ). f.Items c.in-Items.kind m) n) h in
    let s = items_split c.args.levels c.in-Items.kind (c.in-Items.left - 1) es c.args.bytes.now end i in
    c.value_step.ensures s.first es s.outs s.mid end s.reads s.parts s.left

pub returns-else-left-eq0-2 : goal.returns-else-left-eq0-2
returns-else-left-eq0-2 c es end h more =
    let n : c.in-Keys.left ≡ suc (c.in-Keys.left - 1) = omega arith in
    let i = subst (λ (g : Frame). IsLeft c.args.levels g es c.args.bytes.now end) (c.in-Keys.is ∙ ap (λ (m : ℕ). f.Keys c.in-Keys.key c.in-Keys.value m) n) h in
    let s = keys_split c.args.levels c.in-Keys.key c.in-Keys.value (c.in-Keys.left - 1) es c.args.bytes.now end i in
    c.value_step-in-Keys.ensures s.first es s.outs s.mid end s.reads s.parts s.left

pub returns-in-Values : goal.returns-in-Values
returns-in-Values c es end h more =
    let i = subst (λ (g : Frame). IsLeft c.args.levels g es c.args.bytes.now end) c.in-Values.is h in
    let s = values_split c.args.levels c.in-Values.key c.in-Values.value c.in-Values.left es c.args.bytes.now end i in
    c.value_step-in-Values.ensures s.first es s.outs s.mid end s.reads s.parts s.left

pub returns-in-FieldValue : goal.returns-in-FieldValue
returns-in-FieldValue c es end h more =
    let n : SFits w16 c.in-FieldValue.id = search rules in
    let i = subst (λ (g : Frame). IsLeft c.args.levels g es c.args.bytes.now end) c.in-FieldValue.is h in
    let e = simp to_z-of_z at c.typed_step.ensures in
    e es end i

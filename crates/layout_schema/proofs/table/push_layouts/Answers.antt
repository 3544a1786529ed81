use Rattle.std.proofs.Common.{rules, arith, refl, w16}
use Rattle.std.proofs.lemmas.Int.{to_z-of_z}
use mir.Val.{SFits}
use Rattle.compact_wire.specs.declared.kind.Kind.TheVariants as k
use Rattle.frozen_model.specs.Layouts.{Version}
use Rattle.compact_wire.specs.Bytes.{AreBytes}
use Rattle.compact_wire.proofs.ReadSteps.{AreBytes-from}
use Rattle.wire_scan.proofs.Seen.{seen_ok}
use Rattle.layout_schema.proofs.Deeper.{bytes_behind}
use Rattle.layout_schema.proofs.TableSteps.{AreLeft, going_begin, going_end, goes_on, number_not, layout_not, read_number}
use Rattle.layout_schema.proofs.table.push_layouts.Goals as goal

pub loop-init : goal.loop-init
loop-init c =
    let are = AreBytes-from c.args.bytes.now (λ i. omega (arith, c.type_inv.bytes i)) in
    (are, λ v left. going_begin v c.args.bytes.now c.args.count c.args.layouts.now.items are left)

pub returns-in_default : goal.returns-in_default
returns-in_default c =
    let none : (v : Version) → AreLeft v c.args.count c.args.bytes.now → ⊥ = λ v left. number_not v c.args.bytes.now c.args.count c.loop.counter c.loop.rest.now c.args.layouts.now.items c.loop.layouts.items (c.loop.invariant.1 v left) c.loop-test.true c.in_default.field-0 c.in_default.ensures.reads in
    record { values = λ v left. absurd (none v left); whole = λ v left h. absurd (none v left) }

pub returns-in_default-skip_value : goal.returns-in_default-skip_value
returns-in_default-skip_value c =
    let none : (v : Version) → AreLeft v c.args.count c.args.bytes.now → ⊥ = λ v left. layout_not v c.args.bytes.now c.args.count c.loop.counter c.loop.rest.now c.args.layouts.now.items c.loop.layouts.items (c.loop.invariant.1 v left) c.loop-test.true c.in-Ok.number c.in-Ok.behind.now c.in-Ok.ensures.reads c.in_default-skip_value.field-0 c.in_default-skip_value.ensures.reads in
    record { values = λ v left. absurd (none v left); whole = λ v left h. absurd (none v left) }

pub loop-preserved : goal.loop-preserved
loop-preserved c =
    let e = read_number c.loop.rest.now c.in-Ok.behind.now c.in-Ok.number c.in-Ok.ensures.reads in
    let mid : AreBytes c.in-Ok.behind.now = bytes_behind 61 k.I16 c.loop.rest.now _ c.in-Ok.behind.now c.loop.invariant.0 e in
    let its = seen_ok _ _ _ c.in-Ok-skip_value.after.now c.in-Ok-skip_value.ensures.reads in
    let after : AreBytes c.in-Ok-skip_value.after.now = bytes_behind 61 k.Struct c.in-Ok.behind.now its.0 c.in-Ok-skip_value.after.now mid its.1 in
    let g : SFits w16 c.in-Ok.number = search rules in (
      after,
      λ v left. goes_on v c.args.bytes.now c.args.count c.loop.counter c.loop.rest.now c.args.layouts.now.items c.loop.layouts.items (c.loop.invariant.1 v left) c.loop-test.true c.in-Ok.number c.in-Ok.behind.now c.in-Ok.ensures.reads
          _ c.in-Ok-skip_value.after.now _ c.push.new.self.items mid after c.in-Ok-skip_value.ensures.reads (to_z-of_z w16 c.in-Ok.number g) refl c.in_ok-push.ensures.items,
    )

pub returns : goal.returns
returns c = record {
  values = λ v left. going_end v c.args.bytes.now c.args.count c.loop.counter c.loop.rest.now c.args.layouts.now.items c.loop.layouts.items (c.loop.invariant.1 v left) c.loop-test.false;
  whole = λ v left. (c.loop.invariant.1 v left).whole;
}

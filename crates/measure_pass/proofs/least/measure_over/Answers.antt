use Rattle.std.proofs.Common.{◌+◌, ◌≤◌, arith, ◌∙◌}
use Rattle.std.proofs.lemmas.Bool.{not-true, not-false}
use Rattle.frozen_model.specs.Holding.{puts_of}
use Rattle.layout_tree.specs.Nodes.{layout_of}
use Rattle.typed_tree.specs.References.{value_of_ref}
use Rattle.measure_pass.specs.Spots.{listed}
use Rattle.measure_pass.proofs.Measuring.{begun, measurable, form_after, reached_first, loop_next, loop_done}
use Rattle.measure_pass.proofs.least.measure_over.Goals as goal

pub one_pass-requires-clause-value : goal.one_pass-requires-clause-value
one_pass-requires-clause-value g c =
    let v = value_of_ref c.args.v in
    let bl = c.args.blank in
    let l1 = c.set_bases.new.layouts in
    let e = c.in_ok-set_bases.ensures in
    let b = begun bl l1 (puts_of (layout_of bl).tree v) v c.requires.blank.version c.requires.form
    c.requires.few e.based e.start e.version e.relaxed in
    measurable (layout_of l1) v b.start

pub gather-requires : goal.gather-requires
gather-requires g c =
    let v = value_of_ref c.args.v in
    let bl = c.args.blank in
    let l1 = c.set_bases.new.layouts in
    let e = c.in_ok-set_bases.ensures in
    let b = begun bl l1 (puts_of (layout_of bl).tree v) v c.requires.blank.version c.requires.form
    c.requires.few e.based e.start e.version e.relaxed in
    form_after (layout_of l1) (layout_of c.one_pass.new.layouts) v b.start c.one_pass.ensures.layout

pub loop-layouts-init : goal.loop-layouts-init
loop-layouts-init g c =
    let v = value_of_ref c.args.v in
    let bl = c.args.blank in
    let l1 = c.set_bases.new.layouts in
    let e = c.in_ok-set_bases.ensures in
    let b = begun bl l1 (puts_of (layout_of bl).tree v) v c.requires.blank.version c.requires.form
    c.requires.few e.based e.start e.version e.relaxed in
    let l2 = c.one_pass.new.layouts in
    let le : c.one_pass.new.steps ≤ c.args.steps.now + 1 = omega (arith, c.one_pass.ensures.steps) in
    record {
      settled = c.one_pass.ensures.settled;
      reached = record {
        first = layout_of l1;
        begun = b;
        reached = reached_first (layout_of l1) (layout_of l2) v b.start (listed c.in_ok-ranges.ranges)
            c.args.steps.now c.one_pass.new.steps c.one_pass.ensures.layout c.in_ok-ranges.ensures le;
      };
    }

pub pass_over-pass-requires-clause-settled : goal.pass_over-pass-requires-clause-settled
pass_over-pass-requires-clause-settled g c = c.loop-layouts.invariant.settled

pub pass_over-pass-requires-clause-value : goal.pass_over-pass-requires-clause-value
pass_over-pass-requires-clause-value g c = record {
  value = value_of_ref c.args.v;
  are = c.loop-layouts.invariant.reached.reached.spots;
}

pub loop-layouts-smaller : goal.loop-layouts-smaller
loop-layouts-smaller g c =
    let v = value_of_ref c.args.v in
    let bl = layout_of c.args.blank in
    let k = c.loop-layouts in
    let p = c.pass_over-pass in
    let are = k.invariant.reached.reached.spots in
    let le : p.new.steps ≤ k.steps + 1 = omega (arith, p.ensures.steps) in
    let n = loop_next bl (layout_of k.layouts) (layout_of p.new.layouts) v (listed k.ranges)
    (listed p.new.ranges) c.args.steps.now k.steps p.new.steps p.result.widened k.invariant.reached
    (p.ensures.passed v are) (not-false p.result.widened c.if-rests.false) le in
    n.falls

pub loop-layouts-preserved : goal.loop-layouts-preserved
loop-layouts-preserved g c =
    let v = value_of_ref c.args.v in
    let bl = layout_of c.args.blank in
    let k = c.loop-layouts in
    let p = c.pass_over-pass in
    let are = k.invariant.reached.reached.spots in
    let le : p.new.steps ≤ k.steps + 1 = omega (arith, p.ensures.steps) in
    let n = loop_next bl (layout_of k.layouts) (layout_of p.new.layouts) v (listed k.ranges)
    (listed p.new.ranges) c.args.steps.now k.steps p.new.steps p.result.widened k.invariant.reached
    (p.ensures.passed v are) (not-false p.result.widened c.if-rests.false) le in
    record { settled = p.ensures.settled; reached = n.loop }

pub returns-then-rests-clause-least : goal.returns-then-rests-clause-least
returns-then-rests-clause-least g c =
    let v = value_of_ref c.args.v in
    let bl = layout_of c.args.blank in
    let k = c.loop-layouts in
    let p = c.pass_over-pass in
    let are = k.invariant.reached.reached.spots in
    let le : p.new.steps ≤ k.steps + 1 = omega (arith, p.ensures.steps) in
    let d = loop_done bl (layout_of k.layouts) (layout_of p.new.layouts) v (listed k.ranges)
    (listed p.new.ranges) c.args.steps.now k.steps p.new.steps p.result.end p.result.widened
    c.layouts_are_described.ensures.bits k.invariant.reached (p.ensures.passed v are)
    (not-true p.result.widened c.if-rests.true) (p.ensures.ends v are) le in
    d.least

pub returns-then-rests-clause-version : goal.returns-then-rests-clause-version
returns-then-rests-clause-version g c =
    let v = value_of_ref c.args.v in
    let bl = layout_of c.args.blank in
    let k = c.loop-layouts in
    let p = c.pass_over-pass in
    let are = k.invariant.reached.reached.spots in
    let le : p.new.steps ≤ k.steps + 1 = omega (arith, p.ensures.steps) in
    let d = loop_done bl (layout_of k.layouts) (layout_of p.new.layouts) v (listed k.ranges)
    (listed p.new.ranges) c.args.steps.now k.steps p.new.steps p.result.end p.result.widened
    c.layouts_are_described.ensures.bits k.invariant.reached (p.ensures.passed v are)
    (not-true p.result.widened c.if-rests.true) (p.ensures.ends v are) le in
    d.version

pub returns-then-rests-clause-relaxed : goal.returns-then-rests-clause-relaxed
returns-then-rests-clause-relaxed g c =
    let v = value_of_ref c.args.v in
    let bl = layout_of c.args.blank in
    let k = c.loop-layouts in
    let p = c.pass_over-pass in
    let are = k.invariant.reached.reached.spots in
    let le : p.new.steps ≤ k.steps + 1 = omega (arith, p.ensures.steps) in
    let d = loop_done bl (layout_of k.layouts) (layout_of p.new.layouts) v (listed k.ranges)
    (listed p.new.ranges) c.args.steps.now k.steps p.new.steps p.result.end p.result.widened
    c.layouts_are_described.ensures.bits k.invariant.reached (p.ensures.passed v are)
    (not-true p.result.widened c.if-rests.true) (p.ensures.ends v are) le in
    d.relaxed ∙ c.requires.blank.relaxed

pub returns-then-rests-clause-kinds : goal.returns-then-rests-clause-kinds
returns-then-rests-clause-kinds g c =
    let v = value_of_ref c.args.v in
    let bl = layout_of c.args.blank in
    let k = c.loop-layouts in
    let p = c.pass_over-pass in
    let are = k.invariant.reached.reached.spots in
    let le : p.new.steps ≤ k.steps + 1 = omega (arith, p.ensures.steps) in
    let d = loop_done bl (layout_of k.layouts) (layout_of p.new.layouts) v (listed k.ranges)
    (listed p.new.ranges) c.args.steps.now k.steps p.new.steps p.result.end p.result.widened
    c.layouts_are_described.ensures.bits k.invariant.reached (p.ensures.passed v are)
    (not-true p.result.widened c.if-rests.true) (p.ensures.ends v are) le in
    d.same_kinds

pub returns-then-rests-clause-length : goal.returns-then-rests-clause-length
returns-then-rests-clause-length g c =
    let v = value_of_ref c.args.v in
    let bl = layout_of c.args.blank in
    let k = c.loop-layouts in
    let p = c.pass_over-pass in
    let are = k.invariant.reached.reached.spots in
    let le : p.new.steps ≤ k.steps + 1 = omega (arith, p.ensures.steps) in
    let d = loop_done bl (layout_of k.layouts) (layout_of p.new.layouts) v (listed k.ranges)
    (listed p.new.ranges) c.args.steps.now k.steps p.new.steps p.result.end p.result.widened
    c.layouts_are_described.ensures.bits k.invariant.reached (p.ensures.passed v are)
    (not-true p.result.widened c.if-rests.true) (p.ensures.ends v are) le in
    d.length

pub returns-then-rests-clause-steps : goal.returns-then-rests-clause-steps
returns-then-rests-clause-steps g c =
    let v = value_of_ref c.args.v in
    let bl = layout_of c.args.blank in
    let k = c.loop-layouts in
    let p = c.pass_over-pass in
    let are = k.invariant.reached.reached.spots in
    let le : p.new.steps ≤ k.steps + 1 = omega (arith, p.ensures.steps) in
    let d = loop_done bl (layout_of k.layouts) (layout_of p.new.layouts) v (listed k.ranges)
    (listed p.new.ranges) c.args.steps.now k.steps p.new.steps p.result.end p.result.widened
    c.layouts_are_described.ensures.bits k.invariant.reached (p.ensures.passed v are)
    (not-true p.result.widened c.if-rests.true) (p.ensures.ends v are) le in
    d.steps

use Rattle.std.proofs.Common.{arith}
use Rattle.idl_profile.specs.Types.{root_of}
use Rattle.idl_parse.specs.Parsed.{definition_of}
use Rattle.type_kinds.specs.KindsOf.{kinds_of}
use Rattle.frozen_model.specs.Holding.{puts_of}
use Rattle.layout_tree.specs.Nodes.{layout_of}
use Rattle.typed_tree.specs.References.{value_of_ref}
use Rattle.measure_pass.specs.Spots.{listed}
use Rattle.measure_pass.proofs.Measuring.{from_shape, begun, measurable, form_after, reached_first}
use Rattle.measure_pass.proofs.Measuring.{reached_next}
use Rattle.row_tests.proofs.passes.ranges_alone.Goals as goal

pub set_bases-requires-clause-blank : goal.set_bases-requires-clause-blank
set_bases-requires-clause-blank g c =
    let k = kinds_of (root_of (definition_of c.args.def.now)) in
    let f = from_shape (layout_of c.in_ok-layouts.layouts) k (value_of_ref c.args.v)
    c.in_ok-layouts.ensures.layout
    c.requires.value.form c.requires.value.few in
    f.blank.widths

pub set_bases-requires-clause-form : goal.set_bases-requires-clause-form
set_bases-requires-clause-form g c =
    let k = kinds_of (root_of (definition_of c.args.def.now)) in
    let f = from_shape (layout_of c.in_ok-layouts.layouts) k (value_of_ref c.args.v)
    c.in_ok-layouts.ensures.layout
    c.requires.value.form c.requires.value.few in
    f.form

pub one_pass-requires-clause-value : goal.one_pass-requires-clause-value
one_pass-requires-clause-value g c =
    let k = kinds_of (root_of (definition_of c.args.def.now)) in
    let v = value_of_ref c.args.v in
    let l = c.in_ok-layouts.layouts in
    let f = from_shape (layout_of l) k v c.in_ok-layouts.ensures.layout c.requires.value.form
    c.requires.value.few in
    let l1 = c.set_bases.new.layouts in
    let e = c.in_ok-set_bases.ensures in
    let b = begun l l1 (puts_of (layout_of l).tree v) v f.blank.version f.form f.few e.based e.start e.version
    e.relaxed in
    measurable (layout_of l1) v b.start

pub gather-requires : goal.gather-requires
gather-requires g c =
    let k = kinds_of (root_of (definition_of c.args.def.now)) in
    let v = value_of_ref c.args.v in
    let l = c.in_ok-layouts.layouts in
    let f = from_shape (layout_of l) k v c.in_ok-layouts.ensures.layout c.requires.value.form
    c.requires.value.few in
    let l1 = c.set_bases.new.layouts in
    let e = c.in_ok-set_bases.ensures in
    let b = begun l l1 (puts_of (layout_of l).tree v) v f.blank.version f.form f.few e.based e.start e.version
    e.relaxed in
    form_after (layout_of l1) (layout_of c.one_pass.new.layouts) v b.start c.one_pass.ensures.layout

pub range_pass-first-requires-clause-value : goal.range_pass-first-requires-clause-value
range_pass-first-requires-clause-value g c =
    let k = kinds_of (root_of (definition_of c.args.def.now)) in
    let v = value_of_ref c.args.v in
    let l = c.in_ok-layouts.layouts in
    let f = from_shape (layout_of l) k v c.in_ok-layouts.ensures.layout c.requires.value.form
    c.requires.value.few in
    let l1 = c.set_bases.new.layouts in
    let e = c.in_ok-set_bases.ensures in
    let b = begun l l1 (puts_of (layout_of l).tree v) v f.blank.version f.form f.few e.based e.start e.version
    e.relaxed in
    let t = reached_first (layout_of l1) (layout_of c.one_pass.new.layouts) v b.start
    (listed c.in_ok-ranges.ranges) 0 0
    c.one_pass.ensures.layout c.in_ok-ranges.ensures (omega arith) in
    record { value = v; are = t.spots }

pub range_pass-second-requires-clause-value : goal.range_pass-second-requires-clause-value
range_pass-second-requires-clause-value g c =
    let k = kinds_of (root_of (definition_of c.args.def.now)) in
    let v = value_of_ref c.args.v in
    let l = c.in_ok-layouts.layouts in
    let f = from_shape (layout_of l) k v c.in_ok-layouts.ensures.layout c.requires.value.form
    c.requires.value.few in
    let l1 = c.set_bases.new.layouts in
    let l2 = c.one_pass.new.layouts in
    let e = c.in_ok-set_bases.ensures in
    let b = begun l l1 (puts_of (layout_of l).tree v) v f.blank.version f.form f.few e.based e.start e.version
    e.relaxed in
    let rs = listed c.in_ok-ranges.ranges in
    let t = reached_first (layout_of l1) (layout_of l2) v b.start rs 0 0 c.one_pass.ensures.layout
    c.in_ok-ranges.ensures
    (omega arith) in
    let p = c.range_pass-first in
    let n = reached_next (layout_of l1) (layout_of l2) (layout_of p.new.layouts) v b.start rs
    (listed p.new.ranges) 0 0 0
    p.result t (p.ensures.passed v t.spots) c.if-first.true (omega arith) in
    record { value = v; are = n.reached.spots }

use Rattle.std.proofs.Common.{◌≡◌, refl, ap, sym, ◌∙◌, subst}
use Rattle.idl_profile.specs.Types.{root_of}
use Rattle.idl_parse.specs.Parsed.{definition_of}
use Rattle.type_kinds.specs.KindsOf.{kinds_of}
use Rattle.frozen_model.specs.Layouts.{Version2, Described}
use Rattle.frozen_model.specs.Holding.{puts_of}
use Rattle.layout_tree.specs.Nodes.{layout_of}
use Rattle.typed_tree.specs.References.{value_of_ref}
use Rattle.measure_pass.specs.Growing.{Measurable}
use Rattle.measure_pass.proofs.Measuring.{from_shape, begun}
use Rattle.row_tests.proofs.Settling.{settled_measurable, measured_rests}
use Rattle.row_tests.proofs.widths.widened.Goals as goal

pub set_bases-requires-clause-blank : goal.set_bases-requires-clause-blank
set_bases-requires-clause-blank c =
    let k = kinds_of (root_of (definition_of c.args.def.now)) in
    let f = from_shape (layout_of c.widen_each.new.layouts) k (value_of_ref c.args.v)
    (c.widen_each.ensures ∙ c.in_ok-layouts.ensures.layout) c.requires.form c.requires.few in
    f.blank.widths

pub set_bases-requires-clause-form : goal.set_bases-requires-clause-form
set_bases-requires-clause-form c =
    let k = kinds_of (root_of (definition_of c.args.def.now)) in
    let f = from_shape (layout_of c.widen_each.new.layouts) k (value_of_ref c.args.v)
    (c.widen_each.ensures ∙ c.in_ok-layouts.ensures.layout) c.requires.form c.requires.few in
    f.form

pub rests-requires-clause-value : goal.rests-requires-clause-value
rests-requires-clause-value c =
    let k = kinds_of (root_of (definition_of c.args.def.now)) in
    let v = value_of_ref c.args.v in
    let wide = c.widen_each.new.layouts in
    let f = from_shape (layout_of wide) k v (c.widen_each.ensures ∙ c.in_ok-layouts.ensures.layout)
    c.requires.form
    c.requires.few in
    let based = c.set_bases.new.layouts in
    let e = c.in_ok-set_bases.ensures in
    let b = begun wide based (puts_of (layout_of wide).tree v) v f.blank.version f.form f.few e.based e.start
    e.version
    e.relaxed in
    settled_measurable (layout_of wide) based c.settle.new.self v b c.settle.ensures.layout

pub returns-clause-rests : goal.returns-clause-rests
returns-clause-rests c =
    let k = kinds_of (root_of (definition_of c.args.def.now)) in
    let v = value_of_ref c.args.v in
    let wide = c.widen_each.new.layouts in
    let f = from_shape (layout_of wide) k v (c.widen_each.ensures ∙ c.in_ok-layouts.ensures.layout)
    c.requires.form
    c.requires.few in
    let based = c.set_bases.new.layouts in
    let e = c.in_ok-set_bases.ensures in
    let b = begun wide based (puts_of (layout_of wide).tree v) v f.blank.version f.form f.few e.based e.start
    e.version
    e.relaxed in
    let settled = c.settle.new.self in
    let m = settled_measurable (layout_of wide) based settled v b c.settle.ensures.layout in
    let two : (layout_of settled).version ≡ Version2 = ap (λ (d : Described). d.version)
    c.settle.ensures.layout ∙ b.version in
    let rested = c.if-not-rests.ensures refl in
    let last = c.rests.new.layouts in
    let there : Measurable (layout_of last) v = subst (λ (d : Described). Measurable d v) (sym rested.0) m in
    measured_rests (layout_of last) v there (there.based (ap (λ (d : Described). d.version) rested.0 ∙ two))
    rested.1

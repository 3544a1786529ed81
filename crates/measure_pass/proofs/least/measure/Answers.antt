use Rattle.std.proofs.Common.{arith, ◌∙◌}
use Rattle.std.proofs.lemmas.Result.{IfOk-weaker}
use Rattle.idl_profile.specs.Types.{root_of}
use Rattle.idl_parse.specs.Parsed.{definition_of}
use Rattle.type_kinds.specs.KindsOf.{kinds_of}
use Rattle.layout_tree.specs.Nodes.{layout_of}
use Rattle.typed_tree.specs.References.{value_of_ref}
use Rattle.measure_pass.proofs.Measuring.{from_shape}
use Rattle.measure_pass.proofs.least.measure.Goals as goal

pub measure_over-requires-clause-blank : goal.measure_over-requires-clause-blank
measure_over-requires-clause-blank g c =
    let u = root_of (definition_of c.args.def.now) in
    let k = kinds_of u in
    let v = value_of_ref c.args.v in
    let f = from_shape (layout_of c.in_ok-blank.blank) k v c.in_ok-blank.ensures.layout c.requires.form
    c.requires.few in
    f.blank

pub measure_over-requires-clause-settled : goal.measure_over-requires-clause-settled
measure_over-requires-clause-settled g c =
    c.in_ok-blank.ensures.settled

pub measure_over-requires-clause-form : goal.measure_over-requires-clause-form
measure_over-requires-clause-form g c =
    let u = root_of (definition_of c.args.def.now) in
    let k = kinds_of u in
    let v = value_of_ref c.args.v in
    let f = from_shape (layout_of c.in_ok-blank.blank) k v c.in_ok-blank.ensures.layout c.requires.form
    c.requires.few in
    f.form

pub measure_over-requires-clause-few : goal.measure_over-requires-clause-few
measure_over-requires-clause-few g c =
    let u = root_of (definition_of c.args.def.now) in
    let k = kinds_of u in
    let v = value_of_ref c.args.v in
    let f = from_shape (layout_of c.in_ok-blank.blank) k v c.in_ok-blank.ensures.layout c.requires.form
    c.requires.few in
    f.few

pub returns-clause-kinds : goal.returns-clause-kinds
returns-clause-kinds g c =
    let u = root_of (definition_of c.args.def.now) in
    let k = kinds_of u in
    let v = value_of_ref c.args.v in
    let f = from_shape (layout_of c.in_ok-blank.blank) k v c.in_ok-blank.ensures.layout c.requires.form
    c.requires.few in
    IfOk-weaker c.measure_over.result _ _ (λ m e. e ∙ f.same_kinds) c.measure_over.ensures.kinds

pub returns-clause-steps : goal.returns-clause-steps
returns-clause-steps g c =
    let u = root_of (definition_of c.args.def.now) in
    let k = kinds_of u in
    let v = value_of_ref c.args.v in
    let f = from_shape (layout_of c.in_ok-blank.blank) k v c.in_ok-blank.ensures.layout c.requires.form
    c.requires.few in
    omega (arith, c.measure_over.ensures.steps, f.same_ranges)

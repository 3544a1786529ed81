use Rattle.std.proofs.Common.{◌∙◌}
use Rattle.frozen_model.specs.Trees.{kinds}
use Rattle.layout_tree.specs.Nodes.{layout_of}
use Rattle.typed_tree.specs.References.{value_of_ref}
use Rattle.measure_pass.proofs.Measuring.{from_shape}
use Rattle.frozen_file.proofs.Frozen.{of_kinds, few_kinds}
use Rattle.frozen_file.proofs.file.measure_again.Goals as goal

pub measure_over-requires-clause-blank : goal.measure_over-requires-clause-blank
measure_over-requires-clause-blank g c =
    let l = (layout_of c.args.from.now).tree in
    let v = value_of_ref c.args.v in
    let b = c.in_ok-layouts in
    (from_shape (layout_of b.layouts) (kinds l) v b.ensures.layout (of_kinds l v c.requires.form)
    (few_kinds l v c.requires.form c.requires.few)).blank

pub measure_over-requires-clause-settled : goal.measure_over-requires-clause-settled
measure_over-requires-clause-settled g c =
    c.in_ok-layouts.ensures.settled

pub measure_over-requires-clause-form : goal.measure_over-requires-clause-form
measure_over-requires-clause-form g c =
    let l = (layout_of c.args.from.now).tree in
    let v = value_of_ref c.args.v in
    let b = c.in_ok-layouts in
    (from_shape (layout_of b.layouts) (kinds l) v b.ensures.layout (of_kinds l v c.requires.form)
    (few_kinds l v c.requires.form c.requires.few)).form

pub measure_over-requires-clause-few : goal.measure_over-requires-clause-few
measure_over-requires-clause-few g c =
    let l = (layout_of c.args.from.now).tree in
    let v = value_of_ref c.args.v in
    let b = c.in_ok-layouts in
    (from_shape (layout_of b.layouts) (kinds l) v b.ensures.layout (of_kinds l v c.requires.form)
    (few_kinds l v c.requires.form c.requires.few)).few

pub returns-clause-kinds : goal.returns-clause-kinds
returns-clause-kinds g c =
    let l = (layout_of c.args.from.now).tree in
    let v = value_of_ref c.args.v in
    let b = c.in_ok-layouts in
    let f = from_shape (layout_of b.layouts) (kinds l) v b.ensures.layout (of_kinds l v c.requires.form)
    (few_kinds l v c.requires.form c.requires.few) in
    c.in_ok-measured.ensures.kinds ∙ f.same_kinds

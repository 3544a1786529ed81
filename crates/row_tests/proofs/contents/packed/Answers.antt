use Rattle.std.proofs.Common.{refl, ◌∙◌}
use Rattle.layout_tree.specs.Nodes.{layout_of}
use Rattle.typed_tree.specs.References.{value_of_ref}
use Rattle.row_tests.proofs.Passing.{first_measured, first_rests}
use Rattle.row_tests.proofs.contents.packed.Goals as goal

pub rests-requires-clause-value : goal.rests-requires-clause-value
rests-requires-clause-value c =
    first_measured c.in_ok-layouts.layouts (layout_of c.in_ok-first.first) (value_of_ref c.top-v.result)
    c.in_ok-layouts.ensures.rests c.in_ok-first.ensures.layout

pub pack-requires-2 : goal.pack-requires-2
pack-requires-2 c =
    let rested = c.if-not-rests.ensures refl in
    first_rests c.in_ok-layouts.layouts (layout_of c.rests.new.layouts) (value_of_ref c.top-v.result)
    c.in_ok-layouts.ensures.rests (rested.0 ∙ c.in_ok-first.ensures.layout) rested.1

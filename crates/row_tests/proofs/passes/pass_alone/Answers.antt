use Rattle.layout_tree.specs.Nodes.{layout_of}
use Rattle.typed_tree.specs.References.{value_of_ref}
use Rattle.row_tests.proofs.Passing.{first_passed}
use Rattle.row_tests.proofs.passes.pass_alone.Goals as goal

pub returns-clause-form : goal.returns-clause-form
returns-clause-form g c =
    first_passed (layout_of c.args.layouts.now) (layout_of c.one_pass.new.layouts) (value_of_ref c.args.v)
    c.requires.form
    c.one_pass.ensures.layout

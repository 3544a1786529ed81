-- None is counted exactly where there is none.
use Rattle.typed_tree.specs.Parts.{items_of}
use Rattle.typed_tree.specs.References.{value_of_ref}
use Rattle.typed_tree.proofs.Reading.{none-counted}
use Rattle.typed_tree.proofs.tree.TreeRef.is_empty.Goals as goal

pub returns : goal.returns
returns c = none-counted (items_of (value_of_ref c.args.self)) c.len.result c.len.ensures

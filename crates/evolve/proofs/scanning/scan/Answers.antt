use Rattle.std.proofs.Common.{◌∙◌}
use Rattle.typed_tree.specs.Parts.{items_of}
use Rattle.evolve.specs.Lenses.{value_of_lens}
use Rattle.evolve.proofs.Walking.{all_of}
use Rattle.evolve.proofs.scanning.scan.Goals as goal

pub returns-clause-items : goal.returns-clause-items
returns-clause-items c =
    c.of.ensures.items ∙ all_of (items_of (value_of_lens c.args.from)) c.len.result c.len.ensures

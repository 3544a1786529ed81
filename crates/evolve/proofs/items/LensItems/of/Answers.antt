use Rattle.std.proofs.Common.{ap, ◌∙◌, min}
use Rattle.typed_tree.specs.Parts.{items_of}
use Rattle.evolve.specs.Lenses.{value_of_lens}
use Rattle.evolve.specs.LensRows.{lens_of_row}
use Rattle.evolve.specs.LensItems.{from_to}
use Rattle.evolve.proofs.Walking.{none_past}
use Rattle.evolve.proofs.items.LensItems.of.Goals as goal

pub returns-clause-items : goal.returns-clause-items
returns-clause-items c =
    let vs = items_of (value_of_lens c.args.whole) in
    ap (λ l. from_to (items_of (value_of_lens l)) c.args.first c.min.result) c.row.ensures
    ∙ none_past vs c.args.first c.args.end c.min.result
    (c.min.ensures ∙ ap (min c.args.end) c.len.ensures)

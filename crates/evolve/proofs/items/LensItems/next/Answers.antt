use Rattle.std.proofs.Common.{refl}
use Rattle.typed_tree.specs.Parts.{items_of}
use Rattle.evolve.specs.Lenses.{value_of_lens}
use Rattle.evolve.specs.LensRows.{lens_of_row}
use Rattle.evolve.proofs.Walking.{next_is, none_is}
use Rattle.evolve.proofs.items.LensItems.next.Goals as goal

pub returns-then-self-clause-next : goal.returns-then-self-clause-next
returns-then-self-clause-next c =
    let s = c.args.self.now in
    none_is (items_of (value_of_lens (lens_of_row s.row))) s.next s.end c.if-self.true

pub returns-clause-next : goal.returns-clause-next
returns-clause-next c =
    let s = c.args.self.now in
    next_is (items_of (value_of_lens (lens_of_row s.row))) s.next _ s.end c.item_at.result
    c.if-self.false s.within c.item_at.ensures.value refl

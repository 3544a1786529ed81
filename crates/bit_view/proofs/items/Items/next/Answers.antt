use Rattle.std.proofs.Common.{arith, refl, ◌∙◌}
use Rattle.typed_tree.specs.Parts.{items_of}
use Rattle.bit_view.specs.Views.{value_of_view}
use Rattle.bit_view.proofs.Cursors.{next_is, none_is}
use Rattle.bit_view.proofs.items.Items.next.Goals as goal

pub returns-then-self : goal.returns-then-self
returns-then-self c =
    let s = c.args.self.now in
    none_is (items_of (value_of_view s.row.whole)) s.next (c.if-self.true ∙ s.counted)

pub returns : goal.returns
returns c =
    let s = c.args.self.now in
    next_is (items_of (value_of_view s.row.whole)) s.next _ c.item-item.result
    (omega (arith, s.counted, s.within, c.if-self.false)) c.item-item.ensures.item refl

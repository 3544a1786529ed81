use Rattle.std.proofs.Common.{◌≡◌, ◌-◌, ap, sym, ◌∙◌, take, drop}
use Rattle.frozen_model.specs.Values.{Bytes}
use Rattle.layout_tree.specs.Nodes.{at}
use Rattle.content_check.specs.Agreeing.{without_value}
use Rattle.content_check.proofs.Steps.{next_of}
use Rattle.content_check.proofs.KeyOrders.{bytes_value}
use Rattle.content_check.proofs.keys.read_bytes.Goals as goal

pub returns-in-Ok-clause-value : goal.returns-in-Ok-clause-value
returns-in-Ok-clause-value c x e =
    let a = c.args in
    let bs = a.content.now in
    let en : c.in-Ok.after.next ≡ x.1 = ap next_of (c.in-Ok.ensures.same ∙ ap without_value e) in
    bytes_value bs (at a.layouts.now a.node) a.text a.start a.bit a.reach.next a.reach.cells x
    c.requires.bytes e ∙ ap (λ k. Bytes (take (k - a.reach.next) (drop a.reach.next bs))) (sym en)

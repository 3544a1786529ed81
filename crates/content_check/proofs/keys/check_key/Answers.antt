use Rattle.std.proofs.Common.{◌≡◌, ap, sym, Some, Err, subst, false}
use Rattle.frozen_model.specs.Walk.{walk}
use Rattle.content_check.specs.declared.fault.ContentFault.TheVariants as s
use Rattle.content_check.specs.Agreeing.{Agrees}
use Rattle.frozen_model.specs.Values.{key_less}
use Rattle.layout_tree.specs.Nodes.{at}
use Rattle.key_order.specs.Keys.{value_of}
use Rattle.layout_tree.specs.Reading.{kind_at}
use Rattle.content_check.specs.Steps.{rank_at, IsOfKind}
use Rattle.content_check.specs.Agreeing.{key_value}
use Rattle.content_check.proofs.KeyOrders.{key_err, key_below, not_above, one_kind}
use Rattle.content_check.proofs.keys.check_key.Goals as goal

pub returns-in-Err-clause-agrees : goal.returns-in-Err-clause-agrees
returns-in-Err-clause-agrees c =
    let a = c.args in
    key_err a.content.now (at a.layouts.now a.node) a.start (key_value a.before) a.bit a.reach c.in-Err.fault
    c.requires.key c.in-Err.ensures.agrees

pub returns-in_default-clause-agrees : goal.returns-in_default-clause-agrees
returns-in_default-clause-agrees c =
    let a = c.args in
    let bs = a.content.now in
    let l = at a.layouts.now a.node in
    let i = c.in-Ok in
    let f : key_less (value_of c.in-Some.last) (value_of i.key)
    ≡ false = not_above (key_less (value_of c.in-Some.last) (value_of i.key))
    (λ e. c.in_default.not-Less
    ((c.compare_keys.ensures.less (one_kind c.in-Some.last i.key (rank_at (kind_at l))
    (subst (λ k. IsOfKind l k) c.in-Some.is c.requires.before) i.ensures.kind)).1 e)) in
    let below = key_below bs l a.start (Some (value_of c.in-Some.last)) a.bit a.reach i.after (value_of i.key)
    c.requires.key i.ensures.agrees i.ensures.value f in
    subst (λ k. Agrees bs (walk bs l a.start k a.bit a.reach.next a.reach.cells) a.reach
    (Err (s.KeyOrder a.bit))) (sym (ap key_value c.in-Some.is)) below

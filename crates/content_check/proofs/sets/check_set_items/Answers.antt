use Rattle.std.proofs.Common.{◌≡◌, ◌+◌, ◌-◌, arith, ap, sym, ◌∙◌, subst, refl, Some, Ok, Err, ℕ}
use Rattle.frozen_model.specs.Layouts.{Layout}
use Rattle.frozen_model.specs.Walk.{walk}
use Rattle.layout_tree.specs.Nodes.{at}
use Rattle.layout_tree.specs.Listing.{sub, tree_of, version_of}
use Rattle.layout_tree.specs.Reading.{item_of}
use Rattle.layout_tree.proofs.Children.{item_child, node_small}
use Rattle.layout_tree.proofs.Numbers.{item_is}
use Rattle.content_check.specs.Agreeing.{IsHere, Agrees}
use Rattle.content_check.proofs.Walks.{EachLeft, each_start, each_here, each_ok, each_err, each_done, walks}
use Rattle.key_order.specs.Keys.{value_of}
use Rattle.content_check.specs.Steps.{IsOfKind}
use Rattle.content_check.specs.Agreeing.{key_value}
use Rattle.frozen_model.specs.Trees.{ASet, IsKey}
use Rattle.frozen_model.specs.Values.{Value, key_of}
use Rattle.content_check.proofs.SetForms.{key_self}
use Rattle.content_check.proofs.sets.check_set_items.Goals as goal

pub loop-left-init : goal.loop-left-init
loop-left-init c =
    let a = c.args in (
      each_start a.content.now ASet (item_of (at a.layouts.now a.node)) a.start a.n a.from a.n refl
          c.requires.here,
      tt,
    )

pub overflow_add-node : goal.overflow_add-node
overflow_add-node c =
    let l = c.args.layouts.now in
    omega (
      arith,
      node_small l.version l.nodes.items (sub (tree_of l.nodes.items) c.args.node) c.args.node
          l.listing l.sound c.requires.node,
    )

pub check_key-requires : goal.check_key-requires
check_key-requires c =
    let a = c.args in
    let y = a.layouts.now in
    let l = at y a.node in
    let k = c.loop-left in
    let ch = item_child (tree_of y.nodes.items) (version_of y.version) a.node c.requires.node
    c.requires.holder in
    let h = each_here a.content.now ASet (item_of l) a.start a.n a.from (key_value k.before) k.left k.bit
    k.reach (omega (arith, c.loop-left-test.true)) k.invariant.0 in
    record {
      node = ch.node;
      key = subst (λ (z : Layout). IsKey z) (sym ch.is) c.requires.key;
      here = subst (λ (z : Layout). IsHere a.content.now z a.start k.bit k.reach) (sym ch.is) h;
      before = subst (λ (z : Layout). IsOfKind z k.before) (sym ch.is) k.invariant.1;
    }

pub returns-in-Err : goal.returns-in-Err
returns-in-Err c =
    let a = c.args in
    let y = a.layouts.now in
    let l = at y a.node in
    let k = c.loop-left in
    let ch = item_child (tree_of y.nodes.items) (version_of y.version) a.node c.requires.node
    c.requires.holder in
    let s = subst (λ (z : Layout). Agrees a.content.now
    (walk a.content.now z a.start (key_value k.before) k.bit k.reach.next k.reach.cells) k.reach
    (Err c.in-Err.fault)) ch.is c.in-Err.ensures.agrees in
    each_err a.content.now ASet (item_of l) a.start a.n a.from (key_value k.before) k.left k.bit k.reach
    c.in-Err.fault k.invariant.0 (omega (arith, c.loop-left-test.true)) s

pub overflow_add-bit : goal.overflow_add-bit
overflow_add-bit c =
    let a = c.args in
    let y = a.layouts.now in
    let l = at y a.node in
    let k = c.loop-left in
    let h = each_here a.content.now ASet (item_of l) a.start a.n a.from (key_value k.before) k.left k.bit
    k.reach (omega (arith, c.loop-left-test.true)) k.invariant.0 in
    omega (arith, h.inside, h.small, (c.stride-stride.ensures.stride ∙ sym (item_is l c.requires.holder)))

pub loop-left-preserved : goal.loop-left-preserved
loop-left-preserved c =
    let a = c.args in
    let y = a.layouts.now in
    let l = at y a.node in
    let k = c.loop-left in
    let m = item_of l in
    let after = c.in-Ok.after in
    let key = c.in-Ok.key in
    let ch = item_child (tree_of y.nodes.items) (version_of y.version) a.node c.requires.node
    c.requires.holder in
    let s = subst (λ (z : Layout). Agrees a.content.now
    (walk a.content.now z a.start (key_value k.before) k.bit k.reach.next k.reach.cells) k.reach
    (Ok after)) ch.is c.in-Ok.ensures.agrees in
    let val = subst (λ (z : Layout). (x : Value × ℕ × ℕ)
    → walk a.content.now z a.start (key_value k.before) k.bit k.reach.next k.reach.cells ≡ Ok x → x.0
    ≡ value_of key) ch.is c.in-Ok.ensures.value in
    let w = walks (walk a.content.now m a.start (key_value k.before) k.bit k.reach.next k.reach.cells)
    after.next after.cells (sym s.same) in
    let ev : w.is.0 ≡ value_of key = val w.is w.ok in
    let e = each_ok a.content.now ASet m a.start a.n a.from (key_value k.before) k.left k.bit k.reach after
    (k.left - 1) (k.bit + c.stride-stride.result) k.invariant.0 (omega (arith, c.loop-left-test.true)) s w
    (ap (λ z. k.bit + z) (c.stride-stride.ensures.stride ∙ sym (item_is l c.requires.holder))) in
    let en : Some (key_of w.is.0) ≡ key_value (Some key) = ap (λ v. Some (key_of v)) ev
    ∙ ap (λ v. Some v) (key_self key) in (
      subst (λ q. EachLeft a.content.now ASet m a.start a.n a.from q (k.left - 1)
          (k.bit + c.stride-stride.result) after) en e,
      subst (λ (z : Layout). IsOfKind z (Some key)) ch.is
          c.in-Ok.ensures.kind,
    )

pub returns : goal.returns
returns c =
    let a = c.args in
    let k = c.loop-left in
    each_done a.content.now ASet (item_of (at a.layouts.now a.node)) a.start a.n a.from (key_value k.before)
    k.left k.bit k.reach k.invariant.0 (omega (arith, c.loop-left-test.false))

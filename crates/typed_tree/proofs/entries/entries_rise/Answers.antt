-- One key after another is above the one before.
use Rattle.std.proofs.Common.{◌∙◌, ◌-◌, sym, subst, slice_index_or, arith, rules}
use Rattle.std.proofs.lemmas.List.{length-map}
use Rattle.frozen_model.specs.Values.{Absent}
use Rattle.key_order.specs.Keys.{AreOneKind, AreRising}
use Rattle.typed_tree.specs.Pools.{values_of}
use Rattle.typed_tree.specs.Tables.{evens}
use Rattle.typed_tree.proofs.Keyed.{one-kind-at, rising-more}
use Rattle.typed_tree.proofs.Paired.{half-evens, keys-of-pairs, key-at, key-before-at}
use Rattle.typed_tree.proofs.entries.entries_rise.Goals as goal

pub is_before-requires-clause-kind : goal.is_before-requires-clause-kind
is_before-requires-clause-kind c =
    let vs = values_of c.args.pool.now in
    let ks = c.args.nodes.now in
    let i = c.loop-later.later in
    let kind = subst AreOneKind (sym (keys-of-pairs vs ks)) c.requires.kind in
    let many = half-evens ks in
    rw (key-at vs ks i (omega (arith, c.loop-later-test.true)), key-before-at vs ks i c.loop-later.auto.later (omega (arith, c.loop-later-test.true)))
    (one-kind-at vs (evens ks) (i - 1) i 0 kind (omega (arith, c.loop-later-test.true, many)) (omega (arith, c.loop-later-test.true, many)))

pub loop-later-preserved : goal.loop-later-preserved
loop-later-preserved c =
    let vs = values_of c.args.pool.now in
    let ks = c.args.nodes.now in
    let i = c.loop-later.later in
    let less = sym c.is_before.ensures ∙ search rules in
    rising-more vs (evens ks) i 0 c.loop-later.auto.later (omega (arith, c.loop-later-test.true, half-evens ks)) c.loop-later.invariant
    (rw (sym (key-at vs ks i (omega (arith, c.loop-later-test.true))), sym (key-before-at vs ks i c.loop-later.auto.later (omega (arith, c.loop-later-test.true)))) less)

pub returns : goal.returns
returns c = λ h.
    let vs = values_of c.args.pool.now in
    let ks = c.args.nodes.now in
    subst AreRising (keys-of-pairs vs ks) (λ k d lt. c.loop-later.invariant k d (omega (arith, lt, c.loop-later-test.false, half-evens ks, length-map (evens ks) (λ k. slice_index_or vs k Absent))))

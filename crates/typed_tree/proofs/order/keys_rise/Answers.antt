-- One key after another is above the one before.
use Rattle.std.proofs.Common.{◌∙◌, ◌-◌, sym, slice_index_or, arith, rules}
use Rattle.std.proofs.lemmas.List.{length-map}
use Rattle.frozen_model.specs.Values.{Absent}
use Rattle.typed_tree.specs.Pools.{values_of}
use Rattle.typed_tree.proofs.Keyed.{one-kind-at, rising-more}
use Rattle.typed_tree.proofs.order.keys_rise.Goals as goal

pub is_before-requires-clause-kind : goal.is_before-requires-clause-kind
is_before-requires-clause-kind c = one-kind-at (values_of c.args.pool.now) c.args.nodes.now (c.loop-later.later - 1) c.loop-later.later 0 c.requires.kind (omega (arith, c.loop-later-test.true)) c.loop-later-test.true

pub loop-later-preserved : goal.loop-later-preserved
loop-later-preserved c =
    rising-more (values_of c.args.pool.now) c.args.nodes.now c.loop-later.later 0 c.loop-later.auto.later c.loop-later-test.true c.loop-later.invariant (sym c.is_before.ensures ∙ search rules)

pub returns : goal.returns
returns c = λ h k d lt. c.loop-later.invariant k d (omega (arith, lt, c.loop-later-test.false, length-map c.args.nodes.now (λ k. slice_index_or (values_of c.args.pool.now) k Absent)))

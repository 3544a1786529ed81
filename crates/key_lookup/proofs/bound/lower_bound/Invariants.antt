use Rattle.std.proofs.Common.{◌+◌, ◌-◌, ◌≤◌, length}
use Rattle.frozen_model.specs.Bits.{digits}
use Rattle.key_lookup.specs.Order.{IsRising}
use Rattle.key_lookup.proofs.Halving.{Halved, IsNotBelow}
use Rattle.key_lookup.proofs.bound.lower_bound.Given as goal

abbrev pub decreases-loop-low : goal.decreases-loop-low
decreases-loop-low g l = l.high - l.low

abbrev pub invariant-loop-low : goal.invariant-loop-low
invariant-loop-low g l = record {
  halved : Halved IsNotBelow g.K.Keys.order (g.K.Keys.keys l.keys) (g.K.Keys.meaning l.key) l.low l.high;
  rising : IsRising g.K.Keys.order (g.K.Keys.keys l.keys);
  cost : l.steps + digits (l.high - l.low) ≤ l.initial.steps + digits (length (g.K.Keys.keys l.keys));
}

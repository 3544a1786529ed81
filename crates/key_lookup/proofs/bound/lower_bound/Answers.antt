use Rattle.std.proofs.Common.{◌+◌, ◌-◌, ◌/◌, arith, sym, ◌∙◌}
use Rattle.key_lookup.proofs.Halving.{not_less, to_the_right, to_the_left_from, step_costs, bound_is}
use Rattle.key_lookup.proofs.bound.lower_bound.Goals as goal

pub loop-low-preserved-in-Less : goal.loop-low-preserved-in-Less
loop-low-preserved-in-Less g c =
    let ks = g.K.Keys.keys c.args.keys.now in
    let key = g.K.Keys.meaning c.args.key.now in
    let middle = c.loop-low.low + (c.loop-low.high - c.loop-low.low) / 2 in
    record {
      halved = to_the_right _ g.K.Keys.order ks key key c.loop-low.low c.loop-low.high middle g.met.K.Keys.lawful c.loop-low.invariant.rising c.loop-low.invariant.halved (omega arith)
          (sym c.compare.ensures.answer ∙ c.in-Less.is);
      rising = c.loop-low.invariant.rising;
      cost = step_costs c.loop-low.steps c.compare.new.steps (c.loop-low.high - c.loop-low.low) _ _ _ c.loop-low.invariant.cost c.compare.ensures.step (omega arith) (omega arith);
    }

pub loop-low-preserved : goal.loop-low-preserved
loop-low-preserved g c =
    let ks = g.K.Keys.keys c.args.keys.now in
    let key = g.K.Keys.meaning c.args.key.now in
    let middle = c.loop-low.low + (c.loop-low.high - c.loop-low.low) / 2 in
    record {
      halved = to_the_left_from g.K.Keys.order ks key key c.loop-low.low c.loop-low.high middle g.met.K.Keys.lawful c.loop-low.invariant.rising c.loop-low.invariant.halved (omega arith) (omega arith)
          (not_less c.compare.result _ c.compare.ensures.answer c.in-Equal.is);
      rising = c.loop-low.invariant.rising;
      cost = step_costs c.loop-low.steps c.compare.new.steps (c.loop-low.high - c.loop-low.low) _ _ _ c.loop-low.invariant.cost c.compare.ensures.step (omega arith) (omega arith);
    }

pub returns-clause-below : goal.returns-clause-below
returns-clause-below g c = bound_is g.K.Keys.order (g.K.Keys.keys c.args.keys.now) (g.K.Keys.meaning c.args.key.now) c.loop-low.low c.loop-low.high c.loop-low.invariant.halved (omega arith)

use Rattle.std.proofs.Common.{◌+◌, ◌-◌, ◌/◌, arith, sym, ◌∙◌}
use Rattle.key_lookup.proofs.Halving.{found, to_the_right, to_the_left, step_costs}
use Rattle.key_lookup.proofs.find.search.Goals as goal

pub loop-low-preserved-in-Less : goal.loop-low-preserved-in-Less
loop-low-preserved-in-Less g c =
    let ks = g.K.Keys.keys c.args.keys.now in
    let key = g.K.Keys.meaning c.args.key.now in
    let middle = c.loop-low.low + (c.loop-low.high - c.loop-low.low) / 2 in
    record {
      halved = to_the_right _ g.K.Keys.order ks key key c.loop-low.low c.loop-low.high middle g.met.K.Keys.lawful c.loop-low.invariant.rising c.loop-low.invariant.halved (omega arith)
          (sym c.compare.ensures.answer ∙ c.in-Less.is);
      rising = c.loop-low.invariant.rising;
      cost = step_costs c.loop-low.steps c.compare.new.steps (c.loop-low.high - c.loop-low.low) _ _ _ c.loop-low.invariant.cost c.compare.ensures.step (omega arith) (omega arith);
    }

pub returns-in-Equal-clause-place : goal.returns-in-Equal-clause-place
returns-in-Equal-clause-place g c =
    found g.K.Keys.order (g.K.Keys.keys c.args.keys.now) (g.K.Keys.meaning c.args.key.now) (c.loop-low.low + (c.loop-low.high - c.loop-low.low) / 2) g.met.K.Keys.lawful
    (omega (arith, c.loop-low.invariant.halved.within)) (sym c.compare.ensures.answer ∙ c.in-Equal.is)

pub returns-in-Equal-clause-cost : goal.returns-in-Equal-clause-cost
returns-in-Equal-clause-cost g c =
    let left = step_costs c.loop-low.steps c.compare.new.steps (c.loop-low.high - c.loop-low.low) 0 _ _ c.loop-low.invariant.cost c.compare.ensures.step (omega arith) (omega arith) in
    omega (arith, left)

pub loop-low-preserved : goal.loop-low-preserved
loop-low-preserved g c =
    let ks = g.K.Keys.keys c.args.keys.now in
    let key = g.K.Keys.meaning c.args.key.now in
    let middle = c.loop-low.low + (c.loop-low.high - c.loop-low.low) / 2 in
    record {
      halved = to_the_left g.K.Keys.order ks key key c.loop-low.low c.loop-low.high middle g.met.K.Keys.lawful c.loop-low.invariant.rising c.loop-low.invariant.halved (omega arith) (omega arith)
          (sym c.compare.ensures.answer ∙ c.in-Greater.is);
      rising = c.loop-low.invariant.rising;
      cost = step_costs c.loop-low.steps c.compare.new.steps (c.loop-low.high - c.loop-low.low) _ _ _ c.loop-low.invariant.cost c.compare.ensures.step (omega arith) (omega arith);
    }

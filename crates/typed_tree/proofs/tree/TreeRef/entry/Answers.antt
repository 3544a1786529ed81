-- The two parts are those that the links of a pair lead to.
use Rattle.typed_tree.specs.Made.{PairMade, ByTurns}
use Rattle.typed_tree.specs.Ranges.{pair_kinds}
use Rattle.std.proofs.Common.{◌∙◌, ◌*◌, ◌+◌, ap, sym, arith, subst}
use Rattle.frozen_model.specs.Values.{nth}
use Rattle.typed_tree.specs.Pools.{values_of, store_of}
use Rattle.typed_tree.proofs.Reading.{there-pairs, nth-pairs, below-there, same-pair}
use Rattle.typed_tree.proofs.Making.{turn-link}
use Rattle.typed_tree.proofs.tree.TreeRef.entry.Goals as goal

pub overflow_mul-at : goal.overflow_mul-at
overflow_mul-at c =
    let both = there-pairs (values_of c.args.self.pool.now) c.turns-links.result.now c.args.i _ (c.turns-links.ensures.pairs c.requires.map) c.requires.inside in
    omega (arith, both, c.turns-links.ensures.few)

pub offset_bounds-links-at : goal.offset_bounds-links-at
offset_bounds-links-at c =
    let both = there-pairs (values_of c.args.self.pool.now) c.turns-links.result.now c.args.i _ (c.turns-links.ensures.pairs c.requires.map) c.requires.inside in
    omega (arith, both, c.turns-links.ensures.few)

pub bounds-links-at : goal.bounds-links-at
bounds-links-at c =
    let both = there-pairs (values_of c.args.self.pool.now) c.turns-links.result.now c.args.i _ (c.turns-links.ensures.pairs c.requires.map) c.requires.inside in
    omega (arith, both)

pub part-requires : goal.part-requires
part-requires c =
    let both = there-pairs (values_of c.args.self.pool.now) c.turns-links.result.now c.args.i _ (c.turns-links.ensures.pairs c.requires.map) c.requires.inside in
    below-there c.args.self.node c.turns-links.result.now (2 * c.args.i) _ c.turns-links.ensures.below (omega (arith, both))

pub overflow_add-at : goal.overflow_add-at
overflow_add-at c =
    let both = there-pairs (values_of c.args.self.pool.now) c.turns-links.result.now c.args.i _ (c.turns-links.ensures.pairs c.requires.map) c.requires.inside in
    omega (arith, both, c.turns-links.ensures.few)

pub offset_bounds-links-at-2 : goal.offset_bounds-links-at-2
offset_bounds-links-at-2 c =
    let both = there-pairs (values_of c.args.self.pool.now) c.turns-links.result.now c.args.i _ (c.turns-links.ensures.pairs c.requires.map) c.requires.inside in
    omega (arith, both, c.turns-links.ensures.few)

pub bounds-links-at-2 : goal.bounds-links-at-2
bounds-links-at-2 c =
    there-pairs (values_of c.args.self.pool.now) c.turns-links.result.now c.args.i _ (c.turns-links.ensures.pairs c.requires.map) c.requires.inside

pub part-requires-2 : goal.part-requires-2
part-requires-2 c =
    let both = there-pairs (values_of c.args.self.pool.now) c.turns-links.result.now c.args.i _ (c.turns-links.ensures.pairs c.requires.map) c.requires.inside in
    below-there c.args.self.node c.turns-links.result.now (2 * c.args.i + 1) _ c.turns-links.ensures.below both

pub returns-clause-pair : goal.returns-clause-pair
returns-clause-pair c =
    let vs = values_of c.args.self.pool.now in
    let pairs = c.turns-links.ensures.pairs c.requires.map in
    let both = there-pairs vs c.turns-links.result.now c.args.i _ pairs c.requires.inside in
    ap (λ us. nth us c.args.i) (sym pairs) ∙ nth-pairs vs c.turns-links.result.now c.args.i _ both ∙ same-pair _ _ _ _ c.part.ensures.value c.part-2.ensures.value

pub returns-clause-made : goal.returns-clause-made
returns-clause-made c key value h =
    let p = c.args.self.pool.now in
    let st = store_of p in
    let ls = c.turns-links.result.now in
    let both = there-pairs (values_of p) ls c.args.i _ (c.turns-links.ensures.pairs c.requires.map) c.requires.inside in
    let R = PairMade st p.nodes.items (pair_kinds key value) in
    let made = turn-link st p.nodes.items R ls c.args.i _ _ (subst (ByTurns R) (sym (c.turns-links.ensures.parts c.requires.map)) h.1) both in
    (c.part.ensures.made key made.0, c.part-2.ensures.made value made.1.0)

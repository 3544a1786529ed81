-- The part is the one that its link leads to.
use Rattle.typed_tree.specs.Made.{MadeAt}
use Rattle.std.specs.List.{AllByRecursion}
use Rattle.std.proofs.Common.{◌∙◌, ap, sym, arith, length, subst, ◌<◌}
use Rattle.frozen_model.specs.Values.{nth}
use Rattle.typed_tree.specs.Pools.{values_of, store_of}
use Rattle.typed_tree.proofs.Reading.{count-links, nth-pick, below-there}
use Rattle.typed_tree.proofs.Making.{each-link}
use Rattle.typed_tree.proofs.tree.TreeRef.item.Goals as goal

pub bounds-items-i : goal.bounds-items-i
bounds-items-i c = omega (arith, c.requires.inside, count-links (values_of c.args.self.pool.now) c.items.result.now _ (c.items.ensures.items c.requires.row))

pub offset_bounds-items-i : goal.offset_bounds-items-i
offset_bounds-items-i c = omega (arith, c.requires.inside, c.items.ensures.few, count-links (values_of c.args.self.pool.now) c.items.result.now _ (c.items.ensures.items c.requires.row))

pub part-requires : goal.part-requires
part-requires c = below-there c.args.self.node c.items.result.now c.args.i _ c.items.ensures.below (omega (arith, c.requires.inside, count-links (values_of c.args.self.pool.now) c.items.result.now _ (c.items.ensures.items c.requires.row)))

pub returns-clause-value : goal.returns-clause-value
returns-clause-value c =
    let vs = values_of c.args.self.pool.now in
    c.part.ensures.value ∙ sym (nth-pick vs c.items.result.now c.args.i _ (omega (arith, c.requires.inside, count-links vs c.items.result.now _ (c.items.ensures.items c.requires.row)))) ∙ ap (λ us. nth us c.args.i) (c.items.ensures.items c.requires.row)

pub returns-clause-of_list : goal.returns-clause-of_list
returns-clause-of_list c t h =
    let p = c.args.self.pool.now in
    let P = MadeAt (store_of p) p.nodes.items t in
    let inside : c.args.i < length c.items.result.now = omega (arith, c.requires.inside, count-links (values_of p) c.items.result.now _ (c.items.ensures.items c.requires.row)) in
    c.part.ensures.made t (each-link (store_of p) p.nodes.items P c.items.result.now c.args.i _ (subst (AllByRecursion P) (sym (c.items.ensures.parts c.requires.row)) h.1) inside)

pub returns-clause-of_set : goal.returns-clause-of_set
returns-clause-of_set c t h =
    let p = c.args.self.pool.now in
    let P = MadeAt (store_of p) p.nodes.items t in
    let inside : c.args.i < length c.items.result.now = omega (arith, c.requires.inside, count-links (values_of p) c.items.result.now _ (c.items.ensures.items c.requires.row)) in
    c.part.ensures.made t (each-link (store_of p) p.nodes.items P c.items.result.now c.args.i _ (subst (AllByRecursion P) (sym (c.items.ensures.parts c.requires.row)) h.1) inside)

-- The part is the one that its link leads to.
use Rattle.typed_tree.specs.Made.{AllMade, kind_at}
use Rattle.std.proofs.Common.{◌∙◌, ap, sym, arith, length, subst, ◌<◌}
use Rattle.frozen_model.specs.Values.{nth}
use Rattle.typed_tree.specs.Pools.{values_of, store_of}
use Rattle.typed_tree.proofs.Reading.{count-links, nth-pick, below-there}
use Rattle.typed_tree.proofs.Making.{field-link}
use Rattle.typed_tree.proofs.tree.TreeRef.field_at.Goals as goal

pub bounds-fields-i : goal.bounds-fields-i
bounds-fields-i c = omega (arith, c.requires, count-links (values_of c.args.self.pool.now) c.fields.result.now _ c.fields.ensures.fields)

pub offset_bounds-fields-i : goal.offset_bounds-fields-i
offset_bounds-fields-i c = omega (arith, c.requires, c.fields.ensures.few, count-links (values_of c.args.self.pool.now) c.fields.result.now _ c.fields.ensures.fields)

pub part-requires : goal.part-requires
part-requires c = below-there c.args.self.node c.fields.result.now c.args.i _ c.fields.ensures.below (omega (arith, c.requires, count-links (values_of c.args.self.pool.now) c.fields.result.now _ c.fields.ensures.fields))

pub returns-clause-value : goal.returns-clause-value
returns-clause-value c =
    let vs = values_of c.args.self.pool.now in
    c.part.ensures.value ∙ sym (nth-pick vs c.fields.result.now c.args.i _ (omega (arith, c.requires, count-links vs c.fields.result.now _ c.fields.ensures.fields))) ∙ ap (λ us. nth us c.args.i) c.fields.ensures.fields

pub returns-clause-made : goal.returns-clause-made
returns-clause-made c ls h =
    let p = c.args.self.pool.now in
    let inside : c.args.i < length c.fields.result.now = omega (arith, c.requires, count-links (values_of p) c.fields.result.now _ c.fields.ensures.fields) in
    c.part.ensures.made (kind_at ls c.args.i) (field-link (store_of p) p.nodes.items ls c.fields.result.now c.args.i _ (subst (AllMade (store_of p) p.nodes.items ls) (sym (c.fields.ensures.parts h.0)) h.2) inside)

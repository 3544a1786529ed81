-- The ids of the links rise, so the search finds the one link of an id.
use Rattle.typed_tree.specs.Made.{AllMade, kind_under}
use Rattle.std.proofs.Common.{◌∙◌, ◌<◌, ◌≤◌, ⊎_elim, Some, sym, ap, rules, arith, subst}
use Rattle.std.proofs.lemmas.List.Sorted.{answers_always}
use Rattle.typed_tree.specs.declared.spot.Link.{Link}
use Rattle.typed_tree.specs.Pools.{values_of, store_of}
use Rattle.typed_tree.proofs.Reading.{field-at, field-none, rising-searchable, equal-ids, other-less, other-greater, le-or-lt, same-fields}
use Rattle.typed_tree.proofs.Making.{under-link}
use Rattle.typed_tree.proofs.tree.TreeRef.numbered_field.Goals as goal

pub returns-in-Ok-clause-value : goal.returns-in-Ok-clause-value
returns-in-Ok-clause-value c =
    let vs = values_of c.args.self.pool.now in
    let ls = c.fields-links.result.now in
    let e = c.fields-links.ensures in
    let found = c.in-Ok.ensures.position (λ (l : Link). l.id) (answers_always _ _ _ (λ f a r g h. search rules)) in
    let is = field-at vs ls c.in-Ok.i _ c.args.id e.rising c.in-Ok.ensures.bound (equal-ids _ c.args.id (found _)) in
    ap Some c.part.ensures.value ∙ sym is ∙ same-fields _ _ _ _ c.args.id e.ids e.fields

pub returns-in-Err-clause-value : goal.returns-in-Err-clause-value
returns-in-Err-clause-value c =
    let vs = values_of c.args.self.pool.now in
    let ls = c.fields-links.result.now in
    let e = c.fields-links.ensures in
    let split = c.in-Err.ensures.position (λ (l : Link). l.id) (answers_always _ _ _ (λ f a r g h. search rules)) (rising-searchable ls c.args.id e.rising) in
    let none = field-none vs ls c.args.id (λ i d lt. ⊎_elim (λ (low : i < c.in-Err.field-0). other-less _ c.args.id (split.0 i d (omega arith) low)) (λ (high : c.in-Err.field-0 ≤ i). other-greater _ c.args.id (split.1 i d high lt)) (le-or-lt i c.in-Err.field-0)) in
    sym none ∙ same-fields _ _ _ _ c.args.id e.ids e.fields

pub returns-in-Ok-clause-made : goal.returns-in-Ok-clause-made
returns-in-Ok-clause-made c made h =
    let p = c.args.self.pool.now in
    let st = store_of p in
    let ls = c.fields-links.result.now in
    let e = c.fields-links.ensures in
    let found = c.in-Ok.ensures.position (λ (l : Link). l.id) (answers_always _ _ _ (λ f a r g h. search rules)) in
    c.part.ensures.made (kind_under made c.args.id) (under-link st p.nodes.items made ls c.in-Ok.i _ c.args.id e.rising (e.under h.0 ∙ h.1) (subst (AllMade st p.nodes.items made) (sym (e.parts h.0)) h.2) c.in-Ok.ensures.bound (equal-ids _ c.args.id (found _)))

-- The links are the last ones, and sorted.
use Rattle.std.proofs.Common.{◌∙◌, length, map, nat_lt, sym, ap}
use Rattle.std.specs.Prelude.{zip}
use Rattle.std.proofs.lemmas.List.{length-map}
use Rattle.base_lists.specs.InOrder.{in_order}
use Rattle.typed_tree.specs.Fields.{field_link, id_number, id_numbers}
use Rattle.typed_tree.specs.declared.spot.Link.{Link}
use Rattle.typed_tree.specs.Pools.{store_of}
use Rattle.typed_tree.proofs.Grow.{fits-stays}
use Rattle.typed_tree.proofs.Growing.{added-part, grows-links}
use Rattle.typed_tree.proofs.Keyed.{all-back}
use Rattle.typed_tree.specs.Spots.{ids_rise}
use Rattle.typed_tree.proofs.Structs.{fields-added, fields-differ, in_order-rise, length-in_order, length-fields}
use Rattle.typed_tree.proofs.pool.Pool.add_fields.Goals as goal

pub invariant_of-self : goal.invariant_of-self
invariant_of-self c =
    let p = c.args.self.now in
    let fs = map field_link (zip (id_numbers c.args.ids.now) c.args.nodes.now) in
    let differ = fields-differ c.args.ids.now c.args.nodes.now c.push_fields.ensures.in_range c.requires.differ in
    let first = c.len-first.ensures ∙ p.links.ok.0 in
    let back = all-back c.sort_from.new.links c.push_fields.new.links.items c.push_fields.new.links.len (c.push_fields.new.links.ok.0) (c.sort_from.ensures.len ∙ ap (λ zs. length zs) c.as_mut_slice.ensures.value) in
    let links = back ∙ fields-added p.links.items c.len-first.result c.as_mut_slice.result.now c.sort_from.new.links fs first (c.as_mut_slice.ensures.value ∙ c.push_fields.ensures.added) c.sort_from.ensures.kept c.sort_from.ensures.sorted c.sort_from.ensures.moved differ in
    record { ordered = fits-stays (store_of p) _ (grows-links (store_of p) (in_order nat_lt (λ (l : Link). l.id) fs) _ links) 0 p.nodes.items p.ordered }

pub returns-clause-grows : goal.returns-clause-grows
returns-clause-grows c =
    let p = c.args.self.now in
    let fs = map field_link (zip (id_numbers c.args.ids.now) c.args.nodes.now) in
    let differ = fields-differ c.args.ids.now c.args.nodes.now c.push_fields.ensures.in_range c.requires.differ in
    let first = c.len-first.ensures ∙ p.links.ok.0 in
    let back = all-back c.sort_from.new.links c.push_fields.new.links.items c.push_fields.new.links.len (c.push_fields.new.links.ok.0) (c.sort_from.ensures.len ∙ ap (λ zs. length zs) c.as_mut_slice.ensures.value) in
    let links = back ∙ fields-added p.links.items c.len-first.result c.as_mut_slice.result.now c.sort_from.new.links fs first (c.as_mut_slice.ensures.value ∙ c.push_fields.ensures.added) c.sort_from.ensures.kept c.sort_from.ensures.sorted c.sort_from.ensures.moved differ in
    grows-links (store_of p) (in_order nat_lt (λ (l : Link). l.id) fs) _ links

pub returns-clause-added : goal.returns-clause-added
returns-clause-added c =
    let p = c.args.self.now in
    let fs = map field_link (zip (id_numbers c.args.ids.now) c.args.nodes.now) in
    let differ = fields-differ c.args.ids.now c.args.nodes.now c.push_fields.ensures.in_range c.requires.differ in
    let first = c.len-first.ensures ∙ p.links.ok.0 in
    let back = all-back c.sort_from.new.links c.push_fields.new.links.items c.push_fields.new.links.len (c.push_fields.new.links.ok.0) (c.sort_from.ensures.len ∙ ap (λ zs. length zs) c.as_mut_slice.ensures.value) in
    let links = back ∙ fields-added p.links.items c.len-first.result c.as_mut_slice.result.now c.sort_from.new.links fs first (c.as_mut_slice.ensures.value ∙ c.push_fields.ensures.added) c.sort_from.ensures.kept c.sort_from.ensures.sorted c.sort_from.ensures.moved differ in
    added-part p.links.items (in_order nat_lt (λ (l : Link). l.id) fs) _ c.len-first.result (length c.args.nodes.now) links first (sym (length-in_order fs ∙ length-fields (id_numbers c.args.ids.now) c.args.nodes.now (length-map c.args.ids.now id_number ∙ c.requires.as_many)))

pub returns-clause-rise : goal.returns-clause-rise
returns-clause-rise c =
    let fs = map field_link (zip (id_numbers c.args.ids.now) c.args.nodes.now) in
    ap ids_rise (returns-clause-added c) ∙ in_order-rise fs (fields-differ c.args.ids.now c.args.nodes.now c.push_fields.ensures.in_range c.requires.differ)

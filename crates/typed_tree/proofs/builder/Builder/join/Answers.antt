-- The last trees become the items of one.
use Rattle.std.proofs.Common.{◌≡◌, ◌∙◌, ◌+◌, ◌-◌, List, ap, refl, drop, length, vec_len, vec_capacity, arith, map}
use Rattle.frozen_model.specs.Values.{Value}
use Rattle.typed_tree.specs.Pools.{store_of, values_of}
use Rattle.typed_tree.specs.Spots.{fits_at, value_of, item_link}
use Rattle.typed_tree.specs.References.{spot_kind}
use Rattle.typed_tree.specs.Trees.{trees_in, joined}
use Rattle.typed_tree.proofs.Builders.{values-kept, cut-trees, cut-kinds, joins-after, joined-value, joined-fits, joined-kind, trees-from}
use Rattle.typed_tree.proofs.Stack.{items-fit, below-cut-is, below-rest-is, rest-is, length-rest, below-drop}
use Rattle.typed_tree.proofs.Making.{join-made, makes-cut, trees-many}
use Rattle.typed_tree.proofs.builder.Builder.join.Goals as goal

pub invariant_of-self : goal.invariant_of-self
invariant_of-self c =
    let b = c.args.self.now in
    let p = c.add_items-run.ensures in
    let q = c.truncate.ensures in
    let nodes = ap (λ v. vec_len v) p.nodes in
    let capacity = ap (λ v. vec_capacity v) p.nodes in
    let taken = ap (λ s. s.taken) p.bytes in
    let size = ap (λ s. length s.bytes) p.bytes in
    let many = length-rest c.args.base c.deref.result.now in
    let all = ap (λ zs. length zs) c.deref.ensures.value in
    record {
      placed = below-cut-is b.pool.nodes.items _ b.stack.items _ c.args.base b.placed (ap (λ v. v.items) p.nodes) q.items;
      linked = omega (arith, b.linked, p.len, many, all, nodes, q.len, c.requires.base, b.stack.ok.0);
      few = omega (arith, b.few, nodes);
      few_bytes = b.few_bytes;
      for_nodes = omega (arith, b.for_nodes, nodes, capacity);
      for_links = omega (arith, b.for_links, nodes, p.capacity);
      for_numbers = omega (arith, b.for_numbers, q.len, q.capacity);
      for_bytes = omega (arith, b.for_bytes, taken, size);
    }

pub put-requires-clause-fit : goal.put-requires-clause-fit
put-requires-clause-fit c =
    let b = c.args.self.now in
    let st = store_of c.add_items-run.new.self in
    let n = length c.add_items-run.new.self.nodes.items in
    let run = c.add_items-run.result in
    let low =
    below-rest-is b.pool.nodes.items c.add_items-run.new.self.nodes.items b.stack.items _ c.args.base b.placed (ap (λ v. v.items) c.add_items-run.ensures.nodes)
    (rest-is c.args.base c.deref.result.now ∙ ap (drop c.args.base) c.deref.ensures.value) in
    ap (fits_at st n) c.joined_spot.ensures ∙ joined-fits c.args.to st n run (items-fit st n run _ c.add_items-run.ensures.inside c.add_items-run.ensures.added low)

pub returns-clause-joined : goal.returns-clause-joined
returns-clause-joined c =
    let b = c.args.self.now in
    let q = c.add_items-run.new.self in
    let p = c.add_items-run.ensures in
    let n = length b.stack.items - c.args.base in
    let nodes = ap (λ v. v.items) p.nodes in
    let place : c.args.base + n ≡ length b.stack.items = omega (arith, c.requires.base) in
    let kept = values-kept b q p.grows nodes c.args.base n _ c.truncate.ensures.items place in
    joins-after b _ c.put.new.self n _ _ _ _ _ _ c.put.ensures.pushed
    (cut-trees b q p.grows nodes c.args.base n _ c.truncate.ensures.items place)
    (cut-kinds b q p.grows nodes c.args.base n _ c.truncate.ensures.items place)
    (ap (value_of (store_of q) (values_of q)) c.joined_spot.ensures ∙ joined-value c.args.to (store_of q) (values_of q) c.add_items-run.result _ p.added
    ∙ ap (joined c.args.to) (trees-from q b.stack.items c.args.base c.deref.result.now c.deref.ensures.value ∙ ap (λ (vs : List Value). drop c.args.base (trees_in vs b.stack.items)) kept))
    (ap spot_kind c.joined_spot.ensures ∙ joined-kind c.args.to c.add_items-run.result) refl

pub returns-clause-made : goal.returns-clause-made
returns-clause-made c t h =
    let b = c.args.self.now in
    let q = c.add_items-run.new.self in
    let p = c.add_items-run.ensures in
    let base = c.args.base in
    let nodes = ap (λ v. v.items) p.nodes in
    let slice = rest-is base c.deref.result.now ∙ ap (drop base) c.deref.ensures.value in
    let links = p.added ∙ ap (map item_link) slice in
    let low = below-drop (length b.pool.nodes.items) base b.stack.items b.placed in
    let made = join-made b q p.grows nodes c.args.to t c.add_items-run.result _ _ c.joined_spot.ensures links low h in
    makes-cut b _ c.put.new.self base (length b.stack.items - base) _ (c.put.ensures.made _ made) p.grows nodes c.truncate.ensures.items c.requires.base (omega (arith, trees-many b, c.requires.base))

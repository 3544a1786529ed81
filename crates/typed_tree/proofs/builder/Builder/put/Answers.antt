-- One node more, and its number.
use Rattle.std.proofs.Common.{◌∙◌, ap, vec_len, vec_capacity, length, arith}
use Rattle.typed_tree.specs.Pools.{store_of}
use Rattle.typed_tree.proofs.Builders.{same-store, one-less}
use Rattle.typed_tree.proofs.Making.{makes-put}
use Rattle.typed_tree.proofs.Stack.{trees-put-is, kinds-put-is, below-put-is}
use Rattle.typed_tree.proofs.builder.Builder.put.Goals as goal

pub invariant_of-self : goal.invariant_of-self
invariant_of-self c =
    let b = c.args.self.now in
    let p = c.put.ensures in
    let q = c.push_reserved.ensures in
    let links = ap (λ v. vec_len v) p.links in
    let capacity = ap (λ v. vec_capacity v) p.links in
    let taken = ap (λ s. s.taken) p.bytes in
    let size = ap (λ s. length s.bytes) p.bytes in
    record {
      placed = below-put-is b.pool.nodes.items _ b.stack.items _ c.args.spot c.len-number.result b.placed (c.len-number.ensures ∙ b.pool.nodes.ok.0) p.nodes q.items;
      linked = omega (arith, b.linked, links, p.len, q.len);
      few = omega (arith, b.few, p.len, c.requires.room);
      few_bytes = b.few_bytes;
      for_nodes = omega (arith, b.for_nodes, p.len, p.capacity, c.requires.room);
      for_links = omega (arith, b.for_links, p.len, capacity, c.requires.room);
      for_numbers = omega (arith, b.for_numbers, q.len, q.capacity, c.requires.room);
      for_bytes = omega (arith, b.for_bytes, taken, size);
    }

pub returns-clause-pushed : goal.returns-clause-pushed
returns-clause-pushed c =
    let b = c.args.self.now in
    let p = c.put.ensures in
    let number = c.len-number.ensures ∙ b.pool.nodes.ok.0 in
    let store = same-store b.pool c.put.new.self p.links p.bytes in
    record {
      trees = trees-put-is (store_of b.pool) _ b.pool.nodes.items _ b.stack.items _ c.args.spot c.len-number.result b.placed number store p.nodes c.push_reserved.ensures.items;
      kinds = kinds-put-is b.pool.nodes.items _ b.stack.items _ c.args.spot c.len-number.result b.placed number p.nodes c.push_reserved.ensures.items;
      room = one-less b.room.nodes b.room.bytes;
    }

pub returns-clause-made : goal.returns-clause-made
returns-clause-made c t h =
    let b = c.args.self.now in
    let p = c.put.ensures in
    let number = c.len-number.ensures ∙ b.pool.nodes.ok.0 in
    makes-put b _ c.args.spot c.len-number.result t (same-store b.pool c.put.new.self p.links p.bytes) p.nodes c.push_reserved.ensures.items number c.requires.fit h

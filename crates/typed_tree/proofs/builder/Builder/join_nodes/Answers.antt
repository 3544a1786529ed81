-- Other numbers stand at the end of the stack, and are then joined.
use Rattle.std.proofs.Common.{◌∙◌, ◌≤◌, ◌-◌, ℕ, ap, refl, nat_lt, length, get_or, arith, take, ◌++◌}
use Rattle.std.specs.List.{list_all}
use Rattle.frozen_model.specs.Values.{Absent}
use Rattle.typed_tree.specs.declared.spot.Spot.TheVariants as s
use Rattle.typed_tree.specs.References.{spot_kind}
use Rattle.typed_tree.specs.Pools.{store_of, values_of}
use Rattle.typed_tree.specs.Rooms.{room_of}
use Rattle.typed_tree.specs.Trees.{trees_in, kinds_in, joined, but_last}
use Rattle.typed_tree.proofs.Builders.{grown-values, joins-of, left-from, replaced-first, replaced-last}
use Rattle.typed_tree.proofs.Growing.{grows-same}
use Rattle.typed_tree.proofs.Stack.{below-replaced}
use Rattle.typed_tree.proofs.Making.{makes-nodes, trees-many}
use Rattle.typed_tree.proofs.builder.Builder.join_nodes.Goals as goal

pub invariant_of-self : goal.invariant_of-self
invariant_of-self c =
    let b = c.make_room.new.self in
    let q = c.replace_from.ensures in
    let e = c.in_ok-make_room.ensures in
    let stack = ap (λ zs. length zs) e.stack in
    record {
      placed = below-replaced (length b.pool.nodes.items) c.args.base b.stack.items c.args.nodes.now _ b.placed (ap (λ xs. list_all (λ k. nat_lt k (length xs)) c.args.nodes.now) e.nodes ∙ c.requires.there) q.items;
      linked = omega (arith, b.linked, q.len, c.requires.as_many, stack, b.stack.ok.0);
      few = b.few;
      few_bytes = b.few_bytes;
      for_nodes = b.for_nodes;
      for_links = b.for_links;
      for_numbers = omega (arith, b.for_numbers, q.len, q.capacity, c.requires.as_many, stack, b.stack.ok.0);
      for_bytes = b.for_bytes;
    }

pub returns-clause-joined : goal.returns-clause-joined
returns-clause-joined c =
    let a = c.args.self.now in
    let b = c.make_room.new.self in
    let e = c.in_ok-make_room.ensures in
    let ks = c.args.nodes.now in
    let base = c.args.base in
    let items = c.replace_from.ensures.items in
    let stack = ap (λ zs. length zs) e.stack in
    let there : base ≤ length b.stack.items = omega (arith, c.requires.base, stack) in
    let value = λ (k : ℕ). get_or (values_of b.pool) k Absent in
    let kind = λ (k : ℕ). spot_kind (get_or b.pool.nodes.items k s.Absent) in
    let values = grown-values a b (grows-same (store_of a.pool) (store_of b.pool) e.store) e.nodes in
    joins-of a _ c.join.new.self (length a.stack.items - base) _ _ _ _ _ (room_of 1 0) _ c.join.ensures.joined
    (replaced-first value base b.stack.items ks there _ items ∙ ap (λ n. but_last (n - base) (trees_in (values_of b.pool) b.stack.items)) stack ∙ ap (but_last (length a.stack.items - base)) e.same.0)
    (replaced-first kind base b.stack.items ks there _ items ∙ ap (λ n. but_last (n - base) (kinds_in b.pool b.stack.items)) stack ∙ ap (but_last (length a.stack.items - base)) e.same.1)
    (ap (joined c.args.to) (replaced-last value base b.stack.items ks there _ items ∙ ap (λ vs. trees_in vs ks) values))
    refl (left-from a.room b.room (room_of 1 0) e.room)

pub returns-clause-made : goal.returns-clause-made
returns-clause-made c t h =
    let a = c.args.self.now in
    let b = c.make_room.new.self in
    let e = c.in_ok-make_room.ensures in
    makes-nodes a _ c.join.new.self (length a.stack.items - c.args.base) c.args.base c.args.to t c.args.nodes.now c.join.ensures.made e.store e.nodes
    (c.replace_from.ensures.items ∙ ap (λ ks. take c.args.base ks ++ c.args.nodes.now) e.stack) c.requires.base (omega (arith, trees-many a, c.requires.base)) h

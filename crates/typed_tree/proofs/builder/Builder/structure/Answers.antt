-- The last trees become the fields of one.
use Rattle.frozen_model.specs.Trees.{Struct}
use Rattle.std.proofs.Common.{◌≡◌, ◌∙◌, ◌+◌, ◌-◌, List, ap, refl, drop, length, vec_len, vec_capacity, slice_index_or, arith, take, sym, subst}
use Rattle.std.proofs.lemmas.List.{length-map}
use Rattle.frozen_model.specs.Values.{Value, Absent}
use Rattle.typed_tree.specs.Fields.{id_number, id_numbers, record_of}
use Rattle.typed_tree.specs.Pools.{store_of, values_of, Grows}
use Rattle.typed_tree.specs.Parts.{ids_of as value_ids}
use Rattle.typed_tree.specs.Rooms.{room_of}
use Rattle.typed_tree.specs.Trees.{trees_in, trees, but_last}
use Rattle.typed_tree.proofs.Builders.{values-kept, cut-trees, cut-kinds, joins-after, trees-from, left-from}
use Rattle.typed_tree.proofs.Stack.{below-cut-is, below-rest-is, rest-is, length-rest}
use Rattle.typed_tree.proofs.Structs.{pick-fields, fields-fit}
use Rattle.typed_tree.proofs.Making.{makes-cut, struct-made, trees-many}
use Rattle.typed_tree.proofs.builder.Builder.structure.Goals as goal

pub invariant_of-self : goal.invariant_of-self
invariant_of-self c =
    let b = c.make_room.new.self in
    let p = c.add_fields-run.ensures in
    let q = c.truncate.ensures in
    let base = c.len.result - length c.args.ids.now in
    let nodes = ap (λ v. vec_len v) p.nodes in
    let capacity = ap (λ v. vec_capacity v) p.nodes in
    let taken = ap (λ s. s.taken) p.bytes in
    let size = ap (λ s. length s.bytes) p.bytes in
    let many = length-rest base c.deref.result.now in
    let all = ap (λ zs. length zs) c.deref.ensures.value in
    record {
      placed = below-cut-is b.pool.nodes.items _ b.stack.items _ base b.placed (ap (λ v. v.items) p.nodes) q.items;
      linked = omega (arith, b.linked, p.len, many, all, nodes, q.len, c.len.ensures, b.stack.ok.0);
      few = omega (arith, b.few, nodes);
      few_bytes = b.few_bytes;
      for_nodes = omega (arith, b.for_nodes, nodes, capacity);
      for_links = omega (arith, b.for_links, nodes, p.capacity);
      for_numbers = omega (arith, b.for_numbers, q.len, q.capacity);
      for_bytes = omega (arith, b.for_bytes, taken, size);
    }

pub put-requires-clause-fit : goal.put-requires-clause-fit
put-requires-clause-fit c =
    let b = c.make_room.new.self in
    let base = c.len.result - length c.args.ids.now in
    let p = c.add_fields-run.ensures in
    let low = below-rest-is b.pool.nodes.items c.add_fields-run.new.self.nodes.items b.stack.items _ base b.placed (ap (λ v. v.items) p.nodes) (rest-is base c.deref.result.now ∙ ap (drop base) c.deref.ensures.value) in
    fields-fit (store_of c.add_fields-run.new.self) _ c.add_fields-run.result (id_numbers c.args.ids.now) _ p.inside p.added low p.rise

pub returns-clause-joined : goal.returns-clause-joined
returns-clause-joined c =
    let a = c.args.self.now in
    let b = c.make_room.new.self in
    let e = c.in_ok-make_room.ensures in
    let q = c.add_fields-run.new.self in
    let p = c.add_fields-run.ensures in
    let n = length c.args.ids.now in
    let base = c.len.result - n in
    let nodes = ap (λ v. v.items) p.nodes in
    let stack = ap (λ zs. length zs) e.stack in
    let many = length-map a.stack.items (λ k. slice_index_or (values_of a.pool) k Absent) in
    let place : base + n ≡ length b.stack.items = omega (arith, c.len.ensures, b.stack.ok.0, stack, many, c.requires.there) in
    let here : base ≡ length (trees a) - n = omega (arith, c.len.ensures, b.stack.ok.0, stack, many) in
    let kept = values-kept b q p.grows nodes base n _ c.truncate.ensures.items place in
    joins-after a _ c.put.new.self n _ _ _ _ _ (room_of 1 0) c.put.ensures.pushed
    (cut-trees b q p.grows nodes base n _ c.truncate.ensures.items place ∙ ap (but_last n) e.same.0)
    (cut-kinds b q p.grows nodes base n _ c.truncate.ensures.items place ∙ ap (but_last n) e.same.1)
    (pick-fields (values_of q) (id_numbers c.args.ids.now) _ _ p.added
    ∙ ap (record_of (id_numbers c.args.ids.now)) (trees-from q b.stack.items base c.deref.result.now c.deref.ensures.value ∙ ap (λ (vs : List Value). drop base (trees_in vs b.stack.items)) kept ∙ ap (drop base) e.same.0 ∙ ap (λ i. drop i (trees a)) here))
    refl (left-from a.room b.room (room_of 1 0) e.room)

pub returns-clause-made : goal.returns-clause-made
returns-clause-made c ls ids under =
    let a = c.args.self.now in
    let b = c.make_room.new.self in
    let e = c.in_ok-make_room.ensures in
    let q = c.add_fields-run.new.self in
    let p = c.add_fields-run.ensures in
    let n = length c.args.ids.now in
    let numbers = id_numbers c.args.ids.now in
    let base = c.len.result - n in
    let nodes = ap (λ v. v.items) p.nodes in
    let stack = ap (λ zs. length zs) e.stack in
    let many = trees-many a in
    let place : base + n ≡ length b.stack.items = omega (arith, c.len.ensures, b.stack.ok.0, stack, many, c.requires.there) in
    let here : base ≡ length (trees a) - n = omega (arith, c.len.ensures, b.stack.ok.0, stack, many) in
    let kept = values-kept b q p.grows nodes base n _ c.truncate.ensures.items place in
    let slice = rest-is base c.deref.result.now ∙ ap (drop base) c.deref.ensures.value ∙ ap (drop base) e.stack ∙ ap (λ i. drop i a.stack.items) here in
    let value = pick-fields (values_of q) numbers _ _ p.added
    ∙ ap (record_of numbers) (trees-from q b.stack.items base c.deref.result.now c.deref.ensures.value ∙ ap (λ (vs : List Value). drop base (trees_in vs b.stack.items)) kept ∙ ap (drop base) e.same.0 ∙ ap (λ i. drop i (trees a)) here) in
    let grows = subst (λ st. Grows st (store_of q)) e.store p.grows in
    let inside : length (trees a) - n + n ≡ length a.stack.items = omega (arith, many, c.requires.there) in
    let made = struct-made a q grows (nodes ∙ e.nodes) ls numbers (length (trees a) - n) n _ _ inside (sym (length-map c.args.ids.now id_number)) slice p.added p.rise (ap value_ids value ∙ sym ids) under in
    makes-cut a _ c.put.new.self base n _ (c.put.ensures.made (Struct ls) (refl, made.0, made.1)) grows (nodes ∙ e.nodes)
    (c.truncate.ensures.items ∙ ap (take base) e.stack) (omega (arith, place, stack)) here

-- The last tree becomes what is present.
use Rattle.typed_tree.specs.Made.{MadeAt}
use Rattle.frozen_model.specs.Trees.{Optional}
use Rattle.std.proofs.Common.{◌≡◌, ◌∙◌, ◌+◌, ◌-◌, ap, sym, refl, length, get_or, slice_index_or, arith, take, subst, inr, List, ◌<◌, ℕ}
use Rattle.std.proofs.lemmas.List.{length-map, get_or-drop}
use Rattle.frozen_model.specs.Values.{Absent, Present}
use Rattle.typed_tree.specs.Pools.{store_of, values_of}
use Rattle.typed_tree.specs.Rooms.{room_of}
use Rattle.typed_tree.specs.Trees.{trees, but_last}
use Rattle.typed_tree.proofs.Builders.{cut-trees, cut-kinds, joins-after, left-from}
use Rattle.typed_tree.proofs.Growing.{grows-same}
use Rattle.typed_tree.proofs.Keyed.{tree-at}
use Rattle.typed_tree.proofs.Making.{makes-cut, trees-many, same-at}
use Rattle.typed_tree.proofs.builder.Builder.present.Goals as goal

pub returns-clause-wrapped : goal.returns-clause-wrapped
returns-clause-wrapped c =
    let a = c.args.self.now in
    let b = c.make_room.new.self in
    let e = c.in_ok-make_room.ensures in
    let base = c.len-base.result - 1 in
    let grows = grows-same (store_of b.pool) (store_of b.pool) refl in
    let stack = ap (λ zs. length zs) e.stack in
    let many = length-map a.stack.items (λ k. slice_index_or (values_of a.pool) k Absent) in
    let place : base + 1 ≡ length b.stack.items = omega (arith, c.len-base.ensures, b.stack.ok.0, stack, many, c.requires) in
    let here : base ≡ length (trees a) - 1 + 0 = omega (arith, c.len-base.ensures, b.stack.ok.0, stack, many) in
    joins-after a _ c.put.new.self 1 _ _ _ _ _ (room_of 1 0) c.put.ensures.pushed
    (cut-trees b b.pool grows refl base 1 _ c.truncate.ensures.items place ∙ ap (but_last 1) e.same.0)
    (cut-kinds b b.pool grows refl base 1 _ c.truncate.ensures.items place ∙ ap (but_last 1) e.same.1)
    (ap Present (ap (λ k. get_or (values_of b.pool) k Absent) c.index-inner.ensures ∙ sym (tree-at (values_of b.pool) b.stack.items base _ (omega (arith, place))) ∙ ap (λ ts. get_or ts base Absent) e.same.0 ∙ ap (λ i. get_or (trees a) i Absent) here ∙ sym (get_or-drop (length (trees a) - 1) (trees a) 0 Absent)))
    refl (left-from a.room b.room (room_of 1 0) e.room)

pub returns-clause-made : goal.returns-clause-made
returns-clause-made c t h =
    let a = c.args.self.now in
    let b = c.make_room.new.self in
    let e = c.in_ok-make_room.ensures in
    let base = c.len-base.result - 1 in
    let stack = ap (λ zs. length zs) e.stack in
    let here : base ≡ length (trees a) - 1 = omega (arith, c.len-base.ensures, b.stack.ok.0, stack, trees-many a) in
    let low : base < length b.stack.items = omega (arith, here, trees-many a, stack, c.requires) in
    let inner = c.index-inner.ensures ∙ same-at b.stack.items base _ 0 low ∙ ap (λ (ks : List ℕ). get_or ks base 0) e.stack ∙ ap (λ i. get_or a.stack.items i 0) here in
    let made = subst (MadeAt (store_of b.pool) b.pool.nodes.items t) (sym inner) (subst (λ st. MadeAt st b.pool.nodes.items t (get_or a.stack.items (length (trees a) - 1) 0)) (sym e.store) (subst (λ xs. MadeAt (store_of a.pool) xs t (get_or a.stack.items (length (trees a) - 1) 0)) (sym e.nodes) h)) in
    makes-cut a _ c.put.new.self base 1 _ (c.put.ensures.made (Optional tt t) (inr refl, (made, tt))) (grows-same (store_of a.pool) (store_of b.pool) e.store) e.nodes
    (c.truncate.ensures.items ∙ ap (take base) e.stack) (omega (arith, low, stack)) here

-- The last keys become one set, as they stand where they rise, and else in their order.
use Rattle.typed_tree.proofs.Growing.{grows-same}
use Rattle.typed_tree.proofs.Stack.{rest-is}
use Rattle.typed_tree.specs.Made.{MadeAt}
use Rattle.std.proofs.Common.{◌≡◌, ◌≢◌, ◌∙◌, ◌-◌, List, refl, ap, sym, subst, length, drop, slice_index_or, arith, rules}
use Rattle.std.specs.List.{AllPairs, AllByRecursion}
use Rattle.std.proofs.lemmas.List.{length-map, length-drop}
use Rattle.std.proofs.lemmas.Result.{err_from_is_err_and}
use Rattle.frozen_model.specs.Trees.{ASet}
use Rattle.frozen_model.specs.Values.{Value, Items, Absent}
use Rattle.key_order.specs.Keys.{AreOneKind, AreRising}
use Rattle.key_order.specs.InOrder.{row, in_order}
use Rattle.typed_tree.specs.declared.joined.Joined.TheVariants as j
use Rattle.typed_tree.specs.Pools.{values_of, store_of}
use Rattle.typed_tree.specs.Tables.{IsFaultOf}
use Rattle.typed_tree.specs.Trees.{trees_in, trees, last}
use Rattle.typed_tree.proofs.Builders.{stack-trees, stack-below, joins-last, joins-nodes, base-at}
use Rattle.typed_tree.proofs.Keyed.{rising-keys-stay, rising-differ, length-in_order}
use Rattle.typed_tree.proofs.Making.{makes-last, makes-from, carries-same, items-each, items-taken, trees-many}
use Rattle.typed_tree.proofs.builder.Builder.set.Goals as goal

pub keys_rise-requires-clause-there : goal.keys_rise-requires-clause-there
keys_rise-requires-clause-there c = stack-below c.args.self.now _ c.deref.result.now c.deref.ensures.value

pub keys_rise-requires-clause-kind : goal.keys_rise-requires-clause-kind
keys_rise-requires-clause-kind c =
    let a = c.args.self.now in
    subst AreOneKind (sym (stack-trees a _ c.args.n c.deref.result.now c.deref.ensures.value (base-at a c.len.result c.args.n c.len.ensures))) c.requires.kind

pub returns-then-keys_rise-clause-joined : goal.returns-then-keys_rise-clause-joined
returns-then-keys_rise-clause-joined c =
    let a = c.args.self.now in
    let e = c.in_ok-make_room.ensures in
    let at = base-at a c.len.result c.args.n c.len.ensures in
    let keys = stack-trees a _ c.args.n c.deref.result.now c.deref.ensures.value at in
    let up = subst AreRising keys (c.keys_rise.ensures (search rules)) in
    joins-last a c.make_room.new.self c.join.new.self c.args.n _ j.Set _ c.join.ensures.joined e.same.0 e.same.1 (ap (λ zs. length zs) e.stack) at c.requires.there
    (ap (λ ts. Items ASet (row ts)) (rising-keys-stay _ c.requires.kind up)) e.room

pub returns-then-keys_rise-clause-repeated : goal.returns-then-keys_rise-clause-repeated
returns-then-keys_rise-clause-repeated c =
    let a = c.args.self.now in
    let keys = stack-trees a _ c.args.n c.deref.result.now c.deref.ensures.value (base-at a c.len.result c.args.n c.len.ensures) in
    rising-differ _ c.requires.kind (subst AreRising keys (c.keys_rise.ensures (search rules)))

pub keys_in_order-requires-clause-there : goal.keys_in_order-requires-clause-there
keys_in_order-requires-clause-there c = stack-below c.args.self.now _ c.deref-2.result.now c.deref-2.ensures.value

pub keys_in_order-requires-clause-kind : goal.keys_in_order-requires-clause-kind
keys_in_order-requires-clause-kind c =
    let a = c.args.self.now in
    subst AreOneKind (sym (stack-trees a _ c.args.n c.deref-2.result.now c.deref-2.ensures.value (base-at a c.len.result c.args.n c.len.ensures))) c.requires.kind

pub returns-in_err-nodes-clause-repeated : goal.returns-in_err-nodes-clause-repeated
returns-in_err-nodes-clause-repeated c =
    let a = c.args.self.now in
    let keys = stack-trees a _ c.args.n c.deref-2.result.now c.deref-2.ensures.value (base-at a c.len.result c.args.n c.len.ensures) in
    let p = err_from_is_err_and c.from_residual-in_err-nodes.result c.from_residual-in_err-nodes.ensures.1 in
    rw (p.1, p.2) (subst (λ (ts : List Value). IsFaultOf ts c.in_err-nodes.field-0.0) keys c.in_err-nodes.ensures.repeated)

pub join_nodes-requires-clause-as_many : goal.join_nodes-requires-clause-as_many
join_nodes-requires-clause-as_many c =
    let a = c.args.self.now in
    let vs = values_of a.pool in
    let keys = stack-trees a _ c.args.n c.deref-2.result.now c.deref-2.ensures.value (base-at a c.len.result c.args.n c.len.ensures) in
    let ordered = ap (λ ts. length ts) (c.in_ok-nodes.ensures.ordered ∙ ap in_order keys) in
    let ks = c.in_ok-nodes.nodes.items in
    omega (arith, c.len.ensures, a.stack.ok.0, c.requires.there, ap (λ zs. length zs) c.deref-3.ensures.value, length-map ks (λ k. slice_index_or vs k Absent), ordered, length-in_order (last c.args.n (trees a)), length-drop (length (trees a) - c.args.n) (trees a), length-map a.stack.items (λ k. slice_index_or vs k Absent))

pub returns-clause-repeated : goal.returns-clause-repeated
returns-clause-repeated c =
    let a = c.args.self.now in
    let keys = stack-trees a _ c.args.n c.deref-2.result.now c.deref-2.ensures.value (base-at a c.len.result c.args.n c.len.ensures) in
    subst (λ (ts : List Value). AllPairs (λ k l. k ≢ l) ts) keys c.in_ok-nodes.ensures.repeated

pub returns-clause-joined : goal.returns-clause-joined
returns-clause-joined c =
    let a = c.args.self.now in
    let at = base-at a c.len.result c.args.n c.len.ensures in
    let keys = stack-trees a _ c.args.n c.deref-2.result.now c.deref-2.ensures.value at in
    joins-nodes a _ c.join_nodes.new.self c.args.n _ j.Set _ _ c.in_ok-join_nodes.ensures.joined refl refl refl at c.requires.there
    (ap (λ zs. Items ASet (row (trees_in (values_of a.pool) zs))) c.deref-3.ensures.value ∙ ap (λ ts. Items ASet (row ts)) (c.in_ok-nodes.ensures.ordered ∙ ap in_order keys))

pub returns-then-keys_rise-clause-made : goal.returns-then-keys_rise-clause-made
returns-then-keys_rise-clause-made c t h =
    let a = c.args.self.now in
    let e = c.in_ok-make_room.ensures in
    let at = base-at a c.len.result c.args.n c.len.ensures in
    makes-last a c.make_room.new.self c.join.new.self c.args.n _ j.Set t c.join.ensures.made e.store e.nodes e.stack at c.requires.there
    (subst (λ i. AllByRecursion (MadeAt (store_of a.pool) a.pool.nodes.items t) (drop i a.stack.items)) (sym at) (items-each a _ c.args.n t (omega (arith, trees-many a, c.requires.there)) h))

pub returns-clause-made : goal.returns-clause-made
returns-clause-made c t h =
    let a = c.args.self.now in
    let at = base-at a c.len.result c.args.n c.len.ensures in
    let base = length (trees a) - c.args.n in
    let slice = rest-is (c.len.result - c.args.n) c.deref-2.result.now ∙ ap (drop (c.len.result - c.args.n)) c.deref-2.ensures.value ∙ ap (λ i. drop i a.stack.items) at in
    let keys = items-taken a base c.args.n t _ _ (omega (arith, trees-many a, c.requires.there)) h slice c.in_ok-nodes.ensures.taken in
    let p = c.in_ok-join_nodes.ensures.made t (subst (AllByRecursion (MadeAt (store_of a.pool) a.pool.nodes.items t)) (sym c.deref-3.ensures.value) keys) in
    let all : length (trees a) - (length a.stack.items - (c.len.result - c.args.n)) ≡ length (trees a) - c.args.n = omega (arith, trees-many a, c.requires.there, at) in
    makes-from a _ c.join_nodes.new.self (length a.stack.items) _ c.args.n _ p (carries-same a _ (grows-same (store_of a.pool) (store_of a.pool) refl) refl refl) (omega (arith, trees-many a)) all

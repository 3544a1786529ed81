-- The last keys and values become one map, as they stand where the keys rise, and else in their order.
use Rattle.typed_tree.proofs.Growing.{grows-same}
use Rattle.typed_tree.proofs.Stack.{rest-is}
use Rattle.typed_tree.specs.Made.{PairMade, ByTurns}
use Rattle.typed_tree.specs.Ranges.{pair_kinds}
use Rattle.std.proofs.Common.{◌≡◌, ◌≢◌, ◌∙◌, ◌-◌, ◌*◌, List, refl, ap, sym, subst, length, drop, map, slice_index_or, arith, rules}
use Rattle.std.specs.List.{AllPairs}
use Rattle.std.proofs.lemmas.List.{length-map, length-drop}
use Rattle.std.proofs.lemmas.Result.{err_from_is_err_and}
use Rattle.frozen_model.specs.Trees.{AMap}
use Rattle.frozen_model.specs.Values.{Value, Items, Absent, key_of}
use Rattle.key_order.specs.Keys.{AreOneKind, AreRising}
use Rattle.key_order.specs.InOrder.{row, in_order}
use Rattle.typed_tree.specs.declared.joined.Joined.TheVariants as j
use Rattle.typed_tree.specs.Parts.{pairs}
use Rattle.typed_tree.specs.Pools.{values_of, store_of}
use Rattle.typed_tree.specs.Tables.{IsFaultOf}
use Rattle.typed_tree.specs.Trees.{trees_in, trees, last}
use Rattle.typed_tree.proofs.Builders.{stack-trees, stack-below, joins-last, joins-nodes, base-at}
use Rattle.key_order.proofs.Rising.{rising_keys_differ}
use Rattle.typed_tree.proofs.Keyed.{rising-stay, length-in_order}
use Rattle.typed_tree.proofs.Paired.{length-pairs}
use Rattle.typed_tree.proofs.Making.{makes-last, makes-from, carries-same, items-turns, turns-taken, trees-many}
use Rattle.typed_tree.proofs.builder.Builder.map.Goals as goal

pub entries_rise-requires-clause-there : goal.entries_rise-requires-clause-there
entries_rise-requires-clause-there c = stack-below c.args.self.now _ c.deref.result.now c.deref.ensures.value

pub entries_rise-requires-clause-kind : goal.entries_rise-requires-clause-kind
entries_rise-requires-clause-kind c =
    let a = c.args.self.now in
    subst (λ (ts : List Value). AreOneKind (map key_of (pairs ts))) (sym (stack-trees a _ (2 * c.args.n) c.deref.result.now c.deref.ensures.value (base-at a c.len.result (2 * c.args.n) c.len.ensures))) c.requires.kind

pub returns-then-entries_rise-clause-joined : goal.returns-then-entries_rise-clause-joined
returns-then-entries_rise-clause-joined c =
    let a = c.args.self.now in
    let e = c.in_ok-make_room.ensures in
    let at = base-at a c.len.result (2 * c.args.n) c.len.ensures in
    let keys = stack-trees a _ (2 * c.args.n) c.deref.result.now c.deref.ensures.value at in
    let up = subst (λ (ts : List Value). AreRising (map key_of (pairs ts))) keys (c.entries_rise.ensures (search rules)) in
    joins-last a c.make_room.new.self c.join.new.self (2 * c.args.n) _ j.Map _ c.join.ensures.joined e.same.0 e.same.1 (ap (λ zs. length zs) e.stack) at c.requires.there
    (ap (λ ps. Items AMap (row ps)) (rising-stay _ c.requires.kind up)) e.room

pub returns-then-entries_rise-clause-repeated : goal.returns-then-entries_rise-clause-repeated
returns-then-entries_rise-clause-repeated c =
    let a = c.args.self.now in
    let keys = stack-trees a _ (2 * c.args.n) c.deref.result.now c.deref.ensures.value (base-at a c.len.result (2 * c.args.n) c.len.ensures) in
    rising_keys_differ _ (subst (λ (ts : List Value). AreRising (map key_of (pairs ts))) keys (c.entries_rise.ensures (search rules)))

pub entries_in_order-requires-clause-there : goal.entries_in_order-requires-clause-there
entries_in_order-requires-clause-there c = stack-below c.args.self.now _ c.deref-2.result.now c.deref-2.ensures.value

pub entries_in_order-requires-clause-kind : goal.entries_in_order-requires-clause-kind
entries_in_order-requires-clause-kind c =
    let a = c.args.self.now in
    subst (λ (ts : List Value). AreOneKind (map key_of (pairs ts))) (sym (stack-trees a _ (2 * c.args.n) c.deref-2.result.now c.deref-2.ensures.value (base-at a c.len.result (2 * c.args.n) c.len.ensures))) c.requires.kind

pub returns-in_err-nodes-clause-repeated : goal.returns-in_err-nodes-clause-repeated
returns-in_err-nodes-clause-repeated c =
    let a = c.args.self.now in
    let keys = stack-trees a _ (2 * c.args.n) c.deref-2.result.now c.deref-2.ensures.value (base-at a c.len.result (2 * c.args.n) c.len.ensures) in
    let p = err_from_is_err_and c.from_residual-in_err-nodes.result c.from_residual-in_err-nodes.ensures.1 in
    rw (p.1, p.2) (subst (λ (ts : List Value). IsFaultOf (map key_of (pairs ts)) c.in_err-nodes.field-0.0) keys c.in_err-nodes.ensures.repeated)

pub join_nodes-requires-clause-as_many : goal.join_nodes-requires-clause-as_many
join_nodes-requires-clause-as_many c =
    let a = c.args.self.now in
    let vs = values_of a.pool in
    let keys = stack-trees a _ (2 * c.args.n) c.deref-2.result.now c.deref-2.ensures.value (base-at a c.len.result (2 * c.args.n) c.len.ensures) in
    let ordered = ap (λ ts. length ts) (c.in_ok-nodes.ensures.ordered ∙ ap (λ ts. in_order (pairs ts)) keys) in
    omega (arith, c.len.ensures, a.stack.ok.0, c.requires.there, ap (λ zs. length zs) c.deref-3.ensures.value, c.in_ok-nodes.ensures.even, ordered, length-in_order (pairs (last (2 * c.args.n) (trees a))), length-pairs (last (2 * c.args.n) (trees a)), length-drop (length (trees a) - 2 * c.args.n) (trees a), length-map a.stack.items (λ k. slice_index_or vs k Absent))

pub returns-clause-repeated : goal.returns-clause-repeated
returns-clause-repeated c =
    let a = c.args.self.now in
    let keys = stack-trees a _ (2 * c.args.n) c.deref-2.result.now c.deref-2.ensures.value (base-at a c.len.result (2 * c.args.n) c.len.ensures) in
    subst (λ (ts : List Value). AllPairs (λ k l. k ≢ l) (map key_of (pairs ts))) keys c.in_ok-nodes.ensures.repeated

pub returns-clause-joined : goal.returns-clause-joined
returns-clause-joined c =
    let a = c.args.self.now in
    let at = base-at a c.len.result (2 * c.args.n) c.len.ensures in
    let keys = stack-trees a _ (2 * c.args.n) c.deref-2.result.now c.deref-2.ensures.value at in
    joins-nodes a _ c.join_nodes.new.self (2 * c.args.n) _ j.Map _ _ c.in_ok-join_nodes.ensures.joined refl refl refl at c.requires.there
    (ap (λ zs. Items AMap (row (pairs (trees_in (values_of a.pool) zs)))) c.deref-3.ensures.value ∙ ap (λ ps. Items AMap (row ps)) (c.in_ok-nodes.ensures.ordered ∙ ap (λ ts. in_order (pairs ts)) keys))

pub returns-then-entries_rise-clause-made : goal.returns-then-entries_rise-clause-made
returns-then-entries_rise-clause-made c key value h =
    let a = c.args.self.now in
    let e = c.in_ok-make_room.ensures in
    let at = base-at a c.len.result (2 * c.args.n) c.len.ensures in
    makes-last a c.make_room.new.self c.join.new.self (2 * c.args.n) _ j.Map (pair_kinds key value) c.join.ensures.made e.store e.nodes e.stack at c.requires.there
    (subst (λ i. ByTurns (PairMade (store_of a.pool) a.pool.nodes.items (pair_kinds key value)) (drop i a.stack.items)) (sym at) (items-turns a _ c.args.n key value (omega (arith, trees-many a, c.requires.there)) h))

pub returns-clause-made : goal.returns-clause-made
returns-clause-made c key value h =
    let a = c.args.self.now in
    let n = 2 * c.args.n in
    let at = base-at a c.len.result n c.len.ensures in
    let slice = rest-is (c.len.result - n) c.deref-2.result.now ∙ ap (drop (c.len.result - n)) c.deref-2.ensures.value ∙ ap (λ i. drop i a.stack.items) at in
    let turns = turns-taken a (length (trees a) - n) c.args.n key value _ _ (omega (arith, trees-many a, c.requires.there)) h slice c.in_ok-nodes.ensures.taken in
    let p = c.in_ok-join_nodes.ensures.made (pair_kinds key value) (subst (ByTurns (PairMade (store_of a.pool) a.pool.nodes.items (pair_kinds key value))) (sym c.deref-3.ensures.value) turns) in
    let all : length (trees a) - (length a.stack.items - (c.len.result - n)) ≡ length (trees a) - n = omega (arith, trees-many a, c.requires.there, at) in
    makes-from a _ c.join_nodes.new.self (length a.stack.items) _ n _ p (carries-same a _ (grows-same (store_of a.pool) (store_of a.pool) refl) refl refl) (omega (arith, trees-many a)) all

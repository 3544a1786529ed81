-- Each node stands at the place of its entry.
use Rattle.std.proofs.Common.{◌∙◌, ◌<◌, List, ap, sym, subst, length, nat_lt}
use Rattle.std.specs.List.{All, list_all}
use Rattle.key_order.specs.declared.repeats.PlacedKey.{PlacedKey}
use Rattle.typed_tree.specs.Pools.{values_of}
use Rattle.typed_tree.specs.Trees.{trees_in}
use Rattle.typed_tree.proofs.Keyed.{nodes-at, below-places, set-inside, set-in-order}
use Rattle.typed_tree.proofs.Keyed.{taken-places}
use Rattle.typed_tree.proofs.order.keys_in_order.Goals as goal

pub nodes_at-requires : goal.nodes_at-requires
nodes_at-requires c =
    subst (λ (es : List PlacedKey). All (λ e. e.place < length c.args.nodes.now) es) (sym c.deref.ensures.value)
    (set-inside (values_of c.args.pool.now) c.args.nodes.now c.in_ok-entries.entries.items c.requires.kind c.in_ok-entries.ensures.sorted)

pub returns-clause-ordered : goal.returns-clause-ordered
returns-clause-ordered c =
    let vs = values_of c.args.pool.now in
    ap (trees_in vs) (c.in_ok-sorted.ensures ∙ ap (nodes-at c.args.nodes.now) c.deref.ensures.value)
    ∙ set-in-order vs c.args.nodes.now c.in_ok-entries.entries.items c.requires.kind c.in_ok-entries.ensures.sorted

pub returns-clause-still : goal.returns-clause-still
returns-clause-still c =
    let n = length c.args.pool.now.nodes.items in
    let inside = set-inside (values_of c.args.pool.now) c.args.nodes.now c.in_ok-entries.entries.items c.requires.kind c.in_ok-entries.ensures.sorted in
    ap (list_all (λ k. nat_lt k n)) (c.in_ok-sorted.ensures ∙ ap (nodes-at c.args.nodes.now) c.deref.ensures.value)
    ∙ below-places c.args.nodes.now n c.in_ok-entries.entries.items inside c.requires.there

pub returns-clause-taken : goal.returns-clause-taken
returns-clause-taken c =
    let inside = set-inside (values_of c.args.pool.now) c.args.nodes.now c.in_ok-entries.entries.items c.requires.kind c.in_ok-entries.ensures.sorted in
    taken-places c.args.nodes.now _ c.in_ok-entries.entries.items (c.in_ok-sorted.ensures ∙ ap (nodes-at c.args.nodes.now) c.deref.ensures.value) inside

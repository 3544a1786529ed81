-- The keys are put in order, and then the nodes are taken by their places.
use Rattle.std.proofs.Common.{◌≢◌, ◌∙◌, ◌+◌, ◌*◌, ◌<◌, List, refl, ap, sym, subst, length, nat_lt}
use Rattle.std.specs.List.{AllPairs, list_all}
use Rattle.std.proofs.lemmas.List.Elements.{recursion_from_All}
use Rattle.std.proofs.lemmas.Result.{err_from_is_err_and}
use Rattle.frozen_model.specs.Values.{Value}
use Rattle.key_order.specs.Keys.{AreOneKind}
use Rattle.typed_tree.specs.Parts.{pairs}
use Rattle.typed_tree.specs.Pools.{values_of}
use Rattle.typed_tree.specs.Tables.{IsFaultOf, turned}
use Rattle.typed_tree.specs.Trees.{trees_in}
use Rattle.typed_tree.proofs.Paired.{keys-of-pairs, below-evens, turned-pairs, turned-below, turned-even, inside-turns}
use Rattle.typed_tree.proofs.entries.entries_in_order.Goals as goal

pub places_in_order-requires-clause-there : goal.places_in_order-requires-clause-there
places_in_order-requires-clause-there c =
    let n = length c.args.pool.now.nodes.items in
    ap (list_all (λ k. nat_lt k n)) (c.deref.ensures.value ∙ c.in_ok-keys.ensures) ∙ below-evens n c.args.nodes.now c.requires.there

pub places_in_order-requires-clause-kind : goal.places_in_order-requires-clause-kind
places_in_order-requires-clause-kind c =
    let keys = ap (trees_in (values_of c.args.pool.now)) (c.deref.ensures.value ∙ c.in_ok-keys.ensures) ∙ keys-of-pairs (values_of c.args.pool.now) c.args.nodes.now in
    subst AreOneKind (sym keys) c.requires.kind

pub returns-in_err-places-clause-repeated : goal.returns-in_err-places-clause-repeated
returns-in_err-places-clause-repeated c =
    let keys = ap (trees_in (values_of c.args.pool.now)) (c.deref.ensures.value ∙ c.in_ok-keys.ensures) ∙ keys-of-pairs (values_of c.args.pool.now) c.args.nodes.now in
    let p = err_from_is_err_and c.from_residual-in_err-places.result c.from_residual-in_err-places.ensures.1 in
    rw (p.1, p.2) (subst (λ (ts : List Value). IsFaultOf ts c.in_err-places.field-0.0) keys c.in_err-places.ensures.repeated)

pub nodes_of_pairs-requires : goal.nodes_of_pairs-requires
nodes_of_pairs-requires c = inside-turns (values_of c.args.pool.now) c.args.nodes.now _ c.deref.result.now _ (c.deref.ensures.value ∙ c.in_ok-keys.ensures) c.deref-2.ensures.value c.in_ok-places.ensures.ordered.inside

pub returns-clause-repeated : goal.returns-clause-repeated
returns-clause-repeated c =
    let keys = ap (trees_in (values_of c.args.pool.now)) (c.deref.ensures.value ∙ c.in_ok-keys.ensures) ∙ keys-of-pairs (values_of c.args.pool.now) c.args.nodes.now in
    subst (λ (ts : List Value). AllPairs (λ k l. k ≢ l) ts) keys c.in_ok-places.ensures.repeated

pub returns-clause-ordered : goal.returns-clause-ordered
returns-clause-ordered c =
    let vs = values_of c.args.pool.now in
    let ks = c.args.nodes.now in
    let ps = c.in_ok-places.places.items in
    let inside = inside-turns vs ks ps c.deref.result.now ps (c.deref.ensures.value ∙ c.in_ok-keys.ensures) refl c.in_ok-places.ensures.ordered.inside in
    let keys = ap (trees_in vs) (c.deref.ensures.value ∙ c.in_ok-keys.ensures) ∙ keys-of-pairs vs ks in
    ap (λ zs. pairs (trees_in vs zs)) (c.in_ok-by_turns.ensures ∙ ap (turned ks) c.deref-2.ensures.value)
    ∙ turned-pairs vs ks ps (recursion_from_All (λ p. 2 * p + 1 < length ks) ps inside)
    ∙ c.in_ok-places.ensures.ordered.in_turn (pairs (trees_in vs ks)) (sym keys)

pub returns-clause-even : goal.returns-clause-even
returns-clause-even c =
    let vs = values_of c.args.pool.now in
    let ks = c.args.nodes.now in
    let e = c.in_ok-by_turns.ensures in
    ap (λ zs. length zs) e ∙ turned-even vs ks c.deref-2.result.now ∙ ap (λ zs. 2 * length (pairs (trees_in vs zs))) (sym e)

pub returns-clause-still : goal.returns-clause-still
returns-clause-still c =
    let vs = values_of c.args.pool.now in
    let ks = c.args.nodes.now in
    let n = length c.args.pool.now.nodes.items in
    let ps = c.in_ok-places.places.items in
    let inside = inside-turns vs ks ps c.deref.result.now ps (c.deref.ensures.value ∙ c.in_ok-keys.ensures) refl c.in_ok-places.ensures.ordered.inside in
    ap (list_all (λ k. nat_lt k n)) (c.in_ok-by_turns.ensures ∙ ap (turned ks) c.deref-2.ensures.value) ∙ turned-below vs ks n ps (recursion_from_All (λ p. 2 * p + 1 < length ks) ps inside) c.requires.there

pub returns-clause-taken : goal.returns-clause-taken
returns-clause-taken c =
    let ps = c.in_ok-places.places.items in
    let inside = inside-turns (values_of c.args.pool.now) c.args.nodes.now ps c.deref.result.now ps (c.deref.ensures.value ∙ c.in_ok-keys.ensures) refl c.in_ok-places.ensures.ordered.inside in
    (ps, c.in_ok-by_turns.ensures ∙ ap (turned c.args.nodes.now) c.deref-2.ensures.value, recursion_from_All (λ p. 2 * p + 1 < length c.args.nodes.now) ps inside)

use Rattle.std.proofs.Common.{◌≡◌, ℕ, ◌+◌, true, get_or, subst, ap, sym, ◌∙◌, [], arith}
use Rattle.frozen_model.specs.Values.{Absent}
use Rattle.typed_tree.specs.declared.spot.Spot.{Spot}
use Rattle.typed_tree.specs.Spots.{fits_at, value_of}
use Rattle.typed_tree.specs.Pools.{store_of, values_of}
use Rattle.typed_tree.proofs.Grow.{known-at, fits-there}
use Rattle.typed_tree.proofs.tree.TreeRef.spot.Goals as goal

pub returns-clause-value : goal.returns-clause-value
returns-clause-value c =
    let r = c.args.self in
    let p = r.pool.now in
    let e : r.node ≡ 0 + r.node = omega arith in
    ap (λ (n : ℕ). get_or (values_of p) n Absent) e
    ∙ known-at (store_of p) [] p.nodes.items r.node c.index.result.now p.ordered r.placed
    ∙ ap (λ (x : Spot). value_of (store_of p) (values_of p) x) (sym c.index.ensures)

pub returns-clause-fit : goal.returns-clause-fit
returns-clause-fit c =
    let r = c.args.self in
    let p = r.pool.now in
    let e : 0 + r.node ≡ r.node = omega arith in
    subst (λ (n : ℕ). fits_at (store_of p) n c.index.result.now ≡ true) e
    (subst (λ (x : Spot). fits_at (store_of p) (0 + r.node) x ≡ true) (sym c.index.ensures) (fits-there (store_of p) 0 p.nodes.items r.node c.index.result.now p.ordered r.placed))

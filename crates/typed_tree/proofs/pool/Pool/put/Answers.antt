use Rattle.std.proofs.Common.{◌≡◌, ℕ, ◌+◌, length, true, List, subst, sym, arith}
use Rattle.typed_tree.specs.declared.spot.Spot.{Spot}
use Rattle.typed_tree.specs.Spots.{fits, fits_at}
use Rattle.typed_tree.specs.Pools.{store_of}
use Rattle.typed_tree.proofs.Grow.{fits-more}
use Rattle.typed_tree.proofs.pool.Pool.put.Goals as goal

pub invariant_of-self : goal.invariant_of-self
invariant_of-self c =
    let p = c.args.self.now in
    let n : length p.nodes.items ≡ 0 + length p.nodes.items = omega arith in
    let fit = subst (λ (k : ℕ). fits_at (store_of p) k c.args.spot ≡ true) n c.requires.fit in
    record { ordered = subst (λ (xs : List Spot). fits (store_of p) 0 xs ≡ true) (sym c.push_reserved.ensures.items) (fits-more (store_of p) 0 p.nodes.items c.args.spot p.ordered fit) }

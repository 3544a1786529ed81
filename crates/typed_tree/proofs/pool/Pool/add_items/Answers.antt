-- The links are the last ones.
use Rattle.std.proofs.Common.{map}
use Rattle.typed_tree.specs.Spots.{item_link}
use Rattle.typed_tree.specs.Pools.{store_of}
use Rattle.typed_tree.proofs.Grow.{fits-stays}
use Rattle.typed_tree.proofs.Growing.{grows-links}
use Rattle.typed_tree.proofs.pool.Pool.add_items.Goals as goal

pub invariant_of-self : goal.invariant_of-self
invariant_of-self c =
    let p = c.args.self.now in
    record { ordered = fits-stays (store_of p) _ (grows-links (store_of p) (map item_link c.args.nodes.now) _ c.push_items.ensures.added) 0 p.nodes.items p.ordered }

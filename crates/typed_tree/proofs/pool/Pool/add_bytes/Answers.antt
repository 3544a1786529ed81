-- The bytes are the last of those in use.
use Rattle.typed_tree.specs.Pools.{store_of}
use Rattle.typed_tree.proofs.Grow.{fits-stays}
use Rattle.typed_tree.proofs.Growing.{added-part, grows-bytes}
use Rattle.typed_tree.proofs.pool.Pool.add_bytes.Goals as goal

pub invariant_of-self : goal.invariant_of-self
invariant_of-self c =
    let p = c.args.self.now in
    record { ordered = fits-stays (store_of p) _ (grows-bytes (store_of p) c.args.x.now _ c.append.ensures.added) 0 p.nodes.items p.ordered }

pub returns-clause-grows : goal.returns-clause-grows
returns-clause-grows c = grows-bytes (store_of c.args.self.now) c.args.x.now _ c.append.ensures.added

pub returns-clause-added : goal.returns-clause-added
returns-clause-added c = added-part (store_of c.args.self.now).bytes c.args.x.now _ _ _ c.append.ensures.added c.append.ensures.start c.append.ensures.len

-- The links are the last ones.
use Rattle.idl_profile.specs.Types.{fields_of}
use Rattle.idl_parse.specs.Refs.{type_of_ref}
use Rattle.typed_tree.specs.Filled.{links_of}
use Rattle.typed_tree.specs.Pools.{store_of}
use Rattle.typed_tree.proofs.Grow.{fits-stays}
use Rattle.typed_tree.proofs.Growing.{grows-links}
use Rattle.typed_tree.proofs.pool.Pool.add_type_links.Goals as goal

pub invariant_of-self : goal.invariant_of-self
invariant_of-self c =
    let p = c.args.self.now in
    record { ordered = fits-stays (store_of p) _ (grows-links (store_of p) (links_of (fields_of (type_of_ref c.args.ty)) c.args.nodes.now) _ c.push_type_links.ensures.added) 0 p.nodes.items p.ordered }

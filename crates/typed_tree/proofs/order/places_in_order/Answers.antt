-- Each entry has its place.
use Rattle.std.proofs.Common.{◌∙◌, ap, sym, subst}
use Rattle.key_order.specs.Entries.{places}
use Rattle.typed_tree.specs.Pools.{values_of}
use Rattle.typed_tree.specs.Tables.{AreOrdered}
use Rattle.typed_tree.specs.Trees.{trees_in}
use Rattle.typed_tree.proofs.Keyed.{places-ordered}
use Rattle.typed_tree.proofs.order.places_in_order.Goals as goal

pub returns-clause-ordered : goal.returns-clause-ordered
returns-clause-ordered c =
    let ts = trees_in (values_of c.args.pool.now) c.args.keys.now in
    subst (AreOrdered ts) (sym (c.in_ok-sorted.ensures ∙ ap places c.deref.ensures.value)) (places-ordered ts c.in_ok-entries.entries.items c.requires.kind c.in_ok-entries.ensures.sorted)

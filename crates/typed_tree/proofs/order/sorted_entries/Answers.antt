-- The entries number the keys, and are then sorted.
use Rattle.std.proofs.Common.{◌∙◌, ap, sym, subst, length, arith}
use Rattle.key_order.specs.Keys.{AreOneKind}
use Rattle.key_order.specs.Entries.{placed}
use Rattle.key_order.specs.Repeats.{HasNoRepeat}
use Rattle.key_order.proofs.Numbered.{numbered_places_differ, none_repeats_where_keys_differ}
use Rattle.typed_tree.specs.Pools.{values_of}
use Rattle.typed_tree.specs.Tables.{AreSorted}
use Rattle.typed_tree.specs.Trees.{trees_in}
use Rattle.typed_tree.proofs.Keyed.{all-back}
use Rattle.typed_tree.proofs.order.sorted_entries.Goals as goal

pub least_repeat-requires : goal.least_repeat-requires
least_repeat-requires c =
    let ts = trees_in (values_of c.args.pool.now) c.args.nodes.now in
    (numbered_places_differ ts c.as_mut_slice.result.now (ap placed c.as_mut_slice.ensures.value ∙ c.in_ok-entries.ensures)).1

pub returns-in-None-clause-sorted : goal.returns-in-None-clause-sorted
returns-in-None-clause-sorted c =
    let ts = trees_in (values_of c.args.pool.now) c.args.nodes.now in
    let old = c.as_mut_slice.result.now in
    let numbers = ap placed c.as_mut_slice.ensures.value ∙ c.in_ok-entries.ensures in
    let kind = subst AreOneKind (sym (numbered_places_differ ts old numbers).0) c.requires.kind in
    let sorted : AreSorted ts c.least_repeat.new.entries = record { numbered = old; numbers = numbers; moved = c.in-None.ensures.moved; rising = c.in-None.ensures.rising kind } in
    subst (AreSorted ts) (sym (all-back c.least_repeat.new.entries c.in_ok-entries.entries.items c.in_ok-entries.entries.len (omega arith) (omega (arith, ap (λ zs. length zs) c.as_mut_slice.ensures.value)))) sorted

pub returns-in-None-clause-repeated : goal.returns-in-None-clause-repeated
returns-in-None-clause-repeated c =
    let ts = trees_in (values_of c.args.pool.now) c.args.nodes.now in
    (none_repeats_where_keys_differ ts).0 (subst HasNoRepeat (ap placed c.as_mut_slice.ensures.value ∙ c.in_ok-entries.ensures) c.in-None.ensures.least)

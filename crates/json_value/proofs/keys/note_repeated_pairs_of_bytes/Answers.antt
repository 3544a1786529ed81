use Rattle.std.proofs.Common.{◌+◌, ◌++◌, ◌∙◌, sym, ap, arith, drop}
use Rattle.idl_profile.specs.declared.kinds.TypeKind.TheVariants.{Bytes}
use Rattle.key_order.specs.Entries.{placed}
use Rattle.serde_json.specs.View.{items_view}
use Rattle.json_value.specs.Nodes.{nodes_in}
use Rattle.json_value.specs.Faults.{keys_in_pairs}
use Rattle.json_value.proofs.Climbing.{all_pairs_in}
use Rattle.json_value.proofs.keys.note_repeated_pairs_of_bytes.Goals as goal

pub note_repeat-requires : goal.note_repeat-requires
note_repeat-requires c =
    let vs = c.deref-item-items.result.now in
    let next = c.requires.next ∙ ap (λ us. c.args.first + nodes_in (items_view us)) (sym c.deref-item-items.ensures.value) in
    all_pairs_in vs c.loop-item.item-index c.loop-item.at Bytes c.args.first c.args.progress.now.next (placed c.as_mut_slice.result.now)
    (omega (arith, c.loop-item-test.false, c.loop-item.auto.item-index-end, c.deref-item-items.ensures.len))
    (ap (λ ks. ks ++ keys_in_pairs (items_view (drop c.loop-item.item-index vs)) Bytes c.loop-item.at) (ap placed c.as_mut_slice.ensures.value ∙ c.in_ok-placed.ensures) ∙ c.loop-item.invariant.0) next

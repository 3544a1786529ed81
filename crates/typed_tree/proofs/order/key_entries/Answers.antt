-- One node after another adds its key.
use Rattle.std.proofs.Common.{◌≡◌, ◌∙◌, ◌++◌, ◌∷◌, [], List, ap, sym, subst, take, slice_index_or, arith}
use Rattle.std.specs.List.{enumerate_from}
use Rattle.std.proofs.lemmas.List.{length-map, map_push, take_more}
use Rattle.frozen_model.specs.Values.{Absent}
use Rattle.key_order.specs.declared.repeats.PlacedKey.{PlacedKey}
use Rattle.key_order.specs.Keys.{value_of}
use Rattle.key_order.specs.Entries.{keys, placed}
use Rattle.key_order.proofs.Numbered.{numbered-push}
use Rattle.typed_tree.specs.Pools.{values_of}
use Rattle.typed_tree.specs.Trees.{trees_in}
use Rattle.typed_tree.proofs.Keyed.{tree-at}
use Rattle.typed_tree.proofs.order.key_entries.Goals as goal

pub loop-node-preserved : goal.loop-node-preserved
loop-node-preserved c =
    let es = c.loop-node.entries.items in
    let vs = values_of c.args.pool.now in
    let ks = c.args.nodes.now in
    let ts = trees_in vs ks in
    let i = c.loop-node.node-index in
    let pushed = c.in_ok-push.ensures.items in
    let key = c.key-key.ensures ∙ sym (tree-at vs ks i 0 (omega arith)) in
    record {
      numbers = subst (λ (es : List PlacedKey). placed es ≡ enumerate_from 0 (keys es)) (sym pushed) (numbered-push es _ c.loop-node.invariant.numbers (c.len-place.ensures ∙ c.loop-node.entries.ok.0));
      first =
          ap keys pushed ∙ map_push (λ (e : PlacedKey). value_of e.key) es _ ∙ ap (λ zs. zs ++ value_of c.key-key.result ∷ []) c.loop-node.invariant.first ∙ ap (λ v. take i ts ++ v ∷ []) key
          ∙ sym (take_more ts i Absent (omega (arith, length-map ks (λ k. slice_index_or vs k Absent))));
    }

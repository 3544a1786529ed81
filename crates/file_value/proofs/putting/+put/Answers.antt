-- Each part is put on those before, and the parts are joined into the whole.
use Rattle.std.proofs.Common.{◌≡◌, ◌≢◌, ◌∙◌, ◌*◌, ◌<◌, ◌++◌, ◌∷◌, [], List, ap, sym, subst, length}
use Rattle.std.proofs.Common.{arith, rules, map, ℤ, pos}
use Rattle.std.specs.List.{AllPairs}
use Rattle.std.proofs.lemmas.Int.{to_z-of_z}
use mir.Val.{SFits}
use mir.Syntax.{w16}
use Rattle.frozen_model.specs.Trees.{AList, ASet, AMap}
use Rattle.frozen_model.specs.Values.{Value, Items, key_of, count, nth}
use Rattle.key_order.specs.Keys.{AreOneKind}
use Rattle.key_order.specs.InOrder.{row, in_order}
use Rattle.typed_tree.specs.Fields.{id_numbers, record_of}
use Rattle.typed_tree.specs.Heights.{height}
use Rattle.typed_tree.specs.Parts.{items_of, pairs, fields_of, ids_of}
use Rattle.typed_tree.specs.Trees.{trees, last, but_last}
use Rattle.typed_tree.proofs.Forms.{row_is, map_is, height_nth, height_items}
use Rattle.bit_view.specs.FieldCursor.{fields_left}
use Rattle.bit_view.specs.Views.{value_of_view}
use Rattle.file_value.specs.Putting.{listed}
use Rattle.file_value.proofs.Rows.{length_listed}
use Rattle.file_value.proofs.KeyRanks.{set_keys, map_keys, pair_is}
use Rattle.file_value.proofs.PutRows.{joined, last_put, enough, one_more, next_listed, all_listed, list_is}
use Rattle.file_value.proofs.PutRows.{pair_put, all_paired, on_ok}
use Rattle.file_value.proofs.Records.{tail_ids}
use Rattle.file_value.proofs.PutStructs.{struct_parts, first_field, moved_on}
use Rattle.file_value.proofs.putting.+put.Goals as goal

-- ---- items

pub put_items-put-requires : goal.put_items-put-requires
put_items-put-requires t c =
    let v = value_of_view c.args.row in
    let h = height_items v (row_is v c.requires) in
    let low = height_nth (items_of v) c.loop-i.i in
    (omega (arith, c.decreases, h, low, ap height c.item.ensures.item), tt)

pub put_items-loop-i-preserved : goal.put_items-loop-i-preserved
put_items-loop-i-preserved t c =
    let vs = items_of (value_of_view c.args.row) in
    let inside : c.loop-i.i < count vs = omega (arith, c.loop-i-test.true, c.len-i-end.ensures) in
    let put : trees c.put.new.builder ≡ trees c.loop-i.builder ++ nth vs c.loop-i.i ∷ [] =
    c.in_ok-put.ensures.trees ∙ ap (λ x. trees c.loop-i.builder ++ x ∷ []) c.item.ensures.item in
    let more = one_more (listed vs) (trees c.args.builder.now) (trees c.loop-i.builder) _ c.loop-i.i _
    c.loop-i.invariant.0 (next_listed vs c.loop-i.i inside) put in
    (more, c.in_ok-put.ensures.ids ∙ c.loop-i.invariant.1)

pub put_items-returns-clause-trees : goal.put_items-returns-clause-trees
put_items-returns-clause-trees t c =
    let vs = items_of (value_of_view c.args.row) in
    let all : c.loop-i.i ≡ count vs =
    omega (arith, c.loop-i-test.false, c.loop-i.auto.i-end, c.len-i-end.ensures) in
    all_listed vs (trees c.args.builder.now) (trees c.loop-i.builder) c.loop-i.i all c.loop-i.invariant.0

-- ---- lists

pub put_list-list-requires : goal.put_list-list-requires
put_list-list-requires t c =
    let vs = items_of (value_of_view c.args.list) in
    enough (trees c.args.builder.now) (listed vs) _ c.len.result (length_listed vs ∙ sym c.len.ensures)
    c.in_ok-put_items.ensures.trees

pub put_list-returns-clause-trees : goal.put_list-returns-clause-trees
put_list-returns-clause-trees t c =
    let v = value_of_view c.args.list in
    let vs = items_of v in
    on_ok c.list.result c.list.ensures.joined (λ j.
    joined (λ ts. Items AList (row ts)) (trees c.args.builder.now) (listed vs) _ _ c.len.result v
    (length_listed vs ∙ sym c.len.ensures) c.in_ok-put_items.ensures.trees (list_is v c.requires) j.trees)

-- ---- sets

pub put_set-join_set-requires-clause-there : goal.put_set-join_set-requires-clause-there
put_set-join_set-requires-clause-there t c =
    let vs = items_of (value_of_view c.args.set) in
    enough (trees c.args.builder.now) (listed vs) _ c.len.result (length_listed vs ∙ sym c.len.ensures)
    c.in_ok-put_items.ensures.trees

pub put_set-join_set-requires-clause-kind : goal.put_set-join_set-requires-clause-kind
put_set-join_set-requires-clause-kind t c =
    let vs = items_of (value_of_view c.args.set) in
    let same = last_put (trees c.args.builder.now) (listed vs) _ c.len.result
    (length_listed vs ∙ sym c.len.ensures) c.in_ok-put_items.ensures.trees in
    subst AreOneKind (sym same) (set_keys c.args.set c.requires).kind

pub put_set-join_set-requires-clause-differ : goal.put_set-join_set-requires-clause-differ
put_set-join_set-requires-clause-differ t c =
    let vs = items_of (value_of_view c.args.set) in
    let same = last_put (trees c.args.builder.now) (listed vs) _ c.len.result
    (length_listed vs ∙ sym c.len.ensures) c.in_ok-put_items.ensures.trees in
    subst (AllPairs (λ (a b : Value). a ≢ b)) (sym same) (set_keys c.args.set c.requires).differ

pub put_set-returns-clause-trees : goal.put_set-returns-clause-trees
put_set-returns-clause-trees t c =
    let v = value_of_view c.args.set in
    let vs = items_of v in
    on_ok c.join_set.result c.join_set.ensures (λ j.
    joined (λ ts. Items ASet (row (in_order ts))) (trees c.args.builder.now) (listed vs) _ _ c.len.result v
    (length_listed vs ∙ sym c.len.ensures) c.in_ok-put_items.ensures.trees
    (set_keys c.args.set c.requires).whole j)

-- ---- maps

pub put_pairs-put-requires : goal.put_pairs-put-requires
put_pairs-put-requires t c =
    let v = value_of_view c.args.map in
    let u = value_of_view c.item-pair.result in
    let h = height_items v (map_is v c.requires) in
    let low = height_nth (items_of v) c.loop-i.i in
    let pair = ap height (pair_is c.args.map c.item-pair.result c.requires c.item-pair.ensures.layout) in
    let item = ap height c.item-pair.ensures.item in (
      omega (arith, c.decreases, h, low, item, pair, ap height c.first-key.ensures.value),
      tt,
    )

pub put_pairs-put-requires-in-loop-i : goal.put_pairs-put-requires-in-loop-i
put_pairs-put-requires-in-loop-i t c =
    let v = value_of_view c.args.map in
    let u = value_of_view c.item-pair.result in
    let h = height_items v (map_is v c.requires) in
    let low = height_nth (items_of v) c.loop-i.i in
    let pair = ap height (pair_is c.args.map c.item-pair.result c.requires c.item-pair.ensures.layout) in
    let item = ap height c.item-pair.ensures.item in (
      omega (arith, c.decreases, h, low, item, pair, ap height c.second-value.ensures.value),
      tt,
    )

pub put_pairs-loop-i-preserved : goal.put_pairs-loop-i-preserved
put_pairs-loop-i-preserved t c =
    let vs = items_of (value_of_view c.args.map) in
    let u = value_of_view c.item-pair.result in
    let inside : c.loop-i.i < count vs = omega (arith, c.loop-i-test.true, c.len-i-end.ensures) in
    let key = nth (fields_of u) 0 in
    let value = nth (fields_of u) 1 in
    let is = sym c.item-pair.ensures.item
    ∙ pair_is c.args.map c.item-pair.result c.requires c.item-pair.ensures.layout in
    let put_key : trees c.put.new.builder ≡ trees c.loop-i.builder ++ key ∷ [] =
    c.in_ok-put.ensures.trees ∙ ap (λ x. trees c.loop-i.builder ++ x ∷ []) c.first-key.ensures.value in
    let put_value : trees c.put-in-loop-i.new.builder ≡ trees c.put.new.builder ++ value ∷ [] =
    c.in_ok-put-2.ensures.trees ∙ ap (λ x. trees c.put.new.builder ++ x ∷ []) c.second-value.ensures.value in
    let more = pair_put (trees c.args.builder.now) (trees c.loop-i.builder) _ _ vs c.loop-i.i key value inside
    is c.loop-i.invariant.0 put_key put_value in
    let first : c.put.new.ids.items ≡ c.loop-i.ids.items = c.in_ok-put.ensures.ids in
    let second : c.put-in-loop-i.new.ids.items ≡ c.put.new.ids.items = c.in_ok-put-2.ensures.ids in
    (more, second ∙ first ∙ c.loop-i.invariant.1)

pub put_map-join_map-requires-clause-kind : goal.put_map-join_map-requires-clause-kind
put_map-join_map-requires-clause-kind t c =
    let vs = items_of (value_of_view c.args.map) in
    let h = c.in_ok-put_pairs.ensures.trees in
    let long : length h.turns ≡ 2 * c.len.result = omega (arith, h.long, c.len.ensures) in
    let same = ap pairs (last_put (trees c.args.builder.now) h.turns _ (2 * c.len.result) long h.put)
    ∙ all_paired vs _ _ h in
    subst (λ ps. AreOneKind (map key_of ps)) (sym same) (map_keys c.args.map c.requires).kind

pub put_map-join_map-requires-clause-differ : goal.put_map-join_map-requires-clause-differ
put_map-join_map-requires-clause-differ t c =
    let vs = items_of (value_of_view c.args.map) in
    let h = c.in_ok-put_pairs.ensures.trees in
    let long : length h.turns ≡ 2 * c.len.result = omega (arith, h.long, c.len.ensures) in
    let same = ap pairs (last_put (trees c.args.builder.now) h.turns _ (2 * c.len.result) long h.put)
    ∙ all_paired vs _ _ h in
    subst (λ ps. AllPairs (λ (a b : Value). a ≢ b) (map key_of ps)) (sym same)
    (map_keys c.args.map c.requires).differ

pub put_map-returns-clause-trees : goal.put_map-returns-clause-trees
put_map-returns-clause-trees t c =
    let v = value_of_view c.args.map in
    let vs = items_of v in
    let h = c.in_ok-put_pairs.ensures.trees in
    let long : length h.turns ≡ 2 * c.len.result = omega (arith, h.long, c.len.ensures) in
    let whole =
    ap (λ ps. Items AMap (row (in_order ps))) (all_paired vs _ _ h)
    ∙ (map_keys c.args.map c.requires).whole in
    on_ok c.join_map.result c.join_map.ensures (λ j.
    joined (λ ts. Items AMap (row (in_order (pairs ts)))) (trees c.args.builder.now) h.turns _ _
    (2 * c.len.result) v long h.put whole j)

-- ---- structs

pub put_struct-structure-requires-clause-differ : goal.put_struct-structure-requires-clause-differ
put_struct-structure-requires-clause-differ t c =
    let from = c.args.from in
    let ids = map pos (ids_of (value_of_view from)) in
    let first = c.len-first.result in
    let long : first ≡ length c.args.ids.now.items = search rules in
    let same = tail_ids first c.deref.result.now c.args.ids.now.items ids long
    (c.deref.ensures.value ∙ c.in_ok-put_fields.ensures.ids) in
    subst (AllPairs (λ (i j : ℤ). i ≢ j)) (sym same) (struct_parts from c.requires).differ

pub put_struct-structure-requires-clause-there : goal.put_struct-structure-requires-clause-there
put_struct-structure-requires-clause-there t c =
    let from = c.args.from in
    let ids = map pos (ids_of (value_of_view from)) in
    let first = c.len-first.result in
    let long : first ≡ length c.args.ids.now.items = search rules in
    let same = tail_ids first c.deref.result.now c.args.ids.now.items ids long
    (c.deref.ensures.value ∙ c.in_ok-put_fields.ensures.ids) in
    let vs = listed (fields_of (value_of_view from)) in
    enough (trees c.args.builder.now) vs _ _
    ((struct_parts from c.requires).many ∙ sym (ap (λ (zs : List ℤ). length zs) same))
    c.in_ok-put_fields.ensures.trees

pub put_struct-returns-clause-trees : goal.put_struct-returns-clause-trees
put_struct-returns-clause-trees t c =
    let from = c.args.from in
    let v = value_of_view from in
    let ids = map pos (ids_of v) in
    let first = c.len-first.result in
    let long : first ≡ length c.args.ids.now.items = search rules in
    let same = tail_ids first c.deref.result.now c.args.ids.now.items ids long
    (c.deref.ensures.value ∙ c.in_ok-put_fields.ensures.ids) in
    let us = trees c.put_fields.new.builder in
    let new = trees c.structure.new.self in
    let h = struct_parts from c.requires in
    let made = subst
    (λ (zs : List ℤ). new ≡ but_last (length zs) us ++ record_of (id_numbers zs) (last (length zs) us) ∷ [])
    same c.in_ok-structure.ensures.joined.trees in
    joined (λ ts. record_of (id_numbers ids) ts) (trees c.args.builder.now)
    (listed (fields_of v)) us new (length ids) v h.many
    c.in_ok-put_fields.ensures.trees h.whole made

pub put_fields-fields-preserved : goal.put_fields-fields-preserved
put_fields-fields-preserved t c =
    let fit : SFits w16 c.in-Some.id = search rules in
    let left = fields_left c.next.new.self in
    let h = first_field (fields_left c.fields.fields) c.in-Some.id c.in-Some.field left c.in-Some.ensures in
    let pushed = simp to_z-of_z at c.in_ok-push.ensures.items in
    let id = pushed ∙ ap (λ (zs : List ℤ). zs ++ c.in-Some.id ∷ []) c.in_ok-put.ensures.ids in (
      moved_on (trees c.fields.builder) _ _ _ (listed (fields_of left)) _ c.fields.invariant.0 h.fields
          c.in_ok-put.ensures.trees,
      moved_on c.fields.ids.items _ _ _ (map pos (ids_of left)) _ c.fields.invariant.1 h.ids id,
      omega (arith, h.lower.1, c.fields.invariant.2),
    )

-- Each part is put on those before, and the parts are joined into the whole.
use Rattle.std.proofs.Common.{◌≡◌, ◌≢◌, ◌∙◌, ◌*◌, ◌<◌, ◌++◌, ◌∷◌, [], List, ap, sym, subst, length}
use Rattle.std.proofs.Common.{arith, rules}
use Rattle.std.proofs.Common.{map, Some, slice_get, inl, inr, ℤ}
use Rattle.std.specs.List.{AllPairs}
use Rattle.std.proofs.lemmas.Int.{to_z-of_z}
use mir.Val.{SFits}
use mir.Syntax.{w16}
use Rattle.idl_profile.specs.Types.{DefField, fields_of}
use Rattle.idl_parse.specs.Refs.{field_of_ref}
use Rattle.frozen_model.specs.Trees.{AList, ASet, AMap}
use Rattle.frozen_model.specs.Values.{Value, Items, key_of, count, nth}
use Rattle.key_order.specs.Keys.{AreOneKind}
use Rattle.key_order.specs.InOrder.{row, in_order}
use Rattle.typed_tree.specs.Fields.{id_numbers, record_of}
use Rattle.typed_tree.specs.Parts.{items_of, pairs, fields_of as values_in}
use Rattle.typed_tree.specs.Trees.{trees, last, but_last}
use Rattle.typed_tree.proofs.Forms.{row_is, map_is}
use Rattle.typed_tree.proofs.Typed.{size, field-smaller}
use Rattle.evolve.specs.Lenses.{type_of_lens, value_of_lens, HasForm}
use Rattle.evolve.proofs.Known.{lens_form}
use Rattle.file_value.specs.Putting.{listed}
use Rattle.file_value.proofs.Rows.{length_listed}
use Rattle.file_value.proofs.PutRows.{joined, last_put, enough, one_more, next_listed, all_listed, list_is}
use Rattle.file_value.proofs.PutRows.{pair_put, all_paired, on_ok}
use Rattle.file_value.proofs.Records.{tail_ids}
use Rattle.lens_values.proofs.LensParts.{lens_row, lens_map, map_size, lens_struct}
use Rattle.lens_values.proofs.KeyRanks.{set_keys, map_keys}
use Rattle.lens_values.proofs.PutStructs.{part_is, next_id, struct_parts}
use Rattle.lens_values.proofs.putting.+put.Goals as goal

-- ---- items

pub put_items-len-i-end-requires : goal.put_items-len-i-end-requires
put_items-len-i-end-requires t c = row_is _ (lens_row c.args.row c.requires)

pub put_items-item-requires-clause-row : goal.put_items-item-requires-clause-row
put_items-item-requires-clause-row t c = lens_row c.args.row c.requires

pub put_items-loop-i-preserved : goal.put_items-loop-i-preserved
put_items-loop-i-preserved t c =
    let vs = items_of (value_of_lens c.args.row) in
    let inside : c.loop-i.i < count vs = omega (arith, c.loop-i-test.true, c.len-i-end.ensures) in
    let put : trees c.put.new.builder ≡ trees c.loop-i.builder ++ nth vs c.loop-i.i ∷ [] =
    c.in_ok-put.ensures.trees ∙ ap (λ x. trees c.loop-i.builder ++ x ∷ []) c.item.ensures.value in
    let more = one_more (listed vs) (trees c.args.builder.now) (trees c.loop-i.builder) _ c.loop-i.i _
    c.loop-i.invariant.0 (next_listed vs c.loop-i.i inside) put in
    (more, c.in_ok-put.ensures.ids ∙ c.loop-i.invariant.1)

pub put_items-returns-clause-trees : goal.put_items-returns-clause-trees
put_items-returns-clause-trees t c =
    let vs = items_of (value_of_lens c.args.row) in
    let all : c.loop-i.i ≡ count vs =
    omega (arith, c.loop-i-test.false, c.loop-i.auto.i-end, c.len-i-end.ensures) in
    all_listed vs (trees c.args.builder.now) (trees c.loop-i.builder) c.loop-i.i all c.loop-i.invariant.0

-- ---- lists

pub put_list-len-requires : goal.put_list-len-requires
put_list-len-requires t c = row_is _ (lens_row c.args.list (inl c.requires))

pub put_list-list-requires : goal.put_list-list-requires
put_list-list-requires t c =
    let vs = items_of (value_of_lens c.args.list) in
    enough (trees c.args.builder.now) (listed vs) _ c.len.result (length_listed vs ∙ sym c.len.ensures)
    c.in_ok-put_items.ensures.trees

pub put_list-returns-clause-trees : goal.put_list-returns-clause-trees
put_list-returns-clause-trees t c =
    let v = value_of_lens c.args.list in
    let vs = items_of v in
    let formed = subst (λ x. HasForm x v) c.requires (lens_form c.args.list) in
    on_ok c.list.result c.list.ensures.joined (λ j.
    joined (λ ts. Items AList (row ts)) (trees c.args.builder.now) (listed vs) _ _ c.len.result v
    (length_listed vs ∙ sym c.len.ensures) c.in_ok-put_items.ensures.trees (list_is v formed) j.trees)

-- ---- sets

pub put_set-len-requires : goal.put_set-len-requires
put_set-len-requires t c = row_is _ (lens_row c.args.set (inr c.requires))

pub put_set-join_set-requires-clause-there : goal.put_set-join_set-requires-clause-there
put_set-join_set-requires-clause-there t c =
    let vs = items_of (value_of_lens c.args.set) in
    enough (trees c.args.builder.now) (listed vs) _ c.len.result (length_listed vs ∙ sym c.len.ensures)
    c.in_ok-put_items.ensures.trees

pub put_set-join_set-requires-clause-kind : goal.put_set-join_set-requires-clause-kind
put_set-join_set-requires-clause-kind t c =
    let vs = items_of (value_of_lens c.args.set) in
    let same = last_put (trees c.args.builder.now) (listed vs) _ c.len.result
    (length_listed vs ∙ sym c.len.ensures) c.in_ok-put_items.ensures.trees in
    subst AreOneKind (sym same) (set_keys c.args.set c.requires).kind

pub put_set-join_set-requires-clause-differ : goal.put_set-join_set-requires-clause-differ
put_set-join_set-requires-clause-differ t c =
    let vs = items_of (value_of_lens c.args.set) in
    let same = last_put (trees c.args.builder.now) (listed vs) _ c.len.result
    (length_listed vs ∙ sym c.len.ensures) c.in_ok-put_items.ensures.trees in
    subst (AllPairs (λ (a b : Value). a ≢ b)) (sym same) (set_keys c.args.set c.requires).differ

pub put_set-returns-clause-trees : goal.put_set-returns-clause-trees
put_set-returns-clause-trees t c =
    let v = value_of_lens c.args.set in
    let vs = items_of v in
    on_ok c.join_set.result c.join_set.ensures (λ j.
    joined (λ ts. Items ASet (row (in_order ts))) (trees c.args.builder.now) (listed vs) _ _ c.len.result v
    (length_listed vs ∙ sym c.len.ensures) c.in_ok-put_items.ensures.trees
    (set_keys c.args.set c.requires).whole j)

-- ---- maps

pub put_pairs-len-i-end-requires : goal.put_pairs-len-i-end-requires
put_pairs-len-i-end-requires t c = map_is _ (lens_map c.args.map c.requires)

pub put_pairs-entry-requires-clause-map : goal.put_pairs-entry-requires-clause-map
put_pairs-entry-requires-clause-map t c = lens_map c.args.map c.requires

pub put_pairs-put-requires : goal.put_pairs-put-requires
put_pairs-put-requires t c =
    (omega (arith, c.decreases, map_size c.args.map c.requires, ap size c.entry.ensures.key), tt)

pub put_pairs-put-requires-in-loop-i : goal.put_pairs-put-requires-in-loop-i
put_pairs-put-requires-in-loop-i t c =
    (omega (arith, c.decreases, map_size c.args.map c.requires, ap size c.entry.ensures.typed), tt)

pub put_pairs-loop-i-preserved : goal.put_pairs-loop-i-preserved
put_pairs-loop-i-preserved t c =
    let vs = items_of (value_of_lens c.args.map) in
    let inside : c.loop-i.i < count vs = omega (arith, c.loop-i-test.true, c.len-i-end.ensures) in
    let more = pair_put (trees c.args.builder.now) (trees c.loop-i.builder) _ _ vs c.loop-i.i _ _ inside
    (sym c.entry.ensures.value) c.loop-i.invariant.0 c.in_ok-put.ensures.trees
    c.in_ok-put-2.ensures.trees in
    let first : c.put.new.ids.items ≡ c.loop-i.ids.items = c.in_ok-put.ensures.ids in
    let second : c.put-in-loop-i.new.ids.items ≡ c.put.new.ids.items = c.in_ok-put-2.ensures.ids in
    (more, second ∙ first ∙ c.loop-i.invariant.1)

pub put_map-len-requires : goal.put_map-len-requires
put_map-len-requires t c = map_is _ (lens_map c.args.map c.requires)

pub put_map-join_map-requires-clause-kind : goal.put_map-join_map-requires-clause-kind
put_map-join_map-requires-clause-kind t c =
    let vs = items_of (value_of_lens c.args.map) in
    let h = c.in_ok-put_pairs.ensures.trees in
    let long : length h.turns ≡ 2 * c.len.result = omega (arith, h.long, c.len.ensures) in
    let same = ap pairs (last_put (trees c.args.builder.now) h.turns _ (2 * c.len.result) long h.put)
    ∙ all_paired vs _ _ h in
    subst (λ ps. AreOneKind (map key_of ps)) (sym same) (map_keys c.args.map c.requires).kind

pub put_map-join_map-requires-clause-differ : goal.put_map-join_map-requires-clause-differ
put_map-join_map-requires-clause-differ t c =
    let vs = items_of (value_of_lens c.args.map) in
    let h = c.in_ok-put_pairs.ensures.trees in
    let long : length h.turns ≡ 2 * c.len.result = omega (arith, h.long, c.len.ensures) in
    let same = ap pairs (last_put (trees c.args.builder.now) h.turns _ (2 * c.len.result) long h.put)
    ∙ all_paired vs _ _ h in
    subst (λ ps. AllPairs (λ (a b : Value). a ≢ b) (map key_of ps)) (sym same)
    (map_keys c.args.map c.requires).differ

pub put_map-returns-clause-trees : goal.put_map-returns-clause-trees
put_map-returns-clause-trees t c =
    let v = value_of_lens c.args.map in
    let vs = items_of v in
    let h = c.in_ok-put_pairs.ensures.trees in
    let long : length h.turns ≡ 2 * c.len.result = omega (arith, h.long, c.len.ensures) in
    let whole =
    ap (λ ps. Items AMap (row (in_order ps))) (all_paired vs _ _ h)
    ∙ (map_keys c.args.map c.requires).whole in
    on_ok c.join_map.result c.join_map.ensures (λ j.
    joined (λ ts. Items AMap (row (in_order (pairs ts)))) (trees c.args.builder.now) h.turns _ _
    (2 * c.len.result) v long h.put whole j)

-- ---- structs

pub put_fields-put_part-requires : goal.put_fields-put_part-requires
put_fields-put_part-requires t c =
    let f = field_of_ref c.field_at-field.result in
    let at = subst (λ x. slice_get (fields_of x) c.loop-i.i ≡ Some f) c.ty-ty.ensures
    c.field_at-field.ensures in
    let less = field-smaller (type_of_lens c.args.from) c.loop-i.i f at in
    (omega (arith, c.decreases, less), c.part.ensures.typed)

pub put_fields-loop-i-preserved : goal.put_fields-loop-i-preserved
put_fields-loop-i-preserved t c =
    let fit : SFits w16 c.id.result = search rules in
    let from = c.args.from in
    let i = c.loop-i.i in
    let fs = fields_of (type_of_lens from) in
    let vs = values_in (value_of_lens from) in
    let f = field_of_ref c.field_at-field.result in
    let at = subst (λ x. slice_get (fields_of x) i ≡ Some f) c.ty-ty.ensures c.field_at-field.ensures in
    let same = ap (λ x. length (fields_of x)) c.ty-ty.ensures in
    let many = (lens_struct from c.requires).many in
    let inside : i < count vs = omega (arith, c.loop-i-test.true, c.field_count-i-end.ensures, same, many) in
    let is = part_is from i f _ c.requires at c.part.ensures.value in
    let put : trees c.put_part.new.builder ≡ trees c.loop-i.builder ++ nth vs i ∷ [] =
    c.in_ok-put_part.ensures.trees ∙ ap (λ x. trees c.loop-i.builder ++ x ∷ []) is in
    let pushed = simp to_z-of_z at c.in_ok-push.ensures.items in
    let id =
    pushed
    ∙ ap (λ (z : ℤ). c.put_part.new.ids.items ++ z ∷ []) c.id.ensures
    ∙ ap (λ (zs : List ℤ). zs ++ f.id ∷ []) c.in_ok-put_part.ensures.ids in (
      one_more (listed vs) (trees c.args.builder.now) (trees c.loop-i.builder) _ i _ c.loop-i.invariant.0
          (next_listed vs i inside) put,
      one_more (map (λ (g : DefField). g.id) fs) c.args.ids.now.items c.loop-i.ids.items _ i f.id
          c.loop-i.invariant.1 (next_id fs i f at) id,
    )

pub put_fields-returns-clause-trees : goal.put_fields-returns-clause-trees
put_fields-returns-clause-trees t c =
    let from = c.args.from in
    let vs = values_in (value_of_lens from) in
    let same = ap (λ x. length (fields_of x)) c.ty-ty.ensures in
    let all : c.loop-i.i ≡ count vs =
    omega (
      arith,
      c.loop-i-test.false,
      c.loop-i.auto.i-end,
      c.field_count-i-end.ensures,
      same,
      (lens_struct from c.requires).many,
    ) in
    all_listed vs (trees c.args.builder.now) (trees c.loop-i.builder) c.loop-i.i all c.loop-i.invariant.0

pub put_struct-structure-requires-clause-differ : goal.put_struct-structure-requires-clause-differ
put_struct-structure-requires-clause-differ t c =
    let from = c.args.from in
    let ids = map (λ (g : DefField). g.id) (fields_of (type_of_lens from)) in
    let first = c.len-first.result in
    let long : first ≡ length c.args.ids.now.items = search rules in
    let same = tail_ids first c.deref.result.now c.args.ids.now.items ids long
    (c.deref.ensures.value ∙ c.in_ok-put_fields.ensures.ids) in
    subst (AllPairs (λ (i j : ℤ). i ≢ j)) (sym same) (struct_parts from c.requires).differ

pub put_struct-structure-requires-clause-there : goal.put_struct-structure-requires-clause-there
put_struct-structure-requires-clause-there t c =
    let from = c.args.from in
    let ids = map (λ (g : DefField). g.id) (fields_of (type_of_lens from)) in
    let first = c.len-first.result in
    let long : first ≡ length c.args.ids.now.items = search rules in
    let same = tail_ids first c.deref.result.now c.args.ids.now.items ids long
    (c.deref.ensures.value ∙ c.in_ok-put_fields.ensures.ids) in
    let vs = listed (values_in (value_of_lens from)) in
    enough (trees c.args.builder.now) vs _ _
    ((struct_parts from c.requires).many ∙ sym (ap (λ (zs : List ℤ). length zs) same))
    c.in_ok-put_fields.ensures.trees

pub put_struct-returns-clause-trees : goal.put_struct-returns-clause-trees
put_struct-returns-clause-trees t c =
    let from = c.args.from in
    let ids = map (λ (g : DefField). g.id) (fields_of (type_of_lens from)) in
    let first = c.len-first.result in
    let long : first ≡ length c.args.ids.now.items = search rules in
    let same = tail_ids first c.deref.result.now c.args.ids.now.items ids long
    (c.deref.ensures.value ∙ c.in_ok-put_fields.ensures.ids) in
    let us = trees c.put_fields.new.builder in
    let new = trees c.structure.new.self in
    let h = struct_parts from c.requires in
    let made = subst
    (λ (zs : List ℤ). new ≡ but_last (length zs) us ++ record_of (id_numbers zs) (last (length zs) us) ∷ [])
    same c.in_ok-structure.ensures.joined.trees in
    joined (λ ts. record_of (id_numbers ids) ts) (trees c.args.builder.now)
    (listed (values_in (value_of_lens from))) us new (length ids) (value_of_lens from) h.many
    c.in_ok-put_fields.ensures.trees h.whole made

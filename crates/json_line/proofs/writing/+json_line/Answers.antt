use Rattle.std.proofs.Common.{◌≡◌, ◌∙◌, ◌++◌, ◌∷◌, [], ◌<◌, ap, sym, subst, length, arith, Some, string_bytes}
use Rattle.std.specs.Prelude.{option_and_then}
use Rattle.std.specs.List.{slice_get}
use Rattle.std.proofs.Math.Logic.{∥∥₁_elim}
use Rattle.std.proofs.lemmas.Option.{slice_get_within}
use Rattle.idl_profile.specs.declared.kinds.TypeKind.TheVariants as kinds
use Rattle.idl_profile.specs.Types.{field_list, fields_of}
use Rattle.idl_parse.specs.Refs.{field_of_ref, element_of, key_of, value_of}
use Rattle.frozen_model.specs.Values.{count, nth}
use Rattle.serde_json.specs.Written.{compact_text, members_text}
use Rattle.typed_tree.specs.Parts.{items_of, fields_of as values_in}
use Rattle.typed_tree.specs.Spots.{pair}
use Rattle.typed_tree.proofs.Typed.{size, field-smaller}
use Rattle.typed_tree.proofs.Celled.{all_fields, struct-value, field-count, field-value}
use Rattle.evolve.specs.Parts.{held}
use Rattle.evolve.specs.Lenses.{type_of_lens, value_of_lens}
use Rattle.evolve.proofs.Known.{lens_value, lens_accepted, lens_ids}
use Rattle.evolve.proofs.Members.{contains_at, rising_ids, field_in_type, struct_id}
use Rattle.json_line.specs.Json.{as_json, both, json, with_held}
use Rattle.json_line.proofs.Forms.{json-as, json-row, row-smaller, row-form, row-items, map-smaller, map-form}
use Rattle.json_line.proofs.Forms.{map-items}
use Rattle.json_line.proofs.Found.{texts_set, fields_listed, field_found, shown_as_held}
use Rattle.json_line.proofs.Rest.{closes, item-more, row-done, field-more, fields-done}
use Rattle.json_line.proofs.writing.+json_line.Goals as goal

-- ---- items

pub push_row-len-i-end-requires : goal.push_row-len-i-end-requires
push_row-len-i-end-requires t c = row-items c.args.row c.requires

pub push_row-item-requires-clause-row : goal.push_row-item-requires-clause-row
push_row-item-requires-clause-row t c = row-form c.args.row c.requires

pub push_row-push_value-requires : goal.push_row-push_value-requires
push_row-push_value-requires t c =
    let less = row-smaller (type_of_lens c.args.row) c.requires in
    (omega (arith, c.decreases, less, ap size c.item.ensures.typed), tt)

pub push_row-loop-i-preserved : goal.push_row-loop-i-preserved
push_row-loop-i-preserved t c =
    let f = as_json (element_of (type_of_lens c.args.row)) in
    let vs = items_of (value_of_lens c.args.row) in
    let inside : c.loop-i.i < count vs = omega (arith, c.loop-i-test.true, c.len-i-end.ensures) in
    let mid = string_bytes c.push_comma.new.out in
    let one : string_bytes c.push_value.new.out ≡ mid ++ compact_text (f (nth vs c.loop-i.i)) =
    c.in_ok-push_value.ensures ∙ ap (λ x. mid ++ json x (value_of_lens c.item.result)) c.item.ensures.typed
    ∙ ap (λ v. mid ++ compact_text (f v)) c.item.ensures.value in
    item-more f vs c.loop-i.i (string_bytes c.loop-i.out) mid (string_bytes c.push_value.new.out) _ inside
    c.in_ok-push_comma.ensures one c.loop-i.invariant

pub push_row-returns : goal.push_row-returns
push_row-returns t c =
    let of_type = type_of_lens c.args.row in
    let v = value_of_lens c.args.row in
    let f = as_json (element_of of_type) in
    let vs = items_of v in
    let old = string_bytes c.args.out.now in
    let all : c.loop-i.i ≡ count vs =
    omega (arith, c.loop-i-test.false, c.loop-i.auto.i-end, c.len-i-end.ensures) in
    closes c.push_str-2.result (string_bytes c.loop-i.out) (93 ∷ []) (string_bytes c.push_str-2.new.self)
    c.push_str-2.ensures.bytes
    (λ ended. row-done f vs c.loop-i.i old (string_bytes c.push_str.new.self) (string_bytes c.loop-i.out)
    (string_bytes c.push_str-2.new.self) all c.in_ok-push_str.ensures.bytes ended c.loop-i.invariant
    ∙ ap (λ x. old ++ compact_text x) (sym (json-row of_type v c.requires)))

-- ---- pairs

pub push_map-len-i-end-requires : goal.push_map-len-i-end-requires
push_map-len-i-end-requires t c = map-items c.args.map c.requires

pub push_map-entry-requires-clause-map : goal.push_map-entry-requires-clause-map
push_map-entry-requires-clause-map t c = map-form c.args.map c.requires

pub push_map-push_pair-requires : goal.push_map-push_pair-requires
push_map-push_pair-requires t c =
    let less = map-smaller (type_of_lens c.args.map) c.requires in
    (omega (arith, c.decreases, less, ap size c.entry.ensures.key, ap size c.entry.ensures.typed), tt)

pub push_map-loop-i-preserved : goal.push_map-loop-i-preserved
push_map-loop-i-preserved t c =
    let of_type = type_of_lens c.args.map in
    let f = as_json (key_of of_type) in
    let g = as_json (value_of of_type) in
    let vs = items_of (value_of_lens c.args.map) in
    let key = c.entry.result.0 in
    let value = c.entry.result.1 in
    let both_of = pair (value_of_lens key) (value_of_lens value) in
    let inside : c.loop-i.i < count vs = omega (arith, c.loop-i-test.true, c.len-i-end.ensures) in
    let mid = string_bytes c.push_comma.new.out in
    let one : string_bytes c.push_pair.new.out ≡ mid ++ compact_text (both f g (nth vs c.loop-i.i)) =
    c.in_ok-push_pair.ensures
    ∙ ap (λ x. mid ++ compact_text (both (as_json x) (as_json (type_of_lens value)) both_of))
    c.entry.ensures.key
    ∙ ap (λ y. mid ++ compact_text (both f (as_json y) both_of)) c.entry.ensures.typed
    ∙ ap (λ p. mid ++ compact_text (both f g p)) c.entry.ensures.value in
    item-more (both f g) vs c.loop-i.i (string_bytes c.loop-i.out) mid
    (string_bytes c.push_pair.new.out) _ inside
    c.in_ok-push_comma.ensures one c.loop-i.invariant

pub push_map-returns : goal.push_map-returns
push_map-returns t c =
    let of_type = type_of_lens c.args.map in
    let v = value_of_lens c.args.map in
    let f = both (as_json (key_of of_type)) (as_json (value_of of_type)) in
    let vs = items_of v in
    let old = string_bytes c.args.out.now in
    let all : c.loop-i.i ≡ count vs =
    omega (arith, c.loop-i-test.false, c.loop-i.auto.i-end, c.len-i-end.ensures) in
    closes c.push_str-2.result (string_bytes c.loop-i.out) (93 ∷ []) (string_bytes c.push_str-2.new.self)
    c.push_str-2.ensures.bytes
    (λ ended. row-done f vs c.loop-i.i old (string_bytes c.push_str.new.self) (string_bytes c.loop-i.out)
    (string_bytes c.push_str-2.new.self) all c.in_ok-push_str.ensures.bytes ended c.loop-i.invariant
    ∙ ap (λ x. old ++ compact_text x) (sym (json-as kinds.Map of_type v c.requires)))

-- ---- fields

pub push_fields-push_field-requires : goal.push_fields-push_field-requires
push_fields-push_field-requires t c =
    let of_type = type_of_lens c.args.from in
    let f = field_of_ref c.field_at.result in
    let at : slice_get (fields_of of_type) c.loop-i.i ≡ Some f =
    subst (λ x. slice_get (fields_of x) c.loop-i.i ≡ Some f) c.ty-ty.ensures c.field_at.ensures in
    let less = field-smaller of_type c.loop-i.i f at in
    (omega (arith, c.decreases, less), contains_at (fields_of of_type) c.loop-i.i f at)

pub push_fields-loop-i-preserved : goal.push_fields-loop-i-preserved
push_fields-loop-i-preserved t c =
    let l = c.args.from in
    let of_type = type_of_lens l in
    let v = value_of_lens l in
    let i = c.loop-i.i in
    let f = field_of_ref c.field_at.result in
    let fs = all_fields of_type in
    let out = string_bytes c.loop-i.out in
    let at : slice_get (fields_of of_type) i ≡ Some f =
    subst (λ x. slice_get (fields_of x) i ≡ Some f) c.ty-ty.ensures c.field_at.ensures in
    let listed : slice_get (field_list fs) i ≡ Some f =
    subst (λ gs. slice_get gs i ≡ Some f) (fields_listed of_type c.requires) at in
    let fits = struct_id of_type f (field_in_type of_type f (contains_at (fields_of of_type) i f at))
    (lens_ids l) in
    ∥∥₁_elim (lens_value l) (texts_set _ _) (λ o.
    let h = struct-value of_type v c.requires o in
    let inside : i < count (values_in v) =
    omega (arith, slice_get_within (fields_of of_type) i f at, field-count of_type v h) in
    let found = field_found of_type v i f c.requires o (rising_ids of_type (lens_accepted l)) fits at in
    field-more fs (values_in v) i f c.loop-i.later c.in_ok-later.later out
    (string_bytes c.push_field.new.out) _
    listed inside
    (λ ms. c.in_ok-later.ensures ms
    ∙ ap (λ u. out ++ members_text c.loop-i.later (with_held f.name (as_json f.type)
    (option_and_then held u) ms)) found
    ∙ ap (λ x. out ++ members_text c.loop-i.later x)
    (sym (shown_as_held f.need f.type f.name (as_json f.type) (nth (values_in v) i) ms
    (field-value of_type v i f h at))))
    c.loop-i.invariant)

pub push_fields-returns : goal.push_fields-returns
push_fields-returns t c =
    let of_type = type_of_lens c.args.from in
    let v = value_of_lens c.args.from in
    let old = string_bytes c.args.out.now in
    let fs = all_fields of_type in
    let all : c.loop-i.i ≡ length (field_list fs) =
    omega (
      arith,
      c.loop-i-test.false,
      c.loop-i.auto.i-end,
      c.field_count-i-end.ensures,
      ap (λ x. length (fields_of x)) c.ty-ty.ensures,
      ap length (fields_listed of_type c.requires),
    ) in
    closes c.push_str-2.result (string_bytes c.loop-i.out) (125 ∷ []) (string_bytes c.push_str-2.new.self)
    c.push_str-2.ensures.bytes
    (λ ended. fields-done fs (values_in v) c.loop-i.i c.loop-i.later old (string_bytes c.push_str.new.self)
    (string_bytes c.loop-i.out) (string_bytes c.push_str-2.new.self) all c.in_ok-push_str.ensures.bytes ended
    c.loop-i.invariant
    ∙ ap (λ x. old ++ compact_text x) (sym (json-as kinds.Struct of_type v c.requires)))

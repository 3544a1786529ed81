use Rattle.std.proofs.Common.{◌≡◌, ◌∙◌, ◌+◌, ◌*◌, ◌++◌, ◌∷◌, [], ◌<◌, ap, sym, subst, length, arith, inl, inr, Some, append_assoc, rules}
use Rattle.std.specs.List.{slice_get}
use Rattle.byteorder.specs.Endian.{big_bytes}
use Rattle.compact_wire.proofs.WriteSteps.{on_ok}
use Rattle.idl_profile.specs.Types.{field_list}
use Rattle.idl_parse.specs.Refs.{type_of_ref, field_of_ref, key_of, value_of}
use Rattle.frozen_model.specs.Values.{Of, OfEach, count, nth}
use Rattle.type_kinds.specs.KindsOf.{kinds_of}
use Rattle.typed_tree.specs.Parts.{items_of, fields_of as values_in}
use Rattle.typed_tree.specs.References.{value_of_ref}
use Rattle.typed_tree.specs.Sizes.{field_kinds}
use Rattle.typed_tree.specs.Ranges.{pair_kinds}
use Rattle.typed_tree.proofs.Typed.{size, field-smaller}
use Rattle.typed_tree.proofs.Celled.{row-value, map-value, struct-value, each-at, key-of-pair, value-of-pair, all_fields, field-count, field-value}
use Rattle.binary_codec.specs.BinaryEncoding.{binary, type_code, map_in_binary, field_in_binary}
use Rattle.binary_codec.proofs.Remaining.{item-more, row-done, few-items, pair-more, map-done, few-pairs, map-as, field-more, fields-done}
use Rattle.binary_codec.proofs.encoding.+encode.Goals as goal

-- ---- items

pub push_row-push_value-requires : goal.push_row-push_value-requires
push_row-push_value-requires t c =
    let k = kinds_of (type_of_ref c.args.element) in
    let inside : c.loop-i.i < count (items_of (value_of_ref c.args.row)) = omega (arith, c.loop-i-test.true, c.len-count.ensures) in
    (omega (arith, c.decreases), subst (Of k) (sym c.item.ensures.value) (each-at c.requires.items c.loop-i.i inside))

pub push_row-loop-i-preserved : goal.push_row-loop-i-preserved
push_row-loop-i-preserved t c =
    let f = binary (type_of_ref c.args.element) in
    let vs = items_of (value_of_ref c.args.row) in
    let inside : c.loop-i.i < count vs = omega (arith, c.loop-i-test.true, c.len-count.ensures) in
    item-more f vs c.loop-i.i c.loop-i.out.items c.push_value.new.out.items _ inside (c.in_ok-push_value.ensures ∙ ap (λ v. c.loop-i.out.items ++ f v) c.item.ensures.value) c.loop-i.invariant

pub push_row-returns : goal.push_row-returns
push_row-returns t c =
    let x = type_of_ref c.args.element in
    let f = binary x in
    let vs = items_of (value_of_ref c.args.row) in
    let old = c.args.out.now.items in
    let mid = c.push.new.self.items in
    let all : c.loop-i.i ≡ count vs = omega (arith, c.loop-i-test.false, c.loop-i.auto.i-end, c.len-count.ensures) in
    let coded : mid ≡ old ++ type_code x ∷ [] = c.in_ok-push.ensures.items ∙ ap (λ n. old ++ n ∷ []) c.type_code.ensures in
    let sized : c.push_size.new.out.items ≡ mid ++ big_bytes 4 (count vs) = c.in_ok-push_size.ensures ∙ ap (λ n. mid ++ big_bytes 4 n) c.len-count.ensures in
    row-done x f vs c.loop-i.i old mid c.push_size.new.out.items c.loop-i.out.items all coded sized c.loop-i.invariant

-- ---- pairs

pub push_map-push_value-requires : goal.push_map-push_value-requires
push_map-push_value-requires t c =
    let vs = items_of (value_of_ref c.args.map) in
    let inside : c.loop-i.i < count vs = omega (arith, c.loop-i-test.true, c.len-count.ensures) in
    (omega (arith, c.decreases), key-of-pair (kinds_of (type_of_ref c.args.key)) (kinds_of (type_of_ref c.args.value)) vs c.loop-i.i _ _ c.requires.items inside c.entry.ensures.pair)

pub push_map-push_value-requires-in-loop-i : goal.push_map-push_value-requires-in-loop-i
push_map-push_value-requires-in-loop-i t c =
    let vs = items_of (value_of_ref c.args.map) in
    let inside : c.loop-i.i < count vs = omega (arith, c.loop-i-test.true, c.len-count.ensures) in
    (omega (arith, c.decreases), value-of-pair (kinds_of (type_of_ref c.args.key)) (kinds_of (type_of_ref c.args.value)) vs c.loop-i.i _ _ c.requires.items inside c.entry.ensures.pair)

pub push_map-loop-i-preserved : goal.push_map-loop-i-preserved
push_map-loop-i-preserved t c =
    let f = binary (type_of_ref c.args.key) in
    let g = binary (type_of_ref c.args.value) in
    let vs = items_of (value_of_ref c.args.map) in
    let inside : c.loop-i.i < count vs = omega (arith, c.loop-i-test.true, c.len-count.ensures) in
    pair-more f g vs c.loop-i.i (value_of_ref c.entry.result.0) (value_of_ref c.entry.result.1) c.loop-i.out.items c.push_value.new.out.items c.push_value-in-loop-i.new.out.items _ inside c.entry.ensures.pair
    c.in_ok-push_value.ensures c.in_ok-push_value-2.ensures c.loop-i.invariant

pub push_map-returns : goal.push_map-returns
push_map-returns t c =
    let x = type_of_ref c.args.key in
    let y = type_of_ref c.args.value in
    let vs = items_of (value_of_ref c.args.map) in
    let old = c.args.out.now.items in
    let one = c.push.new.self.items in
    let two = c.push-2.new.self.items in
    let all : c.loop-i.i ≡ count vs = omega (arith, c.loop-i-test.false, c.loop-i.auto.i-end, c.len-count.ensures) in
    let first : one ≡ old ++ type_code x ∷ [] = c.in_ok-push.ensures.items ∙ ap (λ n. old ++ n ∷ []) c.type_code.ensures in
    let second : two ≡ one ++ type_code y ∷ [] = c.in_ok-push-2.ensures.items ∙ ap (λ n. one ++ n ∷ []) c.type_code-2.ensures in
    let sized : c.push_size.new.out.items ≡ two ++ big_bytes 4 (count vs) = c.in_ok-push_size.ensures ∙ ap (λ n. two ++ big_bytes 4 n) c.len-count.ensures in
    map-done x y (binary x) (binary y) vs c.loop-i.i old one two c.push_size.new.out.items c.loop-i.out.items all first second sized c.loop-i.invariant

-- ---- fields

pub push_fields-field_at-requires-in-loop-i : goal.push_fields-field_at-requires-in-loop-i
push_fields-field_at-requires-in-loop-i t c =
    let h = struct-value (type_of_ref c.args.ty) (value_of_ref c.args.v) c.requires.kind c.requires.value in
    omega (arith, c.loop-i-test.true, c.loop-i.auto.i-end, c.field_count-i-end.ensures, c.from.ensures, field-count (type_of_ref c.args.ty) (value_of_ref c.args.v) h)

pub push_fields-push_field-requires : goal.push_fields-push_field-requires
push_fields-push_field-requires t c =
    let of_type = type_of_ref c.args.ty in
    let v = value_of_ref c.args.v in
    let f = field_of_ref c.field_at.result in
    let h = struct-value of_type v c.requires.kind c.requires.value in
    let less = field-smaller of_type c.loop-i.i f c.field_at.ensures in
    let is : value_of_ref c.field_at-in-loop-i.result ≡ nth (values_in v) c.loop-i.i = c.field_at-in-loop-i.ensures.value ∙ ap (nth (values_in v)) c.from.ensures in
    (omega (arith, c.decreases, less), subst (Of (field_kinds f.need f.type)) (sym is) (field-value of_type v c.loop-i.i f h c.field_at.ensures))

pub push_fields-loop-i-preserved : goal.push_fields-loop-i-preserved
push_fields-loop-i-preserved t c =
    let of_type = type_of_ref c.args.ty in
    let v = value_of_ref c.args.v in
    let f = field_of_ref c.field_at.result in
    let h = struct-value of_type v c.requires.kind c.requires.value in
    let fs = all_fields of_type in
    let at : slice_get (field_list fs) c.loop-i.i ≡ Some f = subst (λ gs. slice_get gs c.loop-i.i ≡ Some f) h.list c.field_at.ensures in
    let inside : c.loop-i.i < count (values_in v) = omega (arith, c.loop-i-test.true, c.field_count-i-end.ensures, field-count of_type v h) in
    let is : value_of_ref c.field_at-in-loop-i.result ≡ nth (values_in v) c.loop-i.i = c.field_at-in-loop-i.ensures.value ∙ ap (nth (values_in v)) c.from.ensures in
    field-more fs (values_in v) c.loop-i.i f c.loop-i.out.items c.push_field.new.out.items _ at inside
    (c.in_ok-push_field.ensures ∙ ap (λ u. c.loop-i.out.items ++ field_in_binary f.need f.type f.id (binary f.type) u) is) c.loop-i.invariant

pub push_fields-returns : goal.push_fields-returns
push_fields-returns t c =
    let of_type = type_of_ref c.args.ty in
    let v = value_of_ref c.args.v in
    let old = c.args.out.now.items in
    let h = struct-value of_type v c.requires.kind c.requires.value in
    let all : c.loop-i.i ≡ length (field_list (all_fields of_type)) = omega (arith, c.loop-i-test.false, c.loop-i.auto.i-end, c.field_count-i-end.ensures, ap length h.list) in
    fields-done of_type v c.loop-i.i old c.loop-i.out.items c.push.new.self.items c.requires.kind all c.in_ok-push.ensures.items c.loop-i.invariant

-- ---- containers

pub push_value-returns-in-Map : goal.push_value-returns-in-Map
push_value-returns-in-Map t c =
    let of_type = type_of_ref c.args.ty in
    let v = value_of_ref c.args.v in
    let old = c.args.out.now.items in
    on_ok c.push_map.result (λ written. written
    ∙ ap (λ x. old ++ map_in_binary x (type_of_ref c.value.result) (binary x) (binary (type_of_ref c.value.result)) (items_of v)) c.key.ensures
    ∙ ap (λ y. old ++ map_in_binary (key_of of_type) y (binary (key_of of_type)) (binary y) (items_of v)) c.value.ensures
    ∙ ap (λ r. old ++ r) (sym (map-as of_type v (sym c.kind.ensures ∙ c.in-Map.is)))) c.push_map.ensures

pub push_value-push_row-requires : goal.push_value-push_row-requires
push_value-push_row-requires t c =
    let v = value_of_ref c.args.v in
    let is_list = sym c.kind.ensures ∙ c.in-List.is in
    let h = row-value (type_of_ref c.args.ty) v (inl is_list) c.requires in
    (omega (arith, c.decreases, h.smaller, ap size c.element.ensures), (h.form, (subst (λ x. OfEach (kinds_of x) (items_of v)) (sym c.element.ensures) h.items, few-items (type_of_ref c.args.ty) v (inl is_list) c.requires)))

pub push_value-push_row-requires-in-Set : goal.push_value-push_row-requires-in-Set
push_value-push_row-requires-in-Set t c =
    let v = value_of_ref c.args.v in
    let is_set = sym c.kind.ensures ∙ c.in-Set.is in
    let h = row-value (type_of_ref c.args.ty) v (inr is_set) c.requires in
    (omega (arith, c.decreases, h.smaller, ap size c.element-in-Set.ensures), (h.form, (subst (λ x. OfEach (kinds_of x) (items_of v)) (sym c.element-in-Set.ensures) h.items, few-items (type_of_ref c.args.ty) v (inr is_set) c.requires)))

pub push_value-push_map-requires : goal.push_value-push_map-requires
push_value-push_map-requires t c =
    let v = value_of_ref c.args.v in
    let is_map = sym c.kind.ensures ∙ c.in-Map.is in
    let h = map-value (type_of_ref c.args.ty) v is_map c.requires in
    let by_key = subst (λ x. OfEach (pair_kinds (kinds_of x) (kinds_of (value_of (type_of_ref c.args.ty)))) (items_of v)) (sym c.key.ensures) h.items in
    let both = subst (λ y. OfEach (pair_kinds (kinds_of (type_of_ref c.key.result)) (kinds_of y)) (items_of v)) (sym c.value.ensures) by_key in
    (omega (arith, c.decreases, h.smaller, ap size c.key.ensures, ap size c.value.ensures), (h.form, (both, few-pairs (type_of_ref c.args.ty) v is_map c.requires)))

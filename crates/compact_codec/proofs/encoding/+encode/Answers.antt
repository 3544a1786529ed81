use Rattle.std.proofs.Common.{◌≡◌, ◌∙◌, ◌+◌, ◌*◌, ◌++◌, ◌∷◌, [], ◌<◌, ap, sym, subst, length, arith, inl, inr, Some, append_assoc, rules}
use Rattle.std.specs.List.{slice_get}
use Rattle.std.proofs.lemmas.Int.{to_z-of_z}
use mir.Val.{SFits}
use mir.Syntax.{w16}
use Rattle.compact_wire.specs.Writes.{canon_field}
use Rattle.compact_wire.proofs.WriteSteps.{on_ok}
use Rattle.idl_profile.specs.declared.kinds.TypeKind.TheVariants as kinds
use Rattle.idl_profile.specs.Types.{field_list}
use Rattle.idl_parse.specs.Refs.{type_of_ref, field_of_ref, key_of, value_of}
use Rattle.frozen_model.specs.Values.{Of, OfEach, count, nth}
use Rattle.type_kinds.specs.KindsOf.{kinds_of}
use Rattle.compact_wire.specs.Node as node
use Rattle.compact_wire.specs.Number.{shortest}
use Rattle.compact_wire.specs.Canon.{canon, canon_fields, sequence_header, field_header}
use Rattle.typed_tree.specs.Parts.{items_of, fields_of as values_in}
use Rattle.typed_tree.specs.References.{value_of_ref}
use Rattle.typed_tree.specs.Sizes.{field_kinds}
use Rattle.typed_tree.specs.Ranges.{pair_kinds}
use Rattle.typed_tree.proofs.Typed.{size, field-smaller}
use Rattle.typed_tree.proofs.Celled.{row-value, map-value, struct-value, each-at, key-of-pair, value-of-pair, all_fields, field-count, field-value}
use Rattle.typed_reading.specs.Codes.{code}
use Rattle.compact_codec.specs.Wire.{wire, each, each_pair, map_with, with_field}
use Rattle.compact_codec.proofs.Forms.{wire-as}
use Rattle.compact_codec.proofs.Rest.{item-more, row-done, pair-more, no-map, map-done, field-more, fields-done, given-more, value-behind}
use Rattle.compact_codec.proofs.encoding.+encode.Goals as goal

-- ---- items

pub push_row-push_value-requires : goal.push_row-push_value-requires
push_row-push_value-requires t c =
    let k = kinds_of (type_of_ref c.args.element) in
    let inside : c.loop-i.i < count (items_of (value_of_ref c.args.row)) = omega (arith, c.loop-i-test.true, c.len-count.ensures) in
    (omega (arith, c.decreases), subst (Of k) (sym c.item.ensures.value) (each-at c.requires.items c.loop-i.i inside))

pub push_row-loop-i-preserved : goal.push_row-loop-i-preserved
push_row-loop-i-preserved t c =
    let f = wire (type_of_ref c.args.element) in
    let vs = items_of (value_of_ref c.args.row) in
    let inside : c.loop-i.i < count vs = omega (arith, c.loop-i-test.true, c.len-count.ensures) in
    item-more f vs c.loop-i.i c.loop-i.out.items c.push_value.new.out.items _ inside (c.in_ok-push_value.ensures ∙ ap (λ v. c.loop-i.out.items ++ canon (f v)) c.item.ensures.value) c.loop-i.invariant

pub push_row-returns : goal.push_row-returns
push_row-returns t c =
    let f = wire (type_of_ref c.args.element) in
    let vs = items_of (value_of_ref c.args.row) in
    let all : c.loop-i.i ≡ count vs = omega (arith, c.loop-i-test.false, c.loop-i.auto.i-end, c.len-count.ensures) in
    let header : c.push_sequence_header.new.out.items ≡ c.args.out.now.items ++ sequence_header (code (type_of_ref c.args.element)) (count vs) =
    c.in_ok-push_sequence_header.ensures ∙ ap (λ n. c.args.out.now.items ++ sequence_header n c.len-count.result) c.code.ensures.is
    ∙ ap (λ n. c.args.out.now.items ++ sequence_header (code (type_of_ref c.args.element)) n) c.len-count.ensures in
    row-done (code (type_of_ref c.args.element)) f vs c.loop-i.i c.args.out.now.items c.push_sequence_header.new.out.items c.loop-i.out.items all header c.loop-i.invariant

-- ---- pairs

pub push_map-push_value-requires : goal.push_map-push_value-requires
push_map-push_value-requires t c =
    let vs = items_of (value_of_ref c.args.map) in
    let inside : c.loop-i.i < count vs = omega (arith, c.loop-i-test.true, c.len-count.ensures) in
    (omega (arith, c.decreases), key-of-pair (kinds_of (type_of_ref c.args.key)) (kinds_of (type_of_ref c.args.value)) vs c.loop-i.i _ _ c.requires.items inside c.entry.ensures.pair)

pub push_map-push_value-requires-in-loop-i : goal.push_map-push_value-requires-in-loop-i
push_map-push_value-requires-in-loop-i t c =
    let vs = items_of (value_of_ref c.args.map) in
    let inside : c.loop-i.i < count vs = omega (arith, c.loop-i-test.true, c.len-count.ensures) in
    (omega (arith, c.decreases), value-of-pair (kinds_of (type_of_ref c.args.key)) (kinds_of (type_of_ref c.args.value)) vs c.loop-i.i _ _ c.requires.items inside c.entry.ensures.pair)

pub push_map-loop-i-preserved : goal.push_map-loop-i-preserved
push_map-loop-i-preserved t c =
    let f = wire (type_of_ref c.args.key) in
    let g = wire (type_of_ref c.args.value) in
    let vs = items_of (value_of_ref c.args.map) in
    let inside : c.loop-i.i < count vs = omega (arith, c.loop-i-test.true, c.len-count.ensures) in
    pair-more f g vs c.loop-i.i (value_of_ref c.entry.result.0) (value_of_ref c.entry.result.1) c.loop-i.out.items c.push_value.new.out.items c.push_value-in-loop-i.new.out.items _ inside c.entry.ensures.pair
    c.in_ok-push_value.ensures c.in_ok-push_value-2.ensures c.loop-i.invariant

pub push_map-returns : goal.push_map-returns
push_map-returns t c =
    let a = code (type_of_ref c.args.key) in
    let b = code (type_of_ref c.args.value) in
    let f = wire (type_of_ref c.args.key) in
    let g = wire (type_of_ref c.args.value) in
    let vs = items_of (value_of_ref c.args.map) in
    let old = c.args.out.now.items in
    let mid = c.push_number.new.out.items in
    let some : count vs ≡ 0 → ⊥ = λ e. omega (arith, c.if-count-eq0.false, c.len-count.ensures, e) in
    let all : c.loop-i.i ≡ count vs = omega (arith, c.loop-i-test.false, c.loop-i.auto.i-end, c.len-count.ensures) in
    let size : mid ≡ old ++ shortest (count vs) = c.in_ok-push_number.ensures.ok ∙ ap (λ n. old ++ shortest n) c.len-count.ensures in
    let both : 16 * c.code.result + c.code-2.result ≡ 16 * a + b = omega (arith, c.code.ensures.is, c.code-2.ensures.is) in
    let pushed : c.push-2.new.self.items ≡ mid ++ (16 * c.code.result + c.code-2.result) ∷ [] = grind arith in
    map-done a b f g vs c.loop-i.i old mid c.push-2.new.self.items c.loop-i.out.items some all size (pushed ∙ ap (λ n. mid ++ n ∷ []) both) c.loop-i.invariant

pub push_map-returns-then-count-eq0 : goal.push_map-returns-then-count-eq0
push_map-returns-then-count-eq0 t c =
    let vs = items_of (value_of_ref c.args.map) in
    let none : count vs ≡ 0 = omega (arith, c.if-count-eq0.true, c.len-count.ensures) in
    let pushed : c.push.new.self.items ≡ c.args.out.now.items ++ 0 ∷ [] = grind arith in
    pushed ∙ ap (λ r. c.args.out.now.items ++ r) (sym (no-map (code (type_of_ref c.args.key)) (code (type_of_ref c.args.value)) (wire (type_of_ref c.args.key)) (wire (type_of_ref c.args.value)) vs none))

-- ---- fields

pub push_fields-field_at-requires-in-loop-i : goal.push_fields-field_at-requires-in-loop-i
push_fields-field_at-requires-in-loop-i t c =
    let h = struct-value (type_of_ref c.args.ty) (value_of_ref c.args.v) c.requires.kind c.requires.value in
    omega (arith, c.loop-i-test.true, c.loop-i.auto.i-end, c.field_count-i-end.ensures, c.from.ensures, field-count (type_of_ref c.args.ty) (value_of_ref c.args.v) h)

pub push_fields-push_field-requires : goal.push_fields-push_field-requires
push_fields-push_field-requires t c =
    let of_type = type_of_ref c.args.ty in
    let v = value_of_ref c.args.v in
    let f = field_of_ref c.field_at.result in
    let h = struct-value of_type v c.requires.kind c.requires.value in
    let less = field-smaller of_type c.loop-i.i f c.field_at.ensures in
    let is : value_of_ref c.field_at-in-loop-i.result ≡ nth (values_in v) c.loop-i.i = c.field_at-in-loop-i.ensures.value ∙ ap (nth (values_in v)) c.from.ensures in
    (omega (arith, c.decreases, less), subst (Of (field_kinds f.need f.type)) (sym is) (field-value of_type v c.loop-i.i f h c.field_at.ensures))

pub push_fields-loop-i-preserved : goal.push_fields-loop-i-preserved
push_fields-loop-i-preserved t c =
    let of_type = type_of_ref c.args.ty in
    let v = value_of_ref c.args.v in
    let f = field_of_ref c.field_at.result in
    let h = struct-value of_type v c.requires.kind c.requires.value in
    let fs = all_fields of_type in
    let at : slice_get (field_list fs) c.loop-i.i ≡ Some f = subst (λ gs. slice_get gs c.loop-i.i ≡ Some f) h.list c.field_at.ensures in
    let inside : c.loop-i.i < count (values_in v) = omega (arith, c.loop-i-test.true, c.field_count-i-end.ensures, field-count of_type v h) in
    let is : value_of_ref c.field_at-in-loop-i.result ≡ nth (values_in v) c.loop-i.i = c.field_at-in-loop-i.ensures.value ∙ ap (nth (values_in v)) c.from.ensures in
    field-more fs (values_in v) c.loop-i.i f c.loop-i.before.id c.in_ok-before.before.id c.loop-i.out.items c.push_field.new.out.items _ at inside
    (λ xs. c.in_ok-before.ensures xs ∙ ap (λ u. c.loop-i.out.items ++ canon_fields c.loop-i.before.id (with_field f.need f.id (wire f.type) u xs)) is) c.loop-i.invariant

pub push_fields-returns : goal.push_fields-returns
push_fields-returns t c =
    let of_type = type_of_ref c.args.ty in
    let v = value_of_ref c.args.v in
    let old = c.args.out.now.items in
    let h = struct-value of_type v c.requires.kind c.requires.value in
    let fs = all_fields of_type in
    let all : c.loop-i.i ≡ length (field_list fs) = omega (arith, c.loop-i-test.false, c.loop-i.auto.i-end, c.field_count-i-end.ensures, ap length h.list) in
    let ended : c.push.new.self.items ≡ c.loop-i.out.items ++ 0 ∷ [] = grind arith in
    fields-done fs (values_in v) c.loop-i.i c.loop-i.before.id old c.loop-i.out.items c.push.new.self.items all ended c.loop-i.invariant
    ∙ ap (λ x. old ++ canon x) (sym (wire-as kinds.Struct of_type v c.requires.kind))

-- ---- one field

pub push_given-returns : goal.push_given-returns
push_given-returns t c =
    let f = field_of_ref c.args.field in
    let v = value_of_ref c.args.v in
    let old = c.args.out.now.items in
    let before = c.args.before.id in
    let fits : SFits w16 c.id-id.result = search rules in
    let header = simp to_z-of_z at c.in_ok-push_header_and_value.ensures in
    let written = header ∙ ap (λ i. old ++ canon_field before i (wire (type_of_ref c.ty.result) v)) c.id-id.ensures ∙ ap (λ s. old ++ canon_field before f.id (wire s v)) c.ty.ensures in
    λ xs. simp to_z-of_z (given-more before c.id-id.result f.id (wire f.type v) old c.push_header_and_value.new.out.items c.id-id.ensures written xs)

pub push_other_field-returns : goal.push_other_field-returns
push_other_field-returns t c =
    let of_type = type_of_ref c.args.ty in
    let v = value_of_ref c.args.v in
    let old = c.args.out.now.items in
    let before = c.args.before.id in
    let x = wire of_type v in
    let fits : SFits w16 c.args.id = search rules in
    let header : c.push_field_header.new.out.items ≡ old ++ field_header before c.args.id (code of_type) = (simp to_z-of_z at c.in_ok-push_field_header.ensures) ∙ ap (λ n. old ++ field_header before c.args.id n) c.code.ensures.is in
    on_ok c.push_value.result (λ written. written ∙ ap (λ r. r ++ canon x) header ∙ append_assoc old (field_header before c.args.id (code of_type)) (canon x) ∙ ap (λ r. old ++ r) (sym (value-behind of_type v before c.args.id c.requires.no_flag))) c.push_value.ensures

-- ---- containers

pub push_value-returns-in-List : goal.push_value-returns-in-List
push_value-returns-in-List t c =
    let of_type = type_of_ref c.args.ty in
    let v = value_of_ref c.args.v in
    let old = c.args.out.now.items in
    on_ok c.push_row.result (λ written. written ∙ ap (λ x. old ++ canon (node.list (code x) (each (wire x) (items_of v)))) c.element.ensures
    ∙ ap (λ x. old ++ canon x) (sym (wire-as kinds.List of_type v (sym c.kind.ensures ∙ c.in-List.is)))) c.push_row.ensures

pub push_value-returns-in-Set : goal.push_value-returns-in-Set
push_value-returns-in-Set t c =
    let of_type = type_of_ref c.args.ty in
    let v = value_of_ref c.args.v in
    let old = c.args.out.now.items in
    on_ok c.push_row-in-Set.result (λ written. written ∙ ap (λ x. old ++ canon (node.set (code x) (each (wire x) (items_of v)))) c.element-in-Set.ensures
    ∙ ap (λ x. old ++ canon x) (sym (wire-as kinds.Set of_type v (sym c.kind.ensures ∙ c.in-Set.is)))) c.push_row-in-Set.ensures

pub push_value-returns-in-Map : goal.push_value-returns-in-Map
push_value-returns-in-Map t c =
    let of_type = type_of_ref c.args.ty in
    let v = value_of_ref c.args.v in
    let old = c.args.out.now.items in
    on_ok c.push_map.result (λ written. written
    ∙ ap (λ x. old ++ canon (map_with (code x) (code (type_of_ref c.value.result)) (each_pair (wire x) (wire (type_of_ref c.value.result)) (items_of v)))) c.key.ensures
    ∙ ap (λ y. old ++ canon (map_with (code (key_of of_type)) (code y) (each_pair (wire (key_of of_type)) (wire y) (items_of v)))) c.value.ensures
    ∙ ap (λ x. old ++ canon x) (sym (wire-as kinds.Map of_type v (sym c.kind.ensures ∙ c.in-Map.is)))) c.push_map.ensures

pub push_value-push_row-requires : goal.push_value-push_row-requires
push_value-push_row-requires t c =
    let v = value_of_ref c.args.v in
    let h = row-value (type_of_ref c.args.ty) v (inl (sym c.kind.ensures ∙ c.in-List.is)) c.requires in
    (omega (arith, c.decreases, h.smaller, ap size c.element.ensures), (h.form, subst (λ x. OfEach (kinds_of x) (items_of v)) (sym c.element.ensures) h.items))

pub push_value-push_row-requires-in-Set : goal.push_value-push_row-requires-in-Set
push_value-push_row-requires-in-Set t c =
    let v = value_of_ref c.args.v in
    let h = row-value (type_of_ref c.args.ty) v (inr (sym c.kind.ensures ∙ c.in-Set.is)) c.requires in
    (omega (arith, c.decreases, h.smaller, ap size c.element-in-Set.ensures), (h.form, subst (λ x. OfEach (kinds_of x) (items_of v)) (sym c.element-in-Set.ensures) h.items))

pub push_value-push_map-requires : goal.push_value-push_map-requires
push_value-push_map-requires t c =
    let v = value_of_ref c.args.v in
    let h = map-value (type_of_ref c.args.ty) v (sym c.kind.ensures ∙ c.in-Map.is) c.requires in
    let by_key = subst (λ x. OfEach (pair_kinds (kinds_of x) (kinds_of (value_of (type_of_ref c.args.ty)))) (items_of v)) (sym c.key.ensures) h.items in
    (omega (arith, c.decreases, h.smaller, ap size c.key.ensures, ap size c.value.ensures), (h.form, subst (λ y. OfEach (pair_kinds (kinds_of (type_of_ref c.key.result)) (kinds_of y)) (items_of v)) (sym c.value.ensures) by_key))

-- Each part is of its own type, and adds its cells to those before.
use Rattle.std.proofs.Common.{◌≡◌, ◌∙◌, ◌+◌, ◌<◌, ap, sym, subst, length, arith, inl, inr}
use Rattle.idl_profile.specs.Types.{fields_of}
use Rattle.idl_parse.specs.Refs.{type_of_ref, field_of_ref, key_of, value_of}
use Rattle.frozen_model.specs.Trees.{Optional}
use Rattle.frozen_model.specs.Values.{Of, OfEach, cells, cells_each, inline_cells, count, nth}
use Rattle.type_kinds.specs.KindsOf.{kinds_of}
use Rattle.typed_tree.specs.Parts.{items_of, fields_of as values_in}
use Rattle.typed_tree.specs.References.{value_of_ref}
use Rattle.typed_tree.specs.Sizes.{capped, field_kinds}
use Rattle.typed_tree.specs.Ranges.{pair_kinds}
use Rattle.typed_tree.proofs.Typed.{size, field-smaller}
use Rattle.typed_tree.proofs.Celled.{row-value, map-value, struct-value, key-of-pair, value-of-pair, pair-more, each-at, item-more, before-count, none-before, all_fields, field-count, field-value, field-more, fields-all, absent-value}
use Rattle.typed_tree.proofs.value_cells.+values.Goals.{optional_cells-in-Present, optional_cells-in_default}
use Rattle.typed_tree.proofs.value_cells.+values.Goals as goal

-- ---- cells

pub cells-row_cells-requires : goal.cells-row_cells-requires
cells-row_cells-requires t c =
    let v = value_of_ref c.args.value in
    let h = row-value (type_of_ref c.args.ty) v (inl (sym c.kind.ensures ∙ c.in-List.is)) c.requires in
    (omega (arith, c.decreases, h.smaller, ap size c.element.ensures), (h.form, subst (λ x. OfEach (kinds_of x) (items_of v)) (sym c.element.ensures) h.items))

pub cells-row_cells-requires-in-Set : goal.cells-row_cells-requires-in-Set
cells-row_cells-requires-in-Set t c =
    let v = value_of_ref c.args.value in
    let h = row-value (type_of_ref c.args.ty) v (inr (sym c.kind.ensures ∙ c.in-Set.is)) c.requires in
    (omega (arith, c.decreases, h.smaller, ap size c.element-in-Set.ensures), (h.form, subst (λ x. OfEach (kinds_of x) (items_of v)) (sym c.element-in-Set.ensures) h.items))

pub cells-map_cells-requires : goal.cells-map_cells-requires
cells-map_cells-requires t c =
    let v = value_of_ref c.args.value in
    let h = map-value (type_of_ref c.args.ty) v (sym c.kind.ensures ∙ c.in-Map.is) c.requires in
    let by_key = subst (λ x. OfEach (pair_kinds (kinds_of x) (kinds_of (value_of (type_of_ref c.args.ty)))) (items_of v)) (sym c.key.ensures) h.items in
    (omega (arith, c.decreases, h.smaller, ap size c.key.ensures, ap size c.value.ensures), (h.form, subst (λ y. OfEach (pair_kinds (kinds_of (type_of_ref c.key.result)) (kinds_of y)) (items_of v)) (sym c.value.ensures) by_key))

pub cells-returns-in-List : goal.cells-returns-in-List
cells-returns-in-List t c =
    let v = value_of_ref c.args.value in
    let h = row-value (type_of_ref c.args.ty) v (inl (sym c.kind.ensures ∙ c.in-List.is)) c.requires in
    c.row_cells.ensures ∙ ap capped (ap (λ x. 2 + cells_each (kinds_of x) (items_of v)) c.element.ensures ∙ sym h.cells)

pub cells-returns-in-Set : goal.cells-returns-in-Set
cells-returns-in-Set t c =
    let v = value_of_ref c.args.value in
    let h = row-value (type_of_ref c.args.ty) v (inr (sym c.kind.ensures ∙ c.in-Set.is)) c.requires in
    c.row_cells-in-Set.ensures ∙ ap capped (ap (λ x. 2 + cells_each (kinds_of x) (items_of v)) c.element-in-Set.ensures ∙ sym h.cells)

pub cells-returns-in-Map : goal.cells-returns-in-Map
cells-returns-in-Map t c =
    let v = value_of_ref c.args.value in
    let h = map-value (type_of_ref c.args.ty) v (sym c.kind.ensures ∙ c.in-Map.is) c.requires in
    c.map_cells.ensures ∙ ap capped (ap (λ x. 2 + cells_each (pair_kinds (kinds_of x) (kinds_of (type_of_ref c.value.result))) (items_of v)) c.key.ensures ∙ ap (λ y. 2 + cells_each (pair_kinds (kinds_of (key_of (type_of_ref c.args.ty))) (kinds_of y)) (items_of v)) c.value.ensures ∙ sym h.cells)

-- ---- items

pub row_cells-cells-item-requires : goal.row_cells-cells-item-requires
row_cells-cells-item-requires t c =
    let k = kinds_of (type_of_ref c.args.element) in
    let inside : c.loop-i.i < count (items_of (value_of_ref c.args.row)) = omega (arith, c.loop-i-test.true, c.len-i-end.ensures) in
    (omega (arith, c.decreases), subst (Of k) (sym c.item.ensures.value) (each-at c.requires.items c.loop-i.i inside))

pub row_cells-loop-i-preserved : goal.row_cells-loop-i-preserved
row_cells-loop-i-preserved t c =
    let k = kinds_of (type_of_ref c.args.element) in
    let vs = items_of (value_of_ref c.args.row) in
    let inside : c.loop-i.i < count vs = omega (arith, c.loop-i-test.true, c.len-i-end.ensures) in
    item-more k vs c.loop-i.i c.loop-i.total c.cells-item.result c.saturating_add.result _ inside c.loop-i.invariant (c.cells-item.ensures ∙ ap (λ v. capped (cells k v)) c.item.ensures.value) c.saturating_add.ensures c.saturating_add-total.ensures

pub row_cells-returns : goal.row_cells-returns
row_cells-returns t c =
    let vs = items_of (value_of_ref c.args.row) in
    let all : c.loop-i.i ≡ count vs = omega (arith, c.loop-i-test.false, c.loop-i.auto.i-end, c.len-i-end.ensures) in
    before-count (kinds_of (type_of_ref c.args.element)) vs c.loop-i.i c.loop-i.total all c.loop-i.invariant

-- ---- pairs

pub map_cells-cells-first_cells-requires : goal.map_cells-cells-first_cells-requires
map_cells-cells-first_cells-requires t c =
    let vs = items_of (value_of_ref c.args.map) in
    let inside : c.loop-i.i < count vs = omega (arith, c.loop-i-test.true, c.loop-i.auto.i-end, c.len-i-end.ensures) in
    (omega (arith, c.decreases), key-of-pair (kinds_of (type_of_ref c.args.key)) (kinds_of (type_of_ref c.args.value)) vs c.loop-i.i _ _ c.requires.items inside c.entry.ensures.pair)

pub map_cells-cells-second_cells-requires : goal.map_cells-cells-second_cells-requires
map_cells-cells-second_cells-requires t c =
    let vs = items_of (value_of_ref c.args.map) in
    let inside : c.loop-i.i < count vs = omega (arith, c.loop-i-test.true, c.loop-i.auto.i-end, c.len-i-end.ensures) in
    (omega (arith, c.decreases), value-of-pair (kinds_of (type_of_ref c.args.key)) (kinds_of (type_of_ref c.args.value)) vs c.loop-i.i _ _ c.requires.items inside c.entry.ensures.pair)

pub map_cells-loop-i-preserved : goal.map_cells-loop-i-preserved
map_cells-loop-i-preserved t c =
    let vs = items_of (value_of_ref c.args.map) in
    let inside : c.loop-i.i < count vs = omega (arith, c.loop-i-test.true, c.loop-i.auto.i-end, c.len-i-end.ensures) in
    pair-more (kinds_of (type_of_ref c.args.key)) (kinds_of (type_of_ref c.args.value)) vs c.loop-i.i c.loop-i.total c.cells-first_cells.result c.cells-second_cells.result c.saturating_add-pair.result c.saturating_add.result _ _ _ inside c.entry.ensures.pair c.loop-i.invariant c.cells-first_cells.ensures c.cells-second_cells.ensures c.saturating_add-pair.ensures c.saturating_add.ensures c.saturating_add-total.ensures

pub map_cells-returns : goal.map_cells-returns
map_cells-returns t c =
    let vs = items_of (value_of_ref c.args.map) in
    let k = pair_kinds (kinds_of (type_of_ref c.args.key)) (kinds_of (type_of_ref c.args.value)) in
    let all : c.loop-i.i ≡ count vs = omega (arith, c.loop-i-test.false, c.loop-i.auto.i-end, c.len-i-end.ensures) in
    before-count k vs c.loop-i.i c.loop-i.total all c.loop-i.invariant

-- ---- fields

pub record_cells-loop-i-init : goal.record_cells-loop-i-init
record_cells-loop-i-init t c = sym (ap capped (none-before (all_fields (type_of_ref c.args.ty)) (values_in (value_of_ref c.args.value))))

pub record_cells-field_at-requires-in-loop-i : goal.record_cells-field_at-requires-in-loop-i
record_cells-field_at-requires-in-loop-i t c =
    let h = struct-value (type_of_ref c.args.ty) (value_of_ref c.args.value) c.requires.kind c.requires.value in
    omega (arith, c.loop-i-test.true, c.loop-i.auto.i-end, c.field_count-i-end.ensures, c.from.ensures, field-count (type_of_ref c.args.ty) (value_of_ref c.args.value) h)

pub record_cells-field_value_cells-field-requires :
    goal.record_cells-field_value_cells-field-requires
record_cells-field_value_cells-field-requires t c =
    let of_type = type_of_ref c.args.ty in
    let v = value_of_ref c.args.value in
    let f = field_of_ref c.field_at.result in
    let h = struct-value of_type v c.requires.kind c.requires.value in
    let less = field-smaller of_type c.loop-i.i f c.field_at.ensures in
    let is : value_of_ref c.field_at-in-loop-i.result ≡ nth (values_in v) c.loop-i.i = c.field_at-in-loop-i.ensures.value ∙ ap (nth (values_in v)) c.from.ensures in
    (omega (arith, c.decreases, less), subst (Of (field_kinds f.need f.type)) (sym is) (field-value of_type v c.loop-i.i f h c.field_at.ensures))

pub record_cells-loop-i-preserved : goal.record_cells-loop-i-preserved
record_cells-loop-i-preserved t c =
    let of_type = type_of_ref c.args.ty in
    let v = value_of_ref c.args.value in
    let f = field_of_ref c.field_at.result in
    let h = struct-value of_type v c.requires.kind c.requires.value in
    let is : value_of_ref c.field_at-in-loop-i.result ≡ nth (values_in v) c.loop-i.i = c.field_at-in-loop-i.ensures.value ∙ ap (nth (values_in v)) c.from.ensures in
    field-more of_type v c.loop-i.i c.loop-i.total c.field_value_cells-field.result _ f h c.field_at.ensures c.loop-i.invariant (c.field_value_cells-field.ensures ∙ ap (λ u. capped (cells (field_kinds f.need f.type) u)) is) c.saturating_add-total.ensures

pub record_cells-returns : goal.record_cells-returns
record_cells-returns t c =
    let of_type = type_of_ref c.args.ty in
    let v = value_of_ref c.args.value in
    let all : c.loop-i.i ≡ length (fields_of of_type) = omega (arith, c.loop-i-test.false, c.loop-i.auto.i-end, c.field_count-i-end.ensures) in
    fields-all of_type v c.loop-i.i c.loop-i.total (struct-value of_type v c.requires.kind c.requires.value) all c.loop-i.invariant

-- ---- optionals

pub optional_cells-returns : goal.optional_cells-returns
optional_cells-returns t c =
    let k = kinds_of (type_of_ref c.args.ty) in
    let v = value_of_ref c.args.value in
    elim c.match-kind.branch [
      | optional_cells-in-Present w ↦
          let is : cells (Optional tt k) v ≡ 1 + cells k (value_of_ref w.inner.result) = ap (cells (Optional tt k)) w.inner.ensures.value in
          omega (arith, is, w.inside-is, w.cells-inside.ensures, c.saturating_add.ensures)
      | optional_cells-in_default w ↦
          let none = absent-value v c.kind.result c.requires c.kind.ensures.form w.in_default.not-Present in
          let is : cells (Optional tt k) v ≡ 1 + inline_cells k = ap (cells (Optional tt k)) none in
          omega (arith, is, w.inside-is, w.inline_cells-inside.ensures, c.saturating_add.ensures)
    ]

-- Each part is of its own type, and adds its cells to those before; flat items are counted at once.
use Rattle.std.proofs.Common.{◌≡◌, ◌∙◌, ◌+◌, ◌<◌, ap, sym, subst, length, arith, slice_get, Some, None}
use Rattle.std.proofs.Common.{option_map}
use Rattle.std.specs.Prelude.{option_and_then}
use Rattle.idl_profile.specs.Types.{fields_of}
use Rattle.idl_parse.specs.Refs.{field_of_ref, element_of, key_of, value_of}
use Rattle.frozen_model.specs.Values.{cells, inline_cells, count, nth}
use Rattle.type_kinds.specs.KindsOf.{kinds_of}
use Rattle.typed_tree.specs.Parts.{items_of, fields_of as values_in}
use Rattle.typed_tree.specs.Sizes.{capped}
use Rattle.typed_tree.specs.Ranges.{pair_kinds}
use Rattle.typed_tree.proofs.Forms.{row_is, map_is}
use Rattle.typed_tree.proofs.Typed.{size, field-smaller}
use Rattle.typed_tree.proofs.Celled.{row-value, map-value, struct-value, pair-more, item-more, before-none}
use Rattle.typed_tree.proofs.Celled.{before-count}
use Rattle.typed_tree.proofs.Celled.{none-before, all_fields, field-value, field-more, fields-all}
use Rattle.evolve.specs.Parts.{held}
use Rattle.evolve.specs.Lenses.{type_of_lens, value_of_lens}
use Rattle.evolve.proofs.Known.{lens_ids, lens_accepted}
use Rattle.evolve.proofs.Members.{contains_at, rising_ids}
use Rattle.lens_values.specs.Flat.{IsLeaf, IsFlat}
use Rattle.lens_values.proofs.FlatTypes.{row_range, map_range}
use Rattle.lens_values.proofs.LensParts.{by_value, lens_row, lens_map, map_size, lens_struct, struct_at}
use Rattle.lens_values.proofs.LensParts.{there_plain, there_required}
use Rattle.lens_values.proofs.LensParts.{there_maybe, lacking_cells}
use Rattle.lens_values.proofs.cells.+cells.Goals as goal

-- ---- lists and sets

pub row_cells-len-requires : goal.row_cells-len-requires
row_cells-len-requires t c = row_is _ (lens_row c.args.row c.requires)

pub row_cells-returns-then-is_flat : goal.row_cells-returns-then-is_flat
row_cells-returns-then-is_flat t c =
    let of_type = type_of_lens c.args.row in
    let v = value_of_lens c.args.row in
    let item = c.element-element.ensures ∙ ap element_of c.ty.ensures in
    let flat = subst (λ x. IsFlat (kinds_of x)) item (c.is_flat.ensures c.if-is_flat.true) in
    let inline = c.inline_cells.ensures ∙ ap (λ x. capped (inline_cells (kinds_of x))) item in
    by_value c.args.row (λ o.
    row_range of_type v c.len.result c.inline_cells.result c.range_cells.result
    (row-value of_type v c.requires o) flat
    c.len.ensures inline c.range_cells.ensures)

pub item_cells-len-i-end-requires : goal.item_cells-len-i-end-requires
item_cells-len-i-end-requires t c = row_is _ (lens_row c.args.row c.requires)

pub item_cells-loop-i-init : goal.item_cells-loop-i-init
item_cells-loop-i-init t c =
    let before =
    before-none (kinds_of (element_of (type_of_lens c.args.row))) (items_of (value_of_lens c.args.row)) in
    sym (ap (λ n. capped (2 + n)) before)

pub item_cells-item-requires-clause-row : goal.item_cells-item-requires-clause-row
item_cells-item-requires-clause-row t c = lens_row c.args.row c.requires

pub item_cells-loop-i-preserved : goal.item_cells-loop-i-preserved
item_cells-loop-i-preserved t c =
    let k = kinds_of (element_of (type_of_lens c.args.row)) in
    let vs = items_of (value_of_lens c.args.row) in
    let inside : c.loop-i.i < count vs = omega (arith, c.loop-i-test.true, c.len-i-end.ensures) in
    let is =
    c.lens_cells-item.ensures
    ∙ ap (λ x. capped (cells (kinds_of x) (value_of_lens c.item.result))) c.item.ensures.typed
    ∙ ap (λ v. capped (cells k v)) c.item.ensures.value in
    item-more k vs c.loop-i.i c.loop-i.total c.lens_cells-item.result c.saturating_add.result _ inside
    c.loop-i.invariant is c.saturating_add.ensures c.saturating_add-total.ensures

pub item_cells-returns : goal.item_cells-returns
item_cells-returns t c =
    let of_type = type_of_lens c.args.row in
    let v = value_of_lens c.args.row in
    let vs = items_of v in
    let all : c.loop-i.i ≡ count vs =
    omega (arith, c.loop-i-test.false, c.loop-i.auto.i-end, c.len-i-end.ensures) in
    let each =
    before-count (kinds_of (element_of of_type)) vs c.loop-i.i c.loop-i.total all c.loop-i.invariant in
    by_value c.args.row (λ o. each ∙ ap capped (sym (row-value of_type v c.requires o).cells))

-- ---- maps

pub map_cells-len-requires : goal.map_cells-len-requires
map_cells-len-requires t c = map_is _ (lens_map c.args.map c.requires)

pub map_cells-returns-then-is_flat-2 : goal.map_cells-returns-then-is_flat-2
map_cells-returns-then-is_flat-2 t c =
    let of_type = type_of_lens c.args.map in
    let v = value_of_lens c.args.map in
    let key = c.key-key.ensures ∙ ap key_of c.ty.ensures in
    let value = c.value-value.ensures ∙ ap value_of c.ty-2.ensures in
    let flat_key = subst (λ x. IsFlat (kinds_of x)) key (c.is_flat.ensures c.if-is_flat.true) in
    let flat_value =
    subst (λ x. IsFlat (kinds_of x)) value (c.is_flat-then-is_flat.ensures c.if-is_flat-2.true) in
    let first = c.inline_cells.ensures ∙ ap (λ x. capped (inline_cells (kinds_of x))) key in
    let second = c.inline_cells-then-is_flat-2.ensures ∙ ap (λ x. capped (inline_cells (kinds_of x))) value in
    by_value c.args.map (λ o.
    map_range of_type v c.len.result _ _ c.saturating_add-pair.result c.range_cells.result
    (map-value of_type v c.requires o) flat_key flat_value c.len.ensures first second
    c.saturating_add-pair.ensures
    c.range_cells.ensures)

pub pair_cells-len-i-end-requires : goal.pair_cells-len-i-end-requires
pair_cells-len-i-end-requires t c = map_is _ (lens_map c.args.map c.requires)

pub pair_cells-loop-i-init : goal.pair_cells-loop-i-init
pair_cells-loop-i-init t c =
    let of_type = type_of_lens c.args.map in
    let k = pair_kinds (kinds_of (key_of of_type)) (kinds_of (value_of of_type)) in
    sym (ap (λ n. capped (2 + n)) (before-none k (items_of (value_of_lens c.args.map))))

pub pair_cells-entry-requires-clause-map : goal.pair_cells-entry-requires-clause-map
pair_cells-entry-requires-clause-map t c = lens_map c.args.map c.requires

pub pair_cells-lens_cells-key_cells-requires : goal.pair_cells-lens_cells-key_cells-requires
pair_cells-lens_cells-key_cells-requires t c =
    (omega (arith, c.decreases, map_size c.args.map c.requires, ap size c.entry.ensures.key), tt)

pub pair_cells-lens_cells-value_cells-requires : goal.pair_cells-lens_cells-value_cells-requires
pair_cells-lens_cells-value_cells-requires t c =
    (omega (arith, c.decreases, map_size c.args.map c.requires, ap size c.entry.ensures.typed), tt)

pub pair_cells-loop-i-preserved : goal.pair_cells-loop-i-preserved
pair_cells-loop-i-preserved t c =
    let of_type = type_of_lens c.args.map in
    let vs = items_of (value_of_lens c.args.map) in
    let inside : c.loop-i.i < count vs =
    omega (arith, c.loop-i-test.true, c.loop-i.auto.i-end, c.len-i-end.ensures) in
    let v = value_of_lens c.entry.result.0 in
    let w = value_of_lens c.entry.result.1 in
    let first = c.lens_cells-key_cells.ensures
    ∙ ap (λ x. capped (cells (kinds_of x) v)) c.entry.ensures.key in
    let second = c.lens_cells-value_cells.ensures
    ∙ ap (λ x. capped (cells (kinds_of x) w)) c.entry.ensures.typed in
    pair-more (kinds_of (key_of of_type)) (kinds_of (value_of of_type)) vs c.loop-i.i c.loop-i.total
    c.lens_cells-key_cells.result c.lens_cells-value_cells.result c.saturating_add-pair.result
    c.saturating_add.result
    _ v w inside (sym c.entry.ensures.value) c.loop-i.invariant first second c.saturating_add-pair.ensures
    c.saturating_add.ensures c.saturating_add-total.ensures

pub pair_cells-returns : goal.pair_cells-returns
pair_cells-returns t c =
    let of_type = type_of_lens c.args.map in
    let v = value_of_lens c.args.map in
    let vs = items_of v in
    let k = pair_kinds (kinds_of (key_of of_type)) (kinds_of (value_of of_type)) in
    let all : c.loop-i.i ≡ count vs =
    omega (arith, c.loop-i-test.false, c.loop-i.auto.i-end, c.len-i-end.ensures) in
    let each = before-count k vs c.loop-i.i c.loop-i.total all c.loop-i.invariant in
    by_value c.args.map (λ o. each ∙ ap capped (sym (map-value of_type v c.requires o).cells))

-- ---- structs

pub record_cells-loop-i-init : goal.record_cells-loop-i-init
record_cells-loop-i-init t c =
    let fs = all_fields (type_of_lens c.args.from) in
    sym (ap capped (none-before fs (values_in (value_of_lens c.args.from))))

pub record_cells-field_cells-cells-requires : goal.record_cells-field_cells-cells-requires
record_cells-field_cells-cells-requires t c =
    let of_type = type_of_lens c.args.from in
    let f = field_of_ref c.field_at-field.result in
    let at = subst (λ x. slice_get (fields_of x) c.loop-i.i ≡ Some f) c.ty-ty.ensures
    c.field_at-field.ensures in
    let less = field-smaller of_type c.loop-i.i f at in
    (omega (arith, c.decreases, less), contains_at (fields_of of_type) c.loop-i.i f at)

pub record_cells-loop-i-preserved : goal.record_cells-loop-i-preserved
record_cells-loop-i-preserved t c =
    let of_type = type_of_lens c.args.from in
    let v = value_of_lens c.args.from in
    let i = c.loop-i.i in
    let f = field_of_ref c.field_at-field.result in
    let at = subst (λ x. slice_get (fields_of x) i ≡ Some f) c.ty-ty.ensures c.field_at-field.ensures in
    let rising = rising_ids of_type (lens_accepted c.args.from) in
    let has_ids = lens_struct c.args.from c.requires in
    by_value c.args.from (λ o.
    let h = struct-value of_type v c.requires o in
    let found = struct_at of_type v i f has_ids rising (lens_ids c.args.from) at in
    let has = ap (option_and_then held) found in
    let one = c.field_cells-cells.ensures (nth (values_in v) i) (field-value of_type v i f h at) has in
    field-more of_type v i c.loop-i.total c.field_cells-cells.result _ f h at c.loop-i.invariant one
    c.saturating_add-total.ensures)

pub record_cells-returns : goal.record_cells-returns
record_cells-returns t c =
    let of_type = type_of_lens c.args.from in
    let v = value_of_lens c.args.from in
    let same = ap (λ x. length (fields_of x)) c.ty-ty.ensures in
    let all : c.loop-i.i ≡ length (fields_of of_type) =
    omega (arith, c.loop-i-test.false, c.loop-i.auto.i-end, c.field_count-i-end.ensures, same) in
    by_value c.args.from (λ o.
    fields-all of_type v c.loop-i.i c.loop-i.total (struct-value of_type v c.requires o) all
    c.loop-i.invariant)

-- ---- what a field has

pub field_cells-leaf_cells-requires : goal.field_cells-leaf_cells-requires
field_cells-leaf_cells-requires t c =
    subst (λ x. IsLeaf (kinds_of x)) c.ty.ensures (c.is_leaf.ensures c.if-is_leaf.true)

pub field_cells-part_cells-requires : goal.field_cells-part_cells-requires
field_cells-part_cells-requires t c = (omega (arith, c.decreases), c.part.ensures.typed)

pub field_cells-returns-then-is_leaf : goal.field_cells-returns-then-is_leaf
field_cells-returns-then-is_leaf t c = λ v o e. c.leaf_cells.ensures v o

pub field_cells-returns-else-is_leaf : goal.field_cells-returns-else-is_leaf
field_cells-returns-else-is_leaf t c = λ v o e. c.part_cells.ensures v o (c.part.ensures.value ∙ e)

pub part_cells-returns-in-None : goal.part_cells-returns-in-None
part_cells-returns-in-None t c = λ v o e.
    let f = field_of_ref c.args.field in
    let none : None ≡ held v = ap (option_map value_of_lens) (sym c.in-None.is) ∙ e in
    let inline = ap (λ x. capped (inline_cells (kinds_of x))) c.ty.ensures in
    let is = lacking_cells f.need f.type v o none in
    omega (arith, is, c.inline_cells.ensures, inline, c.saturating_add.ensures)

pub there_cells-returns-in-Optional : goal.there_cells-returns-in-Optional
there_cells-returns-in-Optional t c = λ v o e.
    let f = field_of_ref c.args.field in
    let w = value_of_lens c.args.there in
    let same = ap (λ x. capped (cells (kinds_of x) w)) c.requires in
    let is = there_maybe f.need f.type v w (sym c.need.ensures ∙ c.in-Optional.is) o e in
    omega (arith, is, c.lens_cells-cells.ensures, same, c.saturating_add.ensures)

pub there_cells-returns-in-Plain : goal.there_cells-returns-in-Plain
there_cells-returns-in-Plain t c = λ v o e.
    let f = field_of_ref c.args.field in
    let w = value_of_lens c.args.there in
    let same = ap (λ x. capped (cells (kinds_of x) w)) c.requires in
    let is = there_plain f.need f.type v w (sym c.need.ensures ∙ c.in-Plain.is) o e in
    c.lens_cells-cells.ensures ∙ same ∙ ap capped (sym is)

pub there_cells-returns-in-Required : goal.there_cells-returns-in-Required
there_cells-returns-in-Required t c = λ v o e.
    let f = field_of_ref c.args.field in
    let w = value_of_lens c.args.there in
    let same = ap (λ x. capped (cells (kinds_of x) w)) c.requires in
    let is = there_required f.need f.type v w (sym c.need.ensures ∙ c.in-Required.is) o e in
    c.lens_cells-cells.ensures ∙ same ∙ ap capped (sym is)

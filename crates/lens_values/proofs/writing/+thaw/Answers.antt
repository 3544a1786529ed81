-- What is written of the first parts, and of the parts that are left, is what is written of the whole.
use Rattle.std.proofs.Common.{◌≡◌, ◌∙◌, ◌+◌, ◌*◌, ◌++◌, ◌∷◌, [], ◌<◌, ap, sym, subst, length, arith, Some}
use Rattle.std.proofs.Common.{append_assoc, rules, refl}
use Rattle.std.specs.List.{slice_get}
use Rattle.std.proofs.lemmas.Int.{to_z-of_z}
use Rattle.std.proofs.lemmas.Option.{slice_get_within}
use Rattle.std.proofs.lemmas.Result.{err_from_is_err_and}
use mir.Val.{SFits}
use mir.Syntax.{w16, w64}
use Rattle.idl_profile.specs.declared.kinds.TypeKind.TheVariants as k
use Rattle.idl_profile.specs.Types.{field_list, fields_of}
use Rattle.idl_parse.specs.Refs.{field_of_ref, element_of, key_of, value_of}
use Rattle.frozen_model.specs.Values.{InBits, count, nth, cells}
use Rattle.type_kinds.specs.KindsOf.{kinds_of}
use Rattle.compact_wire.specs.Number.{shortest}
use Rattle.compact_wire.specs.Canon.{canon, sequence_header, field_header}
use Rattle.compact_wire.specs.Writes.{canon_field}
use Rattle.compact_wire.proofs.WriteSteps.{on_ok}
use Rattle.typed_tree.specs.Parts.{IsRow, IsMap, items_of, fields_of as values_in}
use Rattle.typed_tree.proofs.Forms.{row_is, map_is}
use Rattle.typed_tree.proofs.Typed.{size, field-smaller}
use Rattle.typed_tree.proofs.Celled.{all_fields, none-before, row-value, map-value, struct-value}
use Rattle.typed_tree.specs.Sizes.{capped}
use Rattle.typed_tree.specs.Ranges.{pair_kinds}
use Rattle.typed_reading.specs.Codes.{code}
use Rattle.compact_codec.specs.Wire.{wire}
use Rattle.compact_codec.proofs.Forms.{wire-as}
use Rattle.compact_codec.proofs.Rest.{item-more, row-done, pair-more, no-map, map-done, field-more}
use Rattle.compact_codec.proofs.Rest.{fields-done, given-more, value-behind}
use Rattle.evolve.specs.Lenses.{type_of_lens, value_of_lens}
use Rattle.evolve.proofs.Members.{contains_at}
use Rattle.lens_values.specs.Thaws.{IsHalt}
use Rattle.lens_values.proofs.Counting.{range_halted, item_halted, key_halted, value_halted, field_halted}
use Rattle.lens_values.proofs.FlatTypes.{listed}
use Rattle.lens_values.proofs.Counting.{own_before, own_none, item_counted, pair_counted, items_counted}
use Rattle.lens_values.proofs.Counting.{field_counted, fields_counted, field_held}
use Rattle.lens_values.proofs.LensParts.{by_value, lens_row, lens_map, row_size, map_size, lens_struct}
use Rattle.lens_values.proofs.Written.{row_written, lens_small, field_written}
use Rattle.lens_values.proofs.writing.+thaw.Goals as goal

-- ---- numbers

pub push_value-push_one_byte-requires : goal.push_value-push_one_byte-requires
push_value-push_one_byte-requires t c =
    let fits : SFits w64 c.int.result = search rules in
    let small = lens_small c.args.from c.int.result (sym c.kind.ensures.kind ∙ c.in-I8.is) c.int.ensures in
    subst (InBits 7) (sym (to_z-of_z w64 c.int.result fits)) small

-- ---- items

pub push_row-row-row-requires : goal.push_row-row-row-requires
push_row-row-row-requires t c = row_is _ (lens_row c.args.from c.requires)

pub push_row-len-count-requires : goal.push_row-len-count-requires
push_row-len-count-requires t c = row_is _ (lens_row c.args.from c.requires)

pub push_row-item-requires-clause-row : goal.push_row-item-requires-clause-row
push_row-item-requires-clause-row t c =
    subst (λ l. IsRow (value_of_lens l)) (sym c.row-row.ensures) (lens_row c.args.from c.requires)

pub push_row-item-requires-clause-there : goal.push_row-item-requires-clause-there
push_row-item-requires-clause-there t c =
    omega (
      arith,
      c.loop-i-test.true,
      c.len-count.ensures,
      ap (λ l. count (items_of (value_of_lens l))) c.row-row.ensures,
    )

pub push_row-push_value-requires : goal.push_row-push_value-requires
push_row-push_value-requires t c =
    let typed = c.item.ensures.typed ∙ ap (λ l. element_of (type_of_lens l)) c.row-row.ensures in
    (omega (arith, c.decreases, row_size c.args.from c.requires, ap size typed), tt)

pub push_row-loop-i-init : goal.push_row-loop-i-init
push_row-loop-i-init t c =
    let k = kinds_of (element_of (type_of_lens c.args.from)) in
    (refl, omega (arith, own_none k (items_of (value_of_lens c.args.from))))

pub push_row-loop-i-preserved : goal.push_row-loop-i-preserved
push_row-loop-i-preserved t c =
    let f = wire (element_of (type_of_lens c.args.from)) in
    let vs = items_of (value_of_lens c.args.from) in
    let out = c.loop-i.out.items in
    let inside : c.loop-i.i < count vs = omega (arith, c.loop-i-test.true, c.len-count.ensures) in
    let typed = c.item.ensures.typed ∙ ap (λ l. element_of (type_of_lens l)) c.row-row.ensures in
    let is = c.item.ensures.value ∙ ap (λ l. nth (items_of (value_of_lens l)) c.loop-i.i) c.row-row.ensures in
    let one : c.push_value.new.out.items ≡ out ++ canon (f (nth vs c.loop-i.i)) =
    c.in_ok-push_value.ensures.bytes ∙ ap (λ x. out ++ canon (wire x (value_of_lens c.item.result))) typed
    ∙ ap (λ v. out ++ canon (f v)) is in
    let k = kinds_of (element_of (type_of_lens c.args.from)) in
    let counted : capped c.push_value.new.cells ≡ capped (c.loop-i.cells + cells k (nth vs c.loop-i.i)) =
    c.in_ok-push_value.ensures.counted
    ∙ ap (λ x. capped (c.loop-i.cells + cells (kinds_of x) (value_of_lens c.item.result))) typed
    ∙ ap (λ v. capped (c.loop-i.cells + cells k v)) is in (
      item-more f vs c.loop-i.i out c.push_value.new.out.items _ inside one c.loop-i.invariant.0,
      item_counted k vs c.loop-i.i _ c.loop-i.cells _ inside c.loop-i.invariant.1 counted,
    )

pub push_row-returns-clause-bytes : goal.push_row-returns-clause-bytes
push_row-returns-clause-bytes t c =
    let of_type = type_of_lens c.args.from in
    let v = value_of_lens c.args.from in
    let x = element_of of_type in
    let vs = items_of v in
    let old = c.args.out.now.items in
    let all : c.loop-i.i ≡ count vs =
    omega (arith, c.loop-i-test.false, c.loop-i.auto.i-end, c.len-count.ensures) in
    let element : c.code.result ≡ code x =
    c.code.ensures.is ∙ ap code (c.element.ensures ∙ ap element_of c.ty.ensures) in
    let header : c.push_sequence_header.new.out.items ≡ old ++ sequence_header (code x) (count vs) =
    c.in_ok-push_sequence_header.ensures ∙ ap (λ n. old ++ sequence_header n c.len-count.result) element
    ∙ ap (λ n. old ++ sequence_header (code x) n) c.len-count.ensures in
    row-done (code x) (wire x) vs c.loop-i.i old c.push_sequence_header.new.out.items c.loop-i.out.items all
    header c.loop-i.invariant.0
    ∙ ap (λ r. old ++ r) (sym (row_written of_type v c.requires))

pub push_row-returns-clause-counted : goal.push_row-returns-clause-counted
push_row-returns-clause-counted t c =
    let of_type = type_of_lens c.args.from in
    let v = value_of_lens c.args.from in
    let vs = items_of v in
    let all : c.loop-i.i ≡ count vs =
    omega (arith, c.loop-i-test.false, c.loop-i.auto.i-end, c.len-count.ensures) in
    let first : capped c.spend.new.cells ≡ capped (c.args.cells.now + capped (count vs + 2)) =
    omega (arith, c.in_ok-spend.ensures.counted, c.saturating_add.ensures, c.len-count.ensures) in
    by_value c.args.from (λ o.
    items_counted (kinds_of (element_of of_type)) vs c.loop-i.i c.args.cells.now c.spend.new.cells
    c.loop-i.cells (cells (kinds_of of_type) v) all first c.loop-i.invariant.1
    (row-value of_type v c.requires o).cells)

pub push_row-returns-in_err-spend-clause-halted : goal.push_row-returns-in_err-spend-clause-halted
push_row-returns-in_err-spend-clause-halted t c =
    let of_type = type_of_lens c.args.from in
    let v = value_of_lens c.args.from in
    let vs = items_of v in
    let p = err_from_is_err_and c.from_residual.result c.from_residual.ensures.1 in
    let some : c.saturating_add.result ≡ capped (count vs + 2) =
    omega (arith, c.saturating_add.ensures, c.len-count.ensures) in
    let whole = by_value c.args.from (λ o. (row-value of_type v c.requires o).cells) in
    rw (p.1, p.2)
    (range_halted (kinds_of (element_of of_type)) vs c.args.cells.now c.saturating_add.result _
    c.in_err-spend.field-0.0 some whole c.in_err-spend.ensures.halted)

pub push_row-returns-in_err-push_value-clause-halted : goal.push_row-returns-in_err-push_value-clause-halted
push_row-returns-in_err-push_value-clause-halted t c =
    let of_type = type_of_lens c.args.from in
    let v = value_of_lens c.args.from in
    let vs = items_of v in
    let k = kinds_of (element_of of_type) in
    let halt = c.in_err-push_value.field-0.0 in
    let inside : c.loop-i.i < count vs = omega (arith, c.loop-i-test.true, c.len-count.ensures) in
    let p = err_from_is_err_and c.from_residual-in_err-push_value.result
    c.from_residual-in_err-push_value.ensures.1 in
    let first : capped c.spend.new.cells ≡ capped (c.args.cells.now + capped (count vs + 2)) =
    omega (arith, c.in_ok-spend.ensures.counted, c.saturating_add.ensures, c.len-count.ensures) in
    let whole = by_value c.args.from (λ o. (row-value of_type v c.requires o).cells) in
    let typed = c.item.ensures.typed ∙ ap (λ l. element_of (type_of_lens l)) c.row-row.ensures in
    let is = c.item.ensures.value ∙ ap (λ l. nth (items_of (value_of_lens l)) c.loop-i.i) c.row-row.ensures in
    let cells_are = ap (λ x. cells (kinds_of x) (value_of_lens c.item.result)) typed ∙ ap (cells k) is in
    let halted = subst (λ n. IsHalt (c.loop-i.cells + n) halt) cells_are c.in_err-push_value.ensures.halted in
    rw (p.1, p.2)
    (item_halted k vs c.loop-i.i c.args.cells.now c.spend.new.cells c.loop-i.cells _ halt inside first
    c.loop-i.invariant.1 whole halted)

-- ---- pairs

pub push_map-row-row-requires : goal.push_map-row-row-requires
push_map-row-row-requires t c = map_is _ (lens_map c.args.from c.requires)

pub push_map-len-count-requires : goal.push_map-len-count-requires
push_map-len-count-requires t c = map_is _ (lens_map c.args.from c.requires)

pub push_map-entry-requires-clause-map : goal.push_map-entry-requires-clause-map
push_map-entry-requires-clause-map t c =
    subst (λ l. IsMap (value_of_lens l)) (sym c.row-row.ensures) (lens_map c.args.from c.requires)

pub push_map-entry-requires-clause-there : goal.push_map-entry-requires-clause-there
push_map-entry-requires-clause-there t c =
    omega (
      arith,
      c.loop-i-test.true,
      c.len-count.ensures,
      ap (λ l. count (items_of (value_of_lens l))) c.row-row.ensures,
    )

pub push_map-push_value-requires : goal.push_map-push_value-requires
push_map-push_value-requires t c =
    let key = c.entry.ensures.key ∙ ap (λ l. key_of (type_of_lens l)) c.row-row.ensures in
    (omega (arith, c.decreases, map_size c.args.from c.requires, ap size key), tt)

pub push_map-push_value-requires-in-loop-i : goal.push_map-push_value-requires-in-loop-i
push_map-push_value-requires-in-loop-i t c =
    let value = c.entry.ensures.typed ∙ ap (λ l. value_of (type_of_lens l)) c.row-row.ensures in
    (omega (arith, c.decreases, map_size c.args.from c.requires, ap size value), tt)

pub push_map-loop-i-init : goal.push_map-loop-i-init
push_map-loop-i-init t c =
    let of_type = type_of_lens c.args.from in
    let k = pair_kinds (kinds_of (key_of of_type)) (kinds_of (value_of of_type)) in
    (refl, omega (arith, own_none k (items_of (value_of_lens c.args.from))))

pub push_map-loop-i-preserved : goal.push_map-loop-i-preserved
push_map-loop-i-preserved t c =
    let of_type = type_of_lens c.args.from in
    let f = wire (key_of of_type) in
    let g = wire (value_of of_type) in
    let vs = items_of (value_of_lens c.args.from) in
    let key = value_of_lens c.entry.result.0 in
    let value = value_of_lens c.entry.result.1 in
    let out = c.loop-i.out.items in
    let mid = c.push_value.new.out.items in
    let new = c.push_value-in-loop-i.new.out.items in
    let inside : c.loop-i.i < count vs = omega (arith, c.loop-i-test.true, c.len-count.ensures) in
    let keyed = c.entry.ensures.key ∙ ap (λ l. key_of (type_of_lens l)) c.row-row.ensures in
    let typed = c.entry.ensures.typed ∙ ap (λ l. value_of (type_of_lens l)) c.row-row.ensures in
    let is =
    c.entry.ensures.value ∙ ap (λ l. nth (items_of (value_of_lens l)) c.loop-i.i) c.row-row.ensures in
    let first : mid ≡ out ++ canon (f key) =
    c.in_ok-push_value.ensures.bytes ∙ ap (λ x. out ++ canon (wire x key)) keyed in
    let second : new ≡ mid ++ canon (g value) =
    c.in_ok-push_value-2.ensures.bytes ∙ ap (λ x. mid ++ canon (wire x value)) typed in
    let a = kinds_of (key_of of_type) in
    let b = kinds_of (value_of of_type) in
    let one : capped c.push_value.new.cells ≡ capped (c.loop-i.cells + cells a key) =
    c.in_ok-push_value.ensures.counted ∙ ap (λ x. capped (c.loop-i.cells + cells (kinds_of x) key)) keyed in
    let both : capped c.push_value-in-loop-i.new.cells ≡ capped (c.push_value.new.cells + cells b value) =
    c.in_ok-push_value-2.ensures.counted
    ∙ ap (λ x. capped (c.push_value.new.cells + cells (kinds_of x) value)) typed in (
      pair-more f g vs c.loop-i.i key value out mid new _ inside (sym is) first second
          c.loop-i.invariant.0,
      pair_counted a b vs c.loop-i.i _ c.loop-i.cells c.push_value.new.cells _ key value inside (sym is)
          c.loop-i.invariant.1 one both,
    )

pub push_map-returns-clause-bytes : goal.push_map-returns-clause-bytes
push_map-returns-clause-bytes t c =
    let of_type = type_of_lens c.args.from in
    let v = value_of_lens c.args.from in
    let a = code (key_of of_type) in
    let b = code (value_of of_type) in
    let f = wire (key_of of_type) in
    let g = wire (value_of of_type) in
    let vs = items_of v in
    let old = c.args.out.now.items in
    let mid = c.push_number.new.out.items in
    let some : count vs ≡ 0 → ⊥ =
    λ e. omega (arith, c.if-count-eq0.false, c.len-count.ensures, e) in
    let all : c.loop-i.i ≡ count vs =
    omega (arith, c.loop-i-test.false, c.loop-i.auto.i-end, c.len-count.ensures) in
    let size : mid ≡ old ++ shortest (count vs) =
    c.in_ok-push_number.ensures.ok ∙ ap (λ n. old ++ shortest n) c.len-count.ensures in
    let first = c.code.ensures.is ∙ ap code (c.key.ensures ∙ ap key_of c.ty-ty.ensures) in
    let second = c.code-2.ensures.is ∙ ap code (c.value.ensures ∙ ap value_of c.ty-ty.ensures) in
    let both : 16 * c.code.result + c.code-2.result ≡ 16 * a + b = omega (arith, first, second) in
    let pushed = c.in_ok-push_mark-2.ensures in
    map-done a b f g vs c.loop-i.i old mid c.push_mark-2.new.out.items c.loop-i.out.items some all size
    (pushed ∙ ap (λ n. mid ++ n ∷ []) both) c.loop-i.invariant.0
    ∙ ap (λ x. old ++ canon x) (sym (wire-as k.Map of_type v c.requires))

pub push_map-returns-then-count-eq0-clause-bytes : goal.push_map-returns-then-count-eq0-clause-bytes
push_map-returns-then-count-eq0-clause-bytes t c =
    let of_type = type_of_lens c.args.from in
    let v = value_of_lens c.args.from in
    let old = c.args.out.now.items in
    let none : count (items_of v) ≡ 0 = omega (arith, c.if-count-eq0.true, c.len-count.ensures) in
    let pushed = c.in_ok-push_mark.ensures in
    let empty = no-map (code (key_of of_type)) (code (value_of of_type)) (wire (key_of of_type))
    (wire (value_of of_type)) (items_of v) none in
    pushed ∙ ap (λ r. old ++ r) (sym empty)
    ∙ ap (λ x. old ++ canon x) (sym (wire-as k.Map of_type v c.requires))

pub push_map-returns-clause-counted : goal.push_map-returns-clause-counted
push_map-returns-clause-counted t c =
    let of_type = type_of_lens c.args.from in
    let v = value_of_lens c.args.from in
    let vs = items_of v in
    let k = pair_kinds (kinds_of (key_of of_type)) (kinds_of (value_of of_type)) in
    let all : c.loop-i.i ≡ count vs =
    omega (arith, c.loop-i-test.false, c.loop-i.auto.i-end, c.len-count.ensures) in
    let first : capped c.spend.new.cells ≡ capped (c.args.cells.now + capped (count vs + 2)) =
    omega (arith, c.in_ok-spend.ensures.counted, c.saturating_add.ensures, c.len-count.ensures) in
    by_value c.args.from (λ o.
    items_counted k vs c.loop-i.i c.args.cells.now c.spend.new.cells c.loop-i.cells
    (cells (kinds_of of_type) v) all first c.loop-i.invariant.1 (map-value of_type v c.requires o).cells)

pub push_map-returns-then-count-eq0-clause-counted : goal.push_map-returns-then-count-eq0-clause-counted
push_map-returns-then-count-eq0-clause-counted t c =
    let of_type = type_of_lens c.args.from in
    let v = value_of_lens c.args.from in
    let vs = items_of v in
    let k = pair_kinds (kinds_of (key_of of_type)) (kinds_of (value_of of_type)) in
    let none : 0 ≡ count vs = omega (arith, c.if-count-eq0.true, c.len-count.ensures) in
    let first : capped c.spend.new.cells ≡ capped (c.args.cells.now + capped (count vs + 2)) =
    omega (arith, c.in_ok-spend.ensures.counted, c.saturating_add.ensures, c.len-count.ensures) in
    let so_far : capped c.spend.new.cells ≡ capped (c.spend.new.cells + own_before k vs 0) =
    omega (arith, own_none k vs) in
    by_value c.args.from (λ o.
    items_counted k vs 0 c.args.cells.now c.spend.new.cells c.spend.new.cells (cells (kinds_of of_type) v)
    none first so_far (map-value of_type v c.requires o).cells)

pub push_map-returns-in_err-spend-clause-halted : goal.push_map-returns-in_err-spend-clause-halted
push_map-returns-in_err-spend-clause-halted t c =
    let of_type = type_of_lens c.args.from in
    let v = value_of_lens c.args.from in
    let vs = items_of v in
    let k = pair_kinds (kinds_of (key_of of_type)) (kinds_of (value_of of_type)) in
    let p = err_from_is_err_and c.from_residual.result c.from_residual.ensures.1 in
    let some : c.saturating_add.result ≡ capped (count vs + 2) =
    omega (arith, c.saturating_add.ensures, c.len-count.ensures) in
    let whole = by_value c.args.from (λ o. (map-value of_type v c.requires o).cells) in
    rw (p.1, p.2)
    (range_halted k vs c.args.cells.now c.saturating_add.result _ c.in_err-spend.field-0.0 some whole
    c.in_err-spend.ensures.halted)

pub push_map-returns-in_err-push_value-clause-halted : goal.push_map-returns-in_err-push_value-clause-halted
push_map-returns-in_err-push_value-clause-halted t c =
    let of_type = type_of_lens c.args.from in
    let v = value_of_lens c.args.from in
    let vs = items_of v in
    let a = kinds_of (key_of of_type) in
    let b = kinds_of (value_of of_type) in
    let key = value_of_lens c.entry.result.0 in
    let value = value_of_lens c.entry.result.1 in
    let halt = c.in_err-push_value.field-0.0 in
    let inside : c.loop-i.i < count vs = omega (arith, c.loop-i-test.true, c.len-count.ensures) in
    let p = err_from_is_err_and c.from_residual-in_err-push_value.result
    c.from_residual-in_err-push_value.ensures.1 in
    let first : capped c.spend.new.cells ≡ capped (c.args.cells.now + capped (count vs + 2)) =
    omega (arith, c.in_ok-spend.ensures.counted, c.saturating_add.ensures, c.len-count.ensures) in
    let whole = by_value c.args.from (λ o. (map-value of_type v c.requires o).cells) in
    let keyed = c.entry.ensures.key ∙ ap (λ l. key_of (type_of_lens l)) c.row-row.ensures in
    let is =
    c.entry.ensures.value ∙ ap (λ l. nth (items_of (value_of_lens l)) c.loop-i.i) c.row-row.ensures in
    let halted = subst (λ x. IsHalt (c.loop-i.cells + cells (kinds_of x) key) halt) keyed
    c.in_err-push_value.ensures.halted in
    rw (p.1, p.2)
    (key_halted a b vs c.loop-i.i c.args.cells.now c.spend.new.cells c.loop-i.cells _ key value halt inside
    (sym is) first c.loop-i.invariant.1 whole halted)

pub push_map-returns-in_err-push_value-2-clause-halted :
    goal.push_map-returns-in_err-push_value-2-clause-halted
push_map-returns-in_err-push_value-2-clause-halted t c =
    let of_type = type_of_lens c.args.from in
    let v = value_of_lens c.args.from in
    let vs = items_of v in
    let a = kinds_of (key_of of_type) in
    let b = kinds_of (value_of of_type) in
    let key = value_of_lens c.entry.result.0 in
    let value = value_of_lens c.entry.result.1 in
    let mid = c.push_value.new.cells in
    let halt = c.in_err-push_value-2.field-0.0 in
    let inside : c.loop-i.i < count vs = omega (arith, c.loop-i-test.true, c.len-count.ensures) in
    let p = err_from_is_err_and c.from_residual-in_err-push_value-2.result
    c.from_residual-in_err-push_value-2.ensures.1 in
    let first : capped c.spend.new.cells ≡ capped (c.args.cells.now + capped (count vs + 2)) =
    omega (arith, c.in_ok-spend.ensures.counted, c.saturating_add.ensures, c.len-count.ensures) in
    let whole = by_value c.args.from (λ o. (map-value of_type v c.requires o).cells) in
    let keyed = c.entry.ensures.key ∙ ap (λ l. key_of (type_of_lens l)) c.row-row.ensures in
    let typed = c.entry.ensures.typed ∙ ap (λ l. value_of (type_of_lens l)) c.row-row.ensures in
    let is =
    c.entry.ensures.value ∙ ap (λ l. nth (items_of (value_of_lens l)) c.loop-i.i) c.row-row.ensures in
    let one : capped mid ≡ capped (c.loop-i.cells + cells a key) =
    c.in_ok-push_value.ensures.counted ∙ ap (λ x. capped (c.loop-i.cells + cells (kinds_of x) key)) keyed in
    let halted = subst (λ x. IsHalt (mid + cells (kinds_of x) value) halt) typed
    c.in_err-push_value-2.ensures.halted in
    rw (p.1, p.2)
    (value_halted a b vs c.loop-i.i c.args.cells.now c.spend.new.cells c.loop-i.cells mid _ key value halt
    inside (sym is) first c.loop-i.invariant.1 one whole halted)

-- ---- fields

pub push_fields-push_field-requires : goal.push_fields-push_field-requires
push_fields-push_field-requires t c =
    let of_type = type_of_lens c.args.from in
    let f = field_of_ref c.field_at.result in
    let at : slice_get (fields_of of_type) c.loop-i.i ≡ Some f =
    subst (λ x. slice_get (fields_of x) c.loop-i.i ≡ Some f) c.ty-ty.ensures c.field_at.ensures in
    let less = field-smaller of_type c.loop-i.i f at in
    (omega (arith, c.decreases, less), contains_at (fields_of of_type) c.loop-i.i f at)

pub push_fields-loop-i-init : goal.push_fields-loop-i-init
push_fields-loop-i-init t c =
    let none = none-before (all_fields (type_of_lens c.args.from)) (values_in (value_of_lens c.args.from)) in
    (refl, omega (arith, none))

pub push_fields-loop-i-preserved : goal.push_fields-loop-i-preserved
push_fields-loop-i-preserved t c =
    let l = c.args.from in
    let of_type = type_of_lens l in
    let i = c.loop-i.i in
    let f = field_of_ref c.field_at.result in
    let fs = all_fields of_type in
    let vs = values_in (value_of_lens l) in
    let out = c.loop-i.out.items in
    let at : slice_get (fields_of of_type) i ≡ Some f =
    subst (λ x. slice_get (fields_of x) i ≡ Some f) c.ty-ty.ensures c.field_at.ensures in
    let there : slice_get (field_list fs) i ≡ Some f =
    subst (λ gs. slice_get gs i ≡ Some f) (listed of_type) at in
    let inside : i < count vs =
    omega (arith, slice_get_within (fields_of of_type) i f at, (lens_struct l c.requires).many) in
    let counted = c.in_ok-before.ensures.counted
    ∙ ap (λ n. capped (c.loop-i.cells + n)) (field_held l i f c.requires at) in (
      field-more fs vs i f c.loop-i.before.id c.in_ok-before.before.id out c.push_field.new.out.items _ there
          inside
          (λ xs. c.in_ok-before.ensures.bytes xs
          ∙ ap (λ r. out ++ r) (field_written l i f c.loop-i.before.id xs c.requires at))
          c.loop-i.invariant.0,
      by_value l (λ o.
          field_counted of_type (value_of_lens l) i _ c.loop-i.cells _ f
          (struct-value of_type (value_of_lens l) c.requires o) at c.loop-i.invariant.1 counted),
    )

pub push_fields-returns-clause-bytes : goal.push_fields-returns-clause-bytes
push_fields-returns-clause-bytes t c =
    let of_type = type_of_lens c.args.from in
    let v = value_of_lens c.args.from in
    let fs = all_fields of_type in
    let old = c.args.out.now.items in
    let all : c.loop-i.i ≡ length (field_list fs) =
    omega (
      arith,
      c.loop-i-test.false,
      c.loop-i.auto.i-end,
      c.field_count-i-end.ensures,
      ap (λ x. length (fields_of x)) c.ty-ty.ensures,
      ap length (listed of_type),
    ) in
    let ended = c.in_ok-push_mark.ensures in
    fields-done fs (values_in v) c.loop-i.i c.loop-i.before.id old c.loop-i.out.items c.push_mark.new.out.items
    all ended c.loop-i.invariant.0
    ∙ ap (λ x. old ++ canon x) (sym (wire-as k.Struct of_type v c.requires))

pub push_fields-returns-clause-counted : goal.push_fields-returns-clause-counted
push_fields-returns-clause-counted t c =
    let of_type = type_of_lens c.args.from in
    let v = value_of_lens c.args.from in
    let all : c.loop-i.i ≡ length (fields_of of_type) =
    omega (
      arith,
      c.loop-i-test.false,
      c.loop-i.auto.i-end,
      c.field_count-i-end.ensures,
      ap (λ x. length (fields_of x)) c.ty-ty.ensures,
    ) in
    by_value c.args.from (λ o.
    fields_counted of_type v c.loop-i.i c.args.cells.now c.loop-i.cells
    (struct-value of_type v c.requires o) all c.loop-i.invariant.1)

pub push_fields-returns-in_err-before-clause-halted : goal.push_fields-returns-in_err-before-clause-halted
push_fields-returns-in_err-before-clause-halted t c =
    let f = field_of_ref c.field_at.result in
    let p = err_from_is_err_and c.from_residual.result c.from_residual.ensures.1 in
    let at : slice_get (fields_of (type_of_lens c.args.from)) c.loop-i.i ≡ Some f =
    subst (λ x. slice_get (fields_of x) c.loop-i.i ≡ Some f) c.ty-ty.ensures c.field_at.ensures in
    rw (p.1, p.2)
    (field_halted c.args.from c.loop-i.i f c.args.cells.now c.loop-i.cells c.in_err-before.field-0.0
    c.requires at c.loop-i.invariant.1 c.in_err-before.ensures.halted)

-- ---- one field

pub push_given-returns-clause-bytes : goal.push_given-returns-clause-bytes
push_given-returns-clause-bytes t c =
    let f = field_of_ref c.args.field in
    let part = c.args.part in
    let x = wire (type_of_lens part) (value_of_lens part) in
    let old = c.args.out.now.items in
    let before = c.args.before.id in
    let fits : SFits w16 c.id-id.result = search rules in
    let header = simp to_z-of_z at c.in_ok-push_header_and_value.ensures.bytes in
    let written = header ∙ ap (λ i. old ++ canon_field before i x) c.id-id.ensures in
    λ xs. simp to_z-of_z (given-more before c.id-id.result f.id x old c.push_header_and_value.new.out.items
    c.id-id.ensures written xs)

pub push_other_field-returns-clause-bytes : goal.push_other_field-returns-clause-bytes
push_other_field-returns-clause-bytes t c =
    let of_type = type_of_lens c.args.part in
    let v = value_of_lens c.args.part in
    let old = c.args.out.now.items in
    let before = c.args.before.id in
    let x = wire of_type v in
    let fits : SFits w16 c.args.id = search rules in
    let coded = c.code.ensures.is ∙ ap code c.ty.ensures in
    let header : c.push_field_header.new.out.items ≡ old ++ field_header before c.args.id (code of_type) =
    (simp to_z-of_z at c.in_ok-push_field_header.ensures)
    ∙ ap (λ n. old ++ field_header before c.args.id n) coded in
    on_ok c.push_value.result
    (λ written. written ∙ ap (λ r. r ++ canon x) header
    ∙ append_assoc old (field_header before c.args.id (code of_type)) (canon x)
    ∙ ap (λ r. old ++ r) (sym (value-behind of_type v before c.args.id c.requires)))
    c.push_value.ensures.bytes

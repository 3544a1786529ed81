use Rattle.std.proofs.Common.{Ok, Err, None, arith, rules, ap, sym, subst, ◌∙◌, ◌+◌, ◌-◌, ◌≡◌, ℕ, length, List, [], ◌∷◌, ◌++◌, true, refl, drop}
use Rattle.std.specs.Prelude.{IfOk, Bool, nat_eq, ◌||◌, ◌&&◌}
use Rattle.compact_wire.specs.declared.kind.Kind.{Kind}
use Rattle.compact_wire.specs.Codes.{code_of}
use Rattle.typed_reading.specs.declared.fault.NodeFault.{NodeFault}
use Rattle.typed_reading.specs.declared.progress.Progress.{Progress}
use Rattle.wire_scan.specs.Sizes.{sizes}
use Rattle.std.proofs.lemmas.Int.{to_z-of_z}
use mir.Val.{SFits}
use mir.Syntax.{w16}
use Rattle.std.proofs.lemmas.List.{drop-set-add}
use Rattle.std.proofs.lemmas.Result.{err_from_is_err_and}
use Rattle.exact_reading.specs.Reading.{Gives, seen}
use Rattle.compact_wire.specs.Node.{Nodes, list}
use Rattle.compact_wire.specs.Reads.{items, pairs, value, all_fields, typed, container}
use Rattle.compact_wire.proofs.ReadSteps.{AreBytes-from, value-zero, value-step, value-scalar}
use Rattle.idl_profile.specs.Types.{TypeTree, DefField}
use Rattle.idl_parse.specs.Refs.{type_of_ref, field_of_ref, fields_of_refs, element_of, key_of, value_of}
use Rattle.key_order.specs.Keys.{value_of as value_of_key}
use Rattle.type_kinds.specs.Accepted.{IsAccepted}
use Rattle.type_kinds.specs.Laws.{Any}
use Rattle.wire_scan.proofs.Seen.{Reading, items_go_on, items_done, pairs_go_on, pairs_done, key_end, fields_begin, start_end, fields_done, fields_go_on}
use Rattle.typed_reading.specs.declared.counts.Checked.{Checked}
use Rattle.typed_reading.specs.declared.fault.NodeFault.TheVariants.{RepeatedField, WrongType}
use Rattle.typed_reading.specs.Counts.{grown, a_holder, a_struct, defaults_beside, by_need, counted, counted_items, counted_item, counted_pairs, counted_field, counted_fields, IsCount}
use Rattle.typed_reading.proofs.CountSteps.{list_holds, none_counted, one_counted, no_pair_counted, pair_counted, no_field_counted, field_counted, flag_counted, row_counted, empty_map_counted, map_counted, key_item, unknown_counted, known_counted, field_goes_on, struct_counted, none_left, noted, clean_value, clean_key, clean_field}
use Rattle.typed_reading.specs.Codes.{code}
use Rattle.typed_reading.specs.Faults.{lesser, least, all_here, missing}
use Rattle.typed_reading.specs.Progress.{after, after_items, after_map, after_key, after_value, after_pairs, after_field, after_fields, inside}
use Rattle.typed_reading.specs.Marks.{Marked, ArePlaced, AreTyped}
use Rattle.typed_reading.proofs.FieldLaws.{marked_more, marked_unknown, place_is, place_find, place_found, place_fits, fields_placed, stood_none}
use Rattle.typed_reading.proofs.Steps.{progress, no_more, one_more, no_more_pairs, one_more_pair, no_more_fields, one_more_field, codes_same}
use Rattle.typed_reading.proofs.Leaves.{wrong_value}
use Rattle.typed_reading.proofs.Rows.{row_header_err, row_count_err, list_fine, row_wrong, row_wrong_err, list_row}
use Rattle.typed_reading.proofs.Maps.{map_first, map_none, map_header_err, map_wrong, map_wrong_err, map_fine}
use Rattle.typed_reading.proofs.Structs.{field_ok, unknown_ok, repeated_ok, known_is, struct_err, struct_ok}
use Rattle.typed_reading.proofs.Tables.{key_ok, key_err, value_ok, goes_on, on_ok, map_done, map_err}
use Rattle.typed_reading.proofs.Keyed.{climbs_one}
use Rattle.typed_reading.proofs.Kept.{none_kept, kept_climbs, kept_least}
use Rattle.typed_reading.proofs.Parts.{struct_code, leaf_kind, key_is_leaf, key_kind, element_accepted, map_accepted, fields_typed}
use Rattle.typed_reading.proofs.Fails.{items_fail, pair_fails, field_fails}
use Rattle.typed_reading.proofs.checking.+check.Goals as goal

pub check_items-returns-in_err-behind-clause-reads : goal.check_items-returns-in_err-behind-clause-reads
check_items-returns-in_err-behind-clause-reads t c =
    let p = err_from_is_err_and c.from_residual.result c.from_residual.ensures.1 in
    rw (p.1, p.2) (items_fail (type_of_ref c.args.ty) c.args.levels c.args.kind c.in_err-behind.field-0.0 c.loop.progress c.args.count c.loop.counter c.loop.rest.now
    (seen (after_items (type_of_ref c.args.ty) c.args.progress.now) (items (value c.args.levels c.args.kind) c.args.count c.args.bytes.now)) c.loop-test.true c.in_err-behind.ensures.reads c.loop.invariant.0)

pub check_items-loop-preserved : goal.check_items-loop-preserved
check_items-loop-preserved t c = (
  items_go_on (after (type_of_ref c.args.ty)) (after_items (type_of_ref c.args.ty)) (no_more (type_of_ref c.args.ty)) (one_more (type_of_ref c.args.ty)) (value c.args.levels c.args.kind) c.loop.progress c.check_value.new.progress c.args.count c.loop.counter c.loop.rest.now c.in_ok-behind.behind.now
      (seen (after_items (type_of_ref c.args.ty) c.args.progress.now) (items (value c.args.levels c.args.kind) c.args.count c.args.bytes.now)) c.loop-test.true c.in_ok-behind.ensures.reads c.loop.invariant.0,
  omega (arith, c.in_ok-behind.ensures.room, c.loop.invariant.1),
  c.in_ok-behind.ensures.marks ∙ c.loop.invariant.2,
  λ clean.
      let u = type_of_ref c.args.ty in
      let v = value c.args.levels c.args.kind in
      let before = clean_value u c.loop.progress c.check_value.new.progress (v c.loop.rest.now) c.in_ok-behind.behind.now c.in_ok-behind.ensures.reads clean in
      let e = subst (λ (s : Checked). seen (counted u s) (v c.loop.rest.now) ≡ Ok (c.check_value.new.sums, c.in_ok-behind.behind.now)) c.with_item.ensures (c.in_ok-behind.ensures.counts clean) in
      items_go_on (counted_item u) (counted_items u) (none_counted u) (one_counted u) v c.loop.sums c.check_value.new.sums c.args.count c.loop.counter c.loop.rest.now c.in_ok-behind.behind.now
      (seen (counted_items u c.args.sums.now) (items v c.args.count c.args.bytes.now)) c.loop-test.true e (c.loop.invariant.3 before),
)

pub check_items-returns-clause-reads : goal.check_items-returns-clause-reads
check_items-returns-clause-reads t c =
    items_done (after (type_of_ref c.args.ty)) (after_items (type_of_ref c.args.ty)) (no_more (type_of_ref c.args.ty)) (one_more (type_of_ref c.args.ty)) (value c.args.levels c.args.kind) c.loop.progress c.args.count c.loop.counter c.loop.rest.now
    (seen (after_items (type_of_ref c.args.ty) c.args.progress.now) (items (value c.args.levels c.args.kind) c.args.count c.args.bytes.now)) c.loop-test.false c.loop.invariant.0

pub check_list-returns-in_err-header-clause-reads : goal.check_list-returns-in_err-header-clause-reads
check_list-returns-in_err-header-clause-reads t c =
    let p = err_from_is_err_and c.from_residual.result c.from_residual.ensures.1 in
    rw (p.1, p.2) (row_header_err list (type_of_ref c.args.ty) c.args.progress.now c.args.levels c.args.bytes.now c.in_err-header.field-0.0 c.in_err-header.ensures.reads)

pub check_list-returns-in_err-count-clause-reads : goal.check_list-returns-in_err-count-clause-reads
check_list-returns-in_err-count-clause-reads t c =
    let p = err_from_is_err_and c.from_residual-in_err-count.result c.from_residual-in_err-count.ensures.1 in
    rw (p.1, p.2) (row_count_err list (type_of_ref c.args.ty) c.args.progress.now c.args.levels c.args.bytes.now c.in_ok-header.header c.in_ok-header.rest.now c.in_err-count.field-0.0 c.in_ok-header.ensures.reads c.in_err-count.ensures.reads)

pub check_list-returns-in_err-next-clause-reads : goal.check_list-returns-in_err-next-clause-reads
check_list-returns-in_err-next-clause-reads t c =
    let p = err_from_is_err_and c.from_residual-in_err-next.result c.from_residual-in_err-next.ensures.1 in
    let g = subst (λ (k : Kind). seen (λ (xs : Nodes). c.args.progress.now.next + 1 + sizes xs) (items (value c.args.levels k) c.in_ok-count.count c.in_ok-count.rest.now) ≡ Err c.in_err-next.field-0.0) c.element_of-kind.ensures c.in_err-next.ensures.reads in
    rw (p.1, p.2) (row_wrong_err list 9 list_row (type_of_ref c.args.ty) c.args.progress.now c.args.levels c.args.bytes.now c.in_ok-header.header c.in_ok-header.rest.now c.in_ok-count.rest.now c.in_ok-count.count c.in_err-next.field-0.0 c.in_ok-header.ensures.reads c.in_ok-count.ensures.reads g)

pub check_list-returns-then-not-elements_fit-clause-reads : goal.check_list-returns-then-not-elements_fit-clause-reads
check_list-returns-then-not-elements_fit-clause-reads t c =
    let n = c.in_ok-count.count in
    let g = subst (λ (k : Kind). seen (λ (xs : Nodes). c.args.progress.now.next + 1 + sizes xs) (items (value c.args.levels k) c.in_ok-count.count c.in_ok-count.rest.now) ≡ Ok (c.in_ok-next.next, c.in_ok-next.rest.now)) c.element_of-kind.ensures c.in_ok-next.ensures.reads in
    let fit = ap (λ (k : Kind). nat_eq n 0 || nat_eq (code_of k) (code (element_of (type_of_ref c.args.ty)))) (sym c.element_of-kind.ensures)
    ∙ ap (λ (u : TypeTree). nat_eq n 0 || nat_eq (code_of c.element_of-kind.result) (code u)) (sym c.element-element.ensures) ∙ sym c.elements_fit.ensures ∙ c.if-not-elements_fit.true in
    rw c.note_fault.ensures (row_wrong list 9 list_row (type_of_ref c.args.ty) c.args.progress.now c.args.levels c.args.bytes.now c.in_ok-header.header c.in_ok-header.rest.now c.in_ok-count.rest.now c.in_ok-next.rest.now n c.in_ok-next.next c.in_ok-header.ensures.reads c.in_ok-count.ensures.reads fit g)

pub check_list-check_items-requires : goal.check_list-check_items-requires
check_list-check_items-requires t c = (
  omega (arith, c.decreases),
  (
    omega (arith, ap (λ (s : Progress). s.next) c.pass_node.ensures, c.in_ok-header.ensures.shorter, c.in_ok-count.ensures.shorter, c.requires.room),
    subst (IsAccepted Any) (sym c.element-element.ensures) (element_accepted (type_of_ref c.args.ty) c.requires.accepted),
  ),
)

pub check_list-returns-clause-reads : goal.check_list-returns-clause-reads
check_list-returns-clause-reads t c =
    let n = c.in_ok-count.count in
    let b = c.in_ok-count.rest.now in
    let fit = ap (λ (k : Kind). nat_eq n 0 || nat_eq (code_of k) (code (element_of (type_of_ref c.args.ty)))) (sym c.element_of-kind.ensures)
    ∙ ap (λ (u : TypeTree). nat_eq n 0 || nat_eq (code_of c.element_of-kind.result) (code u)) (sym c.element-element.ensures) ∙ sym c.elements_fit.ensures ∙ c.if-not-elements_fit.false in
    let e = list_fine (type_of_ref c.args.ty) c.args.progress.now c.args.levels c.args.bytes.now c.in_ok-header.header c.in_ok-header.rest.now b n c.in_ok-header.ensures.reads c.in_ok-count.ensures.reads c.requires.code fit in
    let g = ap (λ (u : TypeTree). seen (after_items u c.pass_node.new.progress) (items (value c.args.levels c.element_of-kind.result) n b)) c.element-element.ensures
    ∙ ap (λ (p : Progress). seen (after_items (element_of (type_of_ref c.args.ty)) p) (items (value c.args.levels c.element_of-kind.result) n b)) c.pass_node.ensures
    ∙ ap (λ (k : Kind). seen (after_items (element_of (type_of_ref c.args.ty)) (inside c.args.progress.now)) (items (value c.args.levels k) n b)) c.element_of-kind.ensures ∙ sym e in
    subst (λ z. Gives (λ x. (c.check_items.new.progress, x.now)) c.check_items.result z) g c.check_items.ensures.reads

pub check_value-returns-then-code_of-code-clause-reads : goal.check_value-returns-then-code_of-code-clause-reads
check_value-returns-then-code_of-code-clause-reads t c =
    rw c.note_fault.ensures (wrong_value (type_of_ref c.args.ty) c.args.progress.now c.args.levels c.args.kind c.args.bytes.now c.in_ok-next.rest.now c.in_ok-next.next (λ h. c.if-code_of-code.true (c.code_of.ensures ∙ h ∙ sym c.code.ensures.is)) c.in_ok-next.ensures.reads)

pub check_value-returns-in_err-rest-clause-reads : goal.check_value-returns-in_err-rest-clause-reads
check_value-returns-in_err-rest-clause-reads t c =
    let p = err_from_is_err_and c.from_residual-in_err-rest.result c.from_residual-in_err-rest.ensures.1 in
    rw (p.1, p.2) (rw (value-zero c.args.levels c.args.kind (omega arith)) c.in_err-rest.ensures.reads)

pub check_value-returns-then-levels-eq0-clause-reads : goal.check_value-returns-then-levels-eq0-clause-reads
check_value-returns-then-levels-eq0-clause-reads t c = rw (value-zero c.args.levels c.args.kind (omega arith)) c.in_ok-rest.ensures.reads

pub check_value-returns-in_err-rest-in_default : goal.check_value-returns-in_err-rest-in_default
check_value-returns-in_err-rest-in_default t c =
    let p = err_from_is_err_and c.from_residual-in_err-rest-in_default.result c.from_residual-in_err-rest-in_default.ensures.1 in
    let fit = leaf_kind c.args.kind c.in_default.not-List c.in_default.not-Set c.in_default.not-Map c.in_default.not-Struct in
    record { reads = rw (p.1, p.2) (rw (value-scalar c.args.levels c.args.kind fit) c.in_err-rest-in_default.ensures.reads); counts = rw p.1 tt; room = rw p.1 tt; marks = rw p.1 tt }

pub check_value-returns-in-List-clause-reads : goal.check_value-returns-in-List-clause-reads
check_value-returns-in-List-clause-reads t c =
    let v = value-step c.args.levels c.args.kind (omega arith) ∙ ap (container (c.args.levels - 1) (value (c.args.levels - 1))) c.in-List.is in
    rw v c.check_list.ensures.reads

pub check_value-returns-in-Struct-clause-reads : goal.check_value-returns-in-Struct-clause-reads
check_value-returns-in-Struct-clause-reads t c =
    let v = value-step c.args.levels c.args.kind (omega arith) ∙ ap (container (c.args.levels - 1) (value (c.args.levels - 1))) c.in-Struct.is in
    rw v c.check_struct.ensures.reads

pub check_value-returns-in_ok-rest-in_default : goal.check_value-returns-in_ok-rest-in_default
check_value-returns-in_ok-rest-in_default t c =
    let fit = leaf_kind c.args.kind c.in_default.not-List c.in_default.not-Set c.in_default.not-Map c.in_default.not-Struct in
    record { reads = rw (value-scalar c.args.levels c.args.kind fit) c.in_ok-rest-in_default.ensures.reads; counts = rw (value-scalar c.args.levels c.args.kind fit) (λ clean. c.in_ok-rest-in_default.ensures.counts); room = c.in_ok-rest-in_default.ensures.room; marks = refl }

pub check_value-returns-in-Set-clause-reads : goal.check_value-returns-in-Set-clause-reads
check_value-returns-in-Set-clause-reads t c =
    let v = value-step c.args.levels c.args.kind (omega arith) ∙ ap (container (c.args.levels - 1) (value (c.args.levels - 1))) c.in-Set.is in
    rw v c.check_set.ensures.reads

pub check_value-returns-in-Map-clause-reads : goal.check_value-returns-in-Map-clause-reads
check_value-returns-in-Map-clause-reads t c =
    let v = value-step c.args.levels c.args.kind (omega arith) ∙ ap (container (c.args.levels - 1) (value (c.args.levels - 1))) c.in-Map.is in
    rw v c.check_map.ensures.reads

pub check_field-returns-in_default-clause-reads : goal.check_field-returns-in_default-clause-reads
check_field-returns-in_default-clause-reads t c id ids p m =
    let fs = fields_of_refs c.args.fields in
    rw c.pass_to.ensures (unknown_ok fs c.args.progress.now ids id (typed (value c.args.levels) c.args.field_type c.args.bytes.now) c.in_ok-next.next c.in_ok-next.rest.now (place_found fs id (sym p ∙ c.in_default.is)) c.in_ok-next.ensures.reads)

pub check_field-returns-in_default-clause-marked : goal.check_field-returns-in_default-clause-marked
check_field-returns-in_default-clause-marked t c id ids p m =
    marked_unknown (fields_of_refs c.args.fields) (drop c.args.base c.args.marks.now.items) ids id m (sym p ∙ c.in_default.is)

pub check_field-returns-then-set_mark-clause-reads : goal.check_field-returns-then-set_mark-clause-reads
check_field-returns-then-set_mark-clause-reads t c id ids p m =
    let fs = fields_of_refs c.args.fields in
    let e = sym p ∙ c.in-Some.is in
    let at = place_is fs id c.in-Some.place e in
    let again = sym (m id c.in-Some.place e).1 ∙ sym c.set_mark.ensures.was ∙ c.if-set_mark.true in
    rw c.note_fault.ensures (repeated_ok fs c.args.progress.now ids id (typed (value c.args.levels) c.args.field_type c.args.bytes.now) at.0 c.in_ok-next-2.next c.in_ok-next-2.rest.now at.3 again c.in_ok-next-2.ensures.reads)

pub check_field-returns-then-set_mark-clause-marked : goal.check_field-returns-then-set_mark-clause-marked
check_field-returns-then-set_mark-clause-marked t c id ids p m =
    let fs = fields_of_refs c.args.fields in
    let marks = c.args.marks.now.items in
    subst (λ (ms : List Bool). Marked fs ms (id ∷ ids)) (sym (ap (drop c.args.base) c.set_mark.ensures.new ∙ drop-set-add c.args.base marks c.in-Some.place true))
    (marked_more fs (drop c.args.base marks) ids id c.in-Some.place m (sym p ∙ c.in-Some.is))

pub check_field-check_typed-requires : goal.check_field-check_typed-requires
check_field-check_typed-requires t c = (
  omega (arith, c.decreases),
  (c.requires.room, subst (IsAccepted Any) (sym c.ty.ensures) (c.requires.typed c.in-Some.place (field_of_ref c.at-field.result) c.at-field.ensures)),
)

pub check_field-returns-clause-reads : goal.check_field-returns-clause-reads
check_field-returns-clause-reads t c id ids p m =
    let fs = fields_of_refs c.args.fields in
    let f = field_of_ref c.at-field.result in
    let e = sym p ∙ c.in-Some.is in
    let r = typed (value c.args.levels) c.args.field_type c.args.bytes.now in
    let first = sym (m id c.in-Some.place e).1 ∙ sym c.set_mark.ensures.was ∙ c.if-set_mark.false in
    let g = ap (λ (u : TypeTree). seen (after u c.args.progress.now) r) c.ty.ensures ∙ sym (known_is fs c.args.progress.now ids id r f (place_find fs id c.in-Some.place f e c.at-field.ensures) first) in
    subst (λ z. Gives (λ x. (c.check_typed.new.progress, x.now)) c.check_typed.result z) g c.check_typed.ensures.reads

pub check_field-returns-clause-marked : goal.check_field-returns-clause-marked
check_field-returns-clause-marked t c id ids p m =
    let fs = fields_of_refs c.args.fields in
    let marks = c.args.marks.now.items in
    let more = marked_more fs (drop c.args.base marks) ids id c.in-Some.place m (sym p ∙ c.in-Some.is) in
    let same = ap (drop c.args.base) c.set_mark.ensures.new ∙ drop-set-add c.args.base marks c.in-Some.place true in
    on_ok c.check_typed.result _ _ (λ e. subst (λ (ms : List Bool). Marked fs ms (id ∷ ids)) (sym (ap (drop c.args.base) e ∙ same)) more) c.check_typed.ensures.marks

pub check_map-returns-in_err-count-clause-reads : goal.check_map-returns-in_err-count-clause-reads
check_map-returns-in_err-count-clause-reads t c =
    let p = err_from_is_err_and c.from_residual.result c.from_residual.ensures.1 in
    rw (p.1, p.2) (map_first (type_of_ref c.args.ty) c.args.progress.now c.args.levels c.args.bytes.now c.in_err-count.field-0.0 c.in_err-count.ensures.reads)

pub check_map-returns-then-count-eq0-clause-reads : goal.check_map-returns-then-count-eq0-clause-reads
check_map-returns-then-count-eq0-clause-reads t c =
    rw c.pass_node.ensures (map_none (type_of_ref c.args.ty) c.args.progress.now c.args.levels c.args.bytes.now c.in_ok-count.count c.in_ok-count.rest.now c.in_ok-count.ensures.reads (omega arith) c.requires.code)

pub check_map-returns-in_err-kinds-clause-reads : goal.check_map-returns-in_err-kinds-clause-reads
check_map-returns-in_err-kinds-clause-reads t c =
    let p = err_from_is_err_and c.from_residual-in_err-kinds.result c.from_residual-in_err-kinds.ensures.1 in
    rw (p.1, p.2) (map_header_err (type_of_ref c.args.ty) c.args.progress.now c.args.levels c.args.bytes.now c.in_ok-count.count c.in_ok-count.rest.now c.in_err-kinds.field-0.0 c.in_ok-count.ensures.reads (λ e. omega (arith, e)) c.in_err-kinds.ensures.reads)

pub check_map-returns-in_err-next-clause-reads : goal.check_map-returns-in_err-next-clause-reads
check_map-returns-in_err-next-clause-reads t c =
    let p = err_from_is_err_and c.from_residual-in_err-next.result c.from_residual-in_err-next.ensures.1 in
    rw (p.1, p.2) (map_wrong_err (type_of_ref c.args.ty) c.args.progress.now c.args.levels c.args.bytes.now c.in_ok-count.count c.in_ok-count.rest.now c.in_ok-kinds.rest.now c.in_ok-kinds.kinds c.in_ok-count.ensures.reads (λ e. omega (arith, e)) c.in_ok-kinds.ensures.reads c.in_err-next.field-0.0 c.in_err-next.ensures.reads)

pub check_map-returns-then-not-pairs_fit-clause-reads : goal.check_map-returns-then-not-pairs_fit-clause-reads
check_map-returns-then-not-pairs_fit-clause-reads t c =
    let kinds = c.in_ok-kinds.kinds in
    let fit = sym (ap (λ (u : TypeTree). nat_eq (code_of kinds.key) (code u) && nat_eq (code_of kinds.value) (code (type_of_ref c.value-value_type.result))) c.key-key_type.ensures
    ∙ ap (λ (u : TypeTree). nat_eq (code_of kinds.key) (code (key_of (type_of_ref c.args.ty))) && nat_eq (code_of kinds.value) (code u)) c.value-value_type.ensures) ∙ sym c.pairs_fit.ensures ∙ c.if-not-pairs_fit.true in
    rw c.note_fault.ensures (map_wrong (type_of_ref c.args.ty) c.args.progress.now c.args.levels c.args.bytes.now c.in_ok-count.count c.in_ok-count.rest.now c.in_ok-kinds.rest.now kinds c.in_ok-count.ensures.reads (λ e. omega (arith, e)) c.in_ok-kinds.ensures.reads c.in_ok-next.next c.in_ok-next.rest.now fit c.in_ok-next.ensures.reads)

pub check_map-check_pairs-requires : goal.check_map-check_pairs-requires
check_map-check_pairs-requires t c =
    let kinds = c.in_ok-kinds.kinds in
    let both = sym c.pairs_fit.ensures ∙ c.if-not-pairs_fit.false in
    let same = codes_same (code_of kinds.key) (code (type_of_ref c.key-key_type.result)) (nat_eq (code_of kinds.value) (code (type_of_ref c.value-value_type.result))) both in
    let h = map_accepted (type_of_ref c.args.ty) c.requires.code c.requires.accepted in (
      omega (arith, c.decreases),
      (
        omega (arith, ap (λ (s : Progress). s.next) c.pass_node-2.ensures, c.in_ok-count.ensures.shorter, c.in_ok-kinds.ensures.shorter, c.requires.room),
        (key_kind (key_of (type_of_ref c.args.ty)) kinds.key h.0 (same ∙ ap code c.key-key_type.ensures), (same, subst (IsAccepted Any) (sym c.value-value_type.ensures) h.1)),
      ),
    )

pub check_map-returns-clause-reads : goal.check_map-returns-clause-reads
check_map-returns-clause-reads t c =
    let kinds = c.in_ok-kinds.kinds in
    let fit = sym (ap (λ (u : TypeTree). nat_eq (code_of kinds.key) (code u) && nat_eq (code_of kinds.value) (code (type_of_ref c.value-value_type.result))) c.key-key_type.ensures
    ∙ ap (λ (u : TypeTree). nat_eq (code_of kinds.key) (code (key_of (type_of_ref c.args.ty))) && nat_eq (code_of kinds.value) (code u)) c.value-value_type.ensures) ∙ sym c.pairs_fit.ensures ∙ c.if-not-pairs_fit.false in
    let r = pairs (value c.args.levels kinds.key) (value c.args.levels kinds.value) c.in_ok-count.count c.in_ok-kinds.rest.now in
    let e = map_fine (type_of_ref c.args.ty) c.args.progress.now c.args.levels c.args.bytes.now c.in_ok-count.count c.in_ok-count.rest.now c.in_ok-kinds.rest.now kinds c.in_ok-count.ensures.reads (λ e. omega (arith, e)) c.in_ok-kinds.ensures.reads c.requires.code fit in
    let g = ap (λ (u : TypeTree). seen (after_map u (type_of_ref c.value-value_type.result) c.pass_node-2.new.progress) r) c.key-key_type.ensures
    ∙ ap (λ (u : TypeTree). seen (after_map (key_of (type_of_ref c.args.ty)) u c.pass_node-2.new.progress) r) c.value-value_type.ensures
    ∙ ap (λ (p : Progress). seen (after_map (key_of (type_of_ref c.args.ty)) (value_of (type_of_ref c.args.ty)) p) r) c.pass_node-2.ensures ∙ sym e in
    subst (λ z. Gives (λ x. (c.check_pairs.new.progress, x.now)) c.check_pairs.result z) g c.check_pairs.ensures.reads

pub check_pairs-returns-in_err-first-clause-reads : goal.check_pairs-returns-in_err-first-clause-reads
check_pairs-returns-in_err-first-clause-reads t c =
    let p = err_from_is_err_and c.from_residual.result c.from_residual.ensures.1 in
    let k = type_of_ref c.args.key_type in
    let v = type_of_ref c.args.value_type in
    let a = value c.args.levels c.args.kinds.key in
    let b = value c.args.levels c.args.kinds.value in
    let d = c.in_err-first.field-0.0 in
    let e = key_err k c.loop.progress c.loop.invariant.0 c.args.levels c.args.kinds.key c.loop.rest.now (key_is_leaf c.args.kinds.key c.requires.kind) d c.in_err-first.ensures.reads in
    rw (p.1, p.2) (map_err k v c.args.progress.now (pairs a b c.args.count c.args.bytes.now) d
    (key_end (after_key k) (after_value v) (after_pairs k v) (no_more_pairs k v) (one_more_pair k v) a b (c.loop.progress, c.loop.invariant.0) d c.args.count c.loop.counter c.loop.rest.now
    (seen (after_pairs k v (c.args.progress.now, [])) (pairs a b c.args.count c.args.bytes.now)) c.loop-test.true e c.loop.invariant.1))

pub check_pairs-returns-in_err-behind-clause-reads : goal.check_pairs-returns-in_err-behind-clause-reads
check_pairs-returns-in_err-behind-clause-reads t c =
    let p = err_from_is_err_and c.from_residual-in_err-behind.result c.from_residual-in_err-behind.ensures.1 in
    let k = type_of_ref c.args.key_type in
    let first = c.in_ok-first.first in
    let e = key_ok k c.loop.progress c.loop.invariant.0 c.args.levels c.args.kinds.key c.loop.rest.now (key_is_leaf c.args.kinds.key c.requires.kind) c.check_key.new.progress first.place (value_of_key first.key) c.in_ok-first.middle.now c.in_ok-first.ensures.reads in
    rw (p.1, p.2) (pair_fails k (type_of_ref c.args.value_type) c.args.levels c.args.kinds.key c.args.kinds.value c.in_err-behind.field-0.0 c.args.progress.now c.loop.progress c.check_key.new.progress c.loop.invariant.0 _ c.args.count c.loop.counter c.args.bytes.now c.loop.rest.now c.in_ok-first.middle.now c.loop-test.true e c.in_err-behind.ensures.reads c.loop.invariant.1)

pub check_pairs-loop-preserved : goal.check_pairs-loop-preserved
check_pairs-loop-preserved t c =
    let k = type_of_ref c.args.key_type in
    let v = type_of_ref c.args.value_type in
    let a = value c.args.levels c.args.kinds.key in
    let b = value c.args.levels c.args.kinds.value in
    let first = c.in_ok-first.first in
    let ks = c.loop.invariant.0 in
    let more = ks ++ (first.place, value_of_key first.key) ∷ [] in
    let e = key_ok k c.loop.progress ks c.args.levels c.args.kinds.key c.loop.rest.now (key_is_leaf c.args.kinds.key c.requires.kind) c.check_key.new.progress first.place (value_of_key first.key) c.in_ok-first.middle.now c.in_ok-first.ensures.reads in
    let f = value_ok v c.check_key.new.progress more (b c.in_ok-first.middle.now) c.check_value.new.progress c.in_ok-behind.behind.now c.in_ok-behind.ensures.reads in
    let g = pairs_go_on (after_key k) (after_value v) (after_pairs k v) (no_more_pairs k v) (one_more_pair k v) a b (c.loop.progress, ks) (c.check_key.new.progress, more) (c.check_value.new.progress, more) c.args.count c.loop.counter c.loop.rest.now c.in_ok-first.middle.now c.in_ok-behind.behind.now
    (seen (after_pairs k v (c.args.progress.now, [])) (pairs a b c.args.count c.args.bytes.now)) c.loop-test.true e f c.loop.invariant.1 in
    let up = goes_on v c.check_key.new.progress more (b c.in_ok-first.middle.now) c.check_value.new.progress c.in_ok-behind.behind.now c.in_ok-behind.ensures.reads in (
      more,
      g,
      omega (arith, c.in_ok-first.ensures.room, c.in_ok-behind.ensures.room, c.loop.invariant.2),
      c.in_ok-behind.ensures.marks ∙ c.loop.invariant.3,
      rw c.in_ok-first.ensures.place (climbs_one 0 c.loop.progress.next c.check_value.new.progress.next ks (value_of_key first.key) c.loop.invariant.4 (omega (arith, c.in_ok-first.ensures.next, up))),
      c.in_ok-keep_key.ensures.kept ks c.loop.invariant.5,
      λ clean.
          let middle = clean_value v c.check_key.new.progress c.check_value.new.progress (b c.in_ok-first.middle.now) c.in_ok-behind.behind.now c.in_ok-behind.ensures.reads clean in
          let before = clean_key k c.loop.progress c.check_key.new.progress (first.place, value_of_key first.key) _ c.in_ok-first.middle.now c.in_ok-first.ensures.reads middle in
          let item = key_item k c.loop.sums c.with_item.result c.check_key.new.sums c.args.levels c.args.kinds.key c.loop.rest.now c.in_ok-first.middle.now (key_is_leaf c.args.kinds.key c.requires.kind) c.with_item.ensures c.in_ok-first.ensures.counts in
          pairs_go_on (counted_item k) (counted v) (counted_pairs k v) (no_pair_counted k v) (pair_counted k v) a b c.loop.sums c.check_key.new.sums c.check_value.new.sums c.args.count c.loop.counter c.loop.rest.now c.in_ok-first.middle.now c.in_ok-behind.behind.now
          (seen (counted_pairs k v c.args.sums.now) (pairs a b c.args.count c.args.bytes.now)) c.loop-test.true item (c.in_ok-behind.ensures.counts clean) (c.loop.invariant.6 before),
    )

pub check_pairs-returns-clause-reads : goal.check_pairs-returns-clause-reads
check_pairs-returns-clause-reads t c =
    let k = type_of_ref c.args.key_type in
    let v = type_of_ref c.args.value_type in
    let a = value c.args.levels c.args.kinds.key in
    let b = value c.args.levels c.args.kinds.value in
    let done = pairs_done (after_key k) (after_value v) (after_pairs k v) (no_more_pairs k v) (one_more_pair k v) a b (c.loop.progress, c.loop.invariant.0) c.args.count c.loop.counter c.loop.rest.now
    (seen (after_pairs k v (c.args.progress.now, [])) (pairs a b c.args.count c.args.bytes.now)) c.loop-test.false c.loop.invariant.1 in
    let least = kept_least c.args.kinds.key c.loop.invariant.0 c.loop.keys.items c.loop.progress.next c.loop.invariant.5 c.loop.invariant.4 in
    rw (c.note_repeat.ensures, c.as_mut_slice.ensures.value, least) (map_done k v c.args.progress.now (pairs a b c.args.count c.args.bytes.now) c.loop.progress c.loop.invariant.0 c.loop.rest.now done)

pub check_struct-fields-init : goal.check_struct-fields-init
check_struct-fields-init t c =
    let fs = fields_of_refs c.fields-fields.result in
    let h = AreBytes-from c.args.bytes.now (λ i. omega (arith, c.type_inv.bytes i)) in
    let r = fields_begin (after_field fs) (after_fields fs) (no_more_fields fs) (one_more_field fs) c.args.levels (c.pass_node.new.progress, []) c.args.bytes.now h in
    let b : c.len-base.result ≡ length c.args.marks.now.items = omega (arith, c.len-base.ensures) in
    let added = subst (λ (n : ℕ). Marked fs (drop n c.add_marks.new.marks.items) []) (sym b) c.in_ok-add_marks.ensures.added in
    let counts = fields_begin (counted_field fs) (counted_fields fs) (no_field_counted fs) (field_counted fs) c.args.levels (c.with_struct.result, []) c.args.bytes.now h in
    (([], added, r, λ clean. counts, stood_none fs []), omega (arith, ap (λ (s : Progress). s.next) c.pass_node.ensures), refl)

pub check_struct-first_missing-missing-requires : goal.check_struct-first_missing-missing-requires
check_struct-first_missing-missing-requires t c =
    subst ArePlaced (sym c.fields-fields.ensures) (fields_placed (type_of_ref c.args.ty) c.requires.accepted)

pub check_struct-with_defaults-requires : goal.check_struct-with_defaults-requires
check_struct-with_defaults-requires t c =
    subst ArePlaced (sym c.fields-fields.ensures) (fields_placed (type_of_ref c.args.ty) c.requires.accepted)

pub check_struct-check_field-requires : goal.check_struct-check_field-requires
check_struct-check_field-requires t c =
    let f : SFits w16 c.in-Some.id = search rules in
    let place = simp to_z-of_z at c.place_near-place.ensures in (
      omega (arith, c.decreases),
      (
        omega (arith, c.in_ok-start.ensures.shorter, c.fields.invariant.1, c.requires.room),
        (
          subst AreTyped (sym c.fields-fields.ensures) (fields_typed (type_of_ref c.args.ty) c.requires.accepted),
          place_fits (fields_of_refs c.fields-fields.result) c.in-Some.id c.place_near-place.result place,
        ),
      ),
    )

pub check_struct-returns-in_err-start-clause-reads : goal.check_struct-returns-in_err-start-clause-reads
check_struct-returns-in_err-start-clause-reads t c =
    let fs = fields_of_refs c.fields-fields.result in
    let p = err_from_is_err_and c.from_residual-in_err-start.result c.from_residual-in_err-start.ensures.1 in
    let i = c.fields.invariant.0 in
    let reading = subst (λ (p : Progress). Reading (after_field fs) (after_fields fs) (no_more_fields fs) (one_more_field fs) c.args.levels (c.fields.progress, i.0) c.fields.before.id c.fields.rest.now (seen (after_fields fs (p, [])) (all_fields c.args.levels (value c.args.levels) c.args.bytes.now))) c.pass_node.ensures i.2 in
    let e = start_end (after_field fs) (after_fields fs) (no_more_fields fs) (one_more_field fs) c.args.levels (c.fields.progress, i.0) c.in_err-start.field-0.0 c.fields.before.id c.fields.rest.now _ reading c.in_err-start.ensures.reads in
    rw (p.1, p.2) (struct_err (type_of_ref c.args.ty) c.args.progress.now (all_fields c.args.levels (value c.args.levels) c.args.bytes.now) c.in_err-start.field-0.0
    (subst (λ (gs : List DefField). seen (after_fields gs (inside c.args.progress.now, [])) (all_fields c.args.levels (value c.args.levels) c.args.bytes.now) ≡ Err c.in_err-start.field-0.0) c.fields-fields.ensures e))

pub check_struct-returns-in_default-clause-reads : goal.check_struct-returns-in_default-clause-reads
check_struct-returns-in_default-clause-reads t c =
    let fs = fields_of_refs c.fields-fields.result in
    let i = c.fields.invariant.0 in
    let reading = subst (λ (p : Progress). Reading (after_field fs) (after_fields fs) (no_more_fields fs) (one_more_field fs) c.args.levels (c.fields.progress, i.0) c.fields.before.id c.fields.rest.now (seen (after_fields fs (p, [])) (all_fields c.args.levels (value c.args.levels) c.args.bytes.now))) c.pass_node.ensures i.2 in
    let known = c.fields.progress in
    let m = subst (λ (z : List Bool). Marked fs (drop c.len-base.result z) i.0) (sym c.as_slice.ensures.value) i.1 in
    let e = fields_done (after_field fs) (after_fields fs) (no_more_fields fs) (one_more_field fs) c.args.levels (known, i.0) c.fields.before.id c.fields.rest.now c.in_ok-start.behind.now _ reading
    (c.in_ok-start.ensures.reads ∙ ap (λ o. Ok (o, c.in_ok-start.behind.now)) c.in_default.is) in
    rw c.note_missing.ensures (struct_ok (type_of_ref c.args.ty) c.args.progress.now (all_fields c.args.levels (value c.args.levels) c.args.bytes.now) known i.0 c.in_ok-start.behind.now (struct_code (type_of_ref c.args.ty) c.requires.is_struct)
    (subst (λ (gs : List DefField). seen (after_fields gs (inside c.args.progress.now, [])) (all_fields c.args.levels (value c.args.levels) c.args.bytes.now) ≡ Ok ((known, i.0), c.in_ok-start.behind.now)) c.fields-fields.ensures e)
    ∙ ap (λ (ks : List NodeFault). Ok (progress (lesser known.found (least (all_here c.args.progress.now.next ks))) known.next, c.in_ok-start.behind.now)) (sym (c.first_missing-missing.ensures i.0 m i.4 ∙ ap (λ (gs : List DefField). missing gs i.0) c.fields-fields.ensures)))

pub check_struct-returns-in_err-behind-clause-reads : goal.check_struct-returns-in_err-behind-clause-reads
check_struct-returns-in_err-behind-clause-reads t c =
    let fs = fields_of_refs c.fields-fields.result in
    let f : SFits w16 c.in-Some.id = search rules in
    let p = err_from_is_err_and c.from_residual-in_err-behind.result c.from_residual-in_err-behind.ensures.1 in
    let i = c.fields.invariant.0 in
    let reading = subst (λ (p : Progress). Reading (after_field fs) (after_fields fs) (no_more_fields fs) (one_more_field fs) c.args.levels (c.fields.progress, i.0) c.fields.before.id c.fields.rest.now (seen (after_fields fs (p, [])) (all_fields c.args.levels (value c.args.levels) c.args.bytes.now))) c.pass_node.ensures i.2 in
    let place = simp to_z-of_z at c.place_near-place.ensures in
    let k = c.in_err-behind.ensures.reads c.in-Some.id i.0 place i.1 in
    rw (p.1, p.2) (field_fails (type_of_ref c.args.ty) c.args.progress.now c.args.levels (all_fields c.args.levels (value c.args.levels) c.args.bytes.now) fs c.fields-fields.ensures c.in_err-behind.field-0.0 c.fields.progress i.0 c.fields.before.id c.in-Some.id c.in-Some.field_type c.fields.rest.now c.in_ok-start.behind.now reading
    (c.in_ok-start.ensures.reads ∙ ap (λ o. Ok (o, c.in_ok-start.behind.now)) c.in-Some.is) k)

pub check_struct-fields-smaller : goal.check_struct-fields-smaller
check_struct-fields-smaller t c =
    let f : SFits w16 c.in-Some.id = search rules in
    let fs = fields_of_refs c.fields-fields.result in
    let i = c.fields.invariant.0 in
    let place = simp to_z-of_z at c.place_near-place.ensures in
    let k = c.in_ok-behind.ensures.reads c.in-Some.id i.0 place i.1 in
    (fields_go_on (after_field fs) (after_fields fs) (no_more_fields fs) (one_more_field fs) c.args.levels (c.fields.progress, i.0) (c.check_field.new.progress, c.in-Some.id ∷ i.0) c.fields.before.id c.in-Some.id c.in-Some.field_type c.fields.rest.now c.in_ok-start.behind.now c.in_ok-behind.behind.now _ i.2
    (c.in_ok-start.ensures.reads ∙ ap (λ o. Ok (o, c.in_ok-start.behind.now)) c.in-Some.is)
    (field_ok fs c.fields.progress i.0 c.in-Some.id (typed (value c.args.levels) c.in-Some.field_type c.in_ok-start.behind.now) c.check_field.new.progress c.in_ok-behind.behind.now k)).0

pub check_struct-fields-preserved : goal.check_struct-fields-preserved
check_struct-fields-preserved t c =
    let f : SFits w16 c.in-Some.id = search rules in
    let fs = fields_of_refs c.fields-fields.result in
    let i = c.fields.invariant.0 in
    let place = simp to_z-of_z at c.place_near-place.ensures in
    let k = c.in_ok-behind.ensures.reads c.in-Some.id i.0 place i.1 in
    let m = c.in_ok-behind.ensures.marked c.in-Some.id i.0 place i.1 in
    let r = (fields_go_on (after_field fs) (after_fields fs) (no_more_fields fs) (one_more_field fs) c.args.levels (c.fields.progress, i.0) (c.check_field.new.progress, c.in-Some.id ∷ i.0) c.fields.before.id c.in-Some.id c.in-Some.field_type c.fields.rest.now c.in_ok-start.behind.now c.in_ok-behind.behind.now _ i.2
    (c.in_ok-start.ensures.reads ∙ ap (λ o. Ok (o, c.in_ok-start.behind.now)) c.in-Some.is)
    (field_ok fs c.fields.progress i.0 c.in-Some.id (typed (value c.args.levels) c.in-Some.field_type c.in_ok-start.behind.now) c.check_field.new.progress c.in_ok-behind.behind.now k)).1 in
    let counts : c.check_field.new.progress.found ≡ None → Reading (counted_field fs) (counted_fields fs) (no_field_counted fs) (field_counted fs) c.args.levels (c.check_field.new.sums, c.in-Some.id ∷ i.0) c.in-Some.id c.in_ok-behind.behind.now (seen (counted_fields fs (c.with_struct.result, [])) (all_fields c.args.levels (value c.args.levels) c.args.bytes.now)) =
    λ clean.
    let before = clean_field fs c.fields.progress c.check_field.new.progress i.0 c.in-Some.id (typed (value c.args.levels) c.in-Some.field_type c.in_ok-start.behind.now) c.in_ok-behind.behind.now k clean in
    (fields_go_on (counted_field fs) (counted_fields fs) (no_field_counted fs) (field_counted fs) c.args.levels (c.fields.sums, i.0) (c.check_field.new.sums, c.in-Some.id ∷ i.0) c.fields.before.id c.in-Some.id c.in-Some.field_type c.fields.rest.now c.in_ok-start.behind.now c.in_ok-behind.behind.now _ (i.3 before)
    (c.in_ok-start.ensures.reads ∙ ap (λ o. Ok (o, c.in_ok-start.behind.now)) c.in-Some.is)
    (field_goes_on fs c.fields.sums i.0 c.in-Some.id (typed (value c.args.levels) c.in-Some.field_type c.in_ok-start.behind.now) c.check_field.new.sums c.in_ok-behind.behind.now (c.in_ok-behind.ensures.counts c.in-Some.id i.0 place clean))).1 in
    ((c.in-Some.id ∷ i.0, m, simp to_z-of_z r, simp to_z-of_z counts, c.stood_behind-stood.ensures fs i.0 c.in-Some.id place i.4), omega (arith, c.in_ok-start.ensures.shorter, c.in_ok-behind.ensures.room, c.fields.invariant.1), c.in_ok-behind.ensures.below ∙ c.fields.invariant.2)

-- ---- what is counted

pub check_items-returns-clause-counts : goal.check_items-returns-clause-counts
check_items-returns-clause-counts t c clean =
    let u = type_of_ref c.args.ty in
    let v = value c.args.levels c.args.kind in
    items_done (counted_item u) (counted_items u) (none_counted u) (one_counted u) v c.loop.sums c.args.count c.loop.counter c.loop.rest.now
    (seen (counted_items u c.args.sums.now) (items v c.args.count c.args.bytes.now)) c.loop-test.false (c.loop.invariant.3 clean)

pub check_list-returns-then-not-elements_fit-clause-counts : goal.check_list-returns-then-not-elements_fit-clause-counts
check_list-returns-then-not-elements_fit-clause-counts t c clean = absurd (noted c.args.progress.now WrongType c.in_ok-next.next c.note_fault.new.progress c.note_fault.ensures clean)

pub check_list-returns-clause-counts : goal.check_list-returns-clause-counts
check_list-returns-clause-counts t c =
    let u = type_of_ref c.args.ty in
    let n = c.in_ok-count.count in
    let b = c.in_ok-count.rest.now in
    let e = row_counted list u c.args.sums.now c.args.levels c.args.bytes.now c.in_ok-header.header c.in_ok-header.rest.now b n c.in_ok-header.ensures.reads c.in_ok-count.ensures.reads (list_holds u c.requires.code) in
    let g = ap (λ (z : TypeTree). seen (counted_items z c.with_holder.result) (items (value c.args.levels c.element_of-kind.result) n b)) c.element-element.ensures
    ∙ ap (λ (s : Checked). seen (counted_items (element_of u) s) (items (value c.args.levels c.element_of-kind.result) n b)) c.with_holder.ensures
    ∙ ap (λ (k : Kind). seen (counted_items (element_of u) (grown c.args.sums.now a_holder)) (items (value c.args.levels k) n b)) c.element_of-kind.ensures ∙ sym e in
    subst (λ z. IfOk c.check_items.result (λ x. IsCount c.check_items.new.progress c.check_items.new.sums x.now z)) g c.check_items.ensures.counts

pub check_value-returns-then-code_of-code-clause-counts : goal.check_value-returns-then-code_of-code-clause-counts
check_value-returns-then-code_of-code-clause-counts t c clean = absurd (noted c.args.progress.now WrongType c.in_ok-next.next c.note_fault.new.progress c.note_fault.ensures clean)

pub check_value-returns-then-levels-eq0-clause-counts : goal.check_value-returns-then-levels-eq0-clause-counts
check_value-returns-then-levels-eq0-clause-counts t c = rw (value-zero c.args.levels c.args.kind (omega arith)) (λ clean. c.in_ok-rest.ensures.counts)

pub check_value-returns-in-List-clause-counts : goal.check_value-returns-in-List-clause-counts
check_value-returns-in-List-clause-counts t c =
    let v = value-step c.args.levels c.args.kind (omega arith) ∙ ap (container (c.args.levels - 1) (value (c.args.levels - 1))) c.in-List.is in
    rw v c.check_list.ensures.counts

pub check_value-returns-in-Set-clause-counts : goal.check_value-returns-in-Set-clause-counts
check_value-returns-in-Set-clause-counts t c =
    let v = value-step c.args.levels c.args.kind (omega arith) ∙ ap (container (c.args.levels - 1) (value (c.args.levels - 1))) c.in-Set.is in
    rw v c.check_set.ensures.counts

pub check_value-returns-in-Map-clause-counts : goal.check_value-returns-in-Map-clause-counts
check_value-returns-in-Map-clause-counts t c =
    let v = value-step c.args.levels c.args.kind (omega arith) ∙ ap (container (c.args.levels - 1) (value (c.args.levels - 1))) c.in-Map.is in
    rw v c.check_map.ensures.counts

pub check_value-returns-in-Struct-clause-counts : goal.check_value-returns-in-Struct-clause-counts
check_value-returns-in-Struct-clause-counts t c =
    let v = value-step c.args.levels c.args.kind (omega arith) ∙ ap (container (c.args.levels - 1) (value (c.args.levels - 1))) c.in-Struct.is in
    rw v c.check_struct.ensures.counts

pub check_typed-returns-then-code-eq1-clause-counts : goal.check_typed-returns-then-code-eq1-clause-counts
check_typed-returns-then-code-eq1-clause-counts t c clean =
    rw (c.in-Given.is, c.with_scalar.ensures) (flag_counted (type_of_ref c.args.ty) c.args.sums.now c.in-Given.field-0 c.args.bytes.now (sym c.code.ensures.is ∙ c.if-code-eq1.true))

pub check_typed-returns-else-code-eq1-clause-counts : goal.check_typed-returns-else-code-eq1-clause-counts
check_typed-returns-else-code-eq1-clause-counts t c clean = absurd (noted c.args.progress.now WrongType (c.args.progress.now.next + 1) c.note_fault.new.progress c.note_fault.ensures clean)

pub check_field-returns-in_default-clause-counts : goal.check_field-returns-in_default-clause-counts
check_field-returns-in_default-clause-counts t c id ids p clean =
    let fs = fields_of_refs c.args.fields in
    unknown_counted fs c.args.sums.now ids id (typed (value c.args.levels) c.args.field_type c.args.bytes.now) _ _ c.in_ok-next.rest.now (place_found fs id (sym p ∙ c.in_default.is)) c.in_ok-next.ensures.reads

pub check_field-returns-then-set_mark-clause-counts : goal.check_field-returns-then-set_mark-clause-counts
check_field-returns-then-set_mark-clause-counts t c id ids p clean = absurd (noted c.args.progress.now RepeatedField c.in_ok-next-2.next c.note_fault.new.progress c.note_fault.ensures clean)

pub check_field-returns-clause-counts : goal.check_field-returns-clause-counts
check_field-returns-clause-counts t c id ids p =
    let fs = fields_of_refs c.args.fields in
    let f = field_of_ref c.at-field.result in
    let e = sym p ∙ c.in-Some.is in
    let r = typed (value c.args.levels) c.args.field_type c.args.bytes.now in
    let g = ap (λ (u : TypeTree). seen (counted u c.with_need.result) r) c.ty.ensures
    ∙ ap (λ (s : Checked). seen (counted f.type s) r) (c.with_need.ensures ∙ ap (λ n. grown c.args.sums.now (by_need n)) c.need.ensures)
    ∙ sym (known_counted fs c.args.sums.now ids id r f (place_find fs id c.in-Some.place f e c.at-field.ensures)) in
    subst (λ z. IfOk c.check_typed.result (λ x. IsCount c.check_typed.new.progress c.check_typed.new.sums x.now z)) g c.check_typed.ensures.counts

pub check_map-returns-then-count-eq0-clause-counts : goal.check_map-returns-then-count-eq0-clause-counts
check_map-returns-then-count-eq0-clause-counts t c clean =
    rw c.with_holder.ensures (empty_map_counted (type_of_ref c.args.ty) c.args.sums.now c.args.levels c.args.bytes.now c.in_ok-count.count c.in_ok-count.rest.now c.in_ok-count.ensures.reads (omega arith) c.requires.code)

pub check_map-returns-then-not-pairs_fit-clause-counts : goal.check_map-returns-then-not-pairs_fit-clause-counts
check_map-returns-then-not-pairs_fit-clause-counts t c clean = absurd (noted c.args.progress.now WrongType c.in_ok-next.next c.note_fault.new.progress c.note_fault.ensures clean)

pub check_map-returns-clause-counts : goal.check_map-returns-clause-counts
check_map-returns-clause-counts t c =
    let kinds = c.in_ok-kinds.kinds in
    let r = pairs (value c.args.levels kinds.key) (value c.args.levels kinds.value) c.in_ok-count.count c.in_ok-kinds.rest.now in
    let e = map_counted (type_of_ref c.args.ty) c.args.sums.now c.args.levels c.args.bytes.now c.in_ok-count.count c.in_ok-count.rest.now c.in_ok-kinds.rest.now kinds c.in_ok-count.ensures.reads (λ e. omega (arith, e)) c.in_ok-kinds.ensures.reads c.requires.code in
    let g = ap (λ (u : TypeTree). seen (counted_pairs u (type_of_ref c.value-value_type.result) c.with_holder-2.result) r) c.key-key_type.ensures
    ∙ ap (λ (u : TypeTree). seen (counted_pairs (key_of (type_of_ref c.args.ty)) u c.with_holder-2.result) r) c.value-value_type.ensures
    ∙ ap (λ (s : Checked). seen (counted_pairs (key_of (type_of_ref c.args.ty)) (value_of (type_of_ref c.args.ty)) s) r) c.with_holder-2.ensures ∙ sym e in
    subst (λ z. IfOk c.check_pairs.result (λ x. IsCount c.check_pairs.new.progress c.check_pairs.new.sums x.now z)) g c.check_pairs.ensures.counts

pub check_pairs-returns-clause-counts : goal.check_pairs-returns-clause-counts
check_pairs-returns-clause-counts t c clean =
    let k = type_of_ref c.args.key_type in
    let v = type_of_ref c.args.value_type in
    let a = value c.args.levels c.args.kinds.key in
    let b = value c.args.levels c.args.kinds.value in
    let before = none_left c.loop.progress.found _ (sym (ap (λ (p : Progress). p.found) c.note_repeat.ensures) ∙ clean) in
    pairs_done (counted_item k) (counted v) (counted_pairs k v) (no_pair_counted k v) (pair_counted k v) a b c.loop.sums c.args.count c.loop.counter c.loop.rest.now
    (seen (counted_pairs k v c.args.sums.now) (pairs a b c.args.count c.args.bytes.now)) c.loop-test.false (c.loop.invariant.6 before)

pub check_struct-returns-in_default-clause-counts : goal.check_struct-returns-in_default-clause-counts
check_struct-returns-in_default-clause-counts t c clean =
    let fs = fields_of_refs c.fields-fields.result in
    let i = c.fields.invariant.0 in
    let before = none_left c.fields.progress.found _ (sym (ap (λ (p : Progress). p.found) c.note_missing.ensures) ∙ clean) in
    let reading = subst (λ (s : Checked). Reading (counted_field fs) (counted_fields fs) (no_field_counted fs) (field_counted fs) c.args.levels (c.fields.sums, i.0) c.fields.before.id c.fields.rest.now (seen (counted_fields fs (s, [])) (all_fields c.args.levels (value c.args.levels) c.args.bytes.now))) c.with_struct.ensures (i.3 before) in
    let m = subst (λ (z : List Bool). Marked fs (drop c.len-base.result z) i.0) (sym c.as_slice-in_default.ensures.value) i.1 in
    let e = fields_done (counted_field fs) (counted_fields fs) (no_field_counted fs) (field_counted fs) c.args.levels (c.fields.sums, i.0) c.fields.before.id c.fields.rest.now c.in_ok-start.behind.now _ reading
    (c.in_ok-start.ensures.reads ∙ ap (λ o. Ok (o, c.in_ok-start.behind.now)) c.in_default.is) in
    rw (c.with_defaults.ensures i.0 m i.4 ∙ ap (λ (gs : List DefField). grown c.fields.sums (defaults_beside gs i.0)) c.fields-fields.ensures) (struct_counted (type_of_ref c.args.ty) c.args.sums.now c.args.levels (all_fields c.args.levels (value c.args.levels) c.args.bytes.now) c.fields.sums i.0 c.in_ok-start.behind.now (struct_code (type_of_ref c.args.ty) c.requires.is_struct)
    (subst (λ (gs : List DefField). seen (counted_fields gs (grown c.args.sums.now a_struct, [])) (all_fields c.args.levels (value c.args.levels) c.args.bytes.now) ≡ Ok ((c.fields.sums, i.0), c.in_ok-start.behind.now)) c.fields-fields.ensures e))

pub check_pairs-loop-init : goal.check_pairs-loop-init
check_pairs-loop-init t c =
    let all : c.args.count - 0 ≡ c.args.count = omega arith in
    ([], rw all refl, omega arith, refl, omega arith, rw c.new-keys.ensures.items (none_kept c.args.kinds.key), λ clean. rw all refl)

pub check_pairs-note_repeat-requires : goal.check_pairs-note_repeat-requires
check_pairs-note_repeat-requires t c =
    rw c.as_mut_slice.ensures.value (kept_climbs c.args.kinds.key c.loop.invariant.0 c.loop.keys.items c.loop.progress.next c.loop.invariant.5 c.loop.invariant.4)

use Rattle.std.proofs.Common.{Ok, arith, rules, ap, sym, ◌∙◌, List}
use Rattle.std.specs.Prelude.{pos}
use Rattle.std.proofs.lemmas.Int.{to_z-of_z}
use mir.Val.{SFits}
use mir.Syntax.{w16}
use Rattle.std.proofs.lemmas.Grind.{common_steps}
use Rattle.std.proofs.lemmas.Result.{err_from_is_err_and}
use Rattle.exact_reading.specs.Reading.{seen}
use Rattle.exact_reading.specs.declared.stop.ReadError.TheVariants as errors
use Rattle.compact_wire.specs.Reads.{items, pairs}
use Rattle.compact_wire.proofs.ReadSteps.{AreBytes-from, is_scalar}
use Rattle.wire_scan.proofs.Seen.{items_go_on, items_done, pairs_go_on, pairs_done}
use Rattle.binary_wire.specs.BinaryReads.{value, all_fields}
use Rattle.binary_wire.specs.Appends.{with_value, with_items, with_pairs}
use Rattle.binary_wire.proofs.PushSteps.{no_item, one_item, no_pair, one_pair, items_fail, key_fails, value_fails, fields_begin, start_end, fields_end, field_fails, fields_go_on, struct_seen, struct_fails, other_seen, value-zero, value-step, value-scalar, row_step, row_code_err, row_size_err, row_seen, map_key_err, map_value_err, map_size_err, map_none, map_pairs, flag_err, flag_ok}
use Rattle.binary_wire.proofs.transcoding.+push.Goals as goal

pub push_field-returns-in_err-x-in-Flag : goal.push_field-returns-in_err-x-in-Flag
push_field-returns-in_err-x-in-Flag t c =
    let p = err_from_is_err_and c.from_residual.result c.from_residual.ensures.1 in
    rw (p.1, p.2) (flag_err c.args.levels c.args.kind c.in-Flag.is c.args.out.now.items c.args.before.id c.args.id c.args.bytes.now c.in_err-x-in-Flag.field-0.0 c.in_err-x-in-Flag.ensures)

pub push_field-returns-in_ok-push_flag_field-in-Flag : goal.push_field-returns-in_ok-push_flag_field-in-Flag
push_field-returns-in_ok-push_flag_field-in-Flag t c =
    let f : SFits w16 c.args.id = search rules in
    flag_ok c.args.levels c.args.kind c.in-Flag.is c.args.out.now.items c.args.before.id c.args.id c.args.bytes.now c.in_ok-x-in-Flag.x c.in_ok-x-in-Flag.rest.now c.push_flag_field.new.out.items c.in_ok-x-in-Flag.ensures
    (rw (to_z-of_z w16 c.args.id f) at c.in_ok-push_flag_field-in-Flag.ensures)

pub push_field-returns-in_ok-push_field_header-in_default : goal.push_field-returns-in_ok-push_field_header-in_default
push_field-returns-in_ok-push_field_header-in_default t c =
    let f : SFits w16 c.args.id = search rules in
    let same = other_seen c.args.levels c.args.kind c.args.out.now.items c.args.before.id c.args.id c.args.bytes.now (AreBytes-from c.args.bytes.now (λ i. omega (arith, c.type_inv.bytes i))) c.in_default.not-Flag in
    let e = rw (to_z-of_z w16 c.args.id f, c.code_of.ensures) at c.in_ok-push_field_header-in_default.ensures in
    rw (same, sym e) c.push_value.ensures

pub push_fields-returns-in_err-start : goal.push_fields-returns-in_err-start
push_fields-returns-in_err-start t c =
    let p = err_from_is_err_and c.from_residual.result c.from_residual.ensures.1 in
    rw (p.1, p.2)
    (struct_fails (errors.Stop c.in_err-start.field-0.0) c.args.out.now.items (all_fields c.args.levels (value c.args.levels) c.args.bytes.now)
    (start_end c.args.levels c.fields.out.items c.fields.before.id c.in_err-start.field-0.0 c.fields.rest.now _ c.fields.invariant c.in_err-start.ensures.reads))

pub push_fields-returns-in_default : goal.push_fields-returns-in_default
push_fields-returns-in_default t c =
    let e = fields_end c.args.levels c.fields.out.items c.fields.before.id c.fields.rest.now c.in_ok-start.after.now _ c.fields.invariant (c.in_ok-start.ensures.reads ∙ ap (λ o. Ok (o, c.in_ok-start.after.now)) c.in_default.is) in
    struct_seen c.args.out.now.items (all_fields c.args.levels (value c.args.levels) c.args.bytes.now) ∙ e ∙ ap (λ (z : List _). Ok (z, c.in_ok-start.after.now)) (sym c.in_ok-push.ensures.items)

pub push_fields-returns-in_err-rest : goal.push_fields-returns-in_err-rest
push_fields-returns-in_err-rest t c =
    let f : SFits w16 c.in-Some.id = search rules in
    let p = err_from_is_err_and c.from_residual-in_err-rest.result c.from_residual-in_err-rest.ensures.1 in
    rw (p.1, p.2)
    (struct_fails c.in_err-rest.field-0.0 c.args.out.now.items (all_fields c.args.levels (value c.args.levels) c.args.bytes.now)
    (field_fails c.args.levels c.in_err-rest.field-0.0 c.fields.out.items c.fields.before.id c.in-Some.id c.in-Some.kind c.fields.rest.now c.in_ok-start.after.now _ c.fields.invariant
    (c.in_ok-start.ensures.reads ∙ ap (λ o. Ok (o, c.in_ok-start.after.now)) c.in-Some.is) (rw (to_z-of_z w16 c.in-Some.id f) at c.in_err-rest.ensures)))

pub push_fields-fields-init : goal.push_fields-fields-init
push_fields-fields-init t c = fields_begin c.args.levels c.args.out.now.items (pos 0) c.args.bytes.now (AreBytes-from c.args.bytes.now (λ i. omega (arith, c.type_inv.bytes i)))

pub push_fields-fields-smaller : goal.push_fields-fields-smaller
push_fields-fields-smaller t c =
    let f : SFits w16 c.in-Some.id = search rules in
    let g = fields_go_on c.args.levels c.fields.out.items c.push_field.new.out.items c.fields.before.id c.in-Some.id c.in-Some.kind c.fields.rest.now c.in_ok-start.after.now c.in_ok-rest.rest.now _ c.fields.invariant
    (c.in_ok-start.ensures.reads ∙ ap (λ o. Ok (o, c.in_ok-start.after.now)) c.in-Some.is) (rw (to_z-of_z w16 c.in-Some.id f) at c.in_ok-rest.ensures) in
    (g.0)

pub push_fields-fields-preserved : goal.push_fields-fields-preserved
push_fields-fields-preserved t c =
    let f : SFits w16 c.in-Some.id = search rules in
    let g = fields_go_on c.args.levels c.fields.out.items c.push_field.new.out.items c.fields.before.id c.in-Some.id c.in-Some.kind c.fields.rest.now c.in_ok-start.after.now c.in_ok-rest.rest.now _ c.fields.invariant
    (c.in_ok-start.ensures.reads ∙ ap (λ o. Ok (o, c.in_ok-start.after.now)) c.in-Some.is) (rw (to_z-of_z w16 c.in-Some.id f) at c.in_ok-rest.ensures) in
    simp to_z-of_z (g.1)

pub push_items-returns-in_err-rest : goal.push_items-returns-in_err-rest
push_items-returns-in_err-rest t c =
    let p = err_from_is_err_and c.from_residual.result c.from_residual.ensures.1 in
    rw (p.1, p.2)
    (items_fail (value c.args.levels c.args.kind) c.in_err-rest.field-0.0 c.loop.out.items c.args.count c.loop.counter c.loop.rest.now
    (seen (with_items c.args.out.now.items) (items (value c.args.levels c.args.kind) c.args.count c.args.bytes.now)) c.loop-test.true c.in_err-rest.ensures c.loop.invariant)

pub push_items-loop-preserved : goal.push_items-loop-preserved
push_items-loop-preserved t c =
    items_go_on with_value with_items no_item one_item (value c.args.levels c.args.kind) c.loop.out.items c.push_value.new.out.items c.args.count c.loop.counter c.loop.rest.now c.in_ok-rest.rest.now
    (seen (with_items c.args.out.now.items) (items (value c.args.levels c.args.kind) c.args.count c.args.bytes.now)) c.loop-test.true c.in_ok-rest.ensures c.loop.invariant

pub push_items-returns : goal.push_items-returns
push_items-returns t c =
    items_done with_value with_items no_item one_item (value c.args.levels c.args.kind) c.loop.out.items c.args.count c.loop.counter c.loop.rest.now
    (seen (with_items c.args.out.now.items) (items (value c.args.levels c.args.kind) c.args.count c.args.bytes.now)) c.loop-test.false c.loop.invariant

pub push_pairs-returns-in_err-after : goal.push_pairs-returns-in_err-after
push_pairs-returns-in_err-after t c =
    let p = err_from_is_err_and c.from_residual.result c.from_residual.ensures.1 in
    rw (p.1, p.2)
    (key_fails (value c.args.levels c.args.key_kind) (value c.args.levels c.args.value_kind) c.in_err-after.field-0.0 c.loop.out.items c.args.count c.loop.counter c.loop.rest.now
    (seen (with_pairs c.args.out.now.items) (pairs (value c.args.levels c.args.key_kind) (value c.args.levels c.args.value_kind) c.args.count c.args.bytes.now)) c.loop-test.true c.in_err-after.ensures c.loop.invariant)

pub push_pairs-returns-in_err-rest : goal.push_pairs-returns-in_err-rest
push_pairs-returns-in_err-rest t c =
    let p = err_from_is_err_and c.from_residual-in_err-rest.result c.from_residual-in_err-rest.ensures.1 in
    rw (p.1, p.2)
    (value_fails (value c.args.levels c.args.key_kind) (value c.args.levels c.args.value_kind) c.in_err-rest.field-0.0 c.loop.out.items c.push_value.new.out.items c.args.count c.loop.counter c.loop.rest.now c.in_ok-after.after.now
    (seen (with_pairs c.args.out.now.items) (pairs (value c.args.levels c.args.key_kind) (value c.args.levels c.args.value_kind) c.args.count c.args.bytes.now)) c.loop-test.true c.in_ok-after.ensures c.in_err-rest.ensures c.loop.invariant)

pub push_pairs-loop-preserved : goal.push_pairs-loop-preserved
push_pairs-loop-preserved t c =
    pairs_go_on with_value with_value with_pairs no_pair one_pair (value c.args.levels c.args.key_kind) (value c.args.levels c.args.value_kind) c.loop.out.items c.push_value.new.out.items c.push_value-in-loop.new.out.items c.args.count c.loop.counter c.loop.rest.now c.in_ok-after.after.now c.in_ok-rest.rest.now
    (seen (with_pairs c.args.out.now.items) (pairs (value c.args.levels c.args.key_kind) (value c.args.levels c.args.value_kind) c.args.count c.args.bytes.now)) c.loop-test.true c.in_ok-after.ensures c.in_ok-rest.ensures c.loop.invariant

pub push_pairs-returns : goal.push_pairs-returns
push_pairs-returns t c =
    pairs_done with_value with_value with_pairs no_pair one_pair (value c.args.levels c.args.key_kind) (value c.args.levels c.args.value_kind) c.loop.out.items c.args.count c.loop.counter c.loop.rest.now
    (seen (with_pairs c.args.out.now.items) (pairs (value c.args.levels c.args.key_kind) (value c.args.levels c.args.value_kind) c.args.count c.args.bytes.now)) c.loop-test.false c.loop.invariant

pub push_row-returns-in_err-kind : goal.push_row-returns-in_err-kind
push_row-returns-in_err-kind t c make is_row =
    let p = err_from_is_err_and c.from_residual.result c.from_residual.ensures.1 in
    rw (p.1, p.2) (row_code_err make is_row c.args.levels c.args.out.now.items c.args.bytes.now c.in_err-kind.field-0.0 c.in_err-kind.ensures.reads)

pub push_row-returns-in_err-count : goal.push_row-returns-in_err-count
push_row-returns-in_err-count t c make is_row =
    let p = err_from_is_err_and c.from_residual-in_err-count.result c.from_residual-in_err-count.ensures.1 in
    rw (p.1, p.2) (row_size_err make is_row c.args.levels c.args.out.now.items c.args.bytes.now c.in_ok-kind.kind c.in_ok-kind.rest.now c.in_err-count.field-0.0 c.in_ok-kind.ensures.reads (rw c.fits.ensures at c.in_err-count.ensures.reads))

pub push_row-returns : goal.push_row-returns
push_row-returns t c make is_row =
    rw (row_seen make is_row c.args.levels c.args.out.now.items c.args.bytes.now c.in_ok-kind.kind c.in_ok-kind.rest.now c.in_ok-count.rest.now c.push_sequence_header.new.out.items c.in_ok-count.count c.in_ok-kind.ensures.reads (rw c.fits.ensures at c.in_ok-count.ensures.reads)
    (rw c.code_of.ensures at c.in_ok-push_sequence_header.ensures)) c.push_items.ensures

pub push_map-returns-in_err-key_kind : goal.push_map-returns-in_err-key_kind
push_map-returns-in_err-key_kind t c =
    let p = err_from_is_err_and c.from_residual.result c.from_residual.ensures.1 in
    rw (p.1, p.2) (map_key_err c.args.levels c.args.out.now.items c.args.bytes.now c.in_err-key_kind.field-0.0 c.in_err-key_kind.ensures.reads)

pub push_map-returns-in_err-value_kind : goal.push_map-returns-in_err-value_kind
push_map-returns-in_err-value_kind t c =
    let p = err_from_is_err_and c.from_residual-in_err-value_kind.result c.from_residual-in_err-value_kind.ensures.1 in
    rw (p.1, p.2) (map_value_err c.args.levels c.args.out.now.items c.args.bytes.now c.in_ok-key_kind.key_kind c.in_ok-key_kind.rest.now c.in_ok-key_kind.ensures.reads c.in_err-value_kind.field-0.0 c.in_err-value_kind.ensures.reads)

pub push_map-returns-in_err-count : goal.push_map-returns-in_err-count
push_map-returns-in_err-count t c =
    let p = err_from_is_err_and c.from_residual-in_err-count.result c.from_residual-in_err-count.ensures.1 in
    rw (p.1, p.2) (map_size_err c.args.levels c.args.out.now.items c.args.bytes.now c.in_ok-key_kind.key_kind c.in_ok-key_kind.rest.now c.in_ok-key_kind.ensures.reads c.in_ok-value_kind.value_kind c.in_ok-value_kind.rest.now c.in_ok-value_kind.ensures.reads
    c.in_err-count.field-0.0 (rw c.both_fit.ensures at c.in_err-count.ensures.reads))

pub push_map-returns-then-count-eq0 : goal.push_map-returns-then-count-eq0
push_map-returns-then-count-eq0 t c =
    map_none c.args.levels c.args.out.now.items c.args.bytes.now c.in_ok-key_kind.key_kind c.in_ok-key_kind.rest.now c.in_ok-key_kind.ensures.reads c.in_ok-value_kind.value_kind c.in_ok-value_kind.rest.now c.in_ok-value_kind.ensures.reads
    c.in_ok-count.count c.in_ok-count.rest.now (rw c.both_fit.ensures at c.in_ok-count.ensures.reads) c.if-count-eq0.true ∙ ap (λ (z : List _). Ok (z, c.in_ok-count.rest.now)) (sym c.in_ok-push.ensures.items)

pub push_map-returns : goal.push_map-returns
push_map-returns t c =
    rw (map_pairs c.args.levels c.args.out.now.items c.args.bytes.now c.in_ok-key_kind.key_kind c.in_ok-key_kind.rest.now c.in_ok-key_kind.ensures.reads c.in_ok-value_kind.value_kind c.in_ok-value_kind.rest.now c.in_ok-value_kind.ensures.reads
    c.in_ok-count.count c.in_ok-count.rest.now c.push_number.new.out.items c.push-2.new.self.items (rw c.both_fit.ensures at c.in_ok-count.ensures.reads) c.if-count-eq0.false
    (rw c.from.ensures at c.in_ok-push_number.ensures.ok) (rw (c.code_of.ensures, c.code_of-2.ensures) at c.in_ok-push-2.ensures.items)) c.push_pairs.ensures

pub push_value-returns-then-levels-eq0 : goal.push_value-returns-then-levels-eq0
push_value-returns-then-levels-eq0 t c = rw (value-zero c.args.levels c.args.kind (omega arith)) c.push_scalar.ensures

pub push_value-returns-in-List : goal.push_value-returns-in-List
push_value-returns-in-List t c =
    let s = row_step c.args.levels c.args.kind c.args.bytes.now (omega arith) c.in-List.is in
    rw s.2 (c.push_row.ensures s.0 s.1)

pub push_value-returns-in-Map : goal.push_value-returns-in-Map
push_value-returns-in-Map t c = grind (arith, common_steps, value-step)

pub push_value-returns-in-Struct : goal.push_value-returns-in-Struct
push_value-returns-in-Struct t c = grind (arith, common_steps, value-step)

pub push_value-returns-in-Flag : goal.push_value-returns-in-Flag
push_value-returns-in-Flag t c = rw (value-scalar c.args.levels c.args.kind (is_scalar c.args.kind c.in-Flag.is)) c.push_scalar-in-Flag.ensures

use Rattle.std.proofs.Common.{Ok, Err, arith, rules, ap, ◌∙◌, ◌+◌}
use Rattle.std.proofs.lemmas.Int.{to_z-of_z}
use mir.Val.{SFits}
use mir.Syntax.{w16}
use Rattle.std.proofs.lemmas.Grind.{common_steps}
use Rattle.std.proofs.lemmas.Result.{err_from_is_err_and}
use Rattle.compact_wire.specs.Node.{Nodes, Pairs}
use Rattle.compact_wire.specs.Reads.{items, pairs, value, all_fields}
use Rattle.compact_wire.proofs.ReadSteps.{AreBytes-from, value-zero, value-step, value-scalar, is_scalar}
use Rattle.exact_reading.specs.Reading.{seen}
use Rattle.wire_scan.specs.Sizes.{sizes, sizes_of_pairs}
use Rattle.wire_scan.proofs.Seen.{items_go_on, items_end, items_done, pairs_go_on, key_end, item_end, pairs_done, fields_begin, start_end, fields_done, value_end, fields_go_on}
use Rattle.wire_scan.proofs.SkipSteps.{past, past_all, past_pairs, past_field, past_fields, no_more, one_more, no_more_pairs, one_more_pair, no_more_fields, one_more_field, row_step, map_first, map_none, map_header_err, map_pairs, struct_seen}
use Rattle.wire_scan.proofs.skipping.+skip.Goals as goal

pub skip_items-returns-in_err-last-clause-reads : goal.skip_items-returns-in_err-last-clause-reads
skip_items-returns-in_err-last-clause-reads t c =
    let p = err_from_is_err_and c.from_residual.result c.from_residual.ensures.1 in
    rw (p.1, p.2) (items_end past past_all no_more one_more (value c.args.levels c.args.kind) c.loop.next c.in_err-last.field-0.0 c.args.count c.loop.counter c.loop.rest.now
    (seen (λ (xs : Nodes). c.args.at + sizes xs) (items (value c.args.levels c.args.kind) c.args.count c.args.bytes.now)) c.loop-test.true c.in_err-last.ensures.reads c.loop.invariant.0)

pub skip_items-loop-preserved : goal.skip_items-loop-preserved
skip_items-loop-preserved t c = (
  items_go_on past past_all no_more one_more (value c.args.levels c.args.kind) c.loop.next c.in_ok-last.last c.args.count c.loop.counter c.loop.rest.now c.in_ok-last.after.now
      (seen (λ (xs : Nodes). c.args.at + sizes xs) (items (value c.args.levels c.args.kind) c.args.count c.args.bytes.now)) c.loop-test.true c.in_ok-last.ensures.reads c.loop.invariant.0,
  omega (arith, c.in_ok-last.ensures.room, c.loop.invariant.1),
)

pub skip_items-returns-clause-reads : goal.skip_items-returns-clause-reads
skip_items-returns-clause-reads t c =
    items_done past past_all no_more one_more (value c.args.levels c.args.kind) c.loop.next c.args.count c.loop.counter c.loop.rest.now
    (seen (λ (xs : Nodes). c.args.at + sizes xs) (items (value c.args.levels c.args.kind) c.args.count c.args.bytes.now)) c.loop-test.false c.loop.invariant.0

pub skip_pairs-returns-in_err-middle-clause-reads : goal.skip_pairs-returns-in_err-middle-clause-reads
skip_pairs-returns-in_err-middle-clause-reads t c =
    let p = err_from_is_err_and c.from_residual.result c.from_residual.ensures.1 in
    rw (p.1, p.2) (key_end past past past_pairs no_more_pairs one_more_pair (value c.args.levels c.args.kinds.key) (value c.args.levels c.args.kinds.value) c.loop.next c.in_err-middle.field-0.0 c.args.count c.loop.counter c.loop.rest.now
    (seen (λ (xs : Pairs). c.args.at + sizes_of_pairs xs) (pairs (value c.args.levels c.args.kinds.key) (value c.args.levels c.args.kinds.value) c.args.count c.args.bytes.now)) c.loop-test.true c.in_err-middle.ensures.reads c.loop.invariant.0)

pub skip_pairs-returns-in_err-last-clause-reads : goal.skip_pairs-returns-in_err-last-clause-reads
skip_pairs-returns-in_err-last-clause-reads t c =
    let p = err_from_is_err_and c.from_residual-in_err-last.result c.from_residual-in_err-last.ensures.1 in
    rw (p.1, p.2) (item_end past past past_pairs no_more_pairs one_more_pair (value c.args.levels c.args.kinds.key) (value c.args.levels c.args.kinds.value) c.loop.next c.in_ok-middle.middle c.in_err-last.field-0.0 c.args.count c.loop.counter c.loop.rest.now c.in_ok-middle.after.now
    (seen (λ (xs : Pairs). c.args.at + sizes_of_pairs xs) (pairs (value c.args.levels c.args.kinds.key) (value c.args.levels c.args.kinds.value) c.args.count c.args.bytes.now)) c.loop-test.true c.in_ok-middle.ensures.reads c.in_err-last.ensures.reads c.loop.invariant.0)

pub skip_pairs-loop-preserved : goal.skip_pairs-loop-preserved
skip_pairs-loop-preserved t c = (
  pairs_go_on past past past_pairs no_more_pairs one_more_pair (value c.args.levels c.args.kinds.key) (value c.args.levels c.args.kinds.value) c.loop.next c.in_ok-middle.middle c.in_ok-last.last c.args.count c.loop.counter c.loop.rest.now c.in_ok-middle.after.now c.in_ok-last.after.now
      (seen (λ (xs : Pairs). c.args.at + sizes_of_pairs xs) (pairs (value c.args.levels c.args.kinds.key) (value c.args.levels c.args.kinds.value) c.args.count c.args.bytes.now)) c.loop-test.true c.in_ok-middle.ensures.reads c.in_ok-last.ensures.reads c.loop.invariant.0,
  omega (arith, c.in_ok-middle.ensures.room, c.in_ok-last.ensures.room, c.loop.invariant.1),
)

pub skip_pairs-returns-clause-reads : goal.skip_pairs-returns-clause-reads
skip_pairs-returns-clause-reads t c =
    pairs_done past past past_pairs no_more_pairs one_more_pair (value c.args.levels c.args.kinds.key) (value c.args.levels c.args.kinds.value) c.loop.next c.args.count c.loop.counter c.loop.rest.now
    (seen (λ (xs : Pairs). c.args.at + sizes_of_pairs xs) (pairs (value c.args.levels c.args.kinds.key) (value c.args.levels c.args.kinds.value) c.args.count c.args.bytes.now)) c.loop-test.false c.loop.invariant.0

pub skip_fields-returns-in_err-start-clause-reads : goal.skip_fields-returns-in_err-start-clause-reads
skip_fields-returns-in_err-start-clause-reads t c =
    let p = err_from_is_err_and c.from_residual.result c.from_residual.ensures.1 in
    let e = start_end past_field past_fields no_more_fields one_more_field c.args.levels c.fields.next c.in_err-start.field-0.0 c.fields.before.id c.fields.rest.now _ c.fields.invariant.0 c.in_err-start.ensures.reads in
    rw (p.1, p.2) (struct_seen c.args.levels c.args.at c.args.bytes.now (all_fields c.args.levels (value c.args.levels) c.args.bytes.now) (Err c.in_err-start.field-0.0) e)

pub skip_fields-returns-in_default-clause-reads : goal.skip_fields-returns-in_default-clause-reads
skip_fields-returns-in_default-clause-reads t c =
    let e = fields_done past_field past_fields no_more_fields one_more_field c.args.levels c.fields.next c.fields.before.id c.fields.rest.now c.in_ok-start.after.now _ c.fields.invariant.0
    (c.in_ok-start.ensures.reads ∙ ap (λ o. Ok (o, c.in_ok-start.after.now)) c.in_default.is) in
    struct_seen c.args.levels c.args.at c.args.bytes.now (all_fields c.args.levels (value c.args.levels) c.args.bytes.now) (Ok (c.fields.next, c.in_ok-start.after.now)) e

pub skip_fields-returns-in_err-last-clause-reads : goal.skip_fields-returns-in_err-last-clause-reads
skip_fields-returns-in_err-last-clause-reads t c =
    let p = err_from_is_err_and c.from_residual-in_err-last.result c.from_residual-in_err-last.ensures.1 in
    let e = value_end past_field past_fields no_more_fields one_more_field c.args.levels c.fields.next c.in_err-last.field-0.0 c.fields.before.id c.in-Some.id c.in-Some.field_type c.fields.rest.now c.in_ok-start.after.now _ c.fields.invariant.0
    (c.in_ok-start.ensures.reads ∙ ap (λ o. Ok (o, c.in_ok-start.after.now)) c.in-Some.is) c.in_err-last.ensures.reads in
    rw (p.1, p.2) (struct_seen c.args.levels c.args.at c.args.bytes.now (all_fields c.args.levels (value c.args.levels) c.args.bytes.now) (Err c.in_err-last.field-0.0) e)

pub skip_fields-fields-init : goal.skip_fields-fields-init
skip_fields-fields-init t c = (
  fields_begin past_field past_fields no_more_fields one_more_field c.args.levels c.args.at c.args.bytes.now (AreBytes-from c.args.bytes.now (λ i. omega (arith, c.type_inv.bytes i))),
  omega arith,
)

pub skip_fields-fields-smaller : goal.skip_fields-fields-smaller
skip_fields-fields-smaller t c =
    (fields_go_on past_field past_fields no_more_fields one_more_field c.args.levels c.fields.next c.in_ok-last.last c.fields.before.id c.in-Some.id c.in-Some.field_type c.fields.rest.now c.in_ok-start.after.now c.in_ok-last.after.now _ c.fields.invariant.0
    (c.in_ok-start.ensures.reads ∙ ap (λ o. Ok (o, c.in_ok-start.after.now)) c.in-Some.is) c.in_ok-last.ensures.reads).0

pub skip_fields-fields-preserved : goal.skip_fields-fields-preserved
skip_fields-fields-preserved t c =
    let f : SFits w16 c.in-Some.id = search rules in (
      simp to_z-of_z ((fields_go_on past_field past_fields no_more_fields one_more_field c.args.levels c.fields.next c.in_ok-last.last c.fields.before.id c.in-Some.id c.in-Some.field_type c.fields.rest.now c.in_ok-start.after.now c.in_ok-last.after.now _ c.fields.invariant.0
          (c.in_ok-start.ensures.reads ∙ ap (λ o. Ok (o, c.in_ok-start.after.now)) c.in-Some.is) c.in_ok-last.ensures.reads).1),
      omega (arith, c.in_ok-start.ensures.shorter, c.in_ok-last.ensures.room, c.fields.invariant.1),
    )

pub skip_value-returns-then-levels-eq0-clause-reads : goal.skip_value-returns-then-levels-eq0-clause-reads
skip_value-returns-then-levels-eq0-clause-reads t c = rw (value-zero c.args.levels c.args.kind (omega arith)) c.skip_leaf.ensures.reads

pub skip_value-returns-in-List-clause-reads : goal.skip_value-returns-in-List-clause-reads
skip_value-returns-in-List-clause-reads t c =
    let s = row_step c.args.levels c.args.kind c.args.bytes.now (omega arith) c.in-List.is in
    rw s.2 (c.skip_sequence.ensures.reads s.0 s.1)

pub skip_value-returns-in-Map-clause-reads : goal.skip_value-returns-in-Map-clause-reads
skip_value-returns-in-Map-clause-reads t c = grind (arith, common_steps, value-step)

pub skip_value-returns-in-Struct-clause-reads : goal.skip_value-returns-in-Struct-clause-reads
skip_value-returns-in-Struct-clause-reads t c = grind (arith, common_steps, value-step)

pub skip_value-returns-in-Flag-clause-reads : goal.skip_value-returns-in-Flag-clause-reads
skip_value-returns-in-Flag-clause-reads t c = rw (value-scalar c.args.levels c.args.kind (is_scalar c.args.kind c.in-Flag.is)) c.skip_leaf-in-Flag.ensures.reads

pub skip_map-returns-in_err-n-clause-reads : goal.skip_map-returns-in_err-n-clause-reads
skip_map-returns-in_err-n-clause-reads t c =
    let p = err_from_is_err_and c.from_residual.result c.from_residual.ensures.1 in
    rw (p.1, p.2) (map_first c.args.levels c.args.at c.args.bytes.now c.in_err-n.field-0.0 c.in_err-n.ensures.reads)

pub skip_map-returns-then-n-eq0-clause-reads : goal.skip_map-returns-then-n-eq0-clause-reads
skip_map-returns-then-n-eq0-clause-reads t c =
    map_none c.args.levels c.args.at c.args.bytes.now c.in_ok-n.n c.in_ok-n.rest.now c.in_ok-n.ensures.reads (omega arith)

pub skip_map-returns-in_err-kinds-clause-reads : goal.skip_map-returns-in_err-kinds-clause-reads
skip_map-returns-in_err-kinds-clause-reads t c =
    let p = err_from_is_err_and c.from_residual-in_err-kinds.result c.from_residual-in_err-kinds.ensures.1 in
    rw (p.1, p.2) (map_header_err c.args.levels c.args.at c.args.bytes.now c.in_ok-n.n c.in_ok-n.rest.now c.in_err-kinds.field-0.0 c.in_ok-n.ensures.reads c.if-n-eq0.false c.in_err-kinds.ensures.reads)

pub skip_map-returns-clause-reads : goal.skip_map-returns-clause-reads
skip_map-returns-clause-reads t c =
    rw (map_pairs c.args.levels c.args.at c.args.bytes.now c.in_ok-n.n c.in_ok-n.rest.now c.in_ok-kinds.rest.now c.in_ok-kinds.kinds c.in_ok-n.ensures.reads c.if-n-eq0.false c.in_ok-kinds.ensures.reads) c.skip_pairs.ensures.reads

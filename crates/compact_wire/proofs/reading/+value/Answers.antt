use Rattle.std.proofs.Common.{Ok, arith, rules, ap, sym, ◌∙◌}
use Rattle.std.proofs.lemmas.Int.{to_z-of_z}
use mir.Val.{SFits}
use mir.Syntax.{w16}
use Rattle.std.proofs.lemmas.Grind.{common_steps}
use Rattle.std.proofs.lemmas.Result.{err_from_is_err_and}
use Rattle.exact_reading.specs.declared.stop.ReadError.TheVariants as errors
use Rattle.compact_wire.specs.View.{view}
use Rattle.compact_wire.specs.Reads.{items, pairs, value}
use Rattle.compact_wire.proofs.ReadSteps.{AreBytes-from, items_go_on, items_end, items_done, pairs_go_on}
use Rattle.compact_wire.proofs.ReadSteps.{key_fails, item_fails, pairs_done, is_scalar, value-scalar}
use Rattle.compact_wire.proofs.ReadSteps.{view-no_map, value-zero, value-step, mapping-first, mapping-none}
use Rattle.compact_wire.proofs.ReadSteps.{mapping-header_fails, mapping-pairs, field_takes, fields_begin}
use Rattle.compact_wire.proofs.ReadSteps.{start_fails, fields_done, value_fails, fields_go_on}
use Rattle.compact_wire.proofs.reading.+value.Goals as goal

pub read_value-returns-then-levels-eq0 : goal.read_value-returns-then-levels-eq0
read_value-returns-then-levels-eq0 t c =
    rw (value-zero c.args.levels c.args.kind (omega arith)) c.read_scalar.ensures

pub read_items-returns-in_err-item : goal.read_items-returns-in_err-item
read_items-returns-in_err-item t c =
    let p = err_from_is_err_and c.from_residual.result c.from_residual.ensures.1 in
    rw (p.1, p.2)
    (items_end (value c.args.levels c.args.kind) c.in_err-item.field-0.0 c.loop.found.items c.args.count
    c.loop.counter c.loop.rest.now
    (items (value c.args.levels c.args.kind) c.args.count c.args.bytes.now) c.loop-test.true
    c.in_err-item.ensures c.loop.invariant)

pub read_items-loop-preserved : goal.read_items-loop-preserved
read_items-loop-preserved t c =
    rw c.in_ok-push.ensures.items
    (items_go_on (value c.args.levels c.args.kind) c.loop.found.items c.args.count c.loop.counter
    c.loop.rest.now c.in_ok-item.item c.in_ok-item.after.now
    (items (value c.args.levels c.args.kind) c.args.count c.args.bytes.now) c.loop-test.true
    c.in_ok-item.ensures c.loop.invariant)

pub read_items-returns : goal.read_items-returns
read_items-returns t c =
    rw c.shrink_to_fit.ensures.items
    (items_done (value c.args.levels c.args.kind) c.loop.found.items c.args.count c.loop.counter
    c.loop.rest.now (items (value c.args.levels c.args.kind) c.args.count c.args.bytes.now)
    c.loop-test.false c.loop.invariant)

pub read_fields-returns-in_err-start : goal.read_fields-returns-in_err-start
read_fields-returns-in_err-start t c =
    let p = err_from_is_err_and c.from_residual.result c.from_residual.ensures.1 in
    rw (p.1, p.2)
    (start_fails c.args.levels (errors.Stop c.in_err-start.field-0.0) c.fields.found.items
    c.fields.before.id c.fields.rest.now c.args.bytes.now c.fields.invariant c.in_err-start.ensures.reads)

pub read_fields-returns-in_default : goal.read_fields-returns-in_default
read_fields-returns-in_default t c =
    rw c.shrink_to_fit.ensures.items
    (fields_done c.args.levels c.fields.found.items c.fields.before.id c.fields.rest.now c.args.bytes.now
    c.in_ok-start.after.now c.fields.invariant
    (c.in_ok-start.ensures.reads ∙ ap (λ o. Ok (o, c.in_ok-start.after.now)) c.in_default.is))

pub read_fields-returns-in_err-x : goal.read_fields-returns-in_err-x
read_fields-returns-in_err-x t c =
    let p = err_from_is_err_and c.from_residual-in_err-x.result c.from_residual-in_err-x.ensures.1 in
    rw (p.1, p.2)
    (value_fails c.args.levels c.in_err-x.field-0.0 c.fields.found.items c.fields.before.id c.in-Some.id
    c.in-Some.field_type c.fields.rest.now c.args.bytes.now c.in_ok-start.after.now c.fields.invariant
    (c.in_ok-start.ensures.reads ∙ ap (λ o. Ok (o, c.in_ok-start.after.now)) c.in-Some.is) c.in_err-x.ensures)

pub read_fields-fields-smaller : goal.read_fields-fields-smaller
read_fields-fields-smaller t c =
    (field_takes c.args.levels c.fields.before.id c.fields.rest.now c.in-Some.id c.in-Some.field_type
    c.in_ok-start.after.now (view c.in_ok-x.x) c.in_ok-x.after.now c.fields.invariant.bytes_left
    (c.in_ok-start.ensures.reads ∙ ap (λ o. Ok (o, c.in_ok-start.after.now)) c.in-Some.is)
    c.in_ok-x.ensures).0

pub read_fields-fields-preserved : goal.read_fields-fields-preserved
read_fields-fields-preserved t c =
    let f : SFits w16 c.in-Some.id = search rules in
    rw c.in_ok-push.ensures.items
    (simp to_z-of_z
    (fields_go_on c.args.levels c.fields.found.items c.fields.before.id c.in-Some.id c.in-Some.field_type
    c.in_ok-x.x c.fields.rest.now c.args.bytes.now c.in_ok-start.after.now c.in_ok-x.after.now
    c.fields.invariant
    (c.in_ok-start.ensures.reads ∙ ap (λ o. Ok (o, c.in_ok-start.after.now)) c.in-Some.is) c.in_ok-x.ensures))

pub read_fields-fields-init : goal.read_fields-fields-init
read_fields-fields-init t c =
    rw c.new-found.ensures.items
    (fields_begin c.args.levels c.args.bytes.now
    (AreBytes-from c.args.bytes.now (λ i. omega (arith, c.type_inv.bytes i))))

pub read_pairs-returns-in_err-key : goal.read_pairs-returns-in_err-key
read_pairs-returns-in_err-key t c =
    let p = err_from_is_err_and c.from_residual.result c.from_residual.ensures.1 in
    rw (p.1, p.2)
    (key_fails (value c.args.levels c.args.key_kind) (value c.args.levels c.args.value_kind)
    c.in_err-key.field-0.0 c.loop.found.items c.args.count c.loop.counter c.loop.rest.now
    (pairs (value c.args.levels c.args.key_kind) (value c.args.levels c.args.value_kind) c.args.count
    c.args.bytes.now) c.loop-test.true c.in_err-key.ensures c.loop.invariant)

pub read_pairs-returns-in_err-item : goal.read_pairs-returns-in_err-item
read_pairs-returns-in_err-item t c =
    let p = err_from_is_err_and c.from_residual-in_err-item.result c.from_residual-in_err-item.ensures.1 in
    rw (p.1, p.2)
    (item_fails (value c.args.levels c.args.key_kind) (value c.args.levels c.args.value_kind)
    c.in_err-item.field-0.0 c.loop.found.items c.args.count c.loop.counter c.loop.rest.now c.in_ok-key.key
    c.in_ok-key.after.now
    (pairs (value c.args.levels c.args.key_kind) (value c.args.levels c.args.value_kind) c.args.count
    c.args.bytes.now) c.loop-test.true c.in_ok-key.ensures c.in_err-item.ensures c.loop.invariant)

pub read_pairs-loop-preserved : goal.read_pairs-loop-preserved
read_pairs-loop-preserved t c =
    rw c.in_ok-push.ensures.items
    (pairs_go_on (value c.args.levels c.args.key_kind) (value c.args.levels c.args.value_kind)
    c.loop.found.items c.args.count c.loop.counter c.loop.rest.now c.in_ok-key.key c.in_ok-item.item
    c.in_ok-key.after.now c.in_ok-item.after.now
    (pairs (value c.args.levels c.args.key_kind) (value c.args.levels c.args.value_kind) c.args.count
    c.args.bytes.now) c.loop-test.true c.in_ok-key.ensures c.in_ok-item.ensures c.loop.invariant)

pub read_pairs-returns : goal.read_pairs-returns
read_pairs-returns t c =
    rw c.shrink_to_fit.ensures.items
    (pairs_done (value c.args.levels c.args.key_kind) (value c.args.levels c.args.value_kind)
    c.loop.found.items c.args.count c.loop.counter c.loop.rest.now
    (pairs (value c.args.levels c.args.key_kind) (value c.args.levels c.args.value_kind) c.args.count
    c.args.bytes.now) c.loop-test.false c.loop.invariant)

pub read_value-returns-in-List : goal.read_value-returns-in-List
read_value-returns-in-List t c = grind (arith, common_steps, value-step)

pub read_value-returns-in-Set : goal.read_value-returns-in-Set
read_value-returns-in-Set t c = grind (arith, common_steps, value-step)

pub read_value-returns-in-Map : goal.read_value-returns-in-Map
read_value-returns-in-Map t c = grind (arith, common_steps, value-step)

pub read_value-returns-in-Struct : goal.read_value-returns-in-Struct
read_value-returns-in-Struct t c = grind (arith, common_steps, value-step)

pub read_value-returns-in-Flag : goal.read_value-returns-in-Flag
read_value-returns-in-Flag t c =
    rw (value-scalar c.args.levels c.args.kind (is_scalar c.args.kind c.in-Flag.is))
    c.read_scalar-in-Flag.ensures

pub read_map-returns-in_err-n : goal.read_map-returns-in_err-n
read_map-returns-in_err-n t c = grind (arith, common_steps, mapping-first)

pub read_map-returns-then-n-eq0 : goal.read_map-returns-then-n-eq0
read_map-returns-then-n-eq0 t c =
    mapping-none c.args.levels (value c.args.levels) c.args.bytes.now c.in_ok-n.rest.now c.in_ok-n.n
    c.in_ok-n.ensures.reads (omega arith)
    ∙ ap (λ n. Ok (n, c.in_ok-n.rest.now)) (sym (view-no_map c.new-pairs.result c.new-pairs.ensures))

pub read_map-returns-in_err-header : goal.read_map-returns-in_err-header
read_map-returns-in_err-header t c =
    let p = err_from_is_err_and c.from_residual-in_err-header.result c.from_residual-in_err-header.ensures.1
    in
    rw (p.1, p.2)
    (mapping-header_fails c.args.levels (value c.args.levels) c.args.bytes.now c.in_ok-n.rest.now
    c.in_ok-n.n (errors.Stop c.in_err-header.field-0.0) c.in_ok-n.ensures.reads c.if-n-eq0.false
    c.in_err-header.ensures.reads)

pub read_map-returns : goal.read_map-returns
read_map-returns t c =
    rw (mapping-pairs c.args.levels (value c.args.levels) c.args.bytes.now c.in_ok-n.rest.now
    c.in_ok-header.rest.now c.in_ok-n.n c.in_ok-header.header c.in_ok-n.ensures.reads c.if-n-eq0.false
    c.in_ok-header.ensures.reads) c.read_some_pairs.ensures

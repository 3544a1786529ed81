use Rattle.std.proofs.Common.{◌≡◌, ◌-◌, refl, arith, ◌∷◌, [], ◌++◌}
use Rattle.std.proofs.lemmas.Result.{err_from_is_err_and}
use Rattle.exact_reading.specs.Reading.{seen}
use Rattle.compact_wire.specs.Reads.{items, value}
use Rattle.idl_parse.specs.Refs.{type_of_ref}
use Rattle.key_order.specs.Keys.{value_of}
use Rattle.wire_scan.proofs.Seen.{items_go_on, items_end, items_done}
use Rattle.typed_reading.specs.Counts.{counted_item, counted_items}
use Rattle.typed_reading.proofs.CountSteps.{none_counted, one_counted, key_item}
use Rattle.typed_reading.specs.Progress.{after_key, after_keys}
use Rattle.typed_reading.proofs.Steps.{no_more_keys, one_more_key}
use Rattle.typed_reading.proofs.Tables.{key_ok, key_err, set_done, set_err}
use Rattle.typed_reading.proofs.Parts.{key_is_leaf}
use Rattle.typed_reading.proofs.Keyed.{climbs_one}
use Rattle.typed_reading.proofs.Kept.{none_kept, kept_climbs, kept_least}
use Rattle.typed_reading.proofs.keys.check_set_items.Goals as goal

pub check_key-requires : goal.check_key-requires
check_key-requires c =
    let k = c.requires.kind (omega (arith, c.loop-test.true)) in
    record { room = omega (arith, c.loop.invariant.2, c.requires.room); kind = k.0; code = k.1 }

pub returns-in_err-key-clause-reads : goal.returns-in_err-key-clause-reads
returns-in_err-key-clause-reads c =
    let p = err_from_is_err_and c.from_residual.result c.from_residual.ensures.1 in
    let t = type_of_ref c.args.ty in
    let v = value c.args.levels c.args.kind in
    let d = c.in_err-key.field-0.0 in
    let k = c.requires.kind (omega (arith, c.loop-test.true)) in
    let e = key_err t c.loop.progress (c.loop.invariant.0) c.args.levels c.args.kind c.loop.rest.now (key_is_leaf c.args.kind k.0) d c.in_err-key.ensures.reads in
    rw (p.1, p.2) (set_err t c.args.progress.now (items v c.args.count c.args.bytes.now) d
    (items_end (after_key t) (after_keys t) (no_more_keys t) (one_more_key t) v (c.loop.progress, c.loop.invariant.0) d c.args.count c.loop.counter c.loop.rest.now
    (seen (after_keys t (c.args.progress.now, [])) (items v c.args.count c.args.bytes.now)) c.loop-test.true e c.loop.invariant.1))

pub loop-preserved : goal.loop-preserved
loop-preserved c =
    let t = type_of_ref c.args.ty in
    let v = value c.args.levels c.args.kind in
    let k = c.requires.kind (omega (arith, c.loop-test.true)) in
    let key = c.in_ok-key.key in
    let ks = c.loop.invariant.0 in
    let more = ks ++ (key.place, value_of key.key) ∷ [] in
    let e = key_ok t c.loop.progress ks c.args.levels c.args.kind c.loop.rest.now (key_is_leaf c.args.kind k.0) c.check_key.new.progress key.place (value_of key.key) c.in_ok-key.behind.now c.in_ok-key.ensures.reads in
    let g = items_go_on (after_key t) (after_keys t) (no_more_keys t) (one_more_key t) v (c.loop.progress, ks) (c.check_key.new.progress, more) c.args.count c.loop.counter c.loop.rest.now c.in_ok-key.behind.now
    (seen (after_keys t (c.args.progress.now, [])) (items v c.args.count c.args.bytes.now)) c.loop-test.true e c.loop.invariant.1 in
    let item = key_item t c.loop.sums c.with_item.result c.check_key.new.sums c.args.levels c.args.kind c.loop.rest.now c.in_ok-key.behind.now (key_is_leaf c.args.kind k.0) c.with_item.ensures c.in_ok-key.ensures.counts in
    let counts = items_go_on (counted_item t) (counted_items t) (none_counted t) (one_counted t) v c.loop.sums c.check_key.new.sums c.args.count c.loop.counter c.loop.rest.now c.in_ok-key.behind.now
    (seen (counted_items t c.args.sums.now) (items v c.args.count c.args.bytes.now)) c.loop-test.true item c.loop.invariant.5 in (
      more,
      g,
      omega (arith, c.in_ok-key.ensures.room, c.loop.invariant.2),
      rw c.in_ok-key.ensures.place (climbs_one 0 c.loop.progress.next c.check_key.new.progress.next ks (value_of key.key) c.loop.invariant.3 (omega (arith, c.in_ok-key.ensures.next))),
      c.in_ok-keep_key.ensures.kept ks c.loop.invariant.4,
      counts,
    )

pub note_repeat-requires : goal.note_repeat-requires
note_repeat-requires c = rw c.as_mut_slice.ensures.value (kept_climbs c.args.kind c.loop.invariant.0 c.loop.keys.items c.loop.progress.next c.loop.invariant.4 c.loop.invariant.3)

pub returns-clause-reads : goal.returns-clause-reads
returns-clause-reads c =
    let t = type_of_ref c.args.ty in
    let v = value c.args.levels c.args.kind in
    let done = items_done (after_key t) (after_keys t) (no_more_keys t) (one_more_key t) v (c.loop.progress, c.loop.invariant.0) c.args.count c.loop.counter c.loop.rest.now
    (seen (after_keys t (c.args.progress.now, [])) (items v c.args.count c.args.bytes.now)) c.loop-test.false c.loop.invariant.1 in
    let least = kept_least c.args.kind c.loop.invariant.0 c.loop.keys.items c.loop.progress.next c.loop.invariant.4 c.loop.invariant.3 in
    rw (c.note_repeat.ensures, c.as_mut_slice.ensures.value, least) (set_done t c.args.progress.now (items v c.args.count c.args.bytes.now) c.loop.progress (c.loop.invariant.0) c.loop.rest.now done)

pub returns-clause-counts : goal.returns-clause-counts
returns-clause-counts c clean =
    let t = type_of_ref c.args.ty in
    let v = value c.args.levels c.args.kind in
    items_done (counted_item t) (counted_items t) (none_counted t) (one_counted t) v c.loop.sums c.args.count c.loop.counter c.loop.rest.now
    (seen (counted_items t c.args.sums.now) (items v c.args.count c.args.bytes.now)) c.loop-test.false c.loop.invariant.5

pub loop-init : goal.loop-init
loop-init c =
    let all : c.args.count - 0 ≡ c.args.count = omega arith in
    ([], rw all refl, omega arith, omega arith, rw c.new-keys.ensures.items (none_kept c.args.kind), rw all refl)

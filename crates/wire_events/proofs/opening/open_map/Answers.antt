use Rattle.std.proofs.Common.{refl, ap, [], arith}
use Rattle.compact_wire.proofs.ReadSteps.{AreBytes-from}
use Rattle.wire_events.specs.Events.{events}
use Rattle.wire_events.proofs.Openings.{map_first_err, empty_map, map_kinds_err, map_opens}
use Rattle.wire_events.proofs.opening.open_map.Goals as goal

pub returns-in_err-len : goal.returns-in_err-len
returns-in_err-len c x rest is = absurd (map_first_err c.args.levels c.args.bytes.now x rest (AreBytes-from c.args.bytes.now (λ i. omega (arith, c.type_inv.bytes i))) is c.in_err-len.field-0.0 c.in_err-len.ensures.reads)

pub returns-then-len-eq0 : goal.returns-then-len-eq0
returns-then-len-eq0 c x rest is =
    let e = empty_map c.args.levels c.args.bytes.now x rest (AreBytes-from c.args.bytes.now (λ i. omega (arith, c.type_inv.bytes i))) is c.in_ok-len.len c.in_ok-len.rest.now c.in_ok-len.ensures.reads c.if-len-eq0.true in
    ([], ap events e.0, (refl, e.1), e.2)

pub returns-in_err-kinds : goal.returns-in_err-kinds
returns-in_err-kinds c x rest is =
    absurd (map_kinds_err c.args.levels c.args.bytes.now x rest (AreBytes-from c.args.bytes.now (λ i. omega (arith, c.type_inv.bytes i))) is c.in_ok-len.len c.in_ok-len.rest.now c.in_err-kinds.field-0.0 c.in_ok-len.ensures.reads c.if-len-eq0.false c.in_err-kinds.ensures.reads)

pub returns : goal.returns
returns c x rest is =
    map_opens c.args.levels c.args.bytes.now x rest (AreBytes-from c.args.bytes.now (λ i. omega (arith, c.type_inv.bytes i))) is c.in_ok-len.len c.code_of-key.result c.code_of-value.result c.in_ok-len.rest.now c.in_ok-kinds.rest.now c.in_ok-kinds.kinds c.in_ok-len.ensures.reads c.if-len-eq0.false c.in_ok-kinds.ensures.reads c.code_of-key.ensures c.code_of-value.ensures

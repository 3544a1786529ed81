use Rattle.std.proofs.Common.{arith}
use Rattle.compact_wire.proofs.ReadSteps.{AreBytes-from}
use Rattle.compact_wire.specs.Node.{list}
use Rattle.compact_wire.specs.Reads.{sequence, value}
use Rattle.wire_events.proofs.Openings.{no_read, row_header_err, row_count_err, row_open, list_opens}
use Rattle.wire_events.proofs.opening.open_list.Goals as goal

pub returns-in_err-header : goal.returns-in_err-header
returns-in_err-header c x rest is =
    absurd (no_read (sequence list c.args.levels (value c.args.levels) c.args.bytes.now) (x, rest) c.in_err-header.field-0.0 is (row_header_err list c.args.levels c.args.bytes.now c.in_err-header.field-0.0 c.in_err-header.ensures.reads))

pub returns-in_err-len : goal.returns-in_err-len
returns-in_err-len c x rest is =
    absurd (no_read (sequence list c.args.levels (value c.args.levels) c.args.bytes.now) (x, rest) c.in_err-len.field-0.0 is
    (row_count_err list c.args.levels c.args.bytes.now c.in_ok-header.header c.in_ok-header.rest.now c.in_err-len.field-0.0 c.in_ok-header.ensures.reads c.in_err-len.ensures.reads))

pub returns : goal.returns
returns c x rest is =
    list_opens c.args.levels c.args.bytes.now c.element_of-kind.result c.code_of-code.result c.in_ok-len.len c.in_ok-len.rest.now x rest
    (row_open list c.args.levels c.args.bytes.now c.in_ok-header.header c.element_of-kind.result c.in_ok-header.rest.now c.in_ok-len.rest.now c.in_ok-len.len x rest (AreBytes-from c.args.bytes.now (λ i. omega (arith, c.type_inv.bytes i))) c.in_ok-header.ensures.reads c.in_ok-len.ensures.reads c.element_of-kind.ensures is)
    c.code_of-code.ensures

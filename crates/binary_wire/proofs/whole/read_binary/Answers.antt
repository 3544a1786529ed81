use Rattle.std.proofs.Common.{Ok}
use Rattle.compact_wire.specs.View.{view}
use Rattle.binary_wire.proofs.Answering.{read_is, only_read}
use Rattle.binary_wire.proofs.whole.read_binary.Goals as goal

pub returns-in-Ok-read_wire-clause-cause : goal.returns-in-Ok-read_wire-clause-cause
returns-in-Ok-read_wire-clause-cause c = read_is c.args.bytes.now c.in-Ok.compact.items (view c.in-Ok-read_wire.wire) c.in-Ok.ensures.cause (rw c.as_slice.ensures.value at c.in-Ok-read_wire.ensures.cause)

pub returns-in-Ok-read_wire-clause-only : goal.returns-in-Ok-read_wire-clause-only
returns-in-Ok-read_wire-clause-only c = only_read c.args.bytes.now (Ok (view c.in-Ok-read_wire.wire)) (returns-in-Ok-read_wire-clause-cause c)

use Rattle.std.proofs.Common.{arith}
use Rattle.typed_reading.proofs.TextLaws.{low_none, low_more, low_all}
use Rattle.typed_reading.proofs.texts.is_text.Goals as goal

pub loop-byte-init : goal.loop-byte-init
loop-byte-init c = low_none c.args.bytes.now

pub loop-byte-preserved : goal.loop-byte-preserved
loop-byte-preserved c = low_more c.args.bytes.now c.loop-byte.byte-index c.if-byte-ge128.false c.loop-byte.invariant

pub returns-then-bytes-lt32 : goal.returns-then-bytes-lt32
returns-then-bytes-lt32 c = low_all c.args.bytes.now c.loop-byte.byte-index (omega (arith, c.loop-byte-test.false)) c.loop-byte.invariant

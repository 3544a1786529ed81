use Rattle.typed_reading.proofs.TextLaws.{LowBelow}
use Rattle.typed_reading.proofs.texts.is_text.Given as goal

abbrev pub invariant-loop-byte : goal.invariant-loop-byte
invariant-loop-byte l = LowBelow l.bytes l.byte-index

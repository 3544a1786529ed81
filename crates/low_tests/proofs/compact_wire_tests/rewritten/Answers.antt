use Rattle.low_tests.proofs.compact_wire_tests.rewritten.Goals as goal

pub write_wire-requires : goal.write_wire-requires
write_wire-requires c = (c.args.bytes.now, c.in-Ok.ensures.cause)

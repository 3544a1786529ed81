use Rattle.low_tests.proofs.compact_wire_tests.an_overlong_number.Goals as goal

pub write_wire-requires : goal.write_wire-requires
write_wire-requires g c = (_, c.in_ok-wire.ensures.cause)

use Rattle.compact_wire.specs.View.{view}
use Rattle.compact_wire.proofs.FitLaws.{codes_fit}
use Rattle.compact_wire.proofs.writing.write_wire.Goals as goal

pub push_value-requires : goal.push_value-requires
push_value-requires c = codes_fit (view c.args.wire.now) c.requires

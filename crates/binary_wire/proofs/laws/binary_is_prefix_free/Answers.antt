use Rattle.binary_wire.proofs.ReadWhole.{none_behind}
use Rattle.binary_wire.proofs.laws.binary_is_prefix_free.Goals as goal

pub returns : goal.returns
returns c = none_behind

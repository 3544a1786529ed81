use Rattle.binary_wire.proofs.ReadWhole.{one_tree}
use Rattle.binary_wire.proofs.laws.binary_is_unique.Goals as goal

pub returns : goal.returns
returns c = one_tree

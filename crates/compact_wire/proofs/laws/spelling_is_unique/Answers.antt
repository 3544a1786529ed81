use Rattle.compact_wire.proofs.WireLaws.{one_node}
use Rattle.compact_wire.proofs.laws.spelling_is_unique.Goals as goal

pub returns : goal.returns
returns c = one_node

use Rattle.compact_wire.proofs.WireLaws.{nothing_follows}
use Rattle.compact_wire.proofs.laws.spelling_is_prefix_free.Goals as goal

pub returns : goal.returns
returns c = nothing_follows

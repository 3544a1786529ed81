use Rattle.compact_wire.proofs.CanonLaws.{canonical}
use Rattle.compact_wire.proofs.laws.canon_spells.Goals as goal

pub returns : goal.returns
returns c = canonical

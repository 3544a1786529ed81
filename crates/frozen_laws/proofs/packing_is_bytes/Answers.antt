use Rattle.frozen_laws.proofs.Packed.{packed_bytes, packed_packs, packed_once}
use Rattle.frozen_laws.proofs.packing_is_bytes.Goals as goal

pub returns-clause-some : goal.returns-clause-some
returns-clause-some c l v o = (packed_bytes o, packed_packs o)

pub returns-clause-one : goal.returns-clause-one
returns-clause-one c l v bs o small p = packed_once bs o small p

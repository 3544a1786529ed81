use Rattle.std.proofs.Common.{ap, ◌∙◌}
use Rattle.frozen_model.specs.Layouts.{atom_of}
use Rattle.frozen_laws.proofs.Leaves.{need_from_base}
use Rattle.frozen_laws.proofs.Numbers.{stored_fits, stored_back, atom_back, leaf_read, always_in_range}
use Rattle.frozen_laws.proofs.leaves_are_read.Goals as goal

pub returns-clause-stored : goal.returns-clause-stored
returns-clause-stored c n k d x i o f = (stored_fits x i o f, ap (atom_of k) (stored_back x i o f) ∙ atom_back k x o)

pub returns-clause-read : goal.returns-clause-read
returns-clause-read c n k d m i g h e = let r = leaf_read m i g h e in (r.of_kind, r.fits, r.back)

pub returns-clause-range : goal.returns-clause-range
returns-clause-range c k d m i g h = always_in_range k d m i g h

pub returns-clause-base : goal.returns-clause-base
returns-clause-base c least greatest w xs l g = need_from_base least greatest w xs l g.0 g.1

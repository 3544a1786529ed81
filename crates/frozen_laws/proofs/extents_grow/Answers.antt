use Rattle.std.proofs.Common.{arith, ap}
use Rattle.frozen_model.specs.Holding.{greatest_digits}
use Rattle.frozen_laws.proofs.Growth.{extent_le}
use Rattle.frozen_laws.proofs.Leafwise.{leafwise_map}
use Rattle.frozen_laws.proofs.Leaves.{digits_le_mono}
use Rattle.frozen_laws.proofs.Passes.{puts_of_grow}
use Rattle.frozen_laws.proofs.extents_grow.Goals as goal

pub returns-clause-extents : goal.returns-clause-extents
returns-clause-extents c l m v h k = extent_le h k

pub returns-clause-distances : goal.returns-clause-distances
returns-clause-distances c l m v h k = puts_of_grow h k

pub returns-clause-needs : goal.returns-clause-needs
returns-clause-needs c l m v h k = leafwise_map (λ j xs ys e. e) (λ ms ns le. digits_le_mono le) (λ ms ns e. omega (arith, ap greatest_digits e)) (puts_of_grow h k)

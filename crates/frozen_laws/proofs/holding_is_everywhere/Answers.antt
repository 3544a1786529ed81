use Rattle.frozen_model.specs.Layouts.{stride}
use Rattle.frozen_model.specs.Packing.{bytes_for}
use Rattle.frozen_laws.proofs.Holding.{fit_at, at_fit}
use Rattle.frozen_laws.proofs.holding_is_everywhere.Goals as goal

pub returns-clause-forth : goal.returns-clause-forth
returns-clause-forth c l v h = at_fit h.of_kind (bytes_for (stride l)) h.fits

pub returns-clause-back : goal.returns-clause-back
returns-clause-back c l v o f = record { of_kind = o; fits = fit_at o (bytes_for (stride l)) f }

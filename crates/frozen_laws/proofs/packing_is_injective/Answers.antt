use Rattle.frozen_model.specs.Layouts.{stride}
use Rattle.frozen_model.specs.Packing.{bytes_for}
use Rattle.frozen_laws.proofs.Holding.{at_fit}
use Rattle.frozen_laws.proofs.Unique.{same_packing}
use Rattle.frozen_laws.proofs.packing_is_injective.Goals as goal

pub returns : goal.returns
returns c n l v u o h k e = same_packing n o h.of_kind k.of_kind (at_fit h.of_kind (bytes_for (stride l)) h.fits) (at_fit k.of_kind (bytes_for (stride l)) k.fits) e

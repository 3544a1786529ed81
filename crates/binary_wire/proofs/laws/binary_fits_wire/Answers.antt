use Rattle.binary_wire.proofs.AsCompact.{fits_wire}
use Rattle.binary_wire.proofs.laws.binary_fits_wire.Goals as goal

pub returns : goal.returns
returns c = fits_wire

use Rattle.std.proofs.Common.{sym}
use Rattle.frozen_model.proofs.Fields.{bits-field}
use Rattle.frozen_model.proofs.bit_laws.field_is_bits.Goals as goal

pub returns : goal.returns
returns c bs bit w h inside = sym (bits-field bs bit w h inside)

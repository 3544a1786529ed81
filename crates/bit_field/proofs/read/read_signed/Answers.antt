use Rattle.std.proofs.Common.{rules}
use Rattle.bit_field.proofs.ReadFields.{signed_fits}
use Rattle.bit_field.proofs.read.read_signed.Goals as goal

pub returns-clause-fits : goal.returns-clause-fits
returns-clause-fits c = signed_fits c.args.bytes.now c.args.bit c.args.width _ (search rules)

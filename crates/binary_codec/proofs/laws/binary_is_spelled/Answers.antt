use Rattle.std.proofs.Common.{arith}
use Rattle.binary_codec.proofs.SpelledInBinary.{struct_spelled}
use Rattle.binary_codec.proofs.laws.binary_is_spelled.Goals as goal

pub returns : goal.returns
returns c t v within e h = struct_spelled t v within.accepted (omega (arith, within.shallow)) e h

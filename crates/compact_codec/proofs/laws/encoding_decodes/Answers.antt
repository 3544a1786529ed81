use Rattle.std.proofs.Common.{arith}
use Rattle.compact_wire.proofs.CanonLaws.{canonical}
use Rattle.compact_codec.specs.Wire.{wire}
use Rattle.compact_codec.proofs.Spelled.{struct-spelled}
use Rattle.compact_codec.proofs.ReadBack.{typed}
use Rattle.compact_codec.proofs.Decoded.{written_back}
use Rattle.compact_codec.proofs.laws.encoding_decodes.Goals as goal

pub returns : goal.returns
returns c t v within e h few =
    let fits = struct-spelled t v within.accepted (omega (arith, within.shallow)) e h in
    ((wire t v, canonical (wire t v) fits, typed t v within.accepted h, few), λ u d. written_back t v u d.0 within.accepted h fits d.1 d.2)

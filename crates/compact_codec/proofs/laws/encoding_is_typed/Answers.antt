use Rattle.std.proofs.Common.{arith}
use Rattle.compact_codec.proofs.Spelled.{struct-spelled}
use Rattle.compact_codec.proofs.ReadBack.{typed}
use Rattle.compact_codec.proofs.Decoded.{written_back}
use Rattle.compact_codec.proofs.laws.encoding_is_typed.Goals as goal

pub returns : goal.returns
returns c = record {
  spelled = λ t v within e h. struct-spelled t v within.accepted (omega (arith, within.shallow)) e h;
  typed = λ t v within e h. typed t v within.accepted h;
  back = λ t v u w within e h spelled is. written_back t v u w within.accepted h (struct-spelled t v within.accepted (omega (arith, within.shallow)) e h) spelled is;
}

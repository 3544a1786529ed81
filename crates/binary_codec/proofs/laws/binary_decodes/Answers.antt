use Rattle.std.proofs.Common.{arith, sym, ap, ◌∙◌}
use Rattle.compact_wire.specs.Node.{Node}
use Rattle.typed_reading.specs.Meaning.{meaning}
use Rattle.compact_codec.specs.Wire.{wire}
use Rattle.compact_codec.proofs.ReadBack.{typed, back}
use Rattle.binary_wire.proofs.ReadWhole.{one_tree}
use Rattle.binary_codec.specs.BinaryEncoding.{binary}
use Rattle.binary_codec.proofs.SpelledInBinary.{struct_spelled}
use Rattle.binary_codec.proofs.laws.binary_decodes.Goals as goal

pub returns : goal.returns
returns c t v within e h few =
    let s = struct_spelled t v within.accepted (omega (arith, within.shallow)) e h in
    ((wire t v, s, typed t v within.accepted h, few), λ u d. sym d.2.is ∙ ap (λ (x : Node). meaning x t) (one_tree d.0 (wire t v) (binary t v) d.1 s) ∙ back t v within.accepted h)

use Rattle.std.proofs.Common.{refl}
use Rattle.compact_codec.specs.Wire.{wire}
use Rattle.layout_schema.specs.Schemas.{schema_type, schema_of}
use Rattle.layout_schema.proofs.OwnSchema.{schema_within, schema_is_struct, schema_is_value}
use Rattle.layout_schema.proofs.laws.written_schema_is_schema.Goals as goal

pub returns : goal.returns
returns c d h =
    let t = schema_type d.version in
    let s = schema_of d in
    let within = schema_within d.version in
    let struct = schema_is_struct d.version in
    let value = schema_is_value d h in
    record {
      within = h;
      tree = wire t s;
      spelled = c.canon_spells.ensures (wire t s) (c.encoding_is_typed.ensures.spelled t s within struct value);
      relaxes = d.relaxed;
      kept = λ e. refl;
      typed = c.encoding_is_typed.ensures.typed t s within struct value;
    }

-- The laws of schemas.
use Rattle.std.specs.Prelude.{◌≡◌, ◌↔◌, ◌<◌, ◌^◌, ℕ, List, length, Ok}
use Rattle.frozen_model.specs.Layouts.{Described, IsDescribed}
use Rattle.compact_wire.specs.Canon.{canon}
use Rattle.compact_codec.specs.Wire.{wire}
use Rattle.layout_schema.specs.Schemas.{schema_type, schema_of}
use Rattle.layout_schema.specs.Answers.{SchemaBytes, IsSaid}

-- the canonical spelling of a layout's schema is a schema of it
abbrev pub WrittenIsSchema : Type 0
WrittenIsSchema = (d : Described) → IsDescribed d → SchemaBytes (canon (wire (schema_type d.version) (schema_of d))) d

-- it has less than 2^20 bytes
abbrev pub SchemasAreShort : Type 0
SchemasAreShort = (d : Described) → IsDescribed d
    → length (canon (wire (schema_type d.version) (schema_of d))) < 2 ^ 20

-- bytes are a schema of a layout exactly where the conditions of reading find no fault and say this layout
abbrev pub SchemasAreExact : Type 0
SchemasAreExact = (b : List ℕ) (d : Described) → SchemaBytes b d ↔ IsSaid b (Ok d)

-- bytes are a schema of one layout at most
abbrev pub SchemaIsOfOne : Type 0
SchemaIsOfOne = (b : List ℕ) (d e : Described) → SchemaBytes b d → SchemaBytes b e → d ≡ e

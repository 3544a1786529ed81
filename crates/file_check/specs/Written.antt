-- The schema that is written of a layout.
use Rattle.std.specs.Prelude.{ℕ, List}
use Rattle.frozen_model.specs.Layouts.{Described}
use Rattle.compact_wire.specs.Canon.{canon}
use Rattle.compact_codec.specs.Wire.{wire}
use Rattle.layout_schema.specs.Schemas.{schema_type, schema_of}

-- the canonical spelling of the layout's schema
abbrev pub written : Described → List ℕ
written d = canon (wire (schema_type d.version) (schema_of d))

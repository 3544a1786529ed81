use Rattle.std.proofs.Common.{refl, sym, subst}
use Rattle.layout_schema.specs.Schemas.{schema_type}
use Rattle.layout_schema.specs.Shapes.{part}
use Rattle.layout_schema.specs.Standing.{layouts_type, spelled_as}
use Rattle.layout_schema.specs.Table.{AreOf}
use Rattle.layout_schema.proofs.SchemaParts.{no_layouts, map_clean_there, layouts_there}
use Rattle.layout_schema.proofs.table.schema_layouts.Goals as goal

pub returns-in_default-clause-layouts : goal.returns-in_default-clause-layouts
returns-in_default-clause-layouts c v clean =
    subst (AreOf v (part (spelled_as (schema_type v) c.args.bytes.now) 1)) (sym c.new.ensures.items)
    (no_layouts v c.args.bytes.now clean (c.in_default.ensures (schema_type v) (layouts_type v) refl clean))

pub returns-in-Ok-clause-layouts : goal.returns-in-Ok-clause-layouts
returns-in-Ok-clause-layouts c v clean =
    let there = c.in-Some.ensures (schema_type v) (layouts_type v) refl clean in
    layouts_there v c.args.bytes.now clean c.in-Some.standing there c.in-Ok.layouts.items
    (c.in-Ok.ensures v (map_clean_there v c.args.bytes.now clean c.in-Some.standing there))

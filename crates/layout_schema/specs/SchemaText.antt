-- The text of a schema's types, of which each version has one.
use Rattle.std.specs.Prelude.{ℕ, ℤ, pos, false, List, [], ◌∷◌, codes}
use Rattle.idl_profile.specs.declared.kinds.BaseType.TheVariants as base
use Rattle.idl_profile.specs.declared.kinds.Need.TheVariants.{Plain}
use Rattle.idl_profile.specs.Meaning as m
use Rattle.idl_profile.specs.Types.{Default, without, flag_default, int_default}
use Rattle.idl_parse.specs.Parsed.{definition_in}
use Rattle.idl_print.specs.Printed.{printed}
use Rattle.frozen_model.specs.Layouts.{Version, Version1, Version2}

abbrev pub meant_field : ℤ → m.Ty → List ℕ → Default → m.MeantField
meant_field id type name default = record { id = id; need = Plain; type = type; name = name; default = default }

abbrev pub field_struct : m.MeantNamed
field_struct = m.struct_of (codes "Field")
    (meant_field (pos 1) (m.scalar base.I16) (codes "layoutId") without
    ∷ meant_field (pos 2) (m.scalar base.I16) (codes "offset") (int_default (pos 0)) ∷ [])

abbrev pub base_fields : Version → List m.MeantField
base_fields Version1 = []
base_fields Version2 = meant_field (pos 5) (m.scalar base.I64) (codes "base") (int_default (pos 0)) ∷ []

abbrev pub layout_struct : Version → m.MeantNamed
layout_struct v = m.struct_of (codes "Layout")
    (meant_field (pos 1) (m.scalar base.I32) (codes "size") (int_default (pos 0))
    ∷ meant_field (pos 2) (m.scalar base.I16) (codes "bits") (int_default (pos 0))
    ∷ meant_field (pos 3) (m.map (m.scalar base.I16) (m.struct 0)) (codes "fields") without
    ∷ meant_field (pos 4) (m.scalar base.Text) (codes "typeName") without ∷ base_fields v)

abbrev pub schema_fields : List m.MeantField
schema_fields =
    meant_field (pos 1) (m.scalar base.Flag) (codes "relaxTypeChecks") (flag_default false)
    ∷ meant_field (pos 2) (m.map (m.scalar base.I16) (m.struct 1)) (codes "layouts") without
    ∷ meant_field (pos 3) (m.scalar base.I16) (codes "rootLayout") (int_default (pos 0))
    ∷ meant_field (pos 4) (m.scalar base.I32) (codes "fileVersion") (int_default (pos 0)) ∷ []

abbrev pub schema_struct : m.MeantNamed
schema_struct = m.struct_of (codes "Schema") schema_fields

-- the three structs as they are meant, whose last is the type of a schema
abbrev pub schema_meant : Version → List m.MeantNamed
schema_meant v = field_struct ∷ layout_struct v ∷ schema_struct ∷ []

-- their text
abbrev pub schema_text : Version → List ℕ
schema_text v = printed (definition_in (schema_meant v))

use Rattle.std.proofs.Common.{ap, ◌∙◌}
use Rattle.idl_profile.specs.Types.{kind_of}
use Rattle.idl_parse.specs.Refs.{type_of_ref, field_of_ref, value_of}
use Rattle.layout_schema.proofs.ByNumber.{layouts_field, two_fields, is_struct_type}
use Rattle.layout_schema.proofs.walk.layout_ref.Goals as goal

pub field_at-requires : goal.field_at-requires
field_at-requires c = record {
  kind = is_struct_type (type_of_ref c.args.ty) c.requires.0 c.requires.1;
  place = two_fields (type_of_ref c.args.ty) c.requires.0 c.requires.1;
}

pub value-requires : goal.value-requires
value-requires c = ap kind_of (c.ty.ensures ∙ layouts_field (type_of_ref c.args.ty) c.requires.0 (field_of_ref c.field_at.result) c.requires.1 c.field_at.ensures)

pub returns : goal.returns
returns c v is = c.value.ensures ∙ ap value_of (c.ty.ensures ∙ layouts_field (type_of_ref c.args.ty) v (field_of_ref c.field_at.result) is c.field_at.ensures)

use Rattle.std.proofs.Common.{[], ap, ◌∙◌}
use Rattle.idl_profile.specs.Measures.{fields as fields_in, trees}
use Rattle.idl_definitions.specs.Sizes.{struct_size, judged_size}
use Rattle.idl_fields.specs.View.{entries_in, named_in, written_fields}
use Rattle.idl_definitions.proofs.SizeLaws.{measured-group}
use Rattle.idl_definitions.proofs.measure.measured.Goals as goal

pub returns : goal.returns
returns c =
    let text = c.args.text.now in
    let s = c.args.scope.now in
    c.judged_size.ensures ∙ ap judged_size (c.struct_size.ensures ∙ ap struct_size c.inside_of.ensures) ∙ measured-group [] (fields_in (trees (named_in text s)) (written_fields text (entries_in text s) c.args.fields.now))

use Rattle.std.proofs.Common.{Ok, sym, ap, ◌∙◌}
use Rattle.idl_parse.specs.Refs.{type_of_ref}
use Rattle.path_text.specs.Fitting.{field_to}
use Rattle.path_text.proofs.FitLaws.{field-of-struct}
use Rattle.path_text.proofs.fitting.to_field.Goals as goal

pub returns-in-Some : goal.returns-in-Some
returns-in-Some c =
    field-of-struct c.args.place c.args.name.now (type_of_ref c.args.from) (sym c.kind.ensures ∙ c.in-Struct.is)
    ∙ ap (field_to c.args.place) (sym (rw c.in-Some.is at c.field_named.ensures)) ∙ ap (λ t. Ok t) (sym c.ty.ensures)

pub returns-in-None : goal.returns-in-None
returns-in-None c =
    field-of-struct c.args.place c.args.name.now (type_of_ref c.args.from) (sym c.kind.ensures ∙ c.in-Struct.is)
    ∙ ap (field_to c.args.place) (sym (rw c.in-None.is at c.field_named.ensures))

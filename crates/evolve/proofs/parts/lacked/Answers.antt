use Rattle.std.proofs.Common.{◌≡◌, sym, ◌∙◌}
use Rattle.idl_profile.specs.declared.kinds.Need.TheVariants.{Plain, Required, Optional}
use Rattle.idl_parse.specs.Refs.{field_of_ref}
use Rattle.typed_tree.specs.Sizes.{default_value}
use Rattle.evolve.proofs.Tags.{held_plain}
use Rattle.evolve.proofs.Known.{value_tag}
use Rattle.evolve.proofs.parts.lacked.Goals as goal

pub returns-in-Plain-clause-value : goal.returns-in-Plain-clause-value
returns-in-Plain-clause-value c =
    let f = field_of_ref c.args.field in
    sym (held_plain (default_value f) (value_tag f.type (default_value f) (c.requires.formed (λ e.
    let no : Plain ≡ Optional = c.in-Plain.ensures ∙ e in cc))))

pub returns-in-Required-clause-value : goal.returns-in-Required-clause-value
returns-in-Required-clause-value c =
    let f = field_of_ref c.args.field in
    sym (held_plain (default_value f) (value_tag f.type (default_value f) (c.requires.formed (λ e.
    let no : Required ≡ Optional = c.in-Required.ensures ∙ e in cc))))

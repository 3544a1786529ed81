use Rattle.std.proofs.Common.{ap, sym, subst, ◌∙◌}
use Rattle.idl_profile.specs.Types.{kind_of}
use Rattle.evolve.specs.Lenses.{value_of_lens, HasForm}
use Rattle.evolve.proofs.Known.{lens_form}
use Rattle.evolve.proofs.lens.Lens.kind.Goals as goal

pub returns-clause-form : goal.returns-clause-form
returns-clause-form c =
    let l = c.args.self in
    subst (λ k. HasForm k (value_of_lens l)) (sym (c.kind.ensures ∙ ap kind_of c.ty.ensures)) (lens_form l)

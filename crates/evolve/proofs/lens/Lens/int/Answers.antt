use Rattle.std.proofs.Common.{rules, ap, sym, ◌∙◌, w64}
use Rattle.std.specs.Prelude.{FitsSigned}
use Rattle.std.proofs.lemmas.Int.{to_z-of_z}
use Rattle.frozen_model.specs.Values.{One, Number}
use Rattle.evolve.specs.Written.{int_in}
use Rattle.evolve.proofs.Arms.{lacked_int}
use Rattle.evolve.proofs.lens.Lens.int.Goals as goal

pub returns-in-Default : goal.returns-in-Default
returns-in-Default c =
    let fits : FitsSigned w64 c.written_int.result = search rules in
    lacked_int c.args.self c.in-Default.lacked c.in-Default.is c.requires
    ∙ ap (λ z. One (Number z)) (ap int_in (sym c.default.ensures) ∙ sym c.written_int.ensures
    ∙ sym (to_z-of_z w64 c.written_int.result fits))

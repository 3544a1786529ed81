use Rattle.std.proofs.Common.{ap, sym, ◌∙◌}
use Rattle.frozen_model.specs.Values.{One, Truth}
use Rattle.evolve.specs.Written.{flag_in}
use Rattle.evolve.proofs.Arms.{lacked_flag}
use Rattle.evolve.proofs.lens.Lens.flag.Goals as goal

pub returns-in-Default : goal.returns-in-Default
returns-in-Default c =
    lacked_flag c.args.self c.in-Default.lacked c.in-Default.is c.requires
    ∙ ap (λ b. One (Truth b)) (ap flag_in (sym c.default.ensures) ∙ sym c.written_flag.ensures)

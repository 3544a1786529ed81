use Rattle.std.proofs.Common.{ap, sym, ◌∙◌}
use Rattle.frozen_model.specs.Values.{Bytes}
use Rattle.evolve.specs.Written.{bytes_in}
use Rattle.evolve.proofs.Arms.{lacked_bytes}
use Rattle.evolve.proofs.lens.Lens.bytes.Goals as goal

pub returns-in-Default : goal.returns-in-Default
returns-in-Default c =
    lacked_bytes c.args.self c.in-Default.lacked c.in-Default.is c.requires
    ∙ ap Bytes (ap bytes_in (sym c.default.ensures) ∙ sym c.written_text.ensures
    ∙ sym c.as_bytes.ensures.value)

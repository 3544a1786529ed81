use Rattle.std.proofs.Common.{ap, sym, ◌∙◌}
use Rattle.frozen_model.specs.Values.{Bytes}
use Rattle.evolve.specs.Lenses.{value_of_lens}
use Rattle.evolve.specs.Written.{bytes_in}
use Rattle.evolve.proofs.Arms.{lacked_bytes, text_is_bytes}
use Rattle.evolve.proofs.lens.Lens.text.Goals as goal

pub returns-in-Default : goal.returns-in-Default
returns-in-Default c =
    lacked_bytes c.args.self c.in-Default.lacked c.in-Default.is
    (text_is_bytes (value_of_lens c.args.self) c.requires)
    ∙ ap Bytes (ap bytes_in (sym c.default.ensures) ∙ sym c.written_text.ensures)

use Rattle.std.proofs.Common.{ap, sym, ◌∙◌}
use Rattle.frozen_model.specs.Values.{count}
use Rattle.evolve.proofs.Arms.{stored_count, lacked_items}
use Rattle.evolve.proofs.lens.Lens.len.Goals as goal

pub returns-in-Stored : goal.returns-in-Stored
returns-in-Stored c = c.len.ensures ∙ stored_count c.args.self c.in-Stored.stored c.in-Stored.is c.requires

pub returns-in-Default : goal.returns-in-Default
returns-in-Default c = sym (ap count (lacked_items c.args.self c.in-Default.field-0 c.in-Default.is))

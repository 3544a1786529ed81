use Rattle.std.proofs.Common.{[], ◌∙◌, refl, length}
use Rattle.wire_events.proofs.Stacks.{no_bytes}
use Rattle.wire_events.proofs.cursor.WireEvents.place.Goals as goal

pub returns-clause-behind : goal.returns-clause-behind
returns-clause-behind c end h = c.args.self.now.at_end ∙ no_bytes (length h.outer) h.inner [] c.args.self.now.rest.now end refl h.come

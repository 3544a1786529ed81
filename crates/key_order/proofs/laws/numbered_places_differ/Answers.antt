-- Each place is its own index.
use Rattle.key_order.proofs.Numbered.{numbered_places_differ}
use Rattle.key_order.proofs.laws.numbered_places_differ.Goals as goal

pub returns : goal.returns
returns c = numbered_places_differ

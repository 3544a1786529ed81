use Rattle.exact_reading.proofs.CauseLaws.{nothing_follows}
use Rattle.exact_reading.proofs.laws.texts_are_prefix_free.Goals as goal

pub returns : goal.returns
returns g c = nothing_follows g.G.Grammar.admitted g.G.Grammar.spells g.G.Grammar.read g.G.Grammar.exact

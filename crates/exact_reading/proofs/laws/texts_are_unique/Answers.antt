use Rattle.exact_reading.proofs.CauseLaws.{one_value}
use Rattle.exact_reading.proofs.laws.texts_are_unique.Goals as goal

pub returns : goal.returns
returns g c = one_value g.G.Grammar.admitted g.G.Grammar.spells g.G.Grammar.read g.G.Grammar.exact

use Rattle.exact_reading.proofs.CauseLaws.{answers}
use Rattle.exact_reading.proofs.laws.answers_have_causes.Goals as goal

pub returns : goal.returns
returns g c = answers g.G.Grammar.admitted g.G.Grammar.spells g.G.Grammar.read g.G.Grammar.exact

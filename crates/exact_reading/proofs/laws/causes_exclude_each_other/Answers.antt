use Rattle.exact_reading.proofs.CauseLaws.{text_not_truncated, text_not_trailing, truncated_not_trailing, malformed_not_trailing}
use Rattle.exact_reading.proofs.laws.causes_exclude_each_other.Goals as goal

pub returns-clause-text_truncated : goal.returns-clause-text_truncated
returns-clause-text_truncated g c = λ x items. text_not_truncated g.G.Grammar.admitted g.G.Grammar.spells g.G.Grammar.read g.G.Grammar.exact items x

pub returns-clause-text_trailing : goal.returns-clause-text_trailing
returns-clause-text_trailing g c = λ x items p. text_not_trailing g.G.Grammar.admitted g.G.Grammar.spells g.G.Grammar.read g.G.Grammar.exact items x p

pub returns-clause-truncated_trailing : goal.returns-clause-truncated_trailing
returns-clause-truncated_trailing g c = truncated_not_trailing g.G.Grammar.admitted g.G.Grammar.spells g.G.Grammar.read g.G.Grammar.exact

pub returns-clause-malformed_trailing : goal.returns-clause-malformed_trailing
returns-clause-malformed_trailing g c = malformed_not_trailing g.G.Grammar.admitted g.G.Grammar.spells g.G.Grammar.read g.G.Grammar.exact

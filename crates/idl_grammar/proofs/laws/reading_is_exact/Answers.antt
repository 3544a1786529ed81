use Rattle.idl_grammar.proofs.Exact.{spelled, again, blamed, stops}
use Rattle.idl_grammar.proofs.laws.reading_is_exact.Goals as goal

pub returns : goal.returns
returns g c = record {
  reads = λ ts rest x e. spelled g.G.HasGrammar.grammar ts x rest e;
  texts = λ ts rest x e. again g.G.HasGrammar.grammar ts x rest e;
  stops = λ ts d e. blamed g.G.HasGrammar.grammar ts d e;
  faults = λ ts d e. stops g.G.HasGrammar.grammar ts d e;
}

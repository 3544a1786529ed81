use Rattle.idl_grammar.proofs.Lawful.{one-meaning, one-fault, not-both}
use Rattle.idl_grammar.proofs.laws.tokens_have_one_answer.Goals as goal

pub returns : goal.returns
returns g c = record {
  meaning = λ ts rest left x y p q. one-meaning g.G.HasGrammar.grammar ts rest left x y p q;
  fault = λ ts d e p q. one-fault g.G.HasGrammar.grammar ts d e p q;
  not_both = λ ts rest x e p q. not-both g.G.HasGrammar.grammar ts rest x e p q;
}

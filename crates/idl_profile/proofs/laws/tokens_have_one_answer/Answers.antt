use Rattle.idl_profile.proofs.DefLaws.{one_answer, read_answer}
use Rattle.idl_profile.proofs.laws.tokens_have_one_answer.Goals as goal

pub returns : goal.returns
returns c = record { one = λ ts a b p q. one_answer ts a b p q; some = λ ts. read_answer ts }

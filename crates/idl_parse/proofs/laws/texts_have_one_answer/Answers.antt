use Rattle.idl_parse.proofs.Answering.{some-answer, one-definition, one-fault, not-both}
use Rattle.idl_parse.proofs.laws.texts_have_one_answer.Goals as goal

pub returns : goal.returns
returns c = record { some = some-answer; one_definition = one-definition; one_fault = one-fault; not_both = not-both }

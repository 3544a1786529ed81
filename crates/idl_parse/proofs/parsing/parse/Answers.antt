use Rattle.idl_parse.proofs.Answering.{every-text, every-fault}
use Rattle.idl_parse.proofs.parsing.parse.Goals as goal

pub returns-clause-every_text : goal.returns-clause-every_text
returns-clause-every_text c d h = every-text c.args.text.now c.read_text.result c.read_text.ensures d h

pub returns-clause-every_fault : goal.returns-clause-every_fault
returns-clause-every_fault c f h = every-fault c.args.text.now c.read_text.result c.read_text.ensures f h

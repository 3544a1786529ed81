use Rattle.idl_parse.specs.Parsed.{definition_of}
use Rattle.frozen_cli.specs.Opened.{file_held}
use Rattle.frozen_cli.specs.Reply.{FileStage, Under}
use Rattle.frozen_cli.specs.Words.{wanted_in}
use Rattle.frozen_cli.proofs.Joins.{gives_then_at}
use Rattle.frozen_cli.proofs.answer.wanted_of.Goals as goal

pub returns-clause-gives : goal.returns-clause-gives
returns-clause-gives c =
    gives_then_at (λ out. out.items) (FileStage c.args.bytes.now)
    (Under (wanted_in c.args.want) (definition_of c.args.def.now)) (file_held c.in_ok-opened.opened)
    c.wanted_opened.result c.in_ok-opened.ensures.gives c.wanted_opened.ensures.gives

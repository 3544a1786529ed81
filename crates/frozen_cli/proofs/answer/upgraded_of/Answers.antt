use Rattle.frozen_cli.specs.Opened.{file_held}
use Rattle.frozen_cli.specs.Reply.{FileStage, Upgrades}
use Rattle.frozen_cli.proofs.Joins.{gives_then_at}
use Rattle.frozen_cli.proofs.answer.upgraded_of.Goals as goal

pub returns-clause-gives : goal.returns-clause-gives
returns-clause-gives c =
    gives_then_at (λ out. out.items) (FileStage c.args.bytes.now) Upgrades
    (file_held c.in_ok-opened.opened) c.refrozen.result c.in_ok-opened.ensures.gives c.refrozen.ensures.gives

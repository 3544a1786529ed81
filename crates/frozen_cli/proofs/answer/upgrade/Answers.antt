use Rattle.std.proofs.Common.{◌^◌}
use Rattle.frozen_cli.specs.declared.refusal.Role.TheVariants.{File}
use Rattle.frozen_cli.specs.Stages.{ReadStage}
use Rattle.frozen_cli.specs.Reply.{UpgradeOf}
use Rattle.frozen_cli.proofs.Joins.{told_anyway, gives_then}
use Rattle.frozen_cli.proofs.answer.upgrade.Goals as goal

pub returns-clause-gives : goal.returns-clause-gives
returns-clause-gives g c =
    gives_then _ (λ out. out.items) (λ held. ReadStage File (2 ^ 30) (held c.args.file.now))
    (λ held. UpgradeOf) c.in_ok-bytes.bytes.items c.upgraded_of.result c.in_ok-bytes.ensures.gives
    (told_anyway _ (rw c.deref.ensures.value at c.upgraded_of.ensures.gives))

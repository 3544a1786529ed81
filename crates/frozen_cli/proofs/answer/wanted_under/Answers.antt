use Rattle.std.proofs.Common.{◌^◌}
use Rattle.idl_parse.specs.Parsed.{definition_of}
use Rattle.frozen_cli.specs.declared.refusal.Role.TheVariants.{File}
use Rattle.frozen_cli.specs.Stages.{ReadStage}
use Rattle.frozen_cli.specs.Reply.{OpenedUnder}
use Rattle.frozen_cli.specs.Words.{wanted_in}
use Rattle.frozen_cli.proofs.Joins.{told_anyway, gives_then}
use Rattle.frozen_cli.proofs.answer.wanted_under.Goals as goal

pub returns-clause-gives : goal.returns-clause-gives
returns-clause-gives g c =
    gives_then _ (λ out. out.items) (λ held. ReadStage File (2 ^ 30) (held c.args.file.now))
    (λ held. OpenedUnder (wanted_in c.args.want) (definition_of c.args.def.now)) c.in_ok-bytes.bytes.items
    c.wanted_of.result c.in_ok-bytes.ensures.gives
    (told_anyway _ (rw c.deref.ensures.value at c.wanted_of.ensures.gives))

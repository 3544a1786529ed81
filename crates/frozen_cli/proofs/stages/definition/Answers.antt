use Rattle.std.proofs.Common.{arith}
use Rattle.idl_parse.specs.Parsed.{definition_of}
use Rattle.root_kinds.proofs.ShortTexts.{root_is_short}
use Rattle.frozen_cli.proofs.stages.definition.Goals as goal

pub returns-in-Ok-clause-short : goal.returns-in-Ok-clause-short
returns-in-Ok-clause-short c =
    root_is_short c.args.text.now (definition_of c.in-Ok.def) c.in-Ok.ensures.means (omega
    (arith, c.requires))

use Rattle.idl_parse.specs.Parsed.{definition_of}
use Rattle.frozen_cli.specs.Reply.{DefinitionIn, FileUnder}
use Rattle.frozen_cli.specs.Words.{wanted_in}
use Rattle.frozen_cli.proofs.Joins.{gives_then, stops}
use Rattle.frozen_cli.proofs.answer.wanted.Goals as goal

pub returns-clause-gives : goal.returns-clause-gives
returns-clause-gives g c =
    gives_then _ (λ out. out.items) (λ held. DefinitionIn (held c.args.def.now))
    (λ held d. FileUnder (wanted_in c.args.want) d (held c.args.file.now)) (definition_of c.in_ok-def.def)
    c.wanted_under.result c.in_ok-def.ensures.gives
    (rw c.in_ok-def.ensures.reads.kept at c.wanted_under.ensures.gives)

pub returns-in_err-def-clause-gives : goal.returns-in_err-def-clause-gives
returns-in_err-def-clause-gives g c =
    stops _ definition_of (λ out. out.items) (λ held. DefinitionIn (held c.args.def.now))
    (λ held d. FileUnder (wanted_in c.args.want) d (held c.args.file.now)) c.in_err-def.field-0.0
    c.from_residual.result c.in_err-def.ensures.gives c.from_residual.ensures.1

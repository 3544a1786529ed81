use Rattle.idl_parse.specs.Parsed.{definition_of}
use Rattle.frozen_cli.specs.Reply.{DefinitionIn, FrozenUnder}
use Rattle.frozen_cli.proofs.Joins.{gives_then}
use Rattle.frozen_cli.proofs.answer.freeze.Goals as goal

pub returns-clause-gives : goal.returns-clause-gives
returns-clause-gives g c =
    gives_then _ (λ out. out.items) (λ held. DefinitionIn (held c.args.def.now))
    (λ held d. FrozenUnder held c.args.value.now d) (definition_of c.in_ok-def.def)
    c.frozen_under.result c.in_ok-def.ensures.gives
    (rw c.in_ok-def.ensures.reads.kept at c.frozen_under.ensures.gives)

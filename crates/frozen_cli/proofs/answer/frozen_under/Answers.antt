use Rattle.idl_parse.specs.Parsed.{definition_of}
use Rattle.typed_tree.specs.References.{value_of_tree}
use Rattle.frozen_cli.specs.Reply.{ValueIn, Freezes}
use Rattle.frozen_cli.proofs.Joins.{told_anyway, gives_then}
use Rattle.frozen_cli.proofs.answer.frozen_under.Goals as goal

pub returns-clause-gives : goal.returns-clause-gives
returns-clause-gives g c =
    let d = definition_of c.args.def.now in
    gives_then _ (λ out. out.items) (λ held. ValueIn d (held c.args.value.now)) (λ held v. Freezes d v)
    (value_of_tree c.in_ok-value.value) c.freeze_value.result c.in_ok-value.ensures.gives
    (told_anyway _ c.freeze_value.ensures.gives)

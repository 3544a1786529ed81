use Rattle.std.proofs.Common.{◌^◌}
use Rattle.frozen_cli.specs.declared.refusal.Role.TheVariants.{Value}
use Rattle.idl_parse.specs.Parsed.{definition_of}
use Rattle.typed_tree.specs.References.{value_of_tree}
use Rattle.frozen_cli.specs.Stages.{ReadStage}
use Rattle.frozen_cli.specs.Reply.{ValueStage}
use Rattle.frozen_cli.proofs.Joins.{told_anyway, gives_then}
use Rattle.frozen_cli.proofs.answer.value_in.Goals as goal

pub returns-clause-gives : goal.returns-clause-gives
returns-clause-gives g c =
    gives_then _ value_of_tree (λ held. ReadStage Value (2 ^ 26) (held c.args.name.now))
    (λ held. ValueStage (definition_of c.args.def.now)) c.in_ok-bytes.bytes.items c.value.result
    c.in_ok-bytes.ensures.gives (told_anyway _ (rw c.deref.ensures.value at c.value.ensures.gives))

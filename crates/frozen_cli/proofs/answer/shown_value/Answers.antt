use Rattle.std.proofs.Common.{subst, Ok}
use Rattle.evolve.specs.Lenses.{type_of_lens, value_of_lens}
use Rattle.frozen_cli.specs.Stages.{StageGives}
use Rattle.frozen_cli.specs.Reply.{CellsStage, Writes, shown}
use Rattle.frozen_cli.proofs.Joins.{gives_then_at}
use Rattle.frozen_cli.proofs.answer.shown_value.Goals as goal

pub returns-clause-gives : goal.returns-clause-gives
returns-clause-gives c =
    let l = c.args.part in
    let t = type_of_lens l in
    gives_then_at (λ out. out.items) (CellsStage t (value_of_lens l)) (λ w. Writes (shown c.args.showing t w))
    (value_of_lens l) c.shown.result
    (subst (λ m. CellsStage t (value_of_lens l) (Ok (value_of_lens m))) c.in_ok-part.ensures.same
    c.in_ok-part.ensures.gives)
    (subst (λ m. StageGives (λ out. out.items) (Writes (shown c.args.showing (type_of_lens m)
    (value_of_lens m))) c.shown.result)
    c.in_ok-part.ensures.same c.shown.ensures.gives)

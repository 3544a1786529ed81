use Rattle.idl_parse.specs.Parsed.{definition_of}
use Rattle.idl_parse.specs.Refs.{type_of_ref}
use Rattle.path_text.specs.Views.{path_of}
use Rattle.evolve.specs.Lenses.{value_of_lens}
use Rattle.frozen_cli.specs.Reply.{FitStage, ShowsAt}
use Rattle.frozen_cli.proofs.Joins.{gives_then_at}
use Rattle.frozen_cli.proofs.answer.shown_at.Goals as goal

pub returns-clause-gives : goal.returns-clause-gives
returns-clause-gives c =
    let d = definition_of c.args.def.now in
    let p = path_of c.args.path.now in
    gives_then_at (λ out. out.items) (FitStage c.args.showing d p)
    (ShowsAt c.args.showing d p (value_of_lens c.args.root)) (type_of_ref c.in_ok-ty.ty) c.shown_part.result
    c.in_ok-ty.ensures.gives c.shown_part.ensures.gives

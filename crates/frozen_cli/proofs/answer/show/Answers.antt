use Rattle.path_text.specs.Views.{path_of}
use Rattle.frozen_cli.specs.Reply.{PathStage, WantedIn, part}
use Rattle.frozen_cli.proofs.Joins.{told_anyway, gives_then}
use Rattle.frozen_cli.proofs.answer.show.Goals as goal

pub returns-clause-gives : goal.returns-clause-gives
returns-clause-gives g c =
    gives_then _ (λ out. out.items) (λ held. PathStage c.args.path.now)
    (λ held p. WantedIn (part c.args.showing p) held c.args.def.now c.args.file.now)
    (path_of c.in_ok-path.path)
    c.wanted.result (told_anyway _ c.in_ok-path.ensures.gives) c.wanted.ensures.gives

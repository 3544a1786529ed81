use Rattle.frozen_cli.specs.Opened.{file_held}
use Rattle.frozen_cli.specs.Reply.{FileStage, Writes}
use Rattle.cli_texts.specs.Listing.{listing}
use Rattle.frozen_cli.proofs.Joins.{gives_then_at}
use Rattle.frozen_cli.proofs.answer.listing_of.Goals as goal

pub returns-clause-gives : goal.returns-clause-gives
returns-clause-gives c =
    gives_then_at (λ out. out.items) (FileStage c.args.bytes.now) (λ f. Writes (listing f.0))
    (file_held c.in_ok-opened.opened) c.listed.result c.in_ok-opened.ensures.gives c.listed.ensures.gives

use Rattle.frozen_cli.proofs.Rows.{unread}
use Rattle.frozen_cli.proofs.words.row_count.Goals as goal

pub returns-in_default-3 : goal.returns-in_default-3
returns-in_default-3 c =
    unread c.args.word.now c.parse.result c.in_default.field-0 c.parse.ensures.value.0 c.in_default.is

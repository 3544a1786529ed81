use Rattle.frozen_cli.proofs.Thawing.{frozen_thaws}
use Rattle.frozen_cli.proofs.laws.frozen_thaws.Goals as goal

pub returns : goal.returns
returns c =
    frozen_thaws c.texts_have_one_answer.ensures.one_definition c.texts_have_one_answer.ensures.not_both
    c.own_file_is_short.ensures c.own_file_thaws.ensures.read c.binding_has_one_answer.ensures.one

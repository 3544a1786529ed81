use Rattle.path_text.proofs.PieceLaws.{stripped}
use Rattle.path_text.proofs.pieces.behind_word.Goals as goal

pub returns : goal.returns
returns c = stripped c.strip_prefix.result c.args.word.now c.args.text.now c.strip_prefix.ensures.cases

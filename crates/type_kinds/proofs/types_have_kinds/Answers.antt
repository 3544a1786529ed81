use Rattle.type_kinds.specs.Laws.{Any}
use Rattle.type_kinds.proofs.Forms.{kind_tree_is}
use Rattle.type_kinds.proofs.types_have_kinds.Goals as goal

pub returns : goal.returns
returns c t w = kind_tree_is Any t w

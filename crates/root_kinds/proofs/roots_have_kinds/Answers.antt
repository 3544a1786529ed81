use Rattle.std.specs.Str.{IsUtf8}
use Rattle.idl_profile.specs.Types.{root_of}
use Rattle.type_kinds.specs.Laws.{Any}
use Rattle.type_kinds.proofs.Forms.{kind_tree_is, default_is, accepted_short}
use Rattle.root_kinds.proofs.Proper.{root_is_within, root_is_struct}
use Rattle.root_kinds.proofs.ShortTexts.{root_is_short}
use Rattle.root_kinds.proofs.roots_have_kinds.Goals as goal

pub returns-clause-kinds : goal.returns-clause-kinds
returns-clause-kinds c text d h = (kind_tree_is Any (root_of d) (root_is_within Any (λ x l. tt) text d h), root_is_struct text d h)

pub returns-clause-defaults : goal.returns-clause-defaults
returns-clause-defaults c text d h small =
    default_is (root_of d) (accepted_short (root_of d) (root_is_within IsUtf8 (λ x l. l.1) text d h).accepted (root_is_short text d h small))

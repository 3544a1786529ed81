-- The listing of a layout.
use Rattle.std.specs.Prelude.{ℕ, zero, suc, ℤ, pos, List, [], ◌∷◌, ◌++◌, codes}
use Rattle.std.specs.Fmt.{signed_decimal}
use Rattle.frozen_model.specs.Layouts.{Version, Version1, Version2, Described}
use Rattle.layout_tree.specs.declared.node.NodeSpec.{NodeSpec}
use Rattle.layout_tree.specs.Given.{noted_from, shown_nodes}
use Rattle.layout_schema.specs.Schemas.{type_name, base_in}

abbrev pub column : ℤ → List ℕ
column z = codes " " ++ signed_decimal z

-- the number of the parent and the id of the field, which the root has not
abbrev pub parent_columns : ℕ → NodeSpec → List ℕ
parent_columns zero s = codes " - -"
parent_columns (suc n) s = column (pos s.parent) ++ column s.field

-- in version 2 the base, which is 0 at a node that has none
abbrev pub base_column : Version → NodeSpec → List ℕ
base_column Version1 s = []
base_column Version2 s = column (base_in s)

-- the line of a node by its number
abbrev pub line : Version → ℕ → NodeSpec → List ℕ
line v n s =
    signed_decimal (pos n) ++ parent_columns n s ++ codes " " ++ type_name s.kind ++ column (pos s.bits)
    ++ column (pos s.offset) ++ base_column v s ++ codes "\n"

-- the lines of these nodes, which have the numbers from n on
abbrev pub lines : Version → ℕ → List NodeSpec → List ℕ
lines v n [] = []
lines v n (s ∷ ss) = line v n s ++ lines v (suc n) ss

-- the lines of all nodes of a layout in their order
abbrev pub listing : Described → List ℕ
listing d = lines d.version 0 (shown_nodes (noted_from d.tree))

-- The layouts of the parts of a layout.
use Rattle.std.specs.Prelude.{ℕ, zero, suc, ◌+◌, nat_eq, if◌then◌else◌, Option, Some, None}
use Rattle.frozen_model.specs.Trees.{Tree, Trees, Optional, Struct, NoField, Field, nodes}
use Rattle.frozen_model.specs.Layouts.{Layout, Layouts}

-- the layout of what an optional has; of any other layout itself
abbrev pub inner_of : Layout → Layout
inner_of (Optional w l) = l
inner_of l = l

-- the layouts of a struct's fields; of any other layout none
abbrev pub fields_in : Layout → Layouts
fields_in (Struct ls) = ls
fields_in l = NoField

-- the layout of the field at a place, counted from 0
abbrev pub layout_nth : Layouts → ℕ → Layout
layout_nth NoField j = Struct NoField
layout_nth (Field f l ls) zero = l
layout_nth (Field f l ls) (suc j) = layout_nth ls j

-- the tree of the field with this id, where there is one
abbrev pub field_tree : {A B : Type 0} → Trees A B → ℕ → Option (Tree A B)
field_tree NoField id = None
field_tree (Field i l ls) id = if nat_eq i id then Some l else field_tree ls id

-- the node of the field at a place, where the first one's is i
abbrev pub node_nth : Layouts → ℕ → ℕ → ℕ
node_nth NoField i j = i
node_nth (Field f l ls) i zero = i
node_nth (Field f l ls) i (suc j) = node_nth ls (i + nodes l) j

-- What a `Layouts` tells: a layout with its version and whether it is relaxed, and the layout that settling
-- would make.
use Rattle.std.specs.Prelude.{◌≡◌, ℕ, ◌<◌, List, Option, option_map, slice_get}
use Rattle.frozen_model.specs.Trees.{Part, nodes}
use Rattle.frozen_model.specs.Layouts.{Layout, Described, described}
use Rattle.layout_tree.specs.declared.layouts.Layouts.{Layouts}
use Rattle.layout_tree.specs.declared.node.Kind.{Kind}
use Rattle.layout_tree.specs.declared.node.NodeSpec.{NodeSpec}
use Rattle.layout_tree.specs.Given.{shown_nodes}
use Rattle.layout_tree.specs.Listing.{Noted, tree_of, layout_in, settled, sub, version_of}

-- the layout with the widths that are noted for its leaves
abbrev pub noted_in : Layouts → Noted
noted_in l = tree_of l.nodes.items

-- the layout of the bits
abbrev pub layout_of : Layouts → Described
layout_of l = described (version_of l.version) l.relaxed (layout_in (version_of l.version) (noted_in l))

-- the layout of the widths that are noted
abbrev pub settled_of : Layouts → Described
settled_of l = described (version_of l.version) l.relaxed
    (layout_in (version_of l.version) (settled (noted_in l)))

-- each leaf has the width that is noted for it
abbrev pub IsSettled : Layouts → Type 0
IsSettled l = settled_of l ≡ layout_of l

-- a number of a node
abbrev pub IsNumber : Layouts → ℕ → Type 0
IsNumber l n = n < nodes (noted_in l)

-- the node is that of a part of the layout, and no distance, count or isset
abbrev pub IsNode : Layouts → ℕ → Type 0
IsNode l n = Part (noted_in l) 0 (sub (noted_in l) n) n

-- the layout from that node down
abbrev pub at : Layouts → ℕ → Layout
at l n = layout_in (version_of l.version) (sub (noted_in l) n)

-- all nodes in preorder, each with the width that is noted for it
abbrev pub listed : Layouts → List NodeSpec
listed l = shown_nodes (noted_in l)

-- the kind of the node of a number: of a struct that is the item of a map it is that of a pair
abbrev pub kind_of_node : Layouts → ℕ → Option Kind
kind_of_node l n = option_map (λ s. s.kind) (slice_get (listed l) n)

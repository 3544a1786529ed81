-- What an opened file holds.
use Rattle.std.specs.Prelude.{ℕ, List, Result, Ok, Err}
use Rattle.idl_profile.specs.Types.{Named, root_of}
use Rattle.frozen_model.specs.Values.{Value, Absent}
use Rattle.frozen_model.specs.Layouts.{Layout, Described}
use Rattle.frozen_model.specs.Walk.{Fault, open_content}
use Rattle.layout_tree.specs.Nodes.{layout_of}
use Rattle.file_check.specs.declared.opened.Opened.{Opened}
use Rattle.evolve.specs.Projection.{proj}

-- the value that was read; where there is a fault, none is held
abbrev pub read_value : Result Value Fault → Value
read_value (Ok v) = v
read_value (Err f) = Absent

-- the value whose packing the bytes are under the layout
unfoldable pub value_in : Layout → List ℕ → Value
value_in l bytes = read_value (open_content bytes l)

-- the value of an opened file
abbrev pub value_held : Opened → Value
value_held o = value_in (layout_of o.layouts).tree o.content.now

-- the layout and the value
abbrev pub file_held : Opened → Described × Value
file_held o = (layout_of o.layouts, value_held o)

-- the value as one of a definition's root
abbrev pub value_under : List Named → Opened → Value
value_under d o = proj (root_of d) (value_held o)

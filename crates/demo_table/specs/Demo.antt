-- What a demo tells.
use Rattle.std.specs.Prelude.{◌≡◌, ◌≤◌, ℕ, List, [], ◌∷◌, ◌++◌, codes, true}
use Rattle.std.specs.Fmt.{decimal}
use Rattle.idl_profile.specs.Types.{root_of}
use Rattle.type_kinds.specs.KindsOf.{kinds_of}
use Rattle.frozen_model.specs.Bits.{digits}
use Rattle.frozen_model.specs.Trees.{kinds, nodes}
use Rattle.frozen_model.specs.Values.{cells}
use Rattle.frozen_model.specs.Layouts.{Version2, Described}
use Rattle.frozen_model.specs.Holding.{Least}
use Rattle.measure_pass.specs.Measuring.{packed_length}
use Rattle.cli_texts.specs.Demos.{demo, demo_definition}
use Rattle.demo_table.specs.declared.figures.DemoFigures.{DemoFigures}

-- the figures are those of the demo of n users in its least layout, of version 2 and relaxed: as many rows as
-- users, the cells of the value, the nodes of the layout and the bytes of the content; each user is found,
-- and no lookup compares more keys than n has binary digits
pub record IsDemo (n : ℕ) (d : DemoFigures) : Type 0 where
  pub layout : Described
  pub root : kinds layout.tree ≡ kinds_of (root_of demo_definition)
  pub version : layout.version ≡ Version2
  pub relaxed : layout.relaxed ≡ true
  pub least : Least layout (demo n)
  pub rows : d.rows ≡ n
  pub cells : d.cells ≡ cells (kinds_of (root_of demo_definition)) (demo n)
  pub nodes : d.nodes ≡ nodes layout.tree
  pub content : d.content ≡ packed_length layout.tree (demo n)
  pub found : d.found ≡ n
  pub most : d.most ≤ digits n

-- the line of the figures, which ends with a line feed
abbrev pub demo_text : DemoFigures → List ℕ
demo_text d =
    codes "demo rows=" ++ (decimal d.rows ++ (codes " cells=" ++ (decimal d.cells
    ++ (codes " nodes=" ++ (decimal d.nodes ++ (codes " content=" ++ (decimal d.content
    ++ (codes " found=" ++ (decimal d.found ++ (codes " most=" ++ (decimal d.most ++ 10 ∷ [])))))))))))

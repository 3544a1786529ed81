-- What is known of the parts of a layout.
use Rattle.std.specs.Prelude.{◌≡◌, ℕ, ◌≤◌, List, true, Some, slice_get}
use Rattle.frozen_model.specs.Values.{inline_cells}
use Rattle.frozen_model.specs.Layouts.{Layout}
use Rattle.layout_tree.specs.declared.layouts.Layouts.{Layouts}
use Rattle.layout_tree.specs.Nodes.{IsNode, at}
use Rattle.content_check.specs.declared.facts.Facts.{Facts}
use Rattle.content_check.specs.Sure.{IsSure}

-- the facts are those of the part
pub record IsFactsOf (l : Layout) (f : Facts) : Type 0 where
  pub cells : f.cells ≡ inline_cells l
  pub few : f.cells ≤ 4096
  pub sure : f.sure ≡ true → IsSure l

-- the facts at that place of a list are those of the part
pub record HasFacts (fs : List Facts) (n : ℕ) (l : Layout) : Type 0 where
  pub facts : Facts
  pub there : slice_get fs n ≡ Some facts
  pub is : IsFactsOf l facts

-- the list has the facts of each part, by the number of its node
abbrev pub AreFacts : Layouts → List Facts → Type 0
AreFacts l fs = (n : ℕ) → IsNode l n → HasFacts fs n (at l n)

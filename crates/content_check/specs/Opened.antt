-- What is said of a content that is opened.
use Rattle.std.specs.Prelude.{◌≡◌, ℕ, List, Ok}
use Rattle.frozen_model.specs.Values.{Value, cells as cells_of}
use Rattle.frozen_model.specs.Layouts.{Layout}
use Rattle.frozen_model.specs.Walk.{open_content}
use Rattle.frozen_laws.specs.Laws.{IsContent}

-- the content is opened as a value with so many cells: it is the packing of that value in the layout, which
-- holds the value within the limit of cells
pub record IsOpened (bs : List ℕ) (l : Layout) (cells : ℕ) : Type 0 where
  pub value : Value
  pub opened : open_content bs l ≡ Ok value
  pub content : IsContent l value bs
  pub counted : cells ≡ cells_of l value

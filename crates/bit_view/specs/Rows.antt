-- Whose items are found by their places.
use Rattle.bit_view.specs.declared.view.View.{View}
use Rattle.bit_view.specs.declared.row.Row.{Row}

-- the view of the list, set or map
abbrev pub view_of_row : Row → View
view_of_row r = r.whole

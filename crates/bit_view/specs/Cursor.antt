-- What a cursor over items has left.
use Rattle.std.specs.Prelude.{◌≡◌, ℕ, zero, suc, Option, Some, None}
use Rattle.frozen_model.specs.Values.{Values, NoValue, And}
use Rattle.typed_tree.specs.Parts.{items_of}
use Rattle.bit_view.specs.declared.view.View.{View}
use Rattle.bit_view.specs.declared.items.Items.{Items}
use Rattle.bit_view.specs.Views.{value_of_view}
use Rattle.bit_view.specs.Rows.{view_of_row}

-- the values from a place on
abbrev pub from_place : Values → ℕ → Values
from_place vs zero = vs
from_place NoValue (suc n) = NoValue
from_place (And v vs) (suc n) = from_place vs n

-- the items that are left
abbrev pub items_left : Items → Values
items_left i = from_place (items_of (value_of_view (view_of_row i.row))) i.next

-- of the values that were left the first is given, and the others stay; where there was none, none is given
abbrev pub IsNext : Values → Option View → Values → Type 0
IsNext (And v vs) (Some w) left = (value_of_view w ≡ v) × (left ≡ vs)
IsNext NoValue None left = left ≡ NoValue
IsNext _ _ left = ⊥

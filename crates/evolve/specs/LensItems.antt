-- What a cursor over the items of a part has left.
use Rattle.std.specs.Prelude.{◌≡◌, ◌⊎◌, ℕ, zero, suc, Option, Some, None}
use Rattle.idl_profile.specs.declared.kinds.TypeKind.TheVariants as kinds
use Rattle.idl_profile.specs.Types.{TypeTree, kind_of}
use Rattle.idl_parse.specs.Refs.{element_of, key_of, value_of}
use Rattle.frozen_model.specs.Values.{Value, Values, NoValue, And}
use Rattle.typed_tree.specs.Parts.{items_of}
use Rattle.typed_tree.specs.Spots.{pair}
use Rattle.evolve.specs.declared.items.LensItem.{LensItem}
use Rattle.evolve.specs.declared.items.LensItem.TheVariants as item
use Rattle.evolve.specs.declared.items.LensItems.{LensItems}
use Rattle.evolve.specs.Lenses.{type_of_lens, value_of_lens}
use Rattle.evolve.specs.LensRows.{lens_of_row}

-- the item of a list or a set, or the pair of a map
abbrev pub value_of_item : LensItem → Value
value_of_item (item.One l) = value_of_lens l
value_of_item (item.Pair key value) = pair (value_of_lens key) (value_of_lens value)

-- the values from one place up to another, which is not among them; places are counted from 0, and past the
-- last there is none
abbrev pub from_to : Values → ℕ → ℕ → Values
from_to (And v vs) zero (suc end) = And v (from_to vs zero end)
from_to (And v vs) (suc first) (suc end) = from_to vs first end
from_to vs first end = NoValue

-- the items that are left
abbrev pub items_left : LensItems → Values
items_left i = from_to (items_of (value_of_lens (lens_of_row i.row))) i.next i.end

-- the type of the list, set or map whose items they are
abbrev pub type_left : LensItems → TypeTree
type_left i = type_of_lens (lens_of_row i.row)

-- of the values that were left the first is given, and the others stay; where there was none, none is given
abbrev pub IsNext : Values → Option LensItem → Values → Type 0
IsNext (And v vs) (Some i) left = (value_of_item i ≡ v) × (left ≡ vs)
IsNext NoValue None left = left ≡ NoValue
IsNext _ _ left = ⊥

-- a list or a set of this type gives a part of its element's type, and a map one of its key's and one of its
-- value's
abbrev pub IsItemOf : TypeTree → LensItem → Type 0
IsItemOf t (item.One l) =
    ((kind_of t ≡ kinds.List) ⊎ (kind_of t ≡ kinds.Set)) × (type_of_lens l ≡ element_of t)
IsItemOf t (item.Pair key value) =
    (kind_of t ≡ kinds.Map) × (type_of_lens key ≡ key_of t) × (type_of_lens value ≡ value_of t)

-- Values in the order of their keys.
use Rattle.std.specs.Prelude.{◌↔◌, List, [], ◌∷◌}
use Rattle.std.specs.List.{Contains}
use Rattle.base_lists.specs.InOrder.{insert_by, in_order as sorted}
use Rattle.frozen_model.specs.Values.{Value, Values, NoValue, And, key_less, key_of}

-- the values as the items of a set or map
abbrev pub row : List Value → Values
row [] = NoValue
row (v ∷ vs) = And v (row vs)

-- in front of the first whose key is not less
abbrev pub insert : Value → List Value → List Value
insert v us = insert_by key_less key_of v us

-- by rising key
abbrev pub in_order : List Value → List Value
in_order vs = sorted key_less key_of vs

-- a value is in both or in neither
abbrev pub HaveSameMembers : {X : Type 0} → List X → List X → Type 0
HaveSameMembers {X} vs us = (v : X) → Contains vs v ↔ Contains us v

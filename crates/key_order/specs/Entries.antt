-- What entries are: keys as values, with their places.
use Rattle.std.specs.Prelude.{◌≡◌, ℕ, ◌<◌, ◌≤◌, ◌⊎◌, true, List, map, length}
use Rattle.std.specs.List.{AllAdjacentBelow}
use Rattle.frozen_model.specs.Values.{Value, key_less}
use Rattle.key_order.specs.Keys.{value_of, kind_rank}
use Rattle.key_order.specs.declared.repeats.PlacedKey.{PlacedKey}

abbrev pub keys : List PlacedKey → List Value
keys es = map (λ e. value_of e.key) es

abbrev pub places : List PlacedKey → List ℕ
places es = map (λ e. e.place) es

-- each place with its key
abbrev pub placed : List PlacedKey → List (ℕ × Value)
placed es = map (λ e. (e.place, value_of e.key)) es

-- the first stands in front of the second: by kind, by key, and where these are the same by place
abbrev pub InTurn : PlacedKey → PlacedKey → Type 0
InTurn e f =
    (kind_rank (value_of e.key) < kind_rank (value_of f.key))
    ⊎ ((key_less (value_of e.key) (value_of f.key) ≡ true) ⊎ ((value_of e.key ≡ value_of f.key) × (e.place ≤ f.place)))

-- each stands in front of the next
abbrev pub AreInTurn : List PlacedKey → Type 0
AreInTurn es = AllAdjacentBelow InTurn es (length es)

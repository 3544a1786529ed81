-- Neighbours of one key.
use Rattle.std.specs.Prelude.{◌≡◌, ℕ, ◌+◌, ◌<◌, ◌≤◌, List, slice_index, slice_index_or, Option, Some, None}
use Rattle.std.specs.declared.cmp.Ordering.TheVariants.{Less}
use Rattle.frozen_model.specs.Values.{Absent}
use Rattle.key_order.specs.contracts.key.KeyOrd.TheImpl.{ghosts}
use Rattle.key_order.specs.declared.key.Key.{Key}
use Rattle.key_order.specs.Entries.{keys, places}
use Rattle.key_order.specs.declared.repeats.PlacedKey.{PlacedKey}
use Rattle.key_order.specs.declared.repeats.Repeat.{Repeat}

-- the entries at k and at k + 1 have one key
abbrev pub HaveOneKey : List PlacedKey → ℕ → Type 0
HaveOneKey es k = slice_index_or (keys es) k Absent ≡ slice_index_or (keys es) (k + 1) Absent

-- a key is below another in the order of keys
abbrev pub IsBelow : Key → Key → Type 0
IsBelow k l = ghosts.cmp k l ≡ Less

-- the key of an entry is below that of another
abbrev pub Climbs : PlacedKey → PlacedKey → Type 0
Climbs e f = IsBelow e.key f.key

-- the places of two neighbours
abbrev pub places_at : List PlacedKey → ℕ → Repeat
places_at es k = record { first = slice_index (places es) k; second = slice_index (places es) (k + 1) }

-- Of the first n entries no two neighbours have one key; or these are the places of two that do, and no two that do
-- have a lesser second place.
abbrev pub IsLeastNeighbour : List PlacedKey → ℕ → Option Repeat → Type 0
IsLeastNeighbour es n None = (k : ℕ) → k + 1 < n → ¬ HaveOneKey es k
IsLeastNeighbour es n (Some r) =
    ((k : ℕ) × (k + 1 < n) × HaveOneKey es k × (r ≡ places_at es k))
    × ((k : ℕ) → k + 1 < n → HaveOneKey es k → r.second ≤ slice_index (places es) (k + 1))

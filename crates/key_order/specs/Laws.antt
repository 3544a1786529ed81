-- Laws of values whose keys rise, in a set or a map.
use Rattle.std.specs.Prelude.{◌≡◌, ◌≢◌, ◌↔◌, ℕ, List, map, AllPairs, All, None}
use Rattle.std.specs.List.{enumerate_from}
use Rattle.std.specs.List.Sorted.{IsPermutation}
use Rattle.frozen_model.specs.Trees.{Holder, AList}
use Rattle.frozen_model.specs.Values.{Value, key_of, Rises}
use Rattle.key_order.specs.declared.repeats.PlacedKey.{PlacedKey}
use Rattle.key_order.specs.Keys.{value_of, AreOneKind, AreRising}
use Rattle.key_order.specs.Entries.{keys, places, placed}
use Rattle.key_order.specs.Repeats.{HasNoRepeat}
use Rattle.key_order.specs.InOrder.{row, in_order, HaveSameMembers}

-- a set or map rises where each key is below the next
abbrev pub RisesByKeys : Type 0
RisesByKeys = (h : Holder) (vs : List Value) → h ≢ AList → Rises h None (row vs) ↔ AreRising (map key_of vs)

-- there is one way for the same values to rise
abbrev pub RisingIsUnique : Type 0
RisingIsUnique = (h : Holder) (vs us : List Value) → h ≢ AList → Rises h None (row vs) → Rises h None (row us) → HaveSameMembers vs us → vs ≡ us

-- the order is of the same values
abbrev pub OrderMoves : Type 0
OrderMoves = (vs : List Value) → IsPermutation vs (in_order vs)

-- they rise where their keys are of one kind and no two are the same
abbrev pub OrderRises : Type 0
OrderRises = (h : Holder) (vs : List Value) → AreOneKind (map key_of vs) → AllPairs (λ k l. k ≢ l) (map key_of vs) → Rises h None (row (in_order vs))

-- and what rises with the same values is in that order
abbrev pub RisingIsInOrder : Type 0
RisingIsInOrder = (h : Holder) (vs us : List Value) → h ≢ AList → AreOneKind (map key_of vs) → IsPermutation vs us → Rises h None (row us) → us ≡ in_order vs

-- entries that number keys from 0 have these keys, at places that differ
abbrev pub NumberedPlacesDiffer : Type 0
NumberedPlacesDiffer = (ks : List Value) (es : List PlacedKey) → placed es ≡ enumerate_from 0 ks → (keys es ≡ ks) × AllPairs (λ p q. p ≢ q) (places es)

-- and of keys that are numbered from 0 none repeats exactly where no two are the same
abbrev pub NoneRepeatsWhereKeysDiffer : Type 0
NoneRepeatsWhereKeysDiffer = (ks : List Value) → HasNoRepeat (enumerate_from 0 ks) ↔ AllPairs (λ k l. k ≢ l) ks

-- the items at the places of entries are in order where the entries' keys rise
abbrev pub EntriesAreInOrder : Type 0
EntriesAreInOrder = (item : ℕ → Value) (old new : List PlacedKey) → All (λ e. key_of (item e.place) ≡ value_of e.key) old → AreOneKind (keys old) → IsPermutation old new → AreRising (keys new)
    → map (λ e. item e.place) new ≡ in_order (map (λ e. item e.place) old)

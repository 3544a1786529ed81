-- Keys that become those of a set or a map.
use Rattle.std.specs.Prelude.{◌≡◌, ◌≢◌, ℕ, ◌<◌, ◌+◌, ◌*◌, slice_index, List, [], ◌∷◌, length, map, slice_index_or}
use Rattle.std.specs.Prelude.{Result, MatchResult, AllPairs, All}
use Rattle.std.specs.List.{AllByRecursion, enumerate_from}
use Rattle.std.specs.List.Sorted.{IsPermutation}
use Rattle.frozen_model.specs.Values.{Value, Absent, key_of}
use Rattle.key_order.specs.declared.repeats.PlacedKey.{PlacedKey}
use Rattle.key_order.specs.Keys.{AreRising}
use Rattle.key_order.specs.Entries.{keys, placed}
use Rattle.key_order.specs.Repeats.{IsLeastRepeat}
use Rattle.key_order.specs.InOrder.{in_order}
use Rattle.typed_tree.specs.declared.fault.TableFault.{TableFault}
use Rattle.typed_tree.specs.declared.fault.TableFault.TheVariants.{RepeatedKey, NoMemory}

-- a repeat is the least one among these keys, which are numbered from 0
abbrev pub IsFaultOf : List Value → TableFault → Type 0
IsFaultOf ks (RepeatedKey first second) = IsLeastRepeat (enumerate_from 0 ks) first second
IsFaultOf ks NoMemory = Unit {0}

-- where the answer is `Ok`, no two of these keys are the same
abbrev pub TellsRepeat : {T : Type 0} → List Value → Result T TableFault → Type 0
TellsRepeat ks r = MatchResult r (λ _. AllPairs (λ k l. k ≢ l) ks) (IsFaultOf ks)

-- the entries of keys that are numbered from 0, moved so that the keys rise
pub record AreSorted (ks : List Value) (es : List PlacedKey) : Type 0 where
  pub numbered : List PlacedKey
  pub numbers : placed numbered ≡ enumerate_from 0 ks
  pub moved : IsPermutation numbered es
  pub rising : AreRising (keys es)

-- the values at these places
abbrev pub picked : List Value → List ℕ → List Value
picked us ps = map (λ p. slice_index_or us p Absent) ps

-- places by which any values with these keys are in order
pub record AreOrdered (ks : List Value) (ps : List ℕ) : Type 0 where
  pub inside : All (λ p. p < length ks) ps
  pub in_turn : (us : List Value) → map key_of us ≡ ks → picked us ps ≡ in_order us

-- the first, the third and so on
abbrev pub evens : List ℕ → List ℕ
evens (k ∷ v ∷ ks) = k ∷ evens ks
evens _ = []

-- the keys and values at these places of pairs, by turns
abbrev pub turned : List ℕ → List ℕ → List ℕ
turned ks [] = []
turned ks (p ∷ ps) = slice_index ks (2 * p) ∷ slice_index ks (2 * p + 1) ∷ turned ks ps

-- each of these numbers is one of those
abbrev pub AreTaken : List ℕ → List ℕ → Type 0
AreTaken ks js = (ps : List ℕ) × (js ≡ map (λ p. slice_index_or ks p 0) ps) × AllByRecursion (λ p. p < length ks) ps

-- these keys and values by turns are pairs of those
abbrev pub AreTakenByTurns : List ℕ → List ℕ → Type 0
AreTakenByTurns ks js = (ps : List ℕ) × (js ≡ turned ks ps) × AllByRecursion (λ p. 2 * p + 1 < length ks) ps

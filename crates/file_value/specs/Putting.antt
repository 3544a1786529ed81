-- What stands on a builder's stack once the parts of a value are put.
use Rattle.std.specs.Prelude.{◌≡◌, ℕ, ◌*◌, List, [], ◌∷◌, ◌++◌, length, take}
use Rattle.frozen_model.specs.Values.{Value, Values, NoValue, And}
use Rattle.typed_tree.specs.Parts.{pairs}

-- items or fields, the first one first
abbrev pub listed : Values → List Value
listed NoValue = []
listed (And v vs) = v ∷ listed vs

-- keys and values were put by turns, and are the first n of these pairs
pub record PutPairs (old new : List Value) (vs : Values) (n : ℕ) : Type 0 where
  pub turns : List Value
  pub put : new ≡ old ++ turns
  pub paired : pairs turns ≡ take n (listed vs)
  pub long : length turns ≡ 2 * n

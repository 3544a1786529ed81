-- Lists by rising key, in an order of keys that is given by a test, whether a key is less than another.
use Rattle.std.specs.Prelude.{Bool, List, [], ◌∷◌, if◌then◌else◌}

module _ {X K : Type 0} (less : K → K → Bool) (key : X → K) where
  -- in front of the first whose key is not less
  abbrev pub insert_by : X → List X → List X
  insert_by x [] = x ∷ []
  insert_by x (y ∷ ys) = if less (key y) (key x) then y ∷ insert_by x ys else x ∷ y ∷ ys

  -- by rising key, and those of one key in the order in which they stood
  abbrev pub in_order : List X → List X
  in_order [] = []
  in_order (x ∷ xs) = insert_by x (in_order xs)

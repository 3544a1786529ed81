-- Keys as values, keys of one kind, and keys that rise.
use Rattle.std.specs.Prelude.{◌≡◌, ℕ, List, true, length}
use Rattle.std.specs.List.{AllAdjacentBelow, Contains}
use Rattle.frozen_model.specs.Values.{Truth, Number, Value, One, Bytes, key_less}
use Rattle.key_order.specs.declared.key.Key.{Key}
use Rattle.key_order.specs.declared.key.Key.TheVariants as key

-- what a key is as a value
abbrev pub value_of : Key → Value
value_of (key.Flag b) = One (Truth b)
value_of (key.Number z) = One (Number z)
value_of (key.Bytes s) = Bytes s.now

-- the kinds of keys in order: a number is below a flag, and a flag below bytes
abbrev pub kind_rank : Value → ℕ
kind_rank (One (Number z)) = 0
kind_rank (One (Truth b)) = 1
kind_rank (Bytes bs) = 2
kind_rank _ = 3

-- both are flags, both are numbers, or both are bytes
abbrev pub IsOneKind : Value → Value → Type 0
IsOneKind (One (Truth a)) (One (Truth b)) = Unit {0}
IsOneKind (One (Number x)) (One (Number y)) = Unit {0}
IsOneKind (Bytes a) (Bytes b) = Unit {0}
IsOneKind _ _ = ⊥

-- any two of them are of one kind
abbrev pub AreOneKind : List Value → Type 0
AreOneKind ks = (k l : Value) → Contains ks k → Contains ks l → IsOneKind k l

-- each is below the next
abbrev pub AreRising : List Value → Type 0
AreRising ks = AllAdjacentBelow (λ k l. key_less k l ≡ true) ks (length ks)

-- The keys of a set or a map on the wire, with the numbers of their nodes.
use Rattle.std.specs.Prelude.{ℕ, ◌+◌, List, [], ◌∷◌, Bool, true, false, bytes_eq}
use Rattle.std.specs.Ordering.{int_eq}
use Rattle.frozen_model.specs.Values.{Value, Truth, Number, One, Bytes, Absent}
use Rattle.compact_wire.specs.Node.{Node, flag, i8, i16, i32, i64, binary, Nodes, no_nodes, node, Pairs, no_pairs, pair}
use Rattle.wire_scan.specs.Sizes.{size}

-- what a node is as a key; a double or a container is none
abbrev pub key_value : Node → Value
key_value (flag b) = One (Truth b)
key_value (i8 z) = One (Number z)
key_value (i16 z) = One (Number z)
key_value (i32 z) = One (Number z)
key_value (i64 z) = One (Number z)
key_value (binary b) = Bytes b
key_value _ = Absent

-- the keys of a set whose first item has that number
abbrev pub keys_in : Nodes → ℕ → List (ℕ × Value)
keys_in no_nodes at = []
keys_in (node x xs) at = (at, key_value x) ∷ keys_in xs (at + size x)

-- the keys of a map whose first key has that number
abbrev pub keys_in_pairs : Pairs → ℕ → List (ℕ × Value)
keys_in_pairs no_pairs at = []
keys_in_pairs (pair x y xs) at = (at, key_value x) ∷ keys_in_pairs xs (at + size x + size y)

-- both are keys, and equal
abbrev pub same_key : Value → Value → Bool
same_key (One (Truth true)) (One (Truth true)) = true
same_key (One (Truth false)) (One (Truth false)) = true
same_key (One (Number x)) (One (Number y)) = int_eq x y
same_key (Bytes a) (Bytes b) = bytes_eq a b
same_key _ _ = false

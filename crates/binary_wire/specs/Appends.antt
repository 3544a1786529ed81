-- Bytes behind which the canonical spelling of what is read is appended.
use Rattle.std.specs.Prelude.{◌≡◌, ℕ, ℤ, List, ◌++◌}
use Rattle.compact_wire.specs.Node.{Node, Nodes, Pairs, Fields}
use Rattle.compact_wire.specs.Canon.{canon, canon_items, canon_pairs, canon_fields, nodes_count, sequence_header}
use Rattle.compact_wire.specs.Writes.{canon_field}

abbrev pub with_value : List ℕ → Node → List ℕ
with_value out w = out ++ canon w

abbrev pub with_items : List ℕ → Nodes → List ℕ
with_items out xs = out ++ canon_items xs

abbrev pub with_pairs : List ℕ → Pairs → List ℕ
with_pairs out xs = out ++ canon_pairs xs

-- behind the field of the id before
abbrev pub with_fields : List ℕ → ℤ → Fields → List ℕ
with_fields out before xs = out ++ canon_fields before xs

abbrev pub with_field : List ℕ → ℤ → ℤ → Node → List ℕ
with_field out before id x = out ++ canon_field before id x

-- a list or a set, by a code and its items
abbrev pub IsRow : (ℕ → Nodes → Node) → Type 0
IsRow make = (c : ℕ) (xs : Nodes) → canon (make c xs) ≡ sequence_header c (nodes_count xs) ++ canon_items xs

-- The canonical spelling: shortest numbers, and the short header where it can stand.
use Rattle.std.specs.Prelude.{ℕ, suc, ◌+◌, ◌-◌, ◌*◌, ℤ, pos, negsuc, true, false, if◌then◌else◌, nat_lt, ◌&&◌}
use Rattle.std.specs.Prelude.{List, [], ◌∷◌, ◌++◌, length}
use Rattle.compact_wire.specs.Node.{Node, flag, i8, i16, i32, i64, double, binary, list, set, map, structure}
use Rattle.compact_wire.specs.Node.{Nodes, no_nodes, node, Pairs, no_pairs, pair, Fields, no_fields, field}
use Rattle.compact_wire.specs.Number.{zigzag, shortest}
use Rattle.compact_wire.specs.Spells.{SpellsWire}

-- ---- headers

abbrev pub nodes_count : Nodes → ℕ
nodes_count no_nodes = 0
nodes_count (node x xs) = suc (nodes_count xs)

abbrev pub pairs_count : Pairs → ℕ
pairs_count no_pairs = 0
pairs_count (pair x y xs) = suc (pairs_count xs)

-- the byte of a number in two's complement
abbrev pub byte_of : ℤ → ℕ
byte_of (pos n) = n
byte_of (negsuc n) = 255 - n

-- the header of a list or a set
abbrev pub sequence_header : ℕ → ℕ → List ℕ
sequence_header code n = if nat_lt n 15 then (16 * n + code) ∷ [] else (16 * 15 + code) ∷ shortest n

-- by how much the id rises, 0 where it does not
abbrev pub id_step : ℤ → ℤ → ℕ
id_step (pos a) (pos b) = b - a
id_step (pos a) (negsuc b) = 0
id_step (negsuc a) (pos b) = b + suc a
id_step (negsuc a) (negsuc b) = a - b

-- the header of a field: the step and the code in one byte where the step is 1 to 15, else the code and the
-- id
abbrev pub field_header : ℤ → ℤ → ℕ → List ℕ
field_header before id code =
    if nat_lt 0 (id_step before id) && nat_lt (id_step before id) 16 then (16 * id_step before id + code) ∷ []
    else code ∷ shortest (zigzag id)

-- the code of a value in the header of its field, where a flag stands in the code itself
abbrev pub code_in_field : Node → ℕ
code_in_field (flag true) = 1
code_in_field (flag false) = 2
code_in_field (i8 z) = 3
code_in_field (i16 z) = 4
code_in_field (i32 z) = 5
code_in_field (i64 z) = 6
code_in_field (double b) = 7
code_in_field (binary b) = 8
code_in_field (list c xs) = 9
code_in_field (set c xs) = 10
code_in_field (map a b xs) = 11
code_in_field (structure xs) = 12

-- ---- values

abbrev mutual
  pub canon : Node → List ℕ
  canon (flag true) = 1 ∷ []
  canon (flag false) = 2 ∷ []
  canon (i8 z) = byte_of z ∷ []
  canon (i16 z) = shortest (zigzag z)
  canon (i32 z) = shortest (zigzag z)
  canon (i64 z) = shortest (zigzag z)
  canon (double b) = b
  canon (binary b) = shortest (length b) ++ b
  canon (list c xs) = sequence_header c (nodes_count xs) ++ canon_items xs
  canon (set c xs) = sequence_header c (nodes_count xs) ++ canon_items xs
  canon (map a b no_pairs) = 0 ∷ []
  canon (map a b (pair x y xs)) = shortest (suc (pairs_count xs)) ++ (16 * a + b) ∷ canon_pairs (pair x y xs)
  canon (structure xs) = canon_fields (pos 0) xs

  pub canon_items : Nodes → List ℕ
  canon_items no_nodes = []
  canon_items (node x xs) = canon x ++ canon_items xs

  pub canon_pairs : Pairs → List ℕ
  canon_pairs no_pairs = []
  canon_pairs (pair x y xs) = canon x ++ (canon y ++ canon_pairs xs)

  -- the fields behind a field of that id
  pub canon_fields : ℤ → Fields → List ℕ
  canon_fields before no_fields = 0 ∷ []
  canon_fields before (field id (flag x) xs) =
      field_header before id (code_in_field (flag x)) ++ canon_fields id xs
  canon_fields before (field id x xs) =
      field_header before id (code_in_field x) ++ (canon x ++ canon_fields id xs)

-- some bytes spell it
abbrev pub FitsWire : Node → Type 0
FitsWire w = (b : List ℕ) × SpellsWire w b

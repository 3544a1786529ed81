-- What writing a value of the wire rests on, and its parts.
use Rattle.std.specs.Prelude.{ℕ, ◌<◌, ℤ, List, ◌++◌}
use Rattle.compact_wire.specs.Node.{Node, flag, list, set, map, structure, Nodes, no_nodes, node, Pairs}
use Rattle.compact_wire.specs.Node.{no_pairs, pair, Fields, no_fields, field}
use Rattle.compact_wire.specs.Canon.{canon, code_in_field, field_header}

-- a field behind the field of the id before: a flag stands in the code of the header
abbrev pub canon_field : ℤ → ℤ → Node → List ℕ
canon_field before id (flag x) = field_header before id (code_in_field (flag x))
canon_field before id x = field_header before id (code_in_field x) ++ canon x

-- each code has room in four bits
abbrev mutual
  pub CodesFit : Node → Type 0
  CodesFit (list c xs) = (c < 16) × CodesFitAll xs
  CodesFit (set c xs) = (c < 16) × CodesFitAll xs
  CodesFit (map k v xs) = (k < 16) × (v < 16) × CodesFitPairs xs
  CodesFit (structure xs) = CodesFitFields xs
  CodesFit _ = Unit {0}

  pub CodesFitAll : Nodes → Type 0
  CodesFitAll no_nodes = Unit {0}
  CodesFitAll (node x xs) = CodesFit x × CodesFitAll xs

  pub CodesFitPairs : Pairs → Type 0
  CodesFitPairs no_pairs = Unit {0}
  CodesFitPairs (pair x y xs) = CodesFit x × CodesFit y × CodesFitPairs xs

  pub CodesFitFields : Fields → Type 0
  CodesFitFields no_fields = Unit {0}
  CodesFitFields (field id x xs) = CodesFit x × CodesFitFields xs

-- The grammar of Binary Protocol: a tree of the wire, with the codes of Compact Protocol, and the bytes that spell it.
use Rattle.std.specs.Prelude.{◌≡◌, ℕ, zero, suc, if◌then◌else◌, ◌==◌, Bool, true, false, List, [], ◌∷◌, ◌++◌}
use Rattle.std.specs.Prelude.{Option, Some, None}
use Rattle.std.specs.Int.{w16, w32, w64}
use Rattle.exact_reading.specs.Exact.{Then, Pure}
use Rattle.compact_wire.specs.declared.kind.Kind.{Kind}
use Rattle.compact_wire.specs.declared.kind.Kind.TheVariants as k
use Rattle.compact_wire.specs.Node.{Node, flag, i8, i16, i32, i64, double, binary, list, set, map, structure}
use Rattle.compact_wire.specs.Node.{Nodes, no_nodes, node, Pairs, no_pairs, pair, Fields, no_fields, field}
use Rattle.compact_wire.specs.Bytes.{OneByte}
use Rattle.compact_wire.specs.Codes.{code_of}
use Rattle.compact_wire.specs.Reads.{signed_byte}
use Rattle.binary_wire.specs.BinaryCodes.{binary_code, binary_kind}
use Rattle.binary_wire.specs.BinaryNumbers.{Made, Bytes, IsSigned, IsSize}

unfoldable pub flag_of : ℕ → Option Bool
flag_of b = if b == 1 then Some true else (if b == 0 then Some false else None)

-- a value that is no container
abbrev pub SpellsScalar : Kind → Node → List ℕ → Type 0
SpellsScalar k.Flag = Made flag (OneByte flag_of)
SpellsScalar k.I8 = Made i8 (OneByte signed_byte)
SpellsScalar k.I16 = Made i16 (IsSigned w16 2)
SpellsScalar k.I32 = Made i32 (IsSigned w32 4)
SpellsScalar k.I64 = Made i64 (IsSigned w64 8)
SpellsScalar k.Double = Made double (Bytes 8)
SpellsScalar k.Binary = Then IsSize (λ n. Made binary (Bytes n))
SpellsScalar _ = λ w t. ⊥

-- so many values, one after the other
abbrev pub SpellsItems : (Node → List ℕ → Type 0) → ℕ → Nodes → List ℕ → Type 0
SpellsItems value zero = Pure no_nodes
SpellsItems value (suc n) = Then value (λ x. Made (node x) (SpellsItems value n))

-- a list or a set: the code of its items, their number, and the items
abbrev pub SpellsRow : (ℕ → Nodes → Node) → (Kind → Node → List ℕ → Type 0) → Node → List ℕ → Type 0
SpellsRow make value =
    Then (OneByte binary_kind) (λ kind.
    Then IsSize (λ n. Made (make (code_of kind)) (SpellsItems (value kind) n)))

-- so many pairs, each a key and a value
abbrev pub SpellsPairs : (Node → List ℕ → Type 0) → (Node → List ℕ → Type 0) → ℕ → Pairs → List ℕ → Type 0
SpellsPairs key value zero = Pure no_pairs
SpellsPairs key value (suc n) = Then key (λ x. Then value (λ y. Made (pair x y) (SpellsPairs key value n)))

-- the code that a map of so many pairs keeps: where it has none, 0
abbrev pub code_kept : ℕ → Kind → ℕ
code_kept zero kind = 0
code_kept (suc n) kind = code_of kind

-- a map: the codes of its keys and values, the number of its pairs, and the pairs
abbrev pub SpellsMap : (Kind → Node → List ℕ → Type 0) → Node → List ℕ → Type 0
SpellsMap value =
    Then (OneByte binary_kind) (λ a.
    Then (OneByte binary_kind) (λ b.
    Then IsSize (λ n. Made (map (code_kept n a) (code_kept n b)) (SpellsPairs (value a) (value b) n))))

-- fields, each the code of its value, its id and the value; and the byte 0 that ends them
abbrev pub SpellsFields : (Kind → Node → List ℕ → Type 0) → Fields → List ℕ → Type 0
SpellsFields value no_fields t = t ≡ 0 ∷ []
SpellsFields value (field id x xs) t =
    (kind : Kind) × (h : List ℕ) × (u : List ℕ) × (v : List ℕ)
    × IsSigned w16 2 id h × value kind x u × SpellsFields value xs v × (t ≡ binary_code kind ∷ (h ++ (u ++ v)))

-- a value of a kind, whose parts are spelled as given
abbrev pub SpellsBy : (Kind → Node → List ℕ → Type 0) → Kind → Node → List ℕ → Type 0
SpellsBy value k.List = SpellsRow list value
SpellsBy value k.Set = SpellsRow set value
SpellsBy value k.Map = SpellsMap value
SpellsBy value k.Struct = Made structure (SpellsFields value)
SpellsBy value kind = SpellsScalar kind

-- a value of a kind, where so many levels may still open
unfoldable pub SpellsValue : ℕ → Kind → Node → List ℕ → Type 0
SpellsValue zero kind = SpellsScalar kind
SpellsValue (suc levels) kind = SpellsBy (SpellsValue levels) kind

-- the bytes spell the struct, which is at level 1 of 64
abbrev pub BinarySpells : Node → List ℕ → Type 0
BinarySpells w bytes = SpellsValue 64 k.Struct w bytes

-- The grammar of the wire: a tree and the bytes that spell it, one case for each form.
use Rattle.std.specs.Prelude.{◌≡◌, ℕ, suc, ◌+◌, ◌*◌, ◌^◌, ◌-◌, ◌<◌, ◌⊎◌, ℤ, pos, negsuc, ◌+ℤ◌, ◌<ℤ◌, Bool}
use Rattle.std.specs.Prelude.{true, false, List, [], ◌∷◌, ◌++◌, length, Option, Some, None}
use Rattle.compact_wire.specs.declared.kind.Kind.{Kind}
use Rattle.compact_wire.specs.declared.kind.Kind.TheVariants as k
use Rattle.compact_wire.specs.Node.{Node, flag, i8, i16, i32, i64, double, binary, list, set, map, structure}
use Rattle.compact_wire.specs.Node.{Nodes, no_nodes, node, Pairs, no_pairs, pair, Fields, no_fields, field}
use Rattle.compact_wire.specs.Bytes.{AreBytes}
use Rattle.compact_wire.specs.Number.{IsNumber, zigzag}
use Rattle.compact_wire.specs.Codes.{code_of, kind_of}

-- a byte in two's complement
abbrev pub IsSignedByte : ℤ → ℕ → Type 0
IsSignedByte (pos n) b = (n < 128) × (b ≡ n)
IsSignedByte (negsuc n) b = (n < 128) × (b + n ≡ 255)

-- ---- headers

-- the header of a list or a set: four bits of size and the code, for sizes to 14; or 15, the code, and the
-- size as a number
pub data IsListHeader : Kind → ℕ → List ℕ → Type 0 where
  short_list_header : (kind : Kind) (n c : ℕ) (t : List ℕ) → n < 15 → c < 16 → kind_of c ≡ Some kind
      → t ≡ (16 * n + c) ∷ [] → IsListHeader kind n t
  long_list_header : (kind : Kind) (n c : ℕ) (t u : List ℕ) → c < 16 → kind_of c ≡ Some kind
      → IsNumber 5 (2 ^ 31 - 1) n u
      → t ≡ (16 * 15 + c) ∷ u → IsListHeader kind n t

-- what a field's code says of its value: a flag stands in the code itself
pub data IsFieldCode : ℕ → Option Bool → Kind → Type 0 where
  true_code : IsFieldCode 1 (Some true) k.Flag
  false_code : IsFieldCode 2 (Some false) k.Flag
  other_code : (c : ℕ) (kind : Kind) → 2 < c → kind_of c ≡ Some kind → IsFieldCode c None kind

-- the header of a field behind the field of the id before: the step to its id, 1 to 15, and the code; or the
-- code, and the id as a number
pub data IsFieldHeader : ℤ → ℤ → ℕ → List ℕ → Type 0 where
  step_field_header : (before : ℤ) (delta c : ℕ) (t : List ℕ) → 0 < delta → delta < 16 → c < 16
      → (before +ℤ pos delta) <ℤ pos 32768
      → t ≡ (16 * delta + c) ∷ [] → IsFieldHeader before (before +ℤ pos delta) c t
  long_field_header : (before id : ℤ) (c : ℕ) (t u : List ℕ) → c < 16 → IsNumber 3 (2 ^ 16 - 1) (zigzag id) u
      → t ≡ c ∷ u → IsFieldHeader before id c t

-- ---- values

mutual
  -- a value of a kind, where so many levels may still open; a flag here is an element, in a byte of its own
  pub data Spells : ℕ → Kind → Node → List ℕ → Type 0 where
    is_true : (l : ℕ) (t : List ℕ) → t ≡ 1 ∷ [] → Spells l k.Flag (flag true) t
    is_false : (l : ℕ) (b : ℕ) (t : List ℕ) → (b ≡ 0) ⊎ (b ≡ 2) → t ≡ b ∷ [] → Spells l k.Flag (flag false) t
    is_i8 : (l : ℕ) (z : ℤ) (b : ℕ) (t : List ℕ) → IsSignedByte z b → t ≡ b ∷ [] → Spells l k.I8 (i8 z) t
    is_i16 : (l : ℕ) (z : ℤ) (t : List ℕ) → IsNumber 3 (2 ^ 16 - 1) (zigzag z) t → Spells l k.I16 (i16 z) t
    is_i32 : (l : ℕ) (z : ℤ) (t : List ℕ) → IsNumber 5 (2 ^ 32 - 1) (zigzag z) t → Spells l k.I32 (i32 z) t
    is_i64 : (l : ℕ) (z : ℤ) (t : List ℕ) → IsNumber 10 (2 ^ 64 - 1) (zigzag z) t → Spells l k.I64 (i64 z) t
    is_double : (l : ℕ) (t : List ℕ) → length t ≡ 8 → AreBytes t → Spells l k.Double (double t) t
    is_binary : (l : ℕ) (x t h : List ℕ) → IsNumber 5 (2 ^ 31 - 1) (length x) h → AreBytes x
        → t ≡ h ++ x → Spells l k.Binary (binary x) t
    is_list : (l : ℕ) (kind : Kind) (n : ℕ) (xs : Nodes) (t h u : List ℕ) → IsListHeader kind n h
        → SpellsItems l kind n xs u
        → t ≡ h ++ u → Spells (suc l) k.List (list (code_of kind) xs) t
    is_set : (l : ℕ) (kind : Kind) (n : ℕ) (xs : Nodes) (t h u : List ℕ) → IsListHeader kind n h
        → SpellsItems l kind n xs u
        → t ≡ h ++ u → Spells (suc l) k.Set (set (code_of kind) xs) t
    is_no_map : (l : ℕ) (t : List ℕ) → IsNumber 5 (2 ^ 31 - 1) 0 t → Spells (suc l) k.Map (map 0 0 no_pairs) t
    is_map : (l : ℕ) (key value : Kind) (n c d : ℕ) (xs : Pairs) (t h u : List ℕ)
        → IsNumber 5 (2 ^ 31 - 1) (suc n) h
        → c < 16 → d < 16 → kind_of c ≡ Some key → kind_of d ≡ Some value
        → SpellsPairs l key value (suc n) xs u
        → t ≡ h ++ (16 * c + d) ∷ u → Spells (suc l) k.Map (map (code_of key) (code_of value) xs) t
    is_struct : (l : ℕ) (xs : Fields) (t : List ℕ) → SpellsFields l (pos 0) xs t
        → Spells (suc l) k.Struct (structure xs) t

  -- so many values of one kind
  pub data SpellsItems : ℕ → Kind → ℕ → Nodes → List ℕ → Type 0 where
    no_items : (l : ℕ) (kind : Kind) (t : List ℕ) → t ≡ [] → SpellsItems l kind 0 no_nodes t
    item : (l : ℕ) (kind : Kind) (n : ℕ) (x : Node) (xs : Nodes) (t u v : List ℕ) → Spells l kind x u
        → SpellsItems l kind n xs v
        → t ≡ u ++ v → SpellsItems l kind (suc n) (node x xs) t

  -- so many pairs of two kinds
  pub data SpellsPairs : ℕ → Kind → Kind → ℕ → Pairs → List ℕ → Type 0 where
    no_pair : (l : ℕ) (a b : Kind) (t : List ℕ) → t ≡ [] → SpellsPairs l a b 0 no_pairs t
    one_pair : (l : ℕ) (a b : Kind) (n : ℕ) (x y : Node) (xs : Pairs) (t u v w : List ℕ)
        → Spells l a x u → Spells l b y v → SpellsPairs l a b n xs w
        → t ≡ u ++ (v ++ w) → SpellsPairs l a b (suc n) (pair x y xs) t

  -- the fields behind a field of that id, and the byte 0 that ends them
  pub data SpellsFields : ℕ → ℤ → Fields → List ℕ → Type 0 where
    the_end : (l : ℕ) (before : ℤ) (t : List ℕ) → t ≡ 0 ∷ [] → SpellsFields l before no_fields t
    flag_field : (l : ℕ) (before id : ℤ) (c : ℕ) (x : Bool) (xs : Fields) (t h v : List ℕ)
        → IsFieldHeader before id c h → IsFieldCode c (Some x) k.Flag → SpellsFields l id xs v
        → t ≡ h ++ v → SpellsFields l before (field id (flag x) xs) t
    other_field : (l : ℕ) (before id : ℤ) (c : ℕ) (kind : Kind) (x : Node) (xs : Fields) (t h u v : List ℕ)
        → IsFieldHeader before id c h → IsFieldCode c None kind → Spells l kind x u → SpellsFields l id xs v
        → t ≡ h ++ (u ++ v) → SpellsFields l before (field id x xs) t

-- the bytes spell the struct, which is at level 1 of 64
abbrev pub SpellsWire : Node → List ℕ → Type 0
SpellsWire w bytes = Spells 64 k.Struct w bytes

-- Files: the bytes of a header, a schema and a content, and what is wrong with other bytes.
use Rattle.std.specs.Prelude.{◌≡◌, ℕ, ◌-◌, ◌/◌, ◌%◌, ◌≤◌, List, [], ◌∷◌, ◌++◌, Bool, true, false, ◌&&◌, length, nat_le, take, drop, Result, Ok, Err}
use Rattle.std.specs.Str.{bytes_eq}
use Rattle.frozen_model.specs.Bits.{number}
use Rattle.frozen_model.specs.Values.{Value, cells, cell_limit}
use Rattle.frozen_model.specs.Layouts.{Described}
use Rattle.frozen_model.specs.Packing.{Packs, packed}
use Rattle.frozen_model.specs.Holding.{Holds}
use Rattle.frozen_model.specs.Walk.{Fault, Short, open_content}

-- what can be wrong with a file, where F is what can be wrong with a schema
pub data FileFault (F : Type 0) : Type 0 where
  -- it does not begin with a header
  NotFrozen : FileFault F
  -- its schema is refused
  BadSchema : F → FileFault F
  -- its content, or the length of its schema
  BadContent : Fault → FileFault F

-- the first four bytes of a file: F Z 2 P
abbrev pub magic : List ℕ
magic = 70 ∷ 90 ∷ 50 ∷ 80 ∷ []

-- the length of the schema, as the header gives it, the lowest byte first
abbrev pub schema_length : List ℕ → ℕ
schema_length b = number (take 4 (drop 4 b))

-- the bytes of the schema
abbrev pub schema_bytes : List ℕ → List ℕ
schema_bytes b = take (schema_length b) (drop 8 b)

-- the bytes of the content, which go to the end of the file
abbrev pub content_of : List ℕ → List ℕ
content_of b = drop (schema_length b) (drop 8 b)

-- what is left where the test passes
abbrev pub demand : {F X : Type 0} → Bool → FileFault F → Result X (FileFault F) → Result X (FileFault F)
demand true e r = r
demand false e r = Err e

-- what follows an answer, or its fault
abbrev pub answered : {F E X Y : Type 0} → Result X E → (E → FileFault F) → (X → Result Y (FileFault F))
    → Result Y (FileFault F)
answered (Ok x) e f = f x
answered (Err r) e f = Err (e r)

-- the layout and the value of a file, or its first fault, where schemas are read by read
abbrev pub open_file : {F : Type 0} → (List ℕ → Result Described F) → List ℕ → Result (Described × Value) (FileFault F)
open_file read b =
    demand (nat_le 8 (length b) && bytes_eq (take 4 b) magic) NotFrozen
    (demand (nat_le (schema_length b) (length b - 8)) (BadContent Short)
    (answered (read (schema_bytes b)) BadSchema (λ d.
    answered (open_content (content_of b) d.tree) BadContent (λ v. Ok (d, v)))))

-- The bytes are a frozen file of the value in the layout, where Spells s d says that the bytes s are a schema of the
-- layout d: the magic, the length of the schema in four bytes, a schema of the layout, and the value's packing; the
-- layout holds the value, which is within the limit of cells.
pub record File (Spells : List ℕ → Described → Type 0) (b : List ℕ) (d : Described) (v : Value) : Type 0 where
  pub size : List ℕ
  pub schema : List ℕ
  pub content : List ℕ
  pub joined : b ≡ magic ++ (size ++ (schema ++ content))
  pub four : length size ≡ 4
  pub sized : number size ≡ length schema
  pub spelled : Spells schema d
  pub holds : Holds d.tree v
  pub within : cells d.tree v ≤ cell_limit
  pub packed : Packs d.tree v content

-- four bytes that write a number below 2 ^ 32, the lowest byte first
abbrev pub four_bytes : ℕ → List ℕ
four_bytes n = n % 256 ∷ n / 256 % 256 ∷ n / 65536 % 256 ∷ n / 16777216 % 256 ∷ []

-- the frozen file of a value in a layout, where write gives the bytes of the layout's schema
abbrev pub frozen : (Described → List ℕ) → Described → Value → List ℕ
frozen write d v = magic ++ (four_bytes (length (write d)) ++ (write d ++ packed d.tree v))

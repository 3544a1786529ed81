-- Reading a value of the wire from left to right, as a function on lists of bytes. Private functions of the
-- code are stated by it;
-- the public ones are stated by the grammar, against which it is proved exact.
use Rattle.std.specs.Prelude.{ℕ, zero, suc, ◌+◌, ◌-◌, ◌*◌, ◌/◌, ◌%◌, ◌^◌, ℤ, pos, negsuc, ◌+ℤ◌, int_lt, Bool}
use Rattle.std.specs.Prelude.{true, false, if◌then◌else◌, nat_lt, nat_le, ◌==◌, ◌||◌, ◌&&◌, length, Option}
use Rattle.std.specs.Prelude.{Some, None, option_and_then, Err}
use Rattle.exact_reading.specs.declared.stop.Stop.TheVariants.{Ended}
use Rattle.compact_wire.specs.declared.kind.Kind.{Kind}
use Rattle.compact_wire.specs.declared.kind.Kind.TheVariants as k
use Rattle.compact_wire.specs.declared.header.ListHeader.{ListHeader}
use Rattle.compact_wire.specs.declared.header.ListHeader.TheVariants.{Sized as sized, Counted as counted}
use Rattle.compact_wire.specs.declared.header.PairKinds.{PairKinds}
use Rattle.compact_wire.specs.declared.header.FieldType.{FieldType}
use Rattle.compact_wire.specs.declared.header.FieldType.TheVariants.{Given as given, Of as of}
use Rattle.compact_wire.specs.declared.header.FieldHeader.{FieldHeader}
use Rattle.compact_wire.specs.declared.header.FieldHeader.TheVariants.{End as stop, Step as step}
use Rattle.compact_wire.specs.declared.header.FieldHeader.TheVariants.{Long as long}
use Rattle.compact_wire.specs.Node.{Node, flag, i8, i16, i32, i64, double, binary, list, set, map, structure}
use Rattle.compact_wire.specs.Node.{Nodes, no_nodes, node, Pairs, no_pairs, pair, Fields, no_fields, field}
use Rattle.compact_wire.specs.Bytes.{ByteReader}
use Rattle.exact_reading.specs.Reading.{and_then, pure, one, taken}
use Rattle.compact_wire.specs.Number.{unzigzag}
use Rattle.compact_wire.specs.Codes.{code_of, kind_of}

-- ---- numbers

-- a byte of a number: its last digit, or one that more digits follow
pub data Digit : Type 0 where
  last : ℕ → Digit
  more : ℕ → Digit

-- the first byte of a number up to a greatest, with room for so many bytes after it
unfoldable pub digit : ℕ → ℕ → ℕ → Option Digit
digit room greatest b =
    if nat_lt b 128 then (if nat_le b greatest then Some (last b) else None)
    else (if nat_lt 0 room && nat_le (b - 128) greatest then Some (more (b - 128)) else None)

-- what stands behind a digit
abbrev pub number_tail : (ℕ → ByteReader ℕ) → ℕ → Digit → ByteReader ℕ
number_tail next greatest (last n) = pure n
number_tail next greatest (more low) =
    and_then (next ((greatest - low) / 128)) (λ high. pure (low + 128 * high))

-- a number up to a greatest, with room for so many bytes after the first
unfoldable pub number : ℕ → ℕ → ByteReader ℕ
number zero greatest = and_then (one (digit 0 greatest)) (number_tail (λ g b. Err Ended) greatest)
number (suc room) greatest = and_then (one (digit (suc room) greatest)) (number_tail (number room) greatest)

-- the same for a zigzag number
abbrev pub signed : ℕ → ℕ → ByteReader ℤ
signed room greatest = and_then (number room greatest) (λ n. pure (unzigzag n))

-- ---- levels

-- what may stand where so many levels may still open
abbrev pub fits : ℕ → Kind → Bool
fits (suc levels) kind = true
fits zero k.List = false
fits zero k.Set = false
fits zero k.Map = false
fits zero k.Struct = false
fits zero _ = true

abbrev pub if_fits : ℕ → Kind → Option Kind
if_fits levels kind = if fits levels kind then Some kind else None

-- a kind that may stand there
unfoldable pub kind_at : ℕ → ℕ → Option Kind
kind_at levels c = option_and_then (if_fits levels) (kind_of c)

-- ---- scalars

-- an element of type bool
unfoldable pub element_flag : ℕ → Option Bool
element_flag b = if b == 1 then Some true else (if nat_lt b 3 then Some false else None)

-- a byte in two's complement
unfoldable pub signed_byte : ℕ → Option ℤ
signed_byte b = Some (if nat_lt b 128 then pos b else negsuc (255 - b))

-- the greatest length or size
abbrev pub most_bytes : ℕ
most_bytes = 2 ^ 31 - 1

-- a value of a kind that is no container
unfoldable pub scalar : Kind → ByteReader Node
scalar k.Flag = and_then (one element_flag) (λ x. pure (flag x))
scalar k.I8 = and_then (one signed_byte) (λ x. pure (i8 x))
scalar k.I16 = and_then (signed 2 (2 ^ 16 - 1)) (λ x. pure (i16 x))
scalar k.I32 = and_then (signed 4 (2 ^ 32 - 1)) (λ x. pure (i32 x))
scalar k.I64 = and_then (signed 9 (2 ^ 64 - 1)) (λ x. pure (i64 x))
scalar k.Double = and_then (taken 8) (λ x. pure (double x))
scalar k.Binary = and_then (number 4 most_bytes) (λ n. and_then (taken n) (λ x. pure (binary x)))
scalar _ = λ bytes. Err Ended

-- ---- lists and sets

-- The header byte of a list or a set, by its size and kind. Without levels only an empty one has items of a
-- container.
abbrev pub list_header_of : ℕ → ℕ → Kind → Option ListHeader
list_header_of levels size kind =
    if size == 15 then Some (counted kind)
    else (if size == 0 || fits levels kind then Some (sized kind size) else None)

unfoldable pub list_header : ℕ → ℕ → Option ListHeader
list_header levels b = option_and_then (list_header_of levels (b / 16)) (kind_of (b % 16))

-- the kind of the items
abbrev pub element : ListHeader → Kind
element (sized kind size) = kind
element (counted kind) = kind

-- the number of items, which the header byte may leave to a number
abbrev pub count : ℕ → ListHeader → ByteReader ℕ
count levels (sized kind size) = pure size
count levels (counted kind) = number 4 (if fits levels kind then most_bytes else 0)

-- so many values
unfoldable pub items : ByteReader Node → ℕ → ByteReader Nodes
items value zero = pure no_nodes
items value (suc n) = and_then value (λ x. and_then (items value n) (λ xs. pure (node x xs)))

-- a list or a set
unfoldable pub sequence : (ℕ → Nodes → Node) → ℕ → (Kind → ByteReader Node) → ByteReader Node
sequence make levels value =
    and_then (one (list_header levels)) (λ h.
    and_then (count levels h)
    (λ n. and_then (items (value (element h)) n) (λ xs. pure (make (code_of (element h)) xs))))

-- ---- maps

abbrev pub pair_kinds : Kind → Kind → PairKinds
pair_kinds key value = record { key = key; value = value }

-- both kinds, if both codes have one
abbrev pub kinds_of : Option Kind → Option Kind → Option PairKinds
kinds_of (Some key) (Some value) = Some (pair_kinds key value)
kinds_of (Some key) None = None
kinds_of None v = None

-- the byte with the codes of keys and values
unfoldable pub map_header : ℕ → ℕ → Option PairKinds
map_header levels b = kinds_of (kind_at levels (b / 16)) (kind_at levels (b % 16))

-- so many pairs
unfoldable pub pairs : ByteReader Node → ByteReader Node → ℕ → ByteReader Pairs
pairs key value zero = pure no_pairs
pairs key value (suc n) =
    and_then key (λ x. and_then value (λ y. and_then (pairs key value n) (λ xs. pure (pair x y xs))))

-- the pairs behind their codes
abbrev pub mapping_pairs : (Kind → ByteReader Node) → ℕ → PairKinds → ByteReader Node
mapping_pairs value n kinds =
    and_then (pairs (value kinds.key) (value kinds.value) n)
    (λ xs. pure (map (code_of kinds.key) (code_of kinds.value) xs))

-- what stands behind the size
abbrev pub map_tail : ℕ → (Kind → ByteReader Node) → ℕ → ByteReader Node
map_tail levels value zero = pure (map 0 0 no_pairs)
map_tail levels value (suc n) = and_then (one (map_header levels)) (mapping_pairs value (suc n))

-- a map
unfoldable pub mapping : ℕ → (Kind → ByteReader Node) → ByteReader Node
mapping levels value = and_then (number 4 most_bytes) (map_tail levels value)

-- ---- structs

abbrev pub of_kind : Kind → Option FieldType
of_kind kind = Some (of kind)

-- what a code says of its field's value: a flag itself, or its kind
unfoldable pub field_type : ℕ → ℕ → Option FieldType
field_type levels c =
    if c == 1 then Some (given true)
    else (if c == 2 then Some (given false) else option_and_then of_kind (kind_at levels c))

-- a field's header by the step from the id before and what the code says
abbrev pub header_of : ℤ → ℕ → FieldType → Option FieldHeader
header_of before delta type =
    if delta == 0 then Some (long type)
    else (if int_lt (before +ℤ pos delta) (pos 32768) then Some (step (before +ℤ pos delta) type) else None)

-- the first byte of a field, or the end of the fields
unfoldable pub field_header : ℕ → ℤ → ℕ → Option FieldHeader
field_header levels before b =
    if b == 0 then Some stop else option_and_then (header_of before (b / 16)) (field_type levels (b % 16))

-- the value of a field
abbrev pub typed : (Kind → ByteReader Node) → FieldType → ByteReader Node
typed value (given x) = pure (flag x)
typed value (of kind) = value kind

-- a value, and the fields behind it
abbrev pub with_field : (ℤ → ByteReader Fields) → ByteReader Node → ℤ → ByteReader Fields
with_field next value id = and_then value (λ x. and_then (next id) (λ xs. pure (field id x xs)))

-- what stands behind a field's first byte
abbrev pub field_tail : (Kind → ByteReader Node) → (ℤ → ByteReader Fields) → FieldHeader → ByteReader Fields
field_tail value next stop = pure no_fields
field_tail value next (step id type) = with_field next (typed value type) id
field_tail value next (long type) =
    and_then (signed 2 (2 ^ 16 - 1)) (λ id. with_field next (typed value type) id)

-- The first number bounds the fields. The count of the bytes is always enough.
unfoldable pub fields : ℕ → (Kind → ByteReader Node) → ℕ → ℤ → ByteReader Fields
fields levels value zero before = λ bytes. Err Ended
fields levels value (suc turns) before =
    and_then (one (field_header levels before)) (field_tail value (fields levels value turns))

-- the fields of a struct
abbrev pub all_fields : ℕ → (Kind → ByteReader Node) → ByteReader Fields
all_fields levels value = λ bytes. fields levels value (suc (length bytes)) (pos 0) bytes

-- ---- values

-- a value, where a container's parts are read by value
abbrev pub container : ℕ → (Kind → ByteReader Node) → Kind → ByteReader Node
container levels value k.List = sequence list levels value
container levels value k.Set = sequence set levels value
container levels value k.Map = mapping levels value
container levels value k.Struct = and_then (all_fields levels value) (λ xs. pure (structure xs))
container levels value kind = scalar kind

-- a value of a kind, where so many levels may open
unfoldable pub value : ℕ → Kind → ByteReader Node
value zero kind = scalar kind
value (suc levels) kind = container levels (value levels) kind

-- ---- as the code takes its steps

-- the id behind the first byte of a field
abbrev pub start_tail : FieldHeader → ByteReader (Option (ℤ × FieldType))
start_tail stop = pure None
start_tail (step id type) = pure (Some (id, type))
start_tail (long type) = and_then (signed 2 (2 ^ 16 - 1)) (λ id. pure (Some (id, type)))

-- the whole header of the next field, or the end
unfoldable pub field_start : ℕ → ℤ → ByteReader (Option (ℤ × FieldType))
field_start levels before = and_then (one (field_header levels before)) start_tail

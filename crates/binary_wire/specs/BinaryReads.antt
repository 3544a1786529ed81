-- Reading a value of Binary Protocol from left to right, as a function on lists of bytes. Private functions of the
-- code are stated by it; the public ones are stated by the grammar, against which it is proved exact.
use Rattle.std.specs.Prelude.{ℕ, zero, suc, if◌then◌else◌, nat_le, ◌==◌, ◌&&◌, cond, ℤ, Bool, true, [], ◌∷◌, length}
use Rattle.std.specs.Prelude.{Option, Some, None, option_and_then, Err}
use Rattle.std.specs.Int.{Width, w16, w32, w64, cast_signed}
use Rattle.byteorder.specs.Endian.{big_number}
use Rattle.exact_reading.specs.declared.stop.Stop.TheVariants.{Ended}
use Rattle.exact_reading.specs.Reading.{and_then, pure, one, taken}
use Rattle.compact_wire.specs.declared.kind.Kind.{Kind}
use Rattle.compact_wire.specs.declared.kind.Kind.TheVariants as k
use Rattle.compact_wire.specs.Node.{Node, flag, i8, i16, i32, i64, double, binary, list, set, map, structure}
use Rattle.compact_wire.specs.Node.{Nodes, Fields, no_fields, field}
use Rattle.compact_wire.specs.Bytes.{ByteReader}
use Rattle.compact_wire.specs.Codes.{code_of}
use Rattle.compact_wire.specs.Reads.{fits, if_fits, signed_byte, items, pairs}
use Rattle.binary_wire.specs.BinaryCodes.{binary_kind}
use Rattle.binary_wire.specs.BinaryGrammar.{flag_of, code_kept}

-- ---- numbers

unfoldable pub up_to : ℕ → ℕ → Option ℕ
up_to most b = if nat_le b most then Some b else None

-- A length or a size. Where what is counted does not fit, only 0.
unfoldable pub size : Bool → ByteReader ℕ
size fit =
    and_then (one (up_to (cond fit 127 0))) (λ a.
    and_then (one (up_to (cond fit 255 0))) (λ b.
    and_then (one (up_to (cond fit 255 0))) (λ c.
    and_then (one (up_to (cond fit 255 0))) (λ d. pure (big_number 4 (a ∷ b ∷ c ∷ d ∷ []))))))

abbrev pub signed : Width → ℕ → ByteReader ℤ
signed w n = and_then (taken n) (λ x. pure (cast_signed w (big_number n x)))

-- ---- scalars

unfoldable pub scalar : Kind → ByteReader Node
scalar k.Flag = and_then (one flag_of) (λ x. pure (flag x))
scalar k.I8 = and_then (one signed_byte) (λ x. pure (i8 x))
scalar k.I16 = and_then (signed w16 2) (λ x. pure (i16 x))
scalar k.I32 = and_then (signed w32 4) (λ x. pure (i32 x))
scalar k.I64 = and_then (signed w64 8) (λ x. pure (i64 x))
scalar k.Double = and_then (taken 8) (λ x. pure (double x))
scalar k.Binary = and_then (size true) (λ n. and_then (taken n) (λ x. pure (binary x)))
scalar _ = λ bytes. Err Ended

-- ---- containers

-- a list or a set
unfoldable pub row : (ℕ → Nodes → Node) → ℕ → (Kind → ByteReader Node) → ByteReader Node
row make levels value =
    and_then (one binary_kind) (λ kind.
    and_then (size (fits levels kind)) (λ n.
    and_then (items (value kind) n) (λ xs. pure (make (code_of kind) xs))))

-- a map
unfoldable pub mapping : ℕ → (Kind → ByteReader Node) → ByteReader Node
mapping levels value =
    and_then (one binary_kind) (λ a.
    and_then (one binary_kind) (λ b.
    and_then (size (fits levels a && fits levels b)) (λ n.
    and_then (pairs (value a) (value b) n) (λ xs. pure (map (code_kept n a) (code_kept n b) xs)))))

-- ---- structs

abbrev pub kind_found : Kind → Option (Option Kind)
kind_found kind = Some (Some kind)

-- the first byte of a field, of a kind that fits, or the end of the fields
unfoldable pub field_code : ℕ → ℕ → Option (Option Kind)
field_code levels b =
    if b == 0 then Some None
    else option_and_then kind_found (option_and_then (if_fits levels) (binary_kind b))

-- the id behind it
abbrev pub start_tail : Option Kind → ByteReader (Option (Kind × ℤ))
start_tail None = pure None
start_tail (Some kind) = and_then (signed w16 2) (λ id. pure (Some (kind, id)))

-- the kind and the id of the next field, or the end
unfoldable pub field_start : ℕ → ByteReader (Option (Kind × ℤ))
field_start levels = and_then (one (field_code levels)) start_tail

-- the value of a field, and the fields behind it
abbrev pub with_field : (Kind → ByteReader Node) → ByteReader Fields → Kind → ℤ → ByteReader Fields
with_field value next kind id = and_then (value kind) (λ x. and_then next (λ xs. pure (field id x xs)))

-- what stands behind a field's first byte
abbrev pub field_tail : (Kind → ByteReader Node) → ByteReader Fields → Option Kind → ByteReader Fields
field_tail value next None = pure no_fields
field_tail value next (Some kind) = and_then (signed w16 2) (with_field value next kind)

-- The first number bounds the fields. The count of the bytes is always enough.
unfoldable pub fields : ℕ → (Kind → ByteReader Node) → ℕ → ByteReader Fields
fields levels value zero = λ bytes. Err Ended
fields levels value (suc turns) =
    and_then (one (field_code levels)) (field_tail value (fields levels value turns))

-- the fields of a struct
abbrev pub all_fields : ℕ → (Kind → ByteReader Node) → ByteReader Fields
all_fields levels value = λ bytes. fields levels value (suc (length bytes)) bytes

-- ---- values

-- a value, where a container's parts are read by value
abbrev pub container : ℕ → (Kind → ByteReader Node) → Kind → ByteReader Node
container levels value k.List = row list levels value
container levels value k.Set = row set levels value
container levels value k.Map = mapping levels value
container levels value k.Struct = and_then (all_fields levels value) (λ xs. pure (structure xs))
container levels value kind = scalar kind

-- a value of a kind, where so many levels may open
unfoldable pub value : ℕ → Kind → ByteReader Node
value zero kind = scalar kind
value (suc levels) kind = container levels (value levels) kind

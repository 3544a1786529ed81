-- Type codes of Binary Protocol.
use Rattle.std.specs.Prelude.{ℕ, if◌then◌else◌, ◌==◌, Option, Some, None}
use Rattle.compact_wire.specs.declared.kind.Kind.{Kind}
use Rattle.compact_wire.specs.declared.kind.Kind.TheVariants as k

abbrev pub binary_code : Kind → ℕ
binary_code k.Flag = 2
binary_code k.I8 = 3
binary_code k.Double = 4
binary_code k.I16 = 6
binary_code k.I32 = 8
binary_code k.I64 = 10
binary_code k.Binary = 11
binary_code k.Struct = 12
binary_code k.Map = 13
binary_code k.Set = 14
binary_code k.List = 15

-- the kind of a code; no other code is one
unfoldable pub binary_kind : ℕ → Option Kind
binary_kind c =
    if c == 2 then Some k.Flag
    else (if c == 3 then Some k.I8
    else (if c == 4 then Some k.Double
    else (if c == 6 then Some k.I16
    else (if c == 8 then Some k.I32
    else (if c == 10 then Some k.I64
    else (if c == 11 then Some k.Binary
    else (if c == 12 then Some k.Struct
    else (if c == 13 then Some k.Map
    else (if c == 14 then Some k.Set
    else (if c == 15 then Some k.List else None))))))))))

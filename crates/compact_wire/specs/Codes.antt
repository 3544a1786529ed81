-- Type codes.
use Rattle.std.specs.Prelude.{ℕ, if◌then◌else◌, ◌==◌, ◌||◌, Option, Some, None}
use Rattle.compact_wire.specs.declared.kind.Kind.{Kind}
use Rattle.compact_wire.specs.declared.kind.Kind.TheVariants as k

-- the code that is kept and written; a flag in a container is written by code 1
abbrev pub code_of : Kind → ℕ
code_of k.Flag = 1
code_of k.I8 = 3
code_of k.I16 = 4
code_of k.I32 = 5
code_of k.I64 = 6
code_of k.Double = 7
code_of k.Binary = 8
code_of k.List = 9
code_of k.Set = 10
code_of k.Map = 11
code_of k.Struct = 12

-- the kind of a code that is read: 1 and 2 are both flags, and 0 and 13 to 15 are no kind
unfoldable pub kind_of : ℕ → Option Kind
kind_of c =
    if c == 1 || c == 2 then Some k.Flag
    else (if c == 3 then Some k.I8
    else (if c == 4 then Some k.I16
    else (if c == 5 then Some k.I32
    else (if c == 6 then Some k.I64
    else (if c == 7 then Some k.Double
    else (if c == 8 then Some k.Binary
    else (if c == 9 then Some k.List
    else (if c == 10 then Some k.Set
    else (if c == 11 then Some k.Map
    else (if c == 12 then Some k.Struct else None))))))))))

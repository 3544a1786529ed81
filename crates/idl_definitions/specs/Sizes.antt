-- The measures of a type as the code counts them: up to a greatest, which is beyond every limit.
use Rattle.std.specs.Prelude.{ℕ, ◌+◌, max, min, nat_lt, if◌then◌else◌, ◌||◌, Result, Ok, Err}
use Rattle.idl_fields.specs.declared.sizes.Size.{Size}
use Rattle.idl_grammar.specs.declared.fault.Fault.{Fault}
use Rattle.idl_grammar.specs.declared.fault.Fault.TheVariants.{TooDeep, TooManyNodes, StructTooWide}
use Rattle.idl_profile.specs.declared.kinds.Need.{Need}
use Rattle.idl_profile.specs.declared.kinds.Need.TheVariants.{Plain, Required, Optional}
use Rattle.idl_profile.specs.Types.{TypeTree, Fields}
use Rattle.idl_profile.specs.Measures.{depth, depths, nodes, all_nodes, bits, all_bits, widest, all_widest}

abbrev pub add : ℕ → ℕ → ℕ
add a b = min (a + b) 65535

abbrev pub cap : ℕ → ℕ
cap n = min n 65535

abbrev pub make_size : ℕ → ℕ → ℕ → ℕ → Size
make_size d n b w = record { depth = d; nodes = n; bits = b; widest = w }

unfoldable pub size : TypeTree → Size
size t = make_size (cap (depth t)) (cap (nodes t)) (cap (bits t)) (cap (widest t))

-- of the fields of a struct
unfoldable pub inside : Fields → Size
inside bs = make_size (cap (depths bs)) (cap (all_nodes bs)) (cap (all_bits bs)) (cap (all_widest bs))

abbrev pub row_size : Size → Size
row_size s = make_size (add s.depth 1) (add s.nodes 3) 64 s.widest

abbrev pub table_size : Size → Size → Size
table_size s t = make_size (add (max s.depth t.depth) 1) (add (add s.nodes t.nodes) 4) 64 (max (add s.bits t.bits) (max s.widest t.widest))

abbrev pub extra : Need → ℕ → ℕ
extra Optional n = n
extra Plain n = 0
extra Required n = 0

abbrev pub with_branch : Need → Size → Size → Size
with_branch need t s = make_size (max t.depth s.depth) (add (add t.nodes (extra need 2)) s.nodes) (add (add t.bits (extra need 1)) s.bits) (max t.widest s.widest)

abbrev pub struct_size : Size → Size
struct_size s = make_size (add s.depth 1) (add s.nodes 1) s.bits s.widest

abbrev pub judged_size : Size → Result (Unit {0}) Fault
judged_size s =
    if nat_lt 32 s.depth then Err TooDeep
    else (if nat_lt 4096 s.nodes then Err TooManyNodes
    else (if nat_lt 32767 s.bits || nat_lt 32767 s.widest then Err StructTooWide else Ok tt))

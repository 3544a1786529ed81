-- The spellings of a struct are read exactly, with what follows of that.
use Rattle.std.proofs.Common.{◌≡◌, ℕ, List, [], ◌++◌, refl}
use Rattle.exact_reading.specs.Exact.{Exact}
use Rattle.exact_reading.proofs.CauseLaws.{nothing_follows, one_value}
use Rattle.compact_wire.specs.declared.kind.Kind.TheVariants as k
use Rattle.compact_wire.specs.Bytes.{IsByte, ByteReader}
use Rattle.compact_wire.specs.Node.{Node}
use Rattle.binary_wire.specs.BinaryGrammar.{BinarySpells}
use Rattle.binary_wire.specs.BinaryReads.{value}
use Rattle.binary_wire.proofs.ReadStructs.{value_layer}

abbrev pub struct_reader : ByteReader Node
struct_reader = value 64 k.Struct

pub struct_exact : (n : ℕ) → Exact IsByte n BinarySpells struct_reader
struct_exact n = (value_layer 64).exact k.Struct refl n

pub none_behind : (v w : Node) (s rest : List ℕ) → BinarySpells v s → BinarySpells w (s ++ rest) → rest ≡ []
none_behind = nothing_follows IsByte BinarySpells struct_reader struct_exact

pub one_tree : (v w : Node) (s : List ℕ) → BinarySpells v s → BinarySpells w s → v ≡ w
one_tree = one_value IsByte BinarySpells struct_reader struct_exact

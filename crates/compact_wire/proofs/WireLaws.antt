-- The spellings of a struct are read exactly, with what follows of that.
use Rattle.std.proofs.Common.{◌≡◌, ℕ, List, [], ◌++◌, sym, refl}
use Rattle.std.proofs.lemmas.List.{append-nil}
use Rattle.exact_reading.specs.Exact.{Exact}
use Rattle.exact_reading.proofs.CauseLaws.{no_prefix, one_value}
use Rattle.compact_wire.specs.declared.kind.Kind.TheVariants as k
use Rattle.compact_wire.specs.Bytes.{IsByte, ByteReader}
use Rattle.compact_wire.specs.Node.{Node}
use Rattle.compact_wire.specs.Reads.{value}
use Rattle.compact_wire.specs.Spells.{SpellsWire}
use Rattle.compact_wire.proofs.StructLaws.{value_layer}

abbrev pub wire : ByteReader Node
wire = value 64 k.Struct

pub wire_exact : (n : ℕ) → Exact IsByte n SpellsWire wire
wire_exact n = (value_layer 64).exact k.Struct refl n

pub nothing_follows : (v w : Node) (s rest : List ℕ) → SpellsWire v s → SpellsWire w (s ++ rest) → rest ≡ []
nothing_follows v w s rest p q =
    (no_prefix IsByte SpellsWire wire wire_exact v w s (s ++ rest) rest [] p q
    (sym (append-nil (s ++ rest)))).2

pub one_node : (v w : Node) (s : List ℕ) → SpellsWire v s → SpellsWire w s → v ≡ w
one_node = one_value IsByte SpellsWire wire wire_exact

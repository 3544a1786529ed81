-- The answers of decoding what was transcoded, as answers on the bytes of Binary Protocol.
use Rattle.std.proofs.Common.{◌≡◌, inl, inr, ℕ, List, Result, Ok, Err, refl, sym, ap, subst}
use Rattle.compact_wire.specs.declared.fault.WireFault.{WireFault}
use Rattle.compact_wire.specs.declared.fault.WireFault.TheVariants.{Truncated, Malformed, Trailing, NoMemory}
use Rattle.compact_wire.specs.Bytes.{IsByte}
use Rattle.compact_wire.specs.Canon.{canon}
use Rattle.compact_wire.specs.Node.{Node}
use Rattle.compact_wire.specs.Spells.{SpellsWire}
use Rattle.compact_wire.proofs.CanonLaws.{canonical}
use Rattle.compact_wire.proofs.WireLaws.{wire, wire_exact, one_node}
use Rattle.exact_reading.proofs.CauseLaws.{text_not_truncated, text_not_malformed, text_not_trailing}
use Rattle.wire_scan.specs.Scanned.{IsScanned}
use Rattle.binary_wire.specs.BinaryAnswers.{IsTranscoded, IsUnspelled, OrMemory as OrNoMemory}
use Rattle.binary_wire.specs.BinaryGrammar.{BinarySpells}
use Rattle.binary_wire.proofs.AsCompact.{fits_wire}
use Rattle.binary_wire.proofs.Answering.{not_both, one_fault}
use Rattle.binary_wire.proofs.ReadWhole.{one_tree}
use Rattle.frozen_model.specs.Values.{Value}
use Rattle.idl_profile.specs.Types.{TypeTree}
use Rattle.typed_reading.specs.declared.fault.NodeFault.{NodeFault}
use Rattle.typed_reading.specs.declared.fault.ValueFault.{ValueFault}
use Rattle.typed_reading.specs.declared.fault.ValueFault.TheVariants as fault
use Rattle.typed_reading.specs.Answers.{IsLeastFault, IsValue}
use Rattle.compact_codec.specs.Decoding.{IsDecoded, IsOnlyDecoded}
use Rattle.binary_codec.specs.BinaryDecoding.{IsLeastInBinary, IsBinaryValue, IsBinaryDecoded, IsOnlyBinaryDecoded}

module _ (t : TypeTree) (b out : List ℕ) (is : IsTranscoded b (Ok out)) where
  -- both spell the same trees

  spelled_out : SpellsWire is.0 out
  spelled_out = subst (SpellsWire is.0) (sym is.2) (canonical is.0 (fits_wire is.0 b is.1))

  to_binary : (w : Node) → SpellsWire w out → BinarySpells w b
  to_binary w p = subst (λ (x : Node). BinarySpells x b) (sym (one_node w is.0 out p spelled_out)) is.1

  to_compact : (w : Node) → BinarySpells w b → SpellsWire w out
  to_compact w p = subst (λ (x : Node). SpellsWire x out) (sym (one_tree w is.0 b p is.1)) spelled_out

  least_is : (n : ℕ) (k : NodeFault) → IsLeastFault t out n k → IsLeastInBinary t b n k
  least_is n k (w, p, e) = (w, to_binary w p, e)

  -- what was transcoded is a spelling
  scanned : (f : WireFault) → IsScanned out (Err f) → ⊥
  scanned Truncated d = text_not_truncated IsByte SpellsWire wire wire_exact out is.0 spelled_out d
  scanned (Malformed p) d = text_not_malformed IsByte SpellsWire wire wire_exact out is.0 p spelled_out d
  scanned (Trailing p) d = text_not_trailing IsByte SpellsWire wire wire_exact out is.0 p spelled_out d
  scanned NoMemory d = d

  pub decoded_is : (r : Result Value ValueFault) → IsDecoded t out r → IsBinaryDecoded t b r
  decoded_is (Ok v) (w, p, typed, few) = (w, to_binary w p, typed, few)
  decoded_is (Err (fault.Wire f)) d = absurd (scanned f d)
  decoded_is (Err (fault.RepeatedField n)) d = least_is n _ d
  decoded_is (Err (fault.MissingRequired n id)) d = least_is n _ d
  decoded_is (Err (fault.WrongType n)) d = least_is n _ d
  decoded_is (Err (fault.BadText n)) d = least_is n _ d
  decoded_is (Err (fault.RepeatedKey n)) d = least_is n _ d
  decoded_is (Err (fault.TooManyCells n)) (w, v, more, e) = (w, record { spelled = to_binary w v.spelled; clean = v.clean }, more, e)
  decoded_is (Err fault.NoMemory) d = tt

  pub only_decoded : (r : Result Value ValueFault) → IsOnlyDecoded t out r → IsOnlyBinaryDecoded t b r
  only_decoded r o = record {
    wire = λ f d. absurd (not_both b is.0 is.1 f d);
    faulty = λ n k (w, p, e). o.faulty n k (w, to_compact w p, e);
    too_many = λ w v more. o.too_many w (record { spelled = to_compact w v.spelled; clean = v.clean }) more;
    value = λ w v p typed few. o.value w v (to_compact w p) typed few;
  }

-- the bytes spell nothing
pub only_unspelled : (t : TypeTree) (b : List ℕ) (f : WireFault) → IsUnspelled b f → IsOnlyBinaryDecoded t b (Err (fault.Wire f))
only_unspelled t b f d = record {
  wire = λ g e. inl (ap (λ (x : WireFault). Err (fault.Wire x)) (one_fault b f g d e));
  faulty = λ n k (w, p, e). absurd (not_both b w p f d);
  too_many = λ w v more. absurd (not_both b w v.spelled f d);
  value = λ w v p typed few. absurd (not_both b w p f d);
}

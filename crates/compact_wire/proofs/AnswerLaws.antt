-- The causes of the answers exclude each other, so each answer is given where its cause holds.
use Rattle.std.proofs.Common.{ℕ, inl, inr, List, Result, Ok, Err, refl, ap}
use Rattle.exact_reading.proofs.CauseLaws.{text_not_truncated, text_not_malformed, text_not_trailing}
use Rattle.exact_reading.proofs.CauseLaws.{truncated_not_malformed, truncated_not_trailing}
use Rattle.exact_reading.proofs.CauseLaws.{malformed_not_trailing, one_place, one_trail}
use Rattle.compact_wire.specs.declared.wire.Wire.{Wire}
use Rattle.compact_wire.specs.declared.fault.WireFault.{WireFault}
use Rattle.compact_wire.specs.declared.fault.WireFault.TheVariants.{Truncated, Malformed, Trailing, NoMemory}
use Rattle.compact_wire.specs.Bytes.{IsByte}
use Rattle.compact_wire.specs.Spells.{SpellsWire}
use Rattle.compact_wire.specs.View.{view}
use Rattle.compact_wire.specs.WireAnswers.{IsWireAnswer, IsOnlyWireAnswer}
use Rattle.compact_wire.proofs.WireLaws.{wire, wire_exact, one_node}

pub only_of : (b : List ℕ) (r : Result Wire WireFault) → IsWireAnswer b r → IsOnlyWireAnswer b r
only_of b (Ok x) is = record {
  spelled = λ w p. one_node (view x) w b is p;
  truncated = λ t. absurd (text_not_truncated IsByte SpellsWire wire wire_exact b (view x) is t);
  malformed = λ p d. absurd (text_not_malformed IsByte SpellsWire wire wire_exact b (view x) p is d);
  trailing = λ p d. absurd (text_not_trailing IsByte SpellsWire wire wire_exact b (view x) p is d);
}
only_of b (Err Truncated) is = record {
  spelled = λ w p. absurd (text_not_truncated IsByte SpellsWire wire wire_exact b w p is);
  truncated = λ t. inl refl;
  malformed = λ p d. absurd (truncated_not_malformed IsByte SpellsWire wire wire_exact b p is d);
  trailing = λ p d. absurd (truncated_not_trailing IsByte SpellsWire wire wire_exact b p is d);
}
only_of b (Err (Malformed q)) is = record {
  spelled = λ w p. absurd (text_not_malformed IsByte SpellsWire wire wire_exact b w q p is);
  truncated = λ t. absurd (truncated_not_malformed IsByte SpellsWire wire wire_exact b q t is);
  malformed =
      λ p d. inl (ap (λ (n : ℕ). Err (Malformed n)) (one_place IsByte SpellsWire wire wire_exact b q p is d));
  trailing = λ p d. absurd (malformed_not_trailing IsByte SpellsWire wire wire_exact b q p is d);
}
only_of b (Err (Trailing q)) is = record {
  spelled = λ w p. absurd (text_not_trailing IsByte SpellsWire wire wire_exact b w q p is);
  truncated = λ t. absurd (truncated_not_trailing IsByte SpellsWire wire wire_exact b q t is);
  malformed = λ p d. absurd (malformed_not_trailing IsByte SpellsWire wire wire_exact b p q d is);
  trailing =
      λ p d. inl (ap (λ (n : ℕ). Err (Trailing n)) (one_trail IsByte SpellsWire wire wire_exact b q p is d));
}
only_of b (Err NoMemory) is = record {
  spelled = λ w p. refl;
  truncated = λ t. inr refl;
  malformed = λ p d. inr refl;
  trailing = λ p d. inr refl;
}

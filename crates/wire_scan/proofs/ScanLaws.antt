-- The causes of the answers exclude each other, so each answer is given where its cause holds.
use Rattle.std.proofs.Common.{ℕ, List, Result, Ok, Err, refl, ap}
use Rattle.exact_reading.proofs.CauseLaws.{text_not_truncated, text_not_malformed, text_not_trailing, truncated_not_malformed, truncated_not_trailing, malformed_not_trailing, one_place, one_trail}
use Rattle.compact_wire.specs.declared.fault.WireFault.{WireFault}
use Rattle.compact_wire.specs.declared.fault.WireFault.TheVariants.{Truncated, Malformed, Trailing, NoMemory}
use Rattle.compact_wire.specs.Bytes.{IsByte}
use Rattle.compact_wire.specs.Spells.{SpellsWire}
use Rattle.compact_wire.proofs.WireLaws.{wire, wire_exact}
use Rattle.wire_scan.specs.Scanned.{IsScanned, IsScannedOnly}

pub scanned_only : (b : List ℕ) (r : Result (Unit {0}) WireFault) → IsScanned b r → IsScannedOnly b r
scanned_only b (Ok u) is = record {
  spelled = λ w p. refl;
  truncated = λ t. absurd (text_not_truncated IsByte SpellsWire wire wire_exact b is.0 is.1 t);
  malformed = λ p d. absurd (text_not_malformed IsByte SpellsWire wire wire_exact b is.0 p is.1 d);
  trailing = λ p d. absurd (text_not_trailing IsByte SpellsWire wire wire_exact b is.0 p is.1 d);
}
scanned_only b (Err Truncated) is = record {
  spelled = λ w p. absurd (text_not_truncated IsByte SpellsWire wire wire_exact b w p is);
  truncated = λ t. refl;
  malformed = λ p d. absurd (truncated_not_malformed IsByte SpellsWire wire wire_exact b p is d);
  trailing = λ p d. absurd (truncated_not_trailing IsByte SpellsWire wire wire_exact b p is d);
}
scanned_only b (Err (Malformed q)) is = record {
  spelled = λ w p. absurd (text_not_malformed IsByte SpellsWire wire wire_exact b w q p is);
  truncated = λ t. absurd (truncated_not_malformed IsByte SpellsWire wire wire_exact b q t is);
  malformed = λ p d. ap (λ (n : ℕ). Err (Malformed n)) (one_place IsByte SpellsWire wire wire_exact b q p is d);
  trailing = λ p d. absurd (malformed_not_trailing IsByte SpellsWire wire wire_exact b q p is d);
}
scanned_only b (Err (Trailing q)) is = record {
  spelled = λ w p. absurd (text_not_trailing IsByte SpellsWire wire wire_exact b w q p is);
  truncated = λ t. absurd (truncated_not_trailing IsByte SpellsWire wire wire_exact b q t is);
  malformed = λ p d. absurd (malformed_not_trailing IsByte SpellsWire wire wire_exact b p q d is);
  trailing = λ p d. ap (λ (n : ℕ). Err (Trailing n)) (one_trail IsByte SpellsWire wire wire_exact b q p is d);
}
scanned_only b (Err NoMemory) is = absurd is

-- A whole struct.
use Rattle.std.proofs.Common.{◌≡◌, ℕ, List, length, ◌-◌, Ok, Err, refl, sym, ap, ◌∙◌}
use Rattle.exact_reading.specs.declared.stop.Stop.{Stop}
use Rattle.exact_reading.specs.declared.stop.Stop.TheVariants.{Ended, Refused}
use Rattle.exact_reading.specs.declared.stop.ReadError.{ReadError}
use Rattle.exact_reading.specs.declared.stop.ReadError.TheVariants as errors
use Rattle.exact_reading.specs.Reading.{and_then, pure, seen, Fails}
use Rattle.exact_reading.specs.Causes.{IsTruncated, IsMalformed, IsTrailing}
use Rattle.exact_reading.proofs.CauseLaws.{ended_is, refused_is, whole_is, rest_is}
use Rattle.compact_wire.specs.Bytes.{IsByte, AreBytes, ByteReader}
use Rattle.compact_wire.specs.Node.{Node, structure}
use Rattle.compact_wire.specs.Reads.{value, all_fields}
use Rattle.compact_wire.specs.Spells.{SpellsWire}
use Rattle.compact_wire.proofs.WireLaws.{wire, wire_exact}
use Rattle.idl_profile.specs.Types.{TypeTree}
use Rattle.wire_scan.proofs.Seen.{seen_ok, seen_err}
use Rattle.typed_reading.specs.declared.progress.Progress.{Progress}
use Rattle.typed_reading.specs.Progress.{start, after}

abbrev pub struct_bytes : ByteReader Node
struct_bytes = and_then (all_fields 63 (value 63)) (λ xs. pure (structure xs))

pub wire_is : (b : List ℕ) → struct_bytes b ≡ wire b
unfolding value
wire_is b = refl

module _ (t : TypeTree) (b : List ℕ) (h : AreBytes b) where
  pub known : (last : Progress) (rest : List ℕ) → seen (after t start) (struct_bytes b) ≡ Ok (last, rest) → length rest ≡ 0 → (w : Node) × SpellsWire w b × (last ≡ after t start w)
  known last rest e none =
      let x = seen_ok (after t start) (struct_bytes b) last rest e in
      (x.0, whole_is IsByte SpellsWire wire wire_exact b rest x.0 h (sym (wire_is b) ∙ x.1) none, sym x.2)

  pub trailing : (last : Progress) (rest : List ℕ) → seen (after t start) (struct_bytes b) ≡ Ok (last, rest) → (length rest ≡ 0 → ⊥) → IsTrailing SpellsWire b (length b - length rest)
  trailing last rest e some = let x = seen_ok (after t start) (struct_bytes b) last rest e in rest_is IsByte SpellsWire wire wire_exact b rest x.0 h (sym (wire_is b) ∙ x.1) some

  stops : (e : ReadError Stop) (s d : Stop) → e ≡ errors.Stop s → s ≡ d → Fails e (seen (after t start) (struct_bytes b)) → wire b ≡ Err d
  stops errors.NoMemory s d p q f = absurd cc
  stops (errors.Stop c) s d p q f = let same : c ≡ d = cc in sym (wire_is b) ∙ seen_err (after t start) (struct_bytes b) c f ∙ ap Err same

  pub truncated : (e : ReadError Stop) (s : Stop) → e ≡ errors.Stop s → s ≡ Ended → Fails e (seen (after t start) (struct_bytes b)) → IsTruncated SpellsWire b
  truncated e s p q f = ended_is IsByte SpellsWire wire wire_exact b h (stops e s Ended p q f)

  pub malformed : (e : ReadError Stop) (s : Stop) (l : ℕ) → e ≡ errors.Stop s → s ≡ Refused l → Fails e (seen (after t start) (struct_bytes b)) → IsMalformed SpellsWire b (length b - l)
  malformed e s l p q f = refused_is IsByte SpellsWire wire wire_exact b l h (stops e s (Refused l) p q f)

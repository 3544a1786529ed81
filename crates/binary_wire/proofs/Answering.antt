-- The answers of transcoding have their causes, and each is given where its cause holds.
use Rattle.std.proofs.Common.{◌≡◌, ◌⊎◌, inl, inr, ℕ, ◌-◌, List, [], length, Result, Ok, Err, refl, sym, ap, subst, ◌∙◌}
use Rattle.exact_reading.specs.declared.stop.Stop.{Stop}
use Rattle.exact_reading.specs.declared.stop.Stop.TheVariants.{Ended, Refused}
use Rattle.exact_reading.specs.declared.stop.ReadError.{ReadError}
use Rattle.exact_reading.specs.declared.stop.ReadError.TheVariants as errors
use Rattle.exact_reading.specs.Reading.{seen, Fails}
use Rattle.exact_reading.specs.Causes.{IsTruncated, IsMalformed, IsTrailing}
use Rattle.exact_reading.proofs.CauseLaws.{whole_is, rest_is, ended_is, refused_is, text_not_truncated, text_not_malformed, text_not_trailing, truncated_not_malformed, truncated_not_trailing, malformed_not_trailing, one_place, one_trail}
use Rattle.compact_wire.specs.declared.fault.WireFault.{WireFault}
use Rattle.compact_wire.specs.declared.fault.WireFault.TheVariants.{Truncated, Malformed, Trailing, NoMemory}
use Rattle.compact_wire.specs.Bytes.{IsByte, AreBytes}
use Rattle.compact_wire.specs.Canon.{canon}
use Rattle.compact_wire.specs.Node.{Node}
use Rattle.compact_wire.specs.Spells.{SpellsWire}
use Rattle.compact_wire.proofs.CanonLaws.{canonical}
use Rattle.compact_wire.proofs.WireLaws.{one_node}
use Rattle.wire_scan.proofs.Seen.{seen_ok, seen_err}
use Rattle.binary_wire.specs.Appends.{with_value}
use Rattle.binary_wire.specs.BinaryAnswers.{IsUnspelled, IsFault, IsTranscoded, IsOnlyTranscoded, IsBinaryAnswer, IsOnlyBinaryAnswer}
use Rattle.binary_wire.specs.BinaryGrammar.{BinarySpells}
use Rattle.binary_wire.proofs.AsCompact.{fits_wire}
use Rattle.binary_wire.proofs.ReadWhole.{struct_reader, struct_exact, one_tree}

module _ (b : List ℕ) where
  -- ---- the causes exclude each other

  pub not_both : (w : Node) → BinarySpells w b → (f : WireFault) → IsUnspelled b f → ⊥
  not_both w p Truncated d = text_not_truncated IsByte BinarySpells struct_reader struct_exact b w p d
  not_both w p (Malformed q) d = text_not_malformed IsByte BinarySpells struct_reader struct_exact b w q p d
  not_both w p (Trailing q) d = text_not_trailing IsByte BinarySpells struct_reader struct_exact b w q p d
  not_both w p NoMemory d = d

  pub one_fault : (f g : WireFault) → IsUnspelled b f → IsUnspelled b g → f ≡ g
  one_fault Truncated Truncated d e = refl
  one_fault Truncated (Malformed q) d e = absurd (truncated_not_malformed IsByte BinarySpells struct_reader struct_exact b q d e)
  one_fault Truncated (Trailing q) d e = absurd (truncated_not_trailing IsByte BinarySpells struct_reader struct_exact b q d e)
  one_fault (Malformed p) Truncated d e = absurd (truncated_not_malformed IsByte BinarySpells struct_reader struct_exact b p e d)
  one_fault (Malformed p) (Malformed q) d e = ap Malformed (one_place IsByte BinarySpells struct_reader struct_exact b p q d e)
  one_fault (Malformed p) (Trailing q) d e = absurd (malformed_not_trailing IsByte BinarySpells struct_reader struct_exact b p q d e)
  one_fault (Trailing p) Truncated d e = absurd (truncated_not_trailing IsByte BinarySpells struct_reader struct_exact b p e d)
  one_fault (Trailing p) (Malformed q) d e = absurd (malformed_not_trailing IsByte BinarySpells struct_reader struct_exact b q p e d)
  one_fault (Trailing p) (Trailing q) d e = ap Trailing (one_trail IsByte BinarySpells struct_reader struct_exact b p q d e)
  one_fault f NoMemory d e = absurd e
  one_fault NoMemory g d e = absurd d

  pub fault_is : (f : WireFault) → IsFault b f → (f ≡ NoMemory) ⊎ IsUnspelled b f
  fault_is NoMemory d = inl refl
  fault_is Truncated d = inr d
  fault_is (Malformed p) d = inr d
  fault_is (Trailing p) d = inr d

  pub only_transcoded : (r : Result (List ℕ) WireFault) → IsTranscoded b r → IsOnlyTranscoded b r
  only_transcoded (Ok out) is = record {
    spelled = λ w p. inl (ap Ok (is.2 ∙ ap canon (one_tree is.0 w b is.1 p)));
    unspelled = λ f d. absurd (not_both is.0 is.1 f d);
  }
  only_transcoded (Err f) is =
      elim (fault_is f is) [
        | inl none ↦ record { spelled = λ w p. inr (ap Err none); unspelled = λ g d. inr (ap Err none) }
        | inr d ↦ record { spelled = λ w p. absurd (not_both w p f d); unspelled = λ g e. inl (ap Err (one_fault f g d e)) }
      ]

  pub only_read : (r : Result Node WireFault) → IsBinaryAnswer b r → IsOnlyBinaryAnswer b r
  only_read (Ok v) is = record {
    spelled = λ w p. inl (ap Ok (one_tree v w b is p));
    unspelled = λ f d. absurd (not_both v is f d);
  }
  only_read (Err f) is =
      elim (fault_is f is) [
        | inl none ↦ record { spelled = λ w p. inr (ap Err none); unspelled = λ g d. inr (ap Err none) }
        | inr d ↦ record { spelled = λ w p. absurd (not_both w p f d); unspelled = λ g e. inl (ap Err (one_fault f g d e)) }
      ]

  -- ---- what was transcoded

  module _ (bytes : AreBytes b) (start : List ℕ) (none : start ≡ []) where
    whole_read : (out rest : List ℕ) → seen (with_value []) (struct_reader b) ≡ Ok (out, rest) → length rest ≡ 0 → IsTranscoded b (Ok out)
    whole_read out rest e empty =
        let x = seen_ok (with_value []) (struct_reader b) out rest e in
        (x.0, whole_is IsByte BinarySpells struct_reader struct_exact b rest x.0 bytes x.1 empty, sym x.2)

    pub transcoded_is : (out rest : List ℕ) → seen (with_value start) (struct_reader b) ≡ Ok (out, rest) → length rest ≡ 0 → IsTranscoded b (Ok out)
    transcoded_is out rest e empty = whole_read out rest (subst (λ (z : List ℕ). seen (with_value z) (struct_reader b) ≡ Ok (out, rest)) none e) empty

    pub trailing_is : (out rest : List ℕ) → seen (with_value start) (struct_reader b) ≡ Ok (out, rest) → (length rest ≡ 0 → ⊥) → IsTrailing BinarySpells b (length b - length rest)
    trailing_is out rest e some =
        let x = seen_ok (with_value start) (struct_reader b) out rest e in
        rest_is IsByte BinarySpells struct_reader struct_exact b rest x.0 bytes x.1 some

    stops : (e : ReadError Stop) (s d : Stop) → e ≡ errors.Stop s → s ≡ d → Fails e (seen (with_value start) (struct_reader b)) → struct_reader b ≡ Err d
    stops e s d is same f = seen_err (with_value start) (struct_reader b) d (subst (λ (x : ReadError Stop). Fails x (seen (with_value start) (struct_reader b))) (is ∙ ap (λ (x : Stop). errors.Stop x) same) f)

    pub truncated_is : (e : ReadError Stop) (s : Stop) → e ≡ errors.Stop s → s ≡ Ended → Fails e (seen (with_value start) (struct_reader b)) → IsTruncated BinarySpells b
    truncated_is e s is same f = ended_is IsByte BinarySpells struct_reader struct_exact b bytes (stops e s Ended is same f)

    pub malformed_is : (e : ReadError Stop) (s : Stop) (l : ℕ) → e ≡ errors.Stop s → s ≡ Refused l → Fails e (seen (with_value start) (struct_reader b)) → IsMalformed BinarySpells b (length b - l)
    malformed_is e s l is same f = refused_is IsByte BinarySpells struct_reader struct_exact b l bytes (stops e s (Refused l) is same f)

  -- ---- what is read of it

  pub read_is : (out : List ℕ) (v : Node) → IsTranscoded b (Ok out) → SpellsWire v out → BinarySpells v b
  read_is out v is p =
      let same : v ≡ is.0 = one_node v is.0 (canon is.0) (subst (SpellsWire v) is.2 p) (canonical is.0 (fits_wire is.0 b is.1)) in
      subst (λ (x : Node). BinarySpells x b) (sym same) is.1

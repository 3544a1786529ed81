-- The answers of a whole struct, and that each is given where its cause holds.
use Rattle.std.proofs.Common.{◌≡◌, inl, inr, ℕ, List, Some, None, Result, Ok, Err, refl, sym, ap, ◌∙◌}
use Rattle.compact_wire.specs.declared.fault.WireFault.{WireFault}
use Rattle.compact_wire.specs.declared.fault.WireFault.TheVariants.{Truncated, Malformed, Trailing, NoMemory}
use Rattle.compact_wire.specs.Node.{Node}
use Rattle.compact_wire.specs.Spells.{SpellsWire}
use Rattle.compact_wire.proofs.WireLaws.{one_node}
use Rattle.wire_scan.specs.Scanned.{IsScanned}
use Rattle.wire_scan.proofs.ScanLaws.{scanned_only}
use Rattle.idl_profile.specs.Types.{TypeTree}
use Rattle.typed_reading.specs.declared.fault.NodeFault.{NodeFault}
use Rattle.typed_reading.specs.declared.fault.NodeFault.TheVariants as node
use Rattle.typed_reading.specs.declared.fault.Found.{Found}
use Rattle.typed_reading.specs.declared.fault.ValueFault.{ValueFault}
use Rattle.typed_reading.specs.declared.fault.ValueFault.TheVariants as fault
use Rattle.typed_reading.specs.Faults.{faults, here, least}
use Rattle.typed_reading.specs.Answers.{fault_at, IsValue, IsCaused, IsUnread, IsOnlyCaused}
use Rattle.typed_reading.proofs.LeastLaws.{least_none}

module _ (t : TypeTree) (b : List ℕ) where
  pub sound_is : (w : Node) → SpellsWire w b → least (faults w t 0) ≡ None → IsValue t b w
  sound_is w s e = record { spelled = s; clean = least_none (faults w t 0) e }

  pub fault_is : (w : Node) (n : ℕ) (k : NodeFault) → SpellsWire w b → least (faults w t 0) ≡ Some (here n k) → IsCaused t b (Err (fault_at n k))
  fault_is w n node.RepeatedField s e = (w, s, e)
  fault_is w n (node.MissingRequired id) s e = (w, s, e)
  fault_is w n node.WrongType s e = (w, s, e)
  fault_is w n node.BadText s e = (w, s, e)
  fault_is w n node.RepeatedKey s e = (w, s, e)

  pub unread_is : (f : ValueFault) → IsUnread b f → IsCaused t b (Err f)
  unread_is (fault.Wire f) u = u
  unread_is fault.NoMemory u = tt
  unread_is (fault.RepeatedField n) u = absurd u
  unread_is (fault.MissingRequired n id) u = absurd u
  unread_is (fault.WrongType n) u = absurd u
  unread_is (fault.BadText n) u = absurd u
  unread_is (fault.RepeatedKey n) u = absurd u
  unread_is (fault.TooManyCells c) u = absurd u

  -- what is spelled is not refused
  spelled_not : (w : Node) (f : WireFault) → SpellsWire w b → IsScanned b (Err f) → ⊥
  spelled_not w f s c = let e = (scanned_only b (Err f) c).spelled w s in cc

  same_least : (v w : Node) → SpellsWire v b → SpellsWire w b → least (faults v t 0) ≡ least (faults w t 0)
  same_least v w s r = ap (λ (x : Node). least (faults x t 0)) (one_node v w b s r)

  pub only_sound : (w : Node) → SpellsWire w b → least (faults w t 0) ≡ None → IsOnlyCaused t b (Ok tt)
  only_sound w s e = record {
    wire = λ f c. absurd (spelled_not w f s c);
    faulty = λ n k c. absurd (let d : None ≡ Some (here n k) = sym e ∙ same_least w c.0 s c.1 ∙ c.2 in cc);
    value = λ v c. inl refl;
  }

  clean_none : (w : Node) → IsValue t b w → least (faults w t 0) ≡ None
  clean_none w v = ap least v.clean

  pub only_fault : (w : Node) (f : Found) → SpellsWire w b → least (faults w t 0) ≡ Some f → IsOnlyCaused t b (Err (fault_at f.node f.fault))
  only_fault w f s e = record {
    wire = λ g c. absurd (spelled_not w g s c);
    faulty = λ n k c. let d : Some f ≡ Some (here n k) = sym e ∙ same_least w c.0 s c.1 ∙ c.2 in let same : f ≡ here n k = cc in inl (ap (λ (g : Found). Err (fault_at g.node g.fault)) same);
    value = λ v c. absurd (let d : Some f ≡ None = sym e ∙ same_least w v s c.spelled ∙ clean_none v c in cc);
  }

  only_wire : (f : WireFault) → IsScanned b (Err f) → IsOnlyCaused t b (Err (fault.Wire f))
  only_wire f c = record { wire = λ g d. inl (ap (λ (x : WireFault). Err (fault.Wire x)) (same g d)); faulty = λ n k d. absurd (spelled_not d.0 f d.1 c); value = λ v d. absurd (spelled_not v f d.spelled c) }
    where
      fault_of : Result (Unit {0}) WireFault → WireFault
      fault_of (Ok u) = f
      fault_of (Err g) = g

      same : (g : WireFault) → IsScanned b (Err g) → f ≡ g
      same Truncated d = ap fault_of ((scanned_only b (Err f) c).truncated d)
      same (Malformed p) d = ap fault_of ((scanned_only b (Err f) c).malformed p d)
      same (Trailing p) d = ap fault_of ((scanned_only b (Err f) c).trailing p d)
      same NoMemory d = absurd d

  only_memory : IsOnlyCaused t b (Err fault.NoMemory)
  only_memory = record { wire = λ f c. inr refl; faulty = λ n k c. inr refl; value = λ w c. inr refl }

  pub only_unread : (f : ValueFault) → IsUnread b f → IsOnlyCaused t b (Err f)
  only_unread (fault.Wire f) u = only_wire f u
  only_unread fault.NoMemory u = only_memory
  only_unread (fault.RepeatedField n) u = absurd u
  only_unread (fault.MissingRequired n id) u = absurd u
  only_unread (fault.WrongType n) u = absurd u
  only_unread (fault.BadText n) u = absurd u
  only_unread (fault.RepeatedKey n) u = absurd u
  only_unread (fault.TooManyCells c) u = absurd u

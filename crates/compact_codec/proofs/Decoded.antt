-- The answers of decoding, from those of checking; and what is decoded of the canonical spelling of a value.
use Rattle.std.proofs.Common.{◌≡◌, ℕ, ◌≤◌, List, Result, Ok, Err, inl, inr, refl, sym, ap, subst, ◌∙◌}
use Rattle.compact_wire.specs.Canon.{canon, FitsWire}
use Rattle.compact_wire.specs.Node.{Node}
use Rattle.compact_wire.specs.Spells.{SpellsWire}
use Rattle.compact_wire.proofs.CanonLaws.{canonical}
use Rattle.compact_wire.proofs.WireLaws.{one_node}
use Rattle.frozen_model.specs.Values.{Value, Of, cells, cell_limit}
use Rattle.idl_profile.specs.Types.{TypeTree}
use Rattle.type_kinds.specs.Accepted.{IsAccepted}
use Rattle.type_kinds.specs.KindsOf.{kinds_of}
use Rattle.type_kinds.specs.Laws.{Any}
use Rattle.typed_reading.specs.declared.counts.Checked.{Checked}
use Rattle.typed_reading.specs.declared.fault.ValueFault.{ValueFault}
use Rattle.typed_reading.specs.declared.fault.ValueFault.TheVariants as fault
use Rattle.typed_reading.specs.Answers.{fault_at, IsValue, IsChecked, IsOnlyChecked, OrMemory}
use Rattle.typed_reading.specs.Counts.{cells_as, checked_as}
use Rattle.typed_reading.specs.Meaning.{Typed, meaning}
use Rattle.compact_codec.specs.Decoding.{IsOnlyDecoded}
use Rattle.compact_codec.specs.Wire.{wire}
use Rattle.compact_codec.proofs.ReadBack.{back}

module _ (t : TypeTree) (b : List ℕ) where
  -- the cells of a typed tree are those of its value
  cells_are : (w : Node) (v : Value) → Typed t w v → cells_as t w ≡ cells (kinds_of t) v
  cells_are w v typed = ap (cells (kinds_of t)) typed.is

  is_value : (w : Node) (v : Value) → SpellsWire w b → Typed t w v → IsValue t b w
  is_value w v spelled typed = record { spelled = spelled; clean = typed.clean }

  same_value : (w x : Node) (v u : Value) → SpellsWire w b → SpellsWire x b → Typed t w v → Typed t x u → v ≡ u
  same_value w x v u p q typed other = sym typed.is ∙ ap (λ (y : Node). meaning y t) (one_node w x b p q) ∙ other.is

  pub few_cells : (w : Node) (v : Value) → SpellsWire w b → Typed t w v → (c : Checked) → IsChecked t b (Ok c) → cells (kinds_of t) v ≤ cell_limit
  few_cells w v spelled typed c k =
      subst (λ (n : ℕ). n ≤ cell_limit) (ap (cells_as t) (one_node k.0 w b k.1.spelled spelled) ∙ cells_are w v typed) k.2

  -- ---- where checking finds a value

  not_fault : (c : Checked) (f : ValueFault) (answer : Result Value ValueFault) → OrMemory (Ok c) (Err f) → OrMemory answer (Err f)
  not_fault c f answer (inl e) = absurd cc
  not_fault c f answer (inr e) = absurd cc

  pub only_value : (w : Node) (v : Value) → SpellsWire w b → Typed t w v → (c : Checked) → IsOnlyChecked t b (Ok c) → IsOnlyDecoded t b (Ok v)
  only_value w v spelled typed c o = record {
    wire = λ f d. not_fault c (fault.Wire f) (Ok v) (o.wire f d);
    faulty = λ n k d. not_fault c (fault_at n k) (Ok v) (o.faulty n k d);
    too_many = λ x p more. not_fault c _ (Ok v) (o.too_many x p more);
    value = λ x u p other few. inl (ap Ok (same_value w x v u spelled p typed other));
  }

  -- ---- where it finds a fault

  same_fault : (f g : ValueFault) → OrMemory {X = Checked} (Err f) (Err g) → OrMemory {X = Value} (Err f) (Err g)
  same_fault f g (inl e) = let h : f ≡ g = cc in inl (ap Err h)
  same_fault f g (inr e) = let h : f ≡ fault.NoMemory = cc in inr (ap Err h)

  ran_out : (f : ValueFault) (c : Checked) (answer : Result Value ValueFault) → OrMemory {X = Checked} (Err f) (Ok c) → OrMemory (Err f) answer
  ran_out f c answer (inl e) = absurd cc
  ran_out f c answer (inr e) = let h : f ≡ fault.NoMemory = cc in inr (ap Err h)

  pub only_fault : (f : ValueFault) → IsOnlyChecked t b (Err f) → IsOnlyDecoded t b (Err f)
  only_fault f o = record {
    wire = λ g d. same_fault f (fault.Wire g) (o.wire g d);
    faulty = λ n k d. same_fault f (fault_at n k) (o.faulty n k d);
    too_many = λ w p more. same_fault f _ (o.too_many w p more);
    value = λ w v spelled typed few.
        ran_out f (checked_as t w) (Ok v) (o.value w (is_value w v spelled typed) (subst (λ (n : ℕ). n ≤ cell_limit) (sym (cells_are w v typed)) few));
  }

  pub only_memory : IsOnlyDecoded t b (Err fault.NoMemory)
  only_memory = record { wire = λ f d. inr refl; faulty = λ n k d. inr refl; too_many = λ w p more. inr refl; value = λ w v p typed few. inr refl }

-- ---- the canonical spelling of a value

-- whatever value it is read as is the one that was written
pub written_back : (t : TypeTree) (v u : Value) (w : Node) → IsAccepted Any t → Of (kinds_of t) v → FitsWire (wire t v) → SpellsWire w (canon (wire t v)) → Typed t w u → u ≡ v
written_back t v u w a h fits spelled typed =
    sym typed.is ∙ ap (λ (x : Node). meaning x t) (one_node w (wire t v) (canon (wire t v)) spelled (canonical (wire t v) fits)) ∙ back t v a h

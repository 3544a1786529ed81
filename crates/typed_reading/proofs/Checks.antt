-- The answers of checking, and that each is given where its cause holds.
use Rattle.std.proofs.Common.{◌≡◌, inl, inr, ℕ, suc, ◌<◌, ◌≤◌, nat_lt, Bool, true, false, cond, List, [], ◌++◌, length, Result, Ok, Err, refl, sym, ap, subst, ◌∙◌, arith, append-nil}
use Rattle.std.proofs.lemmas.Bool.Decides.{nat_tests}
use Rattle.exact_reading.specs.Reading.{seen}
use Rattle.exact_reading.proofs.Items.{ok_is}
use Rattle.compact_wire.specs.Node.{Node}
use Rattle.compact_wire.specs.Spells.{SpellsWire}
use Rattle.compact_wire.proofs.WireLaws.{wire, wire_exact, one_node}
use Rattle.frozen_model.specs.Values.{cell_limit}
use Rattle.idl_profile.specs.Types.{TypeTree}
use Rattle.type_kinds.specs.Accepted.{IsAccepted}
use Rattle.type_kinds.specs.Laws.{Any}
use Rattle.typed_tree.specs.Sizes.{capped}
use Rattle.typed_reading.specs.declared.counts.Checked.{Checked}
use Rattle.typed_reading.specs.declared.fault.ValueFault.{ValueFault}
use Rattle.typed_reading.specs.declared.fault.ValueFault.TheVariants as fault
use Rattle.typed_reading.specs.Faults.{least}
use Rattle.typed_reading.specs.Counts.{count_of, nothing, grown, total, counted, cells_as, checked_as}
use Rattle.typed_reading.specs.Answers.{fault_at, IsValue, IsCaused, IsOnlyCaused, IsChecked, IsOnlyChecked, OrMemory, limited}
use Rattle.typed_reading.proofs.Answering.{only_sound}
use Rattle.typed_reading.proofs.Spelled.{struct_bytes, wire_is}
use Rattle.typed_reading.proofs.Sums.{count_is, raised_all}
use Rattle.typed_reading.proofs.Totals.{weighs}

-- what is spelled is read
read_whole : (w : Node) (b : List ℕ) → SpellsWire w b → wire b ≡ Ok (w, [])
read_whole w b s =
    subst (λ (x : List ℕ). wire x ≡ Ok (w, [])) (append-nil b)
    ((wire_exact (suc (length (b ++ [])))).complete w b [] s (omega arith))

-- the count from nothing on, in numbers of 64 bits
all_grown : (c : Checked) → grown nothing c ≡ count_of (capped c.cells) (capped c.room.nodes) (capped c.room.bytes)
all_grown c = count_is _ _ _ _ _ _ (raised_all c.cells) (raised_all c.room.nodes) (raised_all c.room.bytes)

module _ (t : TypeTree) (b : List ℕ) where
  pub count_is_told : (s c : Checked) (rest : List ℕ) → s ≡ nothing → IsAccepted Any t → seen (counted t s) (struct_bytes b) ≡ Ok (c, rest) → (w : Node) → IsValue t b w → c ≡ checked_as t w
  count_is_told s c rest none a e w v =
      let read : struct_bytes b ≡ Ok (w, []) = wire_is b ∙ read_whole w b v.spelled in
      let from : seen (counted t nothing) (struct_bytes b) ≡ Ok (c, rest) = ap (λ (z : Checked). seen (counted t z) (struct_bytes b)) (sym none) ∙ e in
      let same = ok_is (counted t nothing w) c [] rest (sym (ap (seen (counted t nothing)) read) ∙ from) in
      sym same.0 ∙ all_grown (total w t)
      ∙ ap (λ (x : Checked). count_of (capped x.cells) (capped x.room.nodes) (capped x.room.bytes)) (weighs w t 0 a v.clean)

  pub passes_on : (f : ValueFault) → IsCaused t b (Err f) → IsChecked t b (Err f)
  passes_on (fault.Wire f) c = c
  passes_on fault.NoMemory c = tt
  passes_on (fault.RepeatedField n) c = c
  passes_on (fault.MissingRequired n id) c = c
  passes_on (fault.WrongType n) c = c
  passes_on (fault.BadText n) c = c
  passes_on (fault.RepeatedKey n) c = c
  passes_on (fault.TooManyCells n) c = absurd c

  one_value : (v w : Node) → IsValue t b v → IsValue t b w → v ≡ w
  one_value v w p q = one_node v w b p.spelled q.spelled

  -- ---- after a fault was found

  same_fault : (f g : ValueFault) → OrMemory {X = Unit {0}} (Err f) (Err g) → OrMemory {X = Checked} (Err f) (Err g)
  same_fault f g (inl e) = let h : f ≡ g = cc in inl (ap Err h)
  same_fault f g (inr e) = let h : f ≡ fault.NoMemory = cc in inr (ap Err h)

  memory_ran_out : (f : ValueFault) (answer : Result Checked ValueFault) → OrMemory {X = Unit {0}} (Err f) (Ok tt) → OrMemory (Err f) answer
  memory_ran_out f answer (inl e) = absurd cc
  memory_ran_out f answer (inr e) = let h : f ≡ fault.NoMemory = cc in inr (ap Err h)

  pub only_stopped : (f : ValueFault) → IsOnlyCaused t b (Err f) → IsOnlyChecked t b (Err f)
  only_stopped f o = record {
    wire = λ g c. same_fault f (fault.Wire g) (o.wire g c);
    faulty = λ n k c. same_fault f (fault_at n k) (o.faulty n k c);
    too_many = λ w v lt. memory_ran_out f _ (o.value w v);
    value = λ w v le. memory_ran_out f _ (o.value w v);
  }

  -- ---- where there is a value

  no_fault : (f : ValueFault) → OrMemory {X = Unit {0}} (Ok tt) (Err f) → ⊥
  no_fault f (inl e) = cc
  no_fault f (inr e) = cc

  module _ (w : Node) (v : IsValue t b w) where
    sound : IsOnlyCaused t b (Ok tt)
    sound = only_sound t b w v.spelled (ap least v.clean)

    within : (c : Checked) → c ≡ checked_as t w → c.cells ≤ cell_limit → cells_as t w ≤ cell_limit
    within c e le = let n = ap (λ (x : Checked). x.cells) e in omega (arith, n, le)

    beyond : (c : Checked) → c ≡ checked_as t w → cell_limit < c.cells → cell_limit < cells_as t w
    beyond c e lt = let n = ap (λ (x : Checked). x.cells) e in omega (arith, n, lt)

    only_within : (c : Checked) → c ≡ checked_as t w → c.cells ≤ cell_limit → IsOnlyChecked t b (Ok c)
    only_within c e le = record {
      wire = λ f d. absurd (no_fault (fault.Wire f) (sound.wire f d));
      faulty = λ n k d. absurd (no_fault (fault_at n k) (sound.faulty n k d));
      too_many = λ x p lt. absurd (let same = ap (cells_as t) (one_value w x v p) in omega (arith, same, within c e le, lt));
      value = λ x p le. inl (ap Ok (e ∙ ap (checked_as t) (one_value w x v p)));
    }

    only_beyond : (c : Checked) → c ≡ checked_as t w → cell_limit < c.cells → IsOnlyChecked t b (Err (fault.TooManyCells c.cells))
    only_beyond c e more = record {
      wire = λ f d. absurd (no_fault (fault.Wire f) (sound.wire f d));
      faulty = λ n k d. absurd (no_fault (fault_at n k) (sound.faulty n k d));
      too_many = λ x p lt. inl (ap (λ n. Err (fault.TooManyCells n)) (ap (λ (y : Checked). y.cells) e ∙ ap (λ y. capped (cells_as t y)) (one_value w x v p)));
      value = λ x p le. absurd (let same = ap (cells_as t) (one_value w x v p) in omega (arith, same, beyond c e more, le));
    }

    pub cause_limited : (c : Checked) → c ≡ checked_as t w → IsChecked t b (limited c)
    cause_limited c e = by (nat_lt cell_limit c.cells) refl
      where
        by : (over : Bool) → nat_lt cell_limit c.cells ≡ over → IsChecked t b (cond over (Err (fault.TooManyCells c.cells)) (Ok c))
        by true p = let more : cell_limit < c.cells = grind (arith, nat_tests) in (w, v, beyond c e more, ap (λ (x : Checked). x.cells) e)
        by false p = let most : c.cells ≤ cell_limit = grind (arith, nat_tests) in (w, v, within c e most, e)

    pub only_limited : (c : Checked) → c ≡ checked_as t w → IsOnlyChecked t b (limited c)
    only_limited c e = by (nat_lt cell_limit c.cells) refl
      where
        by : (over : Bool) → nat_lt cell_limit c.cells ≡ over → IsOnlyChecked t b (cond over (Err (fault.TooManyCells c.cells)) (Ok c))
        by true p = let more : cell_limit < c.cells = grind (arith, nat_tests) in only_beyond c e more
        by false p = let most : c.cells ≤ cell_limit = grind (arith, nat_tests) in only_within c e most

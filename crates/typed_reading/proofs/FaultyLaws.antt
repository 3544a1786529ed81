-- The fault that is answered is that of the least faulty node.
use Rattle.std.proofs.Common.{◌≡◌, ◌⊎◌, inl, inr, ℕ, ◌<◌, ◌≤◌, nat_lt, List, [], Bool, true, false, length, refl, ap, sym, ◌∙◌, arith}
use Rattle.std.proofs.lemmas.Bool.Decides.{nat_tests}
use Rattle.compact_wire.specs.Node.{Node}
use Rattle.compact_wire.specs.Spells.{SpellsWire}
use Rattle.compact_wire.proofs.WireLaws.{one_node}
use Rattle.idl_profile.specs.Types.{TypeTree}
use Rattle.typed_reading.specs.declared.fault.NodeFault.{NodeFault}
use Rattle.typed_reading.specs.declared.fault.NodeFault.TheVariants.{RepeatedField, MissingRequired, WrongType, BadText, RepeatedKey}
use Rattle.typed_reading.specs.Answers.{IsLeastFault, IsValue}
use Rattle.typed_reading.specs.Faults.{number, rank, here, faults, least, Faulty, IsLeast}
use Rattle.typed_reading.specs.Laws.{IsLeastFaulty, IsToldByFaulty}
use Rattle.typed_reading.proofs.LeastLaws.{least_some}
use Rattle.typed_reading.proofs.Order.{number_some}

-- the numbers of faults
number_most : (k : NodeFault) → number k ≤ 5
number_most RepeatedField = omega arith
number_most (MissingRequired id) = omega arith
number_most WrongType = omega arith
number_most BadText = omega arith
number_most RepeatedKey = omega arith

-- the order of faults is that of their nodes, and at one node that of their numbers
ranked : (n m : ℕ) (k j : NodeFault) → rank (here n k) ≤ rank (here m j)
    → (n < m) ⊎ ((n ≡ m) × (number k ≤ number j))
ranked n m k j le = by (nat_lt n m) refl
  where
    by : (b : Bool) → nat_lt n m ≡ b → (n < m) ⊎ ((n ≡ m) × (number k ≤ number j))
    by true e = inl (grind (arith, nat_tests))
    by false e =
        let above : m ≤ n = grind (arith, nat_tests) in
        let same : n ≡ m = omega (arith, le, above, number_most j, number_some k) in
        inr (same, omega (arith, le, same))

least_of : (t : TypeTree) (w : Node) (n : ℕ) (k : NodeFault) → IsLeast (faults w t 0) (here n k)
    → IsLeastFaulty t w n k
least_of t w n k is = record { faulty = is.among; least = λ m j at. ranked n m k j (is.lowest (here m j) at) }

pub told_by_faulty : (t : TypeTree) (b : List ℕ) (w : Node) → SpellsWire w b → IsToldByFaulty t b w
told_by_faulty t b w spelled = record { some = some; none = none }
  where
    some : (n : ℕ) (k : NodeFault) → IsLeastFault t b n k → IsLeastFaulty t w n k
    some n k (v, is, e) =
        let same : v ≡ w = one_node v w b is spelled in
        least_of t w n k (least_some (faults w t 0) (here n k) (ap (λ (x : Node). least (faults x t 0)) (sym same) ∙ e))

    none : (v : Node) → IsValue t b v → (m : ℕ) (j : NodeFault) → Faulty t w m j → ⊥
    none v is m j (i, lt, e) =
        let same : v ≡ w = one_node v w b is.spelled spelled in
        let empty : faults w t 0 ≡ [] = ap (λ (x : Node). faults x t 0) (sym same) ∙ is.clean in
        omega (arith, lt, ap length empty)

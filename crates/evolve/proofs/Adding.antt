-- Adding nodes to a plan, and telling faults.
use Rattle.std.proofs.Common.{◌≡◌, ℕ, ◌+◌, List, ◌++◌, map, replicate}
use Rattle.std.proofs.Common.{Option, None, Result, Ok, Err, refl, sym, ap, ◌∙◌}
use Rattle.std.proofs.Common.{subst, append_assoc}
use Rattle.std.proofs.lemmas.List.{replicate-append-replicate}
use Rattle.evolve.specs.declared.fault.BindFault.{BindFault}
use Rattle.evolve.specs.declared.fault.BindFault.TheVariants.{TypeChanged, RequiredAbsent, NoMemory}
use Rattle.evolve.specs.Binding.{Unbound, or_later}
use Rattle.evolve.specs.Bound.{file_node_of}
use Rattle.evolve.specs.BindSteps.{Adds, Tells, Answers}

-- ---- nodes

pub adds_both : (a b c : List ℕ) (xs ys : List (Option ℕ)) → Adds a b xs → Adds b c ys → Adds a c (xs ++ ys)
adds_both a b c xs ys f g =
    g ∙ ap (λ (z : List (Option ℕ)). z ++ ys) f ∙ append_assoc (map file_node_of a) xs ys

pub adds_more : (a b c : List ℕ) (m n : ℕ) → Adds a b (replicate m None) → Adds b c (replicate n None)
    → Adds a c (replicate (m + n) None)
adds_more a b c m n f g =
    adds_both a b c (replicate m None) (replicate n None) f g
    ∙ ap (λ (z : List (Option ℕ)). map file_node_of a ++ z) (replicate-append-replicate m n None)

-- ---- faults

pub tells_first : (u later : Option Unbound) (f : BindFault) → Tells u f → Tells (or_later u later) f
tells_first u later (TypeChanged ids) h = ap (λ (z : Option Unbound). or_later z later) h
tells_first u later (RequiredAbsent ids) h = ap (λ (z : Option Unbound). or_later z later) h
tells_first u later NoMemory h = tt

pub tells_as : (u w : Option Unbound) (f : BindFault) → w ≡ u → Tells u f → Tells w f
tells_as u w f e h = subst (λ (z : Option Unbound). Tells z f) (sym e) h

-- ---- answers

-- nodes before the answer
pub answers_after : (a b c : List ℕ) (u w : Option Unbound) (xs ys ns : List (Option ℕ))
    (q : Result (Unit {0}) BindFault) → Adds a b xs → w ≡ u → ns ≡ xs ++ ys → Answers b c u ys q
    → Answers a c w ns q
answers_after a b c u w xs ys ns (Ok done) f e en h =
    (e ∙ h.0, subst (λ (z : List (Option ℕ)). Adds a c z) (sym en) (adds_both a b c xs ys f h.1))
answers_after a b c u w xs ys ns (Err fault) f e en h = tells_as u w fault e h

pub answers_as : (a b : List ℕ) (u w : Option Unbound) (xs ys : List (Option ℕ))
    (q : Result (Unit {0}) BindFault) → w ≡ u → ys ≡ xs → Answers a b u xs q → Answers a b w ys q
answers_as a b u w xs ys (Ok done) e en h =
    (e ∙ h.0, subst (λ (z : List (Option ℕ)). Adds a b z) (sym en) h.1)
answers_as a b u w xs ys (Err fault) e en h = tells_as u w fault e h

-- two parts, one after the other
pub answers_both : (a b c : List ℕ) (u w : Option Unbound) (xs ys : List (Option ℕ))
    (q : Result (Unit {0}) BindFault) → u ≡ None → Adds a b xs → Answers b c w ys q
    → Answers a c (or_later u w) (xs ++ ys) q
answers_both a b c u w xs ys q e f h =
    answers_after a b c w (or_later u w) xs ys (xs ++ ys) q f (ap (λ (z : Option Unbound). or_later z w) e)
    refl h

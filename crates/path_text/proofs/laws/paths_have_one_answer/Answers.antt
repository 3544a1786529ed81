use Rattle.std.proofs.Common.{◌≡◌, ◌≢◌, ℕ, ◌-◌, ◌⊎◌, inl, inr, List, [], length, refl, sym, ap, ◌∙◌, subst, arith}
use Rattle.path_text.specs.Steps.{PlacedStep, WholePath, whole}
use Rattle.path_text.specs.Texts.{Begins, PathText, PathFaultAt}
use Rattle.path_text.proofs.Begins.{one-path, path-or-fault, one-rest, NoStep, answer, begins-fits}
use Rattle.path_text.proofs.laws.paths_have_one_answer.Goals as goal

same-path : (p q : WholePath) → p.steps ≡ q.steps → p.len ≡ q.len → p ≡ q
same-path p q e f = ap (λ (ss : List PlacedStep). whole ss p.len) e ∙ ap (λ (n : ℕ). whole q.steps n) f

answer-for : (text rest : List ℕ) (ss : List PlacedStep) → Begins 0 ss text rest → (rest ≡ []) ⊎ ((rest ≢ []) × NoStep rest) → ((p : WholePath) × PathText text p) ⊎ ((n : ℕ) × PathFaultAt text n)
answer-for text rest ss b (inl e) = inl (whole ss (length text), record { steps = subst (λ (z : List ℕ). Begins 0 ss text z) e b; len = refl })
answer-for text rest ss b (inr h) =
    let k = begins-fits 0 ss text rest b in
    inr (length text - length rest, record { before = ss; rest = rest; steps = b; place = omega arith; more = h.0; none = h.1 })

pub returns-clause-one_path : goal.returns-clause-one_path
returns-clause-one_path c text p q d e = same-path p q (one-path 0 p.steps q.steps text d.steps e.steps) (d.len ∙ sym e.len)

pub returns-clause-one_fault : goal.returns-clause-one_fault
returns-clause-one_fault c text m n d e =
    let k = ap length (one-rest 0 d.before e.before text d.rest e.rest d.steps d.none e.steps e.none) in
    let a = d.place in let b = e.place in omega arith

pub returns-clause-apart : goal.returns-clause-apart
returns-clause-apart c text p n d e = path-or-fault 0 p.steps e.before text e.rest d.steps e.steps e.more e.none

pub returns-clause-some : goal.returns-clause-some
returns-clause-some c text = let a = answer (length text) 0 text (omega arith) in answer-for text a.rest a.steps a.begins a.ends

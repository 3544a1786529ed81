-- The steps that a text begins with, and that each text has one answer.
use Rattle.std.proofs.Common.{◌≡◌, ◌≢◌, ℕ, zero, suc, ◌+◌, ◌<◌, ◌≤◌, ◌⊎◌, inl, inr, List, [], ◌∷◌, ◌++◌, length, Option, Some, None, refl, sym, ap, ◌∙◌, subst, arith, length-append}
use Rattle.path_text.specs.Steps.{PathStep, PlacedStep, placed}
use Rattle.path_text.specs.Texts.{StepText, IsWhole, Begins}
use Rattle.path_text.specs.Reading.{read_step}
use Rattle.path_text.proofs.Found.{pair-is}
use Rattle.path_text.proofs.Complete.{step-found, step-begins}
use Rattle.path_text.proofs.Sound.{step-is}
use Rattle.path_text.proofs.Utf8.{step-ends}

-- a step has a byte or more
pub step-some : (s : PathStep) (own : List ℕ) → StepText s own → 0 < length own
step-some s own t = let k = step-ends s own t in rw k.parts (simp length-append (omega arith))

-- the steps are not longer than the text
pub begins-fits : (at : ℕ) (ss : List PlacedStep) (text rest : List ℕ) → Begins at ss text rest → length rest ≤ length text
begins-fits at [] text rest b = rw b (omega arith)
begins-fits at (s ∷ ss) text rest (own, behind, e, p, t, w, b) =
    let k = begins-fits (at + length own) ss behind rest b in rw e (simp length-append (omega arith))

-- one more step
pub begins-more : (at here : ℕ) (ss : List PlacedStep) (s : PathStep) (text rest own behind : List ℕ) → Begins at ss text rest → rest ≡ own ++ behind → StepText s own → IsWhole s behind
    → here + length rest ≡ at + length text → Begins at (ss ++ placed here s ∷ []) text behind
begins-more at here [] s text rest own behind b e t w h =
    (own, behind, b ∙ e, let k = ap length b in omega arith, t, w, refl)
begins-more at here (x ∷ ss) s text rest own behind (mine, after, p, q, u, v, b) e t w h =
    let k : here + length rest ≡ at + length mine + length after = h ∙ (let m : length text ≡ length mine + length after = ap length p ∙ length-append mine after in omega arith) in
    (mine, after, p, q, u, v, begins-more (at + length mine) here ss s after rest own behind b e t w k)

-- ---- one answer

step-of : (s : PathStep) (text own behind : List ℕ) → text ≡ own ++ behind → StepText s own → IsWhole s behind → read_step text ≡ Some (s, behind)
step-of s text own behind e t w = ap read_step e ∙ step-found s own behind t w

record Same (s t : PathStep) (own mine behind after : List ℕ) : Type 0 where
  pub step : s ≡ t
  pub behind_is : behind ≡ after
  pub long : length own ≡ length mine

same-step : (s t : PathStep) (text own mine behind after : List ℕ) → text ≡ own ++ behind → StepText s own → IsWhole s behind → text ≡ mine ++ after → StepText t mine → IsWhole t after → Same s t own mine behind after
same-step s t text own mine behind after e p w f q v =
    let k = pair-is (s, behind) t after (sym (step-of s text own behind e p w) ∙ step-of t text mine after f q v) in
    record {
      step = k.value;
      behind_is = k.rest;
      long =
          let a : length text ≡ length own + length behind = ap length e ∙ length-append own behind in
          let b : length text ≡ length mine + length after = ap length f ∙ length-append mine after in
          let c = ap length k.rest in omega arith;
    }

no-step : (s : PathStep) (own behind : List ℕ) → StepText s own → [] ≡ own ++ behind → ⊥
no-step s own behind t e =
    let k = step-some s own t in
    let m : 0 ≡ length own + length behind = ap length e ∙ length-append own behind in omega arith

same-placed : (s t : PlacedStep) → s.place ≡ t.place → s.step ≡ t.step → s ≡ t
same-placed s t e f = ap (λ (n : ℕ). placed n s.step) e ∙ ap (λ (x : PathStep). placed t.place x) f

pub one-path : (at : ℕ) (ss ts : List PlacedStep) (text : List ℕ) → Begins at ss text [] → Begins at ts text [] → ss ≡ ts
one-path at [] [] text b d = refl
one-path at [] (t ∷ ts) text b (mine, after, f, q, u, v, d) = absurd (no-step t.step mine after u (sym b ∙ f))
one-path at (s ∷ ss) [] text (own, behind, e, p, t, w, b) d = absurd (no-step s.step own behind t (sym d ∙ e))
one-path at (s ∷ ss) (t ∷ ts) text (own, behind, e, p, u, w, b) (mine, after, f, q, x, v, d) =
    let k = same-step s.step t.step text own mine behind after e u w f x v in
    let b' : Begins (at + length mine) ss after [] = subst (λ (n : ℕ). Begins (at + n) ss after []) k.long (subst (λ (z : List ℕ). Begins (at + length own) ss z []) k.behind_is b) in
    let m = one-path (at + length mine) ss ts after b' d in
    let n = same-placed s t (p ∙ sym q) k.step in cc

-- no step begins here
abbrev pub NoStep : List ℕ → Type 0
NoStep rest = (s : PathStep) (own behind : List ℕ) → StepText s own → rest ≡ own ++ behind → ⊥

pub path-or-fault : (at : ℕ) (ss ts : List PlacedStep) (text rest : List ℕ) → Begins at ss text [] → Begins at ts text rest → rest ≢ [] → NoStep rest → ⊥
path-or-fault at [] [] text rest b d more none = more (sym d ∙ b)
path-or-fault at (s ∷ ss) [] text rest (own, behind, e, p, t, w, b) d more none = none s.step own behind t (sym d ∙ e)
path-or-fault at [] (t ∷ ts) text rest b (mine, after, f, q, u, v, d) more none = no-step t.step mine after u (sym b ∙ f)
path-or-fault at (s ∷ ss) (t ∷ ts) text rest (own, behind, e, p, u, w, b) (mine, after, f, q, x, v, d) more none =
    let k = same-step s.step t.step text own mine behind after e u w f x v in
    let moved : Begins (at + length mine) ss after [] = subst (λ (n : ℕ). Begins (at + n) ss after []) k.long (subst (λ (z : List ℕ). Begins (at + length own) ss z []) k.behind_is b) in
    path-or-fault (at + length mine) ss ts after rest moved d more none

pub one-rest : (at : ℕ) (ss ts : List PlacedStep) (text rest left : List ℕ) → Begins at ss text rest → NoStep rest → Begins at ts text left → NoStep left → rest ≡ left
one-rest at [] [] text rest left b n d m = sym b ∙ d
one-rest at (s ∷ ss) [] text rest left (own, behind, e, p, t, w, b) n d m = absurd (m s.step own behind t (sym d ∙ e))
one-rest at [] (t ∷ ts) text rest left b n (mine, after, f, q, u, v, d) m = absurd (n t.step mine after u (sym b ∙ f))
one-rest at (s ∷ ss) (t ∷ ts) text rest left (own, behind, e, p, u, w, b) n (mine, after, f, q, x, v, d) m =
    let k = same-step s.step t.step text own mine behind after e u w f x v in
    let moved : Begins (at + length mine) ss after rest = subst (λ (n : ℕ). Begins (at + n) ss after rest) k.long (subst (λ (z : List ℕ). Begins (at + length own) ss z rest) k.behind_is b) in
    one-rest (at + length mine) ss ts after rest left moved n d m

-- where no step is read none begins
pub none-here : (rest : List ℕ) → read_step rest ≡ None → NoStep rest
none-here rest e s own behind t p = step-begins s own behind t (sym (ap read_step p) ∙ e)

-- ---- some answer

-- the steps of a text up to its end, or up to where none begins
pub record Answer (at : ℕ) (text : List ℕ) : Type 0 where
  pub steps : List PlacedStep
  pub rest : List ℕ
  pub begins : Begins at steps text rest
  pub ends : (rest ≡ []) ⊎ ((rest ≢ []) × NoStep rest)

cons-some : (c : ℕ) (cs : List ℕ) → c ∷ cs ≢ []
cons-some c cs = λ e. cc

answer-by : (fuel at c : ℕ) (text : List ℕ) (f : Option (PathStep × List ℕ)) → read_step (c ∷ text) ≡ f → length text ≤ fuel → ((at : ℕ) (t : List ℕ) → length t ≤ fuel → Answer at t) → Answer at (c ∷ text)
answer-by fuel at c text None e h rec = record { steps = []; rest = c ∷ text; begins = refl; ends = inr (cons-some c text, none-here (c ∷ text) e) }
answer-by fuel at c text (Some p) e h rec =
    let k = step-is (c ∷ text) p.0 p.1 e in
    let some = step-some p.0 k.own k.is in
    let long : suc (length text) ≡ length k.own + length p.1 = ap length k.parts ∙ length-append k.own p.1 in
    let m = rec (at + length k.own) p.1 (omega arith) in
    record { steps = placed at p.0 ∷ m.steps; rest = m.rest; begins = (k.own, p.1, k.parts, refl, k.is, k.whole, m.begins); ends = m.ends }

pub answer : (fuel at : ℕ) (text : List ℕ) → length text ≤ fuel → Answer at text
answer fuel at [] h = record { steps = []; rest = []; begins = refl; ends = inl refl }
answer zero at (c ∷ text) h = absurd (omega arith)
answer (suc fuel) at (c ∷ text) h = answer-by fuel at c text (read_step (c ∷ text)) refl (omega arith) (λ n t k. answer fuel n t k)

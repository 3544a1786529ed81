-- The steps of reading a whole text.
use Rattle.std.proofs.Common.{◌≡◌, ℕ, ◌+◌, ◌<◌, ◌≤◌, List, [], ◌∷◌, ◌++◌, length, Some, None, ap, ◌∙◌, subst, arith, length-append}
use Rattle.std.specs.Str.{IsUtf8}
use Rattle.std.proofs.lemmas.List.{nil_from_length}
use Rattle.path_text.specs.Steps.{PathStep, PlacedStep, placed, whole}
use Rattle.path_text.specs.Texts.{Begins, PathText, PathFaultAt}
use Rattle.path_text.specs.Reading.{read_step}
use Rattle.path_text.proofs.Sound.{step-is}
use Rattle.path_text.proofs.Utf8.{step-ends, behind-step}
use Rattle.path_text.proofs.Begins.{step-some, begins-more, none-here}

-- one more step is read
pub record Stepped (steps : List PlacedStep) (text behind rest : List ℕ) : Type 0 where
  pub begins : Begins 0 steps text behind
  pub utf8 : IsUtf8 behind
  pub shorter : length behind < length rest

pub stepped : (steps : List PlacedStep) (text rest behind : List ℕ) (s : PathStep) (here : ℕ) → Begins 0 steps text rest → IsUtf8 rest → read_step rest ≡ Some (s, behind) → here + length rest ≡ length text → Stepped (steps ++ placed here s ∷ []) text behind rest
stepped steps text rest behind s here b u e h =
    let k = step-is rest s behind e in
    let some = step-some s k.own k.is in
    let long : length rest ≡ length k.own + length behind = ap length k.parts ∙ length-append k.own behind in
    record {
      begins = begins-more 0 here steps s text rest k.own behind b k.parts k.is k.whole (omega arith);
      utf8 = behind-step rest k.own behind k.parts (step-ends s k.own k.is) u;
      shorter = omega arith;
    }

pub fault-here : (steps : List PlacedStep) (text rest : List ℕ) (here : ℕ) → Begins 0 steps text rest → read_step rest ≡ None → 0 < length rest → here + length rest ≡ length text → PathFaultAt text here
fault-here steps text rest here b e l h =
    record { before = steps; rest = rest; steps = b; place = h; more = λ n. (let k = ap length n in omega arith); none = none-here rest e }

pub path-here : (steps : List PlacedStep) (text rest : List ℕ) (n : ℕ) → Begins 0 steps text rest → length rest ≤ 0 → n ≡ length text → PathText text (whole steps n)
path-here steps text rest n b l h =
    let e : rest ≡ [] = nil_from_length rest (omega arith) in
    record { steps = subst (λ (z : List ℕ). Begins 0 steps text z) e b; len = h }

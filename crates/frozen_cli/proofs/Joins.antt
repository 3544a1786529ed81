-- How what one stage gives and what the next one gives join.
use Rattle.std.proofs.Common.{◌≡◌, Some, None, Option, IfSome, Result, Ok, Err, inl, inr, sym, subst}
use Rattle.std.specs.Prelude.{IsErrAnd}
use Rattle.fz_base.specs.Files.{Held}
use Rattle.frozen_cli.specs.declared.refusal.Refusal.{Refusal}
use Rattle.frozen_cli.specs.declared.refusal.Failure.{Failure}
use Rattle.frozen_cli.specs.declared.refusal.Failure.TheVariants.{Refused, NoMemory}
use Rattle.frozen_cli.specs.Stages.{ThenStage, StageGives, HeldStageGives}

-- what holds anyway holds where the files are told
pub told_anyway : {X : Type 0} → (held : Option Held) → X → IfSome held (λ h. X)
told_anyway None x = tt
told_anyway (Some h) x = x

-- where a stage gave a result, and the answer is what the next one gives for it, it is what both give
pub gives_then_at : {T A B : Type 0} (view : T → B) (P : Result A Refusal → Type 0)
    (Q : A → Result B Refusal → Type 0) (a : A) (result : Result T Failure) → P (Ok a)
    → StageGives view (Q a) result
    → StageGives view (ThenStage P Q) result
gives_then_at view P Q a (Ok t) p q = (a, p, q)
gives_then_at view P Q a (Err (Refused r)) p q = inr (a, p, q)
gives_then_at view P Q a (Err NoMemory) p q = tt

-- the same, where the files are told
pub gives_then : {T A B : Type 0} (held : Option Held) (view : T → B) (P : Held → Result A Refusal → Type 0)
    (Q : Held → A → Result B Refusal → Type 0) (a : A) (result : Result T Failure)
    → IfSome held (λ h. P h (Ok a)) → HeldStageGives held view (λ h. Q h a) result
    → HeldStageGives held view (λ h. ThenStage (P h) (Q h)) result
gives_then None view P Q a result p q = tt
gives_then (Some h) view P Q a result p q = gives_then_at view (P h) (Q h) a result p q

stops_at : {S T A B : Type 0} (view : S → A) (last : T → B) (P : Result A Refusal → Type 0)
    (Q : A → Result B Refusal → Type 0) (e : Failure) (result : Result T Failure)
    → StageGives {T = S} view P (Err e) → IsErrAnd result (λ f. f ≡ e)
    → StageGives last (ThenStage P Q) result
stops_at view last P Q e (Ok t) p same = absurd same
stops_at view last P Q (Refused r) (Err f) p same =
    subst (λ g. StageGives last (ThenStage P Q) (Err g)) (sym same) (inl p)
stops_at view last P Q NoMemory (Err f) p same =
    subst (λ g. StageGives last (ThenStage P Q) (Err g)) (sym same) tt

-- where a stage refuses, or wants memory, so do it and the next one
pub stops : {S T A B : Type 0} (held : Option Held) (view : S → A) (last : T → B)
    (P : Held → Result A Refusal → Type 0) (Q : Held → A → Result B Refusal → Type 0) (e : Failure)
    (result : Result T Failure)
    → HeldStageGives {T = S} held view P (Err e) → IsErrAnd result (λ f. f ≡ e)
    → HeldStageGives held last (λ h. ThenStage (P h) (Q h)) result
stops None view last P Q e result p same = tt
stops (Some h) view last P Q e result p same = stops_at view last (P h) (Q h) e result p same

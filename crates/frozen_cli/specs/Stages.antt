-- Stages of a command: each gives a refusal, or a result that the next ones take.
use Rattle.std.specs.Prelude.{◌≡◌, ◌⊎◌, ◌≤◌, ◌<◌, ℕ, List, ⊤, None, Some, Option, IfSome, Result, Ok, Err}
use Rattle.std.specs.Prelude.{length}
use Rattle.fz_base.specs.Files.{Held}
use Rattle.frozen_cli.specs.declared.refusal.Role.{Role}
use Rattle.frozen_cli.specs.declared.refusal.Refusal.{Refusal}
use Rattle.frozen_cli.specs.declared.refusal.Refusal.TheVariants.{Missing, Unreadable, TooLarge}
use Rattle.frozen_cli.specs.declared.refusal.Failure.{Failure}
use Rattle.frozen_cli.specs.declared.refusal.Failure.TheVariants.{Refused, NoMemory}

-- a stage, and then the one that takes its result
abbrev pub ThenStage : {A B : Type 0} → (Result A Refusal → Type 0) → (A → Result B Refusal → Type 0)
    → Result B Refusal → Type 0
ThenStage {A} P Q (Ok b) = (a : A) × P (Ok a) × Q a (Ok b)
ThenStage {A} P Q (Err r) = P (Err r) ⊎ ((a : A) × P (Ok a) × Q a (Err r))

-- reading a file: what is held, within its limit. Any reading may be refused as unreadable.
abbrev pub ReadStage : Role → ℕ → Option (List ℕ) → Result (List ℕ) Refusal → Type 0
ReadStage role limit None (Ok bytes) = ⊥
ReadStage role limit None (Err r) = (r ≡ Missing role) ⊎ (r ≡ Unreadable role)
ReadStage role limit (Some file) (Ok bytes) = (bytes ≡ file) × (length file ≤ limit)
ReadStage role limit (Some file) (Err r) =
    ((limit < length file) × (r ≡ TooLarge role)) ⊎ (r ≡ Unreadable role)

-- what a function answered is what its stage gives, want of memory aside
abbrev pub StageGives : {T A : Type 0} → (T → A) → (Result A Refusal → Type 0) → Result T Failure → Type 0
StageGives view P (Ok t) = P (Ok (view t))
StageGives view P (Err (Refused r)) = P (Err r)
StageGives view P (Err NoMemory) = ⊤

-- the same, where the files are told
abbrev pub HeldStageGives : {T A : Type 0} → Option Held → (T → A) → (Held → Result A Refusal → Type 0)
    → Result T Failure → Type 0
HeldStageGives held view P result = IfSome held (λ h. StageGives view (P h) result)

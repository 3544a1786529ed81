-- Runs over files and sinks in memory, which fail only where a sink is full.
use Rattle.std.proofs.Common.{◌≡◌, ◌⊎◌, inl, inr, ℕ, ◌+◌, ◌-◌, ◌^◌, ◌<◌, ◌≤◌, List, length, Bool, true, false, eqb}
use Rattle.std.proofs.Common.{if◌then◌else◌, Option, Some, None, refl, arith}
use Rattle.std.specs.Prelude.{IfSome}
use Rattle.std.proofs.lemmas.Bool.{eqb-true, eqb-false}
use Rattle.fz_base.specs.Counts.{Rose}
use Rattle.fz_base.specs.Files.{Held}
use Rattle.fz_base.specs.declared.memory_sinks.SureSink.{SureSink}
use Rattle.frozen_cli.specs.Changes.{Seen, Sent, HasFaulted, HasFailed}
use Rattle.frozen_cli.specs.Laws.{IsReplied}
use Rattle.frozen_cli.specs.Run.{Runs, Replies, OutFails, ErrFails}

-- a count that is 0 did not rise
pub not_risen : (before : ℕ) → Rose before 0 → ⊥
not_risen before h = omega arith

-- a sink that is not full has counted no failure
pub not_failed : (before : ℕ) (after : SureSink) → length after.bytes.items < after.room
    → Rose before (if after.full then 2 ^ 64 - 1 else 0) → ⊥
not_failed before after left h = by after.full refl h
  where
    by : (b : Bool) → after.full ≡ b → Rose before (if b then 2 ^ 64 - 1 else 0) → ⊥
    by true full rose = let all = after.full_only full in omega (arith, all, left)
    by false full rose = not_risen before rose

pub replied : (words : List (List ℕ)) (files : Seen) (out err : Sent) (status : ℕ)
    → Runs words files out err status → (HasFaulted files → ⊥) → (HasFailed out → ⊥) → (HasFailed err → ⊥)
    → IsReplied words files out err status
replied words files out err status runs read wrote_out wrote_err = by files.held runs.complete
  where
    not_five : status ≡ 5 → ⊥
    not_five five = elim (runs.write_fault five) [ inl o ↦ wrote_out o.0 | inr e ↦ wrote_err e.1.failed ]

    ended : (held : Held) → (status ≡ 6) ⊎ Replies words held status out err
        → (status ≡ 6) ⊎ ((status ≤ 4) × Replies words held status out err)
    ended held (inl six) = inl six
    ended held (inr reply) = at (eqb status 6) refl
      where
        at : (b : Bool) → eqb status 6 ≡ b → (status ≡ 6) ⊎ ((status ≤ 4) × Replies words held status out err)
        at true e = inl (eqb-true _ _ e)
        at false e =
            let other = eqb-false _ _ e in
            let low = runs.status_most in
            inr (omega (arith, not_five, other, low), reply)

    by : (o : Option Held)
        → IfSome o (λ held. (HasFaulted files → ⊥) → (HasFailed out → ⊥) → (HasFailed err → ⊥)
        → (status ≡ 6) ⊎ Replies words held status out err)
        → IfSome o (λ held. (status ≡ 6) ⊎ ((status ≤ 4) × Replies words held status out err))
    by (Some held) complete = ended held (complete read wrote_out wrote_err)
    by None complete = complete

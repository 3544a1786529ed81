-- What a call does to its files and its sinks: their state and their counts before it and after it.
use Rattle.std.specs.Prelude.{◌≡◌, ℕ, List, [], Option, Result, IsErrAnd}
use Rattle.std.specs.Io.KnownBytes.{Appends}
use Rattle.fz_base.specs.Counts.{HasCause, MovesOnlyAt, Rose}
use Rattle.fz_base.specs.Files.{Held}
use Rattle.fz_base.specs.Sink.{AppendsPart}
use Rattle.frozen_cli.specs.declared.refusal.Failure.{Failure}
use Rattle.frozen_cli.specs.Refusal.{IsRefused, IsMissing, IsUnreadable}

-- files before and after a call: what they hold, where it is told, and the counts of misses and of faults
pub record Seen : Type 0 where
  pub held : Option Held
  pub held_after : Option Held
  pub misses : ℕ
  pub misses_after : ℕ
  pub faults : ℕ
  pub faults_after : ℕ

abbrev pub seen : {F : Type 0} → (F → Option Held) → (F → ℕ) → (F → ℕ) → F → F → Seen
seen held misses faults old new = record {
  held = held old;
  held_after = held new;
  misses = misses old;
  misses_after = misses new;
  faults = faults old;
  faults_after = faults new;
}

-- a file was missing
abbrev pub HasMissed : Seen → Type 0
HasMissed files = Rose files.misses files.misses_after

-- a read failed
abbrev pub HasFaulted : Seen → Type 0
HasFaulted files = Rose files.faults files.faults_after

-- the files hold what they held, and no count moved
pub record Unread (files : Seen) : Type 0 where
  pub kept : files.held_after ≡ files.held
  pub unmissed : files.misses_after ≡ files.misses
  pub unfailed : files.faults_after ≡ files.faults

-- the files hold what they held; a count rises where the failure says so, and moves nowhere else
pub record HasCauses (files : Seen) (is_missing is_unreadable : Type 0) : Type 0 where
  pub kept : files.held_after ≡ files.held
  pub missing : HasCause files.misses files.misses_after is_missing
  pub unreadable : HasCause files.faults files.faults_after is_unreadable
  pub unmissed : MovesOnlyAt files.misses files.misses_after is_missing
  pub unfailed : MovesOnlyAt files.faults files.faults_after is_unreadable

-- what a call that reads files does to them: it is refused as `missing` and as `unreadable` exactly as they
-- count
abbrev pub ReadsFiles : {T : Type 0} → Seen → Result T Failure → Type 0
ReadsFiles files result =
    HasCauses files (IsErrAnd result (IsRefused IsMissing)) (IsErrAnd result (IsRefused IsUnreadable))

-- a sink before and after a call: what is written, where it is told, and the count of faults
pub record Sent : Type 0 where
  pub written : Option (List ℕ)
  pub written_after : Option (List ℕ)
  pub faults : ℕ
  pub faults_after : ℕ

abbrev pub sent : {S : Type 0} → (S → Option (List ℕ)) → (S → ℕ) → S → S → Sent
sent written faults old new = record {
  written = written old;
  written_after = written new;
  faults = faults old;
  faults_after = faults new;
}

-- a write failed
abbrev pub HasFailed : Sent → Type 0
HasFailed sink = Rose sink.faults sink.faults_after

-- the sink took these bytes, and no write failed
pub record Takes (sink : Sent) (bytes : List ℕ) : Type 0 where
  pub appended : Appends sink.written sink.written_after bytes
  pub unfailed : sink.faults_after ≡ sink.faults

-- the sink took nothing, and no write failed
abbrev pub Untouched : Sent → Type 0
Untouched sink = Takes sink []

-- a write failed, and the sink took a proper prefix of these bytes
pub record FailsIn (sink : Sent) (bytes : List ℕ) : Type 0 where
  pub part : AppendsPart sink.written sink.written_after bytes
  pub failed : HasFailed sink

-- From what the answer is and what is done with it follows what a run does.
use Rattle.std.proofs.Common.{◌≡◌, ◌⊎◌, ◌≤◌, ℕ, List, [], None, Some, Option, IfSome, Result, Ok, Err, refl}
use Rattle.std.proofs.Common.{inl, inr, arith, ◌∙◌, sym}
use Rattle.fz_base.specs.Counts.{MovesOnlyAt}
use Rattle.fz_base.specs.Files.{Held}
use Rattle.frozen_cli.specs.declared.refusal.Refusal.{Refusal}
use Rattle.frozen_cli.specs.declared.refusal.Refusal.TheVariants.{Usage, Missing, Unreadable, TooLarge}
use Rattle.frozen_cli.specs.declared.refusal.Refusal.TheVariants.{BadPath, BadDefinition, BadValue, BadFile}
use Rattle.frozen_cli.specs.declared.refusal.Refusal.TheVariants.{TypeChanged, RequiredAbsent, Absent}
use Rattle.frozen_cli.specs.declared.refusal.Refusal.TheVariants.{TooManyCells}
use Rattle.frozen_cli.specs.declared.refusal.Failure.{Failure}
use Rattle.frozen_cli.specs.declared.refusal.Failure.TheVariants.{Refused, NoMemory}
use Rattle.frozen_cli.specs.Stages.{HeldStageGives}
use Rattle.frozen_cli.specs.Refusal.{status_of, line_of, IsMissing, IsUnreadable}
use Rattle.frozen_cli.specs.Reply.{CommandGives}
use Rattle.frozen_cli.specs.Changes.{Seen, HasMissed, HasFaulted, Sent, Takes, ReadsFiles}
use Rattle.frozen_cli.specs.Run.{FileMissing, FileUnreadable, Runs, Delivers}

-- a status is at most 4
status_small : (r : Refusal) → status_of r ≤ 4
status_small Usage = omega arith
status_small (Missing role) = omega arith
status_small (Unreadable role) = omega arith
status_small (TooLarge role) = omega arith
status_small (BadDefinition fault) = omega arith
status_small (BadValue fault) = omega arith
status_small (BadFile fault) = omega arith
status_small (BadPath fault) = omega arith
status_small (TypeChanged ids) = omega arith
status_small (RequiredAbsent ids) = omega arith
status_small Absent = omega arith
status_small (TooManyCells cells) = omega arith

-- a file that is unreadable has status 4
unreadable_status : (r : Refusal) → IsUnreadable r → status_of r ≡ 4
unreadable_status Usage u = absurd u
unreadable_status (Missing role) u = absurd u
unreadable_status (Unreadable role) u = refl
unreadable_status (TooLarge role) u = absurd u
unreadable_status (BadDefinition fault) u = absurd u
unreadable_status (BadValue fault) u = absurd u
unreadable_status (BadFile fault) u = absurd u
unreadable_status (BadPath fault) u = absurd u
unreadable_status (TypeChanged ids) u = absurd u
unreadable_status (RequiredAbsent ids) u = absurd u
unreadable_status Absent u = absurd u
unreadable_status (TooManyCells cells) u = absurd u

-- a file that is missing has status 4
missing_status : (r : Refusal) → IsMissing r → status_of r ≡ 4
missing_status Usage u = absurd u
missing_status (Missing role) u = refl
missing_status (Unreadable role) u = absurd u
missing_status (TooLarge role) u = absurd u
missing_status (BadDefinition fault) u = absurd u
missing_status (BadValue fault) u = absurd u
missing_status (BadFile fault) u = absurd u
missing_status (BadPath fault) u = absurd u
missing_status (TypeChanged ids) u = absurd u
missing_status (RequiredAbsent ids) u = absurd u
missing_status Absent u = absurd u
missing_status (TooManyCells cells) u = absurd u

-- what holds of each map that may be told holds where it is told
where_told : {P Q : Held → Type 0} → ((h : Held) → P h → Q h) → (held : Option Held) → IfSome held P
    → IfSome held Q
where_told f None p = tt
where_told f (Some h) p = f h p

-- a count that moves at nothing moves at no other thing
never : {before now : ℕ} {P : Type 0} → MovesOnlyAt before now ⊥ → MovesOnlyAt before now P
never (inl x) = absurd x
never (inr same) = inr same

-- a count that moves only at one thing moves only at what comes of it
moves_at : {before now : ℕ} {P Q : Type 0} → (P → Q) → MovesOnlyAt before now P → MovesOnlyAt before now Q
moves_at f (inl p) = inl (f p)
moves_at f (inr same) = inr same

module _ {T : Type 0} (view : T → List ℕ) (words : List (List ℕ)) (files : Seen) (out err : Sent)
    (status : ℕ) where
  -- a refusal at status 4 is of a file
  missing_or_unreadable : (r : Refusal)
      → HeldStageGives {T = T} files.held view (CommandGives words) (Err (Refused r))
      → (IsMissing r → HasMissed files) → (IsUnreadable r → HasFaulted files) → status_of r ≡ 4
      → Takes err (line_of r)
      → FileMissing words files err ⊎ FileUnreadable words files err
  missing_or_unreadable Usage g m u s e = absurd (omega (arith, s))
  missing_or_unreadable (Missing role) g m u s e =
      inl (role, m tt, e, where_told (λ h p. inr (Missing role, λ x. x, refl, refl, refl, p)) files.held g)
  missing_or_unreadable (Unreadable role) g m u s e = inr (role, u tt, e, g)
  missing_or_unreadable (TooLarge role) g m u s e = absurd (omega (arith, s))
  missing_or_unreadable (BadDefinition fault) g m u s e = absurd (omega (arith, s))
  missing_or_unreadable (BadValue fault) g m u s e = absurd (omega (arith, s))
  missing_or_unreadable (BadFile fault) g m u s e = absurd (omega (arith, s))
  missing_or_unreadable (BadPath fault) g m u s e = absurd (omega (arith, s))
  missing_or_unreadable (TypeChanged ids) g m u s e = absurd (omega (arith, s))
  missing_or_unreadable (RequiredAbsent ids) g m u s e = absurd (omega (arith, s))
  missing_or_unreadable Absent g m u s e = absurd (omega (arith, s))
  missing_or_unreadable (TooManyCells cells) g m u s e = absurd (omega (arith, s))

  -- the output is written, or a write fails
  written : (t : T) → HeldStageGives files.held view (CommandGives words) (Ok t) → ReadsFiles files (Ok t)
      → Delivers view (Ok t) status out err → Runs words files out err status
  written t g c (inl d) = record {
    status_most = omega (arith, d.0);
    kept = c.kept;
    reply = λ le. where_told (λ h p. (view t, [], inl (d.0, refl, p), d.1, d.2)) files.held g;
    read_fault = λ s. absurd (omega (arith, d.0, s));
    write_fault = λ s. absurd (omega (arith, d.0, s));
    memory = λ s. absurd (omega (arith, d.0, s));
    missed = never c.unmissed;
    unread = never c.unfailed;
    out_failed = inr (d.1).unfailed;
    err_failed = inr (d.2).unfailed;
    complete = where_told (λ h p nf oo ee. inr (view t, [], inl (d.0, refl, p), d.1, d.2)) files.held g;
  }
  written t g c (inr d) = record {
    status_most = omega (arith, d.0);
    kept = c.kept;
    reply = λ le. absurd (omega (arith, d.0, le));
    read_fault = λ s. absurd (omega (arith, d.0, s));
    write_fault =
        λ s. inl ((d.1).failed, where_told (λ h p. (view t, inl (refl, refl, p), d.1)) files.held g, d.2);
    memory = λ s. absurd (omega (arith, d.0, s));
    missed = never c.unmissed;
    unread = never c.unfailed;
    out_failed = inl d.0;
    err_failed = inl d.0;
    complete = where_told (λ h p nf oo ee. absurd (oo (d.1).failed)) files.held g;
  }

  -- the refusal's line is written, or its write fails, or there is no memory for it
  refused : (r : Refusal) → HeldStageGives {T = T} files.held view (CommandGives words) (Err (Refused r))
      → ReadsFiles {T = T} files (Err (Refused r)) → Delivers {T = T} view (Err (Refused r)) status out err
      → Runs words files out err status
  refused r g c (o, inl d) = record {
    status_most = omega (arith, d.0, status_small r);
    kept = c.kept;
    reply = λ le. where_told
        (λ h p. (
          [],
          line_of r,
          inr (r, (λ u. absurd (omega (arith, d.0, unreadable_status r u))), d.0, refl, refl, p),
          o,
          d.1,
        ))
        files.held g;
    read_fault = λ s. (o, missing_or_unreadable r g c.missing.rose c.unreadable.rose (sym d.0 ∙ s) d.1);
    write_fault = λ s. absurd (omega (arith, d.0, s, status_small r));
    memory = λ s. absurd (omega (arith, d.0, s, status_small r));
    missed = moves_at (λ m. (r, m, o, inl (d.0 ∙ missing_status r m, d.1))) c.unmissed;
    unread = moves_at (λ u. (r, u, o, inl (d.0 ∙ unreadable_status r u, d.1))) c.unfailed;
    out_failed = inr o.unfailed;
    err_failed = inr (d.1).unfailed;
    complete =
        where_told
        (λ h p nf oo ee. inr
        ([], line_of r, inr (r, (λ u. nf (c.unreadable.rose u)), d.0, refl, refl, p), o, d.1)) files.held g;
  }
  refused r g c (o, inr (inl d)) = record {
    status_most = omega (arith, d.0);
    kept = c.kept;
    reply = λ le. absurd (omega (arith, d.0, le));
    read_fault = λ s. absurd (omega (arith, d.0, s));
    write_fault = λ s. inr (r, d.1, o, c.missing.rose, c.unreadable.rose, g);
    memory = λ s. absurd (omega (arith, d.0, s));
    missed = moves_at (λ m. (r, m, o, inr (inl d))) c.unmissed;
    unread = moves_at (λ u. (r, u, o, inr (inl d))) c.unfailed;
    out_failed = inr o.unfailed;
    err_failed = inl d.0;
    complete = where_told (λ h p nf oo ee. absurd (ee (d.1).failed)) files.held g;
  }
  refused r g c (o, inr (inr d)) = record {
    status_most = omega (arith, d.0);
    kept = c.kept;
    reply = λ le. absurd (omega (arith, d.0, le));
    read_fault = λ s. absurd (omega (arith, d.0, s));
    write_fault = λ s. absurd (omega (arith, d.0, s));
    memory = λ s. (o, d.1);
    missed = moves_at (λ m. (r, m, o, inr (inr d))) c.unmissed;
    unread = moves_at (λ u. (r, u, o, inr (inr d))) c.unfailed;
    out_failed = inr o.unfailed;
    err_failed = inr (d.1).unfailed;
    complete = where_told (λ h p nf oo ee. inl d.0) files.held g;
  }

  -- there is not enough memory, and nothing is written
  wanting : HeldStageGives {T = T} files.held view (CommandGives words) (Err NoMemory)
      → ReadsFiles {T = T} files (Err NoMemory)
      → Delivers {T = T} view (Err NoMemory) status out err → Runs words files out err status
  wanting g c d = record {
    status_most = omega (arith, d.0);
    kept = c.kept;
    reply = λ le. absurd (omega (arith, d.0, le));
    read_fault = λ s. absurd (omega (arith, d.0, s));
    write_fault = λ s. absurd (omega (arith, d.0, s));
    memory = λ s. (d.1, d.2);
    missed = never c.unmissed;
    unread = never c.unfailed;
    out_failed = inr (d.1).unfailed;
    err_failed = inr (d.2).unfailed;
    complete = where_told (λ h p nf oo ee. inl d.0) files.held g;
  }

  pub runs : (answer : Result T Failure) → HeldStageGives files.held view (CommandGives words) answer
      → ReadsFiles files answer
      → Delivers view answer status out err → Runs words files out err status
  runs (Ok t) g c d = written t g c d
  runs (Err (Refused r)) g c d = refused r g c d
  runs (Err NoMemory) g c d = wanting g c d

-- The layouts so far are walked.
use Rattle.std.proofs.Common.{◌≡◌, ℕ, ◌<◌, true}
use Rattle.layout_schema.specs.Shapes.{is_walked}
use Rattle.layout_schema.specs.Reading.{layouts_told}
use Rattle.layout_schema.proofs.ReadEntries.{key_at}
use Rattle.layout_schema.proofs.entries.Entries.unwalked.Given as goal

abbrev pub invariant-loop-i : goal.invariant-loop-i
invariant-loop-i l = (j : ℕ) → j < l.i → is_walked l.walked (key_at (layouts_told l.self) j) ≡ true

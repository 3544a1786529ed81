-- The layout is not before `low`, and not at `high` or behind it.
use Rattle.std.proofs.Common.{◌≢◌, ℕ, ◌-◌, ◌<◌, ◌≤◌}
use Rattle.std.specs.Prelude.{pos}
use Rattle.frozen_model.specs.Values.{count}
use Rattle.layout_schema.specs.Reading.{layouts_told}
use Rattle.layout_schema.proofs.ReadEntries.{key_at}
use Rattle.layout_schema.proofs.entries.Entries.layout.Given as goal

abbrev pub invariant-loop-low : goal.invariant-loop-low
invariant-loop-low l = record {
  inside : l.high ≤ count (layouts_told l.self);
  before : (j : ℕ) → j < l.low → key_at (layouts_told l.self) j ≢ pos l.number;
  behind : (j : ℕ) → l.high ≤ j → j < count (layouts_told l.self) → key_at (layouts_told l.self) j ≢ pos l.number;
}

abbrev pub decreases-loop-low : goal.decreases-loop-low
decreases-loop-low l = l.high - l.low

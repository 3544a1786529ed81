use Rattle.std.proofs.Common.{◌≡◌, ◌-◌, ◌≤◌}
use Rattle.frozen_model.specs.Bits.{field}
use Rattle.bit_field.proofs.read.all_zero.Given as goal

abbrev pub decreases-loop-at : goal.decreases-loop-at
decreases-loop-at l = l.to - l.at

abbrev pub invariant-loop-at : goal.invariant-loop-at
invariant-loop-at l = record { after : l.from ≤ l.at; before : l.at ≤ l.to; zeros : field l.bytes l.from (l.at - l.from) ≡ 0 }

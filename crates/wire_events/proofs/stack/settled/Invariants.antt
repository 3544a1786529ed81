use Rattle.std.proofs.Common.{◌≡◌, ◌≤◌}
use Rattle.wire_events.specs.Frames.{settle, stack_of}
use Rattle.wire_events.proofs.stack.settled.Given as goal

abbrev pub invariant-over : goal.invariant-over
invariant-over l = (settle (stack_of l.frames l.depth) ≡ settle (stack_of l.frames l.initial.depth)) × (l.depth ≤ l.initial.depth)

abbrev pub decreases-over : goal.decreases-over
decreases-over l = l.depth

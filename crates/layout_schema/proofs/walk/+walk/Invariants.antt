-- Each part that is walked appends a node before its children are walked, and there are at most 4096.
use Rattle.std.proofs.Common.{◌+◌, ◌*◌, ◌-◌, ◌≤◌, length}
use Rattle.layout_schema.specs.Reading.{entry_told, layouts_told}
use Rattle.layout_schema.proofs.ReadWalk.{IsSoFar}
use Rattle.layout_schema.proofs.walk.+walk.Given as goal

abbrev pub decreases-walk_part : goal.decreases-walk_part
decreases-walk_part l = 2 * (4096 - length l.nodes.now.items) + 1

abbrev pub decreases-walk_children : goal.decreases-walk_children
decreases-walk_children l = 2 * (4096 - length l.nodes.now.items) + 2

abbrev pub invariant-walk_children-loop-i : goal.invariant-walk_children-loop-i
invariant-walk_children-loop-i l = record {
  so_far : IsSoFar (layouts_told l.entries) l.kind l.level l.parent (entry_told l.entry).children l.initial.nodes.items l.nodes.items l.i l.widths;
  few : length l.nodes.items ≤ 4096;
  more : length l.initial.nodes.items ≤ length l.nodes.items;
  bits : l.widths.bits ≤ 65535;
  greatest : l.widths.greatest ≤ 32767 * length l.nodes.items;
}

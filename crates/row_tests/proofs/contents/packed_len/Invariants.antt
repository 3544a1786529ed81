use Rattle.std.proofs.Common.{◌-◌, length}
use Rattle.layout_tree.specs.Nodes.{layout_of}
use Rattle.row_tests.proofs.Blocks.{LenLeft}
use Rattle.row_tests.proofs.contents.packed_len.Given as goal

abbrev pub invariant-loop-k : goal.invariant-loop-k
invariant-loop-k l = LenLeft (layout_of l.layouts).tree l.spots l.k l.len

abbrev pub decreases-loop-k : goal.decreases-loop-k
decreases-loop-k l = length l.spots - l.k

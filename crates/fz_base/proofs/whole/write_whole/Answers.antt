use Rattle.std.proofs.Common.{arith}
use Rattle.std.proofs.lemmas.List.{length-drop}
use Rattle.fz_base.proofs.Pieces.{appends-more}
use Rattle.fz_base.proofs.whole.write_whole.Goals as goal

pub pieces-preserved : goal.pieces-preserved
pieces-preserved g c = record {
  within = omega (arith, c.in_ok-count.ensures.writes.0, length-drop c.pieces.done c.args.bytes.now);
  begun = appends-more _ _ _ c.args.bytes.now c.pieces.done c.in_ok-count.count c.pieces.invariant.begun c.in_ok-count.ensures.writes.2;
  faults = grind (arith, c.in_ok-count.ensures.unfailed, c.pieces.invariant.faults);
}

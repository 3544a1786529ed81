use Rattle.std.proofs.Common.{◌≡◌, ◌+◌, ◌∙◌, arith, length, take, vec_len}
use Rattle.std.proofs.lemmas.List.{length-take, length-take-le}
use Rattle.fz_base.proofs.Pieces.{begun-more}
use Rattle.fz_base.proofs.whole.read_whole.Goals as goal

pub turns-preserved : goal.turns-preserved
turns-preserved g c =
    let here = c.len-at.ensures ∙ c.turns.bytes.ok.0 in
    let room = length-take c.min-room.result c.turns.buffer in
    let given = c.in-Ok.ensures.given in
    let long : vec_len c.extend_from_slice.new.self ≡ vec_len c.turns.bytes + length (take c.in-Ok.count c.read_at.new.into) = c.in_ok-extend_from_slice.ensures.len in
    let part = length-take-le c.in-Ok.count c.read_at.new.into c.in-Ok.ensures.bound in
    record {
      within = omega (arith, room, c.read_at.auto.into, c.min-room.ensures, c.in-Ok.ensures.bound);
      piece = omega (arith, c.turns.invariant.piece, c.read_at.auto.into);
      begun = begun-more _ _ _ c.turns.bytes.items _ _ _ _ c.turns.invariant.kept here c.in_ok-extend_from_slice.ensures.items c.in-Ok.ensures.bound c.turns.invariant.begun c.in-Ok.ensures.bytes;
      kept = cc;
      faults = grind (arith, c.in-Ok.ensures.unfailed, c.turns.invariant.faults);
      misses = grind (arith, c.in-Ok.ensures.unmissed, c.turns.invariant.misses);
      gave = omega (arith, given);
    }

use Rattle.std.proofs.Common.{ℕ, ◌≡◌, ◌++◌, ◌+◌, ◌-◌, ◌*◌, ◌≤◌, ◌^◌, ◌%◌, arith, ap, subst}
use Rattle.frozen_model.specs.Bits.{bits, bits_of, digits}
use Rattle.frozen_model.specs.Packing.{distance}
use Rattle.frozen_model.specs.Layouts.{stride}
use Rattle.layout_tree.specs.Nodes.{at}
use Rattle.layout_tree.specs.Reading.{distance_width, count_width}
use Rattle.measure_pass.proofs.Arms.{distance_none, distance_some}
use Rattle.freezer.proofs.Arms.{range_stride, both_in_one, range_written}
use Rattle.freezer.proofs.Puts.{put}
use Rattle.freezer.proofs.write.write_range.Goals as goal
use Rattle.freezer.proofs.write.write_range.Goals.{then-n-eq0, else-n-eq0}

pub overflow_add-both : goal.overflow_add-both
overflow_add-both c =
    let gap = c.args.inner.now.start - c.args.block.now.start in
    let d = c.distance_bits-width in
    let e : c.if-n-eq0.distance ≡ distance c.args.n gap =
    elim c.if-n-eq0.branch [
      | then-n-eq0 w ↦ distance_none c.args.n gap _ w.if-n-eq0.true w.distance-is
      | else-n-eq0 w ↦ distance_some c.args.n gap _ w.if-n-eq0.false
          (omega (arith, w.distance-is, w.start.ensures, w.start-else-n-eq0.ensures))
    ] in
    let hx : digits c.if-n-eq0.distance
    ≤ d.result = omega (arith, c.requires.fits.0, d.ensures.width, ap digits e) in
    let k = c.count_bits-count_width in
    let hn : digits c.args.n ≤ k.result = omega (arith, c.requires.fits.1, k.ensures.width) in
    let b = both_in_one d.result k.result c.if-n-eq0.distance c.args.n d.ensures.small k.ensures.small hx
    hn in
    omega (arith, b.room)

pub put-requires-clause-fits : goal.put-requires-clause-fits
put-requires-clause-fits c =
    let gap = c.args.inner.now.start - c.args.block.now.start in
    let d = c.distance_bits-width in
    let k = c.count_bits-count_width in
    let e : c.if-n-eq0.distance ≡ distance c.args.n gap =
    elim c.if-n-eq0.branch [
      | then-n-eq0 w ↦ distance_none c.args.n gap _ w.if-n-eq0.true w.distance-is
      | else-n-eq0 w ↦ distance_some c.args.n gap _ w.if-n-eq0.false
          (omega (arith, w.distance-is, w.start.ensures, w.start-else-n-eq0.ensures))
    ] in
    let hx : digits c.if-n-eq0.distance
    ≤ d.result = omega (arith, c.requires.fits.0, d.ensures.width, ap digits e) in
    let hn : digits c.args.n ≤ k.result = omega (arith, c.requires.fits.1, k.ensures.width) in
    (both_in_one d.result k.result c.if-n-eq0.distance c.args.n d.ensures.small k.ensures.small hx hn).fits

pub returns-clause-written : goal.returns-clause-written
returns-clause-written c q =
    let l = at c.args.layouts.now c.args.node in
    let gap = c.args.inner.now.start - c.args.block.now.start in
    let d = c.distance_bits-width in
    let k = c.count_bits-count_width in
    let e : c.if-n-eq0.distance ≡ distance c.args.n gap =
    elim c.if-n-eq0.branch [
      | then-n-eq0 w ↦ distance_none c.args.n gap _ w.if-n-eq0.true w.distance-is
      | else-n-eq0 w ↦ distance_some c.args.n gap _ w.if-n-eq0.false
          (omega (arith, w.distance-is, w.start.ensures, w.start-else-n-eq0.ensures))
    ] in
    let x = c.if-n-eq0.distance in
    let hx : digits x ≤ d.result = omega (arith, c.requires.fits.0, d.ensures.width, ap digits e) in
    let hn : digits c.args.n ≤ k.result = omega (arith, c.requires.fits.1, k.ensures.width) in
    let b = both_in_one d.result k.result x c.args.n d.ensures.small k.ensures.small hx hn in
    let y = x + c.args.n * 2 ^ d.result % 2 ^ 64 in
    let b0 = bits_of c.args.region.now.bytes in
    let b1 = bits_of c.put.new.region.bytes in
    let p = 8 * c.args.block.now.start + c.args.bit in
    let at_widths : bits (distance_width l + count_width l) y ≡ bits (distance_width l) x
    ++ bits (count_width l) c.args.n =
    subst (λ (w : ℕ). bits (w + count_width l) y ≡ bits w x ++ bits (count_width l) c.args.n) d.ensures.width
    (subst (λ (w : ℕ). bits (d.result + w) y ≡ bits d.result x ++ bits w c.args.n) k.ensures.width b.bits) in
    let written : b1 ≡ put b0 p (distance_width l + count_width l)
    (bits (distance_width l + count_width l) y) =
    subst (λ (w : ℕ). b1 ≡ put b0 p (w + count_width l) (bits (w + count_width l) y)) d.ensures.width
    (subst (λ (w : ℕ). b1 ≡ put b0 p (d.result + w) (bits (d.result + w) y)) k.ensures.width
    c.put.ensures.bits) in
    range_written b0 b1 p (stride l) (distance_width l) (count_width l) x y c.args.n gap q
    (range_stride l c.requires.range) e at_widths written

use Rattle.std.proofs.Common.{arith, ◌≡◌, ◌<◌, ◌∙◌, refl}
use Rattle.frozen_model.specs.Bits.{field}
use Rattle.content_check.proofs.Leaves.{dirty_later}
use Rattle.content_check.proofs.leaf.first_dirty.Goals as goal

pub loop-left-preserved : goal.loop-left-preserved
loop-left-preserved c =
    let k = c.loop-left in
    let z : field c.args.content.now k.at 1
    ≡ 0 = omega (arith, c.read_bits.ensures.value, c.if-read_bits-ne0.false) in
    let p : 0 < k.left = omega (arith, c.loop-left-test.true) in (
      dirty_later c.args.content.now k.left _ k.at _ p refl refl z
          ∙ k.invariant.0,
      omega (arith, k.invariant.1, p),
    )

use Rattle.std.proofs.Common.{◌≡◌, ℕ, ◌+◌, ◌≤◌, List, arith, ap, ◌∙◌, length}
use Rattle.frozen_model.specs.Bits.{bits, bits_of}
use Rattle.block_region.proofs.Overwrites.{loan_is_write}
use Rattle.freezer.proofs.Puts.{put_in_block, put}
use Rattle.freezer.proofs.put.put.Goals as goal

pub returns-clause-bits : goal.returns-clause-bits
returns-clause-bits c =
    let s = c.args.region.now in
    let bs = s.bytes in
    let b = c.args.block.now in
    let ws = c.write_bits.new.bytes in
    let long : length ws ≡ b.len = omega (arith, c.write_bits.auto.bytes, c.lend.ensures.len) in
    let inside : b.start + b.len ≤ length bs = omega (arith, c.requires, c.lend.ensures.region.inside) in
    ap bits_of (loan_is_write s b ws long c.lend.ensures.region.inside c.requires.taken)
    ∙ put_in_block bs ws b.start b.len c.args.bit c.args.width (bits c.args.width c.args.x) inside long
    c.requires.inside (c.write_bits.ensures
    ∙ ap (λ (r : List ℕ). put (bits_of r) c.args.bit c.args.width (bits c.args.width c.args.x))
    c.lend.ensures.value)

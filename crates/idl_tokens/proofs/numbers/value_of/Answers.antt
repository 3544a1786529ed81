use Rattle.std.proofs.Common.{arith}
use Rattle.idl_tokens.proofs.Values.{digit-step, all-read}
use Rattle.idl_tokens.proofs.numbers.value_of.Goals as goal

pub loop-c-preserved : goal.loop-c-preserved
loop-c-preserved c =
    let k = digit-step c.args.base c.loop-c.n c.loop-c.c-index 0 _ c.args.digits.now c.requires c.loop-c-test.true c.loop-c.invariant.same in
    record { same = cc; fits = omega (arith, c.saturating_add-n.ensures) }

pub returns : goal.returns
returns c = all-read c.args.base c.loop-c.n c.loop-c.c-index _ c.args.digits.now c.loop-c.invariant.fits c.loop-c-test.false c.loop-c.invariant.same

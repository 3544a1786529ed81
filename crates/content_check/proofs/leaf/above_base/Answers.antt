use Rattle.std.proofs.Common.{arith}
use Rattle.std.proofs.lemmas.Int.{ints}
use Rattle.content_check.proofs.leaf.above_base.Goals as goal

pub returns-then-x-top : goal.returns-then-x-top
returns-then-x-top c = let h = c.if-x-top.true in (omega (arith, ints, h), omega (arith, ints, h))

pub returns-else-x-top : goal.returns-else-x-top
returns-else-x-top c = let h = c.if-x-top.false in omega (arith, ints, h)

use Rattle.std.proofs.Common.{◌∙◌, ap, sym, rules, arith}
use Rattle.wire_events.specs.Frames.{stack_of, pushed}
use Rattle.wire_events.proofs.Stacks.{stack_push}
use Rattle.wire_events.proofs.stack.push.Goals as goal

pub returns-in-Some-clause-stack : goal.returns-in-Some-clause-stack
returns-in-Some-clause-stack c =
    stack_push c.args.frames.now c.args.depth c.in-Some.frame (search (rules, arith)) ∙ ap (λ o. pushed o (stack_of c.args.frames.now c.args.depth)) (sym c.in-Some.is)

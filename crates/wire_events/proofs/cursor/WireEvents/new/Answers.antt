use Rattle.std.proofs.Common.{◌≡◌, ◌-◌, length, arith, refl}
use Rattle.wire_events.specs.Events.{events}
use Rattle.wire_events.proofs.Stacks.{root_comes}
use Rattle.wire_events.proofs.cursor.WireEvents.new.Goals as goal

pub invariant_of-result-clause-at_end : goal.invariant_of-result-clause-at_end
invariant_of-result-clause-at_end c = let none : length c.args.bytes.now - length c.args.bytes.now ≡ 0 = omega arith in rw none refl

pub invariant_of-result-clause-goes_on : goal.invariant_of-result-clause-goes_on
invariant_of-result-clause-goes_on c = ∣ (events c.requires.0, root_comes c.requires.0 c.args.bytes.now c.requires.1) ∣₁

pub returns-clause-left : goal.returns-clause-left
returns-clause-left c w is = root_comes w c.args.bytes.now is

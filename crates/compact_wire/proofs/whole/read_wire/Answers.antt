use Rattle.std.proofs.Common.{◌≡◌, length, Ok, Err, subst, sym, arith}
use Rattle.std.proofs.lemmas.Bool.Decides.{nat_tests}
use Rattle.exact_reading.specs.declared.stop.Stop.TheVariants.{Ended, Refused}
use Rattle.exact_reading.specs.Causes.{IsMalformed, IsTrailing}
use Rattle.exact_reading.proofs.CauseLaws.{ended_is, refused_is, whole_is, rest_is, stop_is}
use Rattle.compact_wire.specs.declared.fault.WireFault.TheVariants.{Truncated, Malformed, Trailing}
use Rattle.compact_wire.specs.Bytes.{IsByte}
use Rattle.compact_wire.specs.Spells.{SpellsWire}
use Rattle.compact_wire.specs.View.{view}
use Rattle.compact_wire.proofs.ReadSteps.{AreBytes-from}
use Rattle.compact_wire.proofs.WireLaws.{wire, wire_exact}
use Rattle.compact_wire.proofs.AnswerLaws.{only_of}
use Rattle.compact_wire.proofs.whole.read_wire.Goals as goal

pub returns-then-is_empty-clause-cause : goal.returns-then-is_empty-clause-cause
returns-then-is_empty-clause-cause c =
    let none : length c.in-Ok.rest.now ≡ 0 = grind (arith, nat_tests) in
    whole_is IsByte SpellsWire wire wire_exact c.args.bytes.now c.in-Ok.rest.now (view c.in-Ok.wire)
    (AreBytes-from c.args.bytes.now (λ i. omega (arith, c.type_inv.bytes i))) c.in-Ok.ensures none

pub returns-then-is_empty-clause-only : goal.returns-then-is_empty-clause-only
returns-then-is_empty-clause-only c =
    only_of c.args.bytes.now (Ok c.in-Ok.wire) (returns-then-is_empty-clause-cause c)

pub returns-else-is_empty-clause-cause : goal.returns-else-is_empty-clause-cause
returns-else-is_empty-clause-cause c =
    let some : length c.in-Ok.rest.now ≡ 0 → ⊥ = grind (arith, nat_tests) in
    subst (IsTrailing SpellsWire c.args.bytes.now) (sym c.place.ensures)
    (rest_is IsByte SpellsWire wire wire_exact c.args.bytes.now c.in-Ok.rest.now (view c.in-Ok.wire)
    (AreBytes-from c.args.bytes.now (λ i. omega (arith, c.type_inv.bytes i))) c.in-Ok.ensures some)

pub returns-else-is_empty-clause-only : goal.returns-else-is_empty-clause-only
returns-else-is_empty-clause-only c =
    only_of c.args.bytes.now (Err (Trailing c.place.result)) (returns-else-is_empty-clause-cause c)

pub returns-in-Err-Stop-Ended-clause-cause : goal.returns-in-Err-Stop-Ended-clause-cause
returns-in-Err-Stop-Ended-clause-cause c =
    let s = c.in-Err-Stop-Ended in
    ended_is IsByte SpellsWire wire wire_exact c.args.bytes.now
    (AreBytes-from c.args.bytes.now (λ i. omega (arith, c.type_inv.bytes i)))
    (stop_is s.field-0 s.field-0-0 Ended (wire c.args.bytes.now) s.field-0-is s.field-0-0-is s.ensures)

pub returns-in-Err-Stop-Ended-clause-only : goal.returns-in-Err-Stop-Ended-clause-only
returns-in-Err-Stop-Ended-clause-only c =
    only_of c.args.bytes.now (Err Truncated) (returns-in-Err-Stop-Ended-clause-cause c)

pub returns-in-Err-Stop-Refused-clause-cause : goal.returns-in-Err-Stop-Refused-clause-cause
returns-in-Err-Stop-Refused-clause-cause c =
    let s = c.in-Err-Stop-Refused in
    subst (IsMalformed SpellsWire c.args.bytes.now) (sym c.place-in-Err-Stop-Refused.ensures)
    (refused_is IsByte SpellsWire wire wire_exact c.args.bytes.now s.left
    (AreBytes-from c.args.bytes.now (λ i. omega (arith, c.type_inv.bytes i)))
    (stop_is s.field-0 s.field-0-0 (Refused s.left) (wire c.args.bytes.now) s.field-0-is s.field-0-0-is
    s.ensures))

pub returns-in-Err-Stop-Refused-clause-only : goal.returns-in-Err-Stop-Refused-clause-only
returns-in-Err-Stop-Refused-clause-only c =
    only_of c.args.bytes.now (Err (Malformed c.place-in-Err-Stop-Refused.result))
    (returns-in-Err-Stop-Refused-clause-cause c)

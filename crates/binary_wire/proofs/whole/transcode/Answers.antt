use Rattle.std.proofs.Common.{◌≡◌, length, arith, sym, subst}
use Rattle.std.proofs.lemmas.Bool.Decides.{nat_tests}
use Rattle.compact_wire.proofs.ReadSteps.{AreBytes-from}
use Rattle.binary_wire.specs.BinaryGrammar.{BinarySpells}
use Rattle.exact_reading.specs.Causes.{IsTrailing, IsMalformed}
use Rattle.binary_wire.proofs.Answering.{transcoded_is, trailing_is, truncated_is, malformed_is, only_transcoded}
use Rattle.binary_wire.proofs.whole.transcode.Goals as goal

pub returns-then-is_empty-clause-cause : goal.returns-then-is_empty-clause-cause
returns-then-is_empty-clause-cause c =
    let none : length c.in-Ok-push_value.rest.now ≡ 0 = grind (arith, nat_tests) in
    transcoded_is c.args.bytes.now (AreBytes-from c.args.bytes.now (λ i. omega (arith, c.type_inv.bytes i))) c.in-Ok.out.items c.in-Ok.ensures.items c.push_value.new.out.items c.in-Ok-push_value.rest.now c.in-Ok-push_value.ensures none

pub returns-then-is_empty-clause-only : goal.returns-then-is_empty-clause-only
returns-then-is_empty-clause-only c = only_transcoded c.args.bytes.now _ (returns-then-is_empty-clause-cause c)

pub returns-in-Ok-push_value-clause-cause : goal.returns-in-Ok-push_value-clause-cause
returns-in-Ok-push_value-clause-cause c =
    let some : length c.in-Ok-push_value.rest.now ≡ 0 → ⊥ = grind (arith, nat_tests) in
    subst (IsTrailing BinarySpells c.args.bytes.now) (sym c.place.ensures)
    (trailing_is c.args.bytes.now (AreBytes-from c.args.bytes.now (λ i. omega (arith, c.type_inv.bytes i))) c.in-Ok.out.items c.in-Ok.ensures.items c.push_value.new.out.items c.in-Ok-push_value.rest.now c.in-Ok-push_value.ensures some)

pub returns-in-Ok-push_value-clause-only : goal.returns-in-Ok-push_value-clause-only
returns-in-Ok-push_value-clause-only c = only_transcoded c.args.bytes.now _ (returns-in-Ok-push_value-clause-cause c)

pub returns-in-Err-Stop-Ended-clause-cause : goal.returns-in-Err-Stop-Ended-clause-cause
returns-in-Err-Stop-Ended-clause-cause c =
    let s = c.in-Err-Stop-Ended in
    truncated_is c.args.bytes.now (AreBytes-from c.args.bytes.now (λ i. omega (arith, c.type_inv.bytes i))) c.in-Ok.out.items c.in-Ok.ensures.items s.field-0 s.field-0-0 s.field-0-is s.field-0-0-is s.ensures

pub returns-in-Err-Stop-Ended-clause-only : goal.returns-in-Err-Stop-Ended-clause-only
returns-in-Err-Stop-Ended-clause-only c = only_transcoded c.args.bytes.now _ (returns-in-Err-Stop-Ended-clause-cause c)

pub returns-clause-cause : goal.returns-clause-cause
returns-clause-cause c =
    let s = c.in-Err-Stop-Refused in
    subst (IsMalformed BinarySpells c.args.bytes.now) (sym c.place-in-Err-Stop-Refused.ensures)
    (malformed_is c.args.bytes.now (AreBytes-from c.args.bytes.now (λ i. omega (arith, c.type_inv.bytes i))) c.in-Ok.out.items c.in-Ok.ensures.items s.field-0 s.field-0-0 s.left s.field-0-is s.field-0-0-is s.ensures)

pub returns-clause-only : goal.returns-clause-only
returns-clause-only c = only_transcoded c.args.bytes.now _ (returns-clause-cause c)

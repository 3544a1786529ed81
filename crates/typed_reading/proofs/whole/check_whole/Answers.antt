use Rattle.std.proofs.Common.{◌≡◌, length, sym, subst, arith}
use Rattle.std.proofs.lemmas.Bool.Decides.{nat_tests}
use Rattle.exact_reading.specs.Causes.{IsMalformed, IsTrailing}
use Rattle.compact_wire.specs.Spells.{SpellsWire}
use Rattle.compact_wire.proofs.ReadSteps.{AreBytes-from}
use Rattle.idl_parse.specs.Refs.{type_of_ref}
use Rattle.typed_reading.proofs.Checks.{count_is_told}
use Rattle.typed_reading.proofs.Spelled.{known, trailing, truncated, malformed}
use Rattle.typed_reading.proofs.whole.check_whole.Goals as goal

pub returns-then-is_empty-clause-known : goal.returns-then-is_empty-clause-known
returns-then-is_empty-clause-known c =
    let none : length c.in-Ok.rest.now ≡ 0 = grind (arith, nat_tests) in
    known (type_of_ref c.args.ty) c.args.bytes.now (AreBytes-from c.args.bytes.now (λ i. omega (arith, c.type_inv.bytes i))) c.check_struct.new.progress c.in-Ok.rest.now c.in-Ok.ensures.reads none

pub returns-in-Ok-clause-refused : goal.returns-in-Ok-clause-refused
returns-in-Ok-clause-refused c =
    let some : length c.in-Ok.rest.now ≡ 0 → ⊥ = grind (arith, nat_tests) in
    subst (IsTrailing SpellsWire c.args.bytes.now) (sym c.place.ensures)
    (trailing (type_of_ref c.args.ty) c.args.bytes.now (AreBytes-from c.args.bytes.now (λ i. omega (arith, c.type_inv.bytes i))) c.check_struct.new.progress c.in-Ok.rest.now c.in-Ok.ensures.reads some)

pub returns-in-Err-Stop-Ended-clause-refused : goal.returns-in-Err-Stop-Ended-clause-refused
returns-in-Err-Stop-Ended-clause-refused c =
    let s = c.in-Err-Stop-Ended in
    let same = rw s.field-0-is at s.field-0-0-is in
    truncated (type_of_ref c.args.ty) c.args.bytes.now (AreBytes-from c.args.bytes.now (λ i. omega (arith, c.type_inv.bytes i))) s.field-0 s.field-0-0 s.field-0-is same s.ensures.reads

pub returns-clause-refused : goal.returns-clause-refused
returns-clause-refused c =
    let s = c.in-Err-Stop-Refused in
    let same = rw s.field-0-is at s.field-0-0-is in
    subst (IsMalformed SpellsWire c.args.bytes.now) (sym c.place-in-Err-Stop-Refused.ensures)
    (rw s.field-0-0-is (malformed (type_of_ref c.args.ty) c.args.bytes.now (AreBytes-from c.args.bytes.now (λ i. omega (arith, c.type_inv.bytes i))) s.field-0 s.field-0-0 s.left s.field-0-is same s.ensures.reads))

pub returns-then-is_empty-clause-counts : goal.returns-then-is_empty-clause-counts
returns-then-is_empty-clause-counts c clean w v =
    count_is_told (type_of_ref c.args.ty) c.args.bytes.now c.nothing-sums.result c.check_struct.new.sums c.in-Ok.rest.now c.nothing-sums.ensures c.requires.accepted (c.in-Ok.ensures.counts clean) w v

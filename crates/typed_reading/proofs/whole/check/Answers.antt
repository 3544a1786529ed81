use Rattle.std.proofs.Common.{subst, sym, Result}
use Rattle.idl_parse.specs.Refs.{type_of_ref}
use Rattle.typed_reading.specs.declared.counts.Checked.{Checked}
use Rattle.typed_reading.specs.declared.fault.ValueFault.{ValueFault}
use Rattle.typed_reading.specs.Answers.{IsChecked, IsOnlyChecked}
use Rattle.typed_reading.proofs.Checks.{passes_on, only_stopped, cause_limited, only_limited}
use Rattle.typed_reading.proofs.whole.check.Goals as goal

pub returns-in-Ok-clause-cause : goal.returns-in-Ok-clause-cause
returns-in-Ok-clause-cause c =
    let t = type_of_ref c.args.ty in
    let b = c.args.bytes.now in
    let k = c.in-Ok.ensures.cause in
    subst (λ (r : Result Checked ValueFault). IsChecked t b r) (sym c.within_limit.ensures) (cause_limited t b k.0 k.1 c.in-Ok.count (c.in-Ok.ensures.counts k.0 k.1))

pub returns-in-Ok-clause-only : goal.returns-in-Ok-clause-only
returns-in-Ok-clause-only c =
    let t = type_of_ref c.args.ty in
    let b = c.args.bytes.now in
    let k = c.in-Ok.ensures.cause in
    subst (λ (r : Result Checked ValueFault). IsOnlyChecked t b r) (sym c.within_limit.ensures) (only_limited t b k.0 k.1 c.in-Ok.count (c.in-Ok.ensures.counts k.0 k.1))

pub returns-in-Err-clause-cause : goal.returns-in-Err-clause-cause
returns-in-Err-clause-cause c = passes_on (type_of_ref c.args.ty) c.args.bytes.now c.in-Err.fault c.in-Err.ensures.cause

pub returns-in-Err-clause-only : goal.returns-in-Err-clause-only
returns-in-Err-clause-only c = only_stopped (type_of_ref c.args.ty) c.args.bytes.now c.in-Err.fault c.in-Err.ensures.only

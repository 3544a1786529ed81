use Rattle.std.proofs.Common.{◌∙◌, sym, ap, subst, Err}
use Rattle.idl_parse.specs.Refs.{type_of_ref}
use Rattle.typed_reading.specs.declared.fault.ValueFault.{ValueFault}
use Rattle.typed_reading.specs.declared.progress.Progress.{Progress}
use Rattle.typed_reading.specs.Answers.{IsOnlyCaused}
use Rattle.typed_reading.proofs.Answering.{sound_is, only_sound, only_fault, only_unread}
use Rattle.root_kinds.proofs.References.{struct_ref_is_accepted}
use Rattle.typed_reading.proofs.whole.count_value.Goals as goal

pub check_whole-requires-clause-accepted : goal.check_whole-requires-clause-accepted
check_whole-requires-clause-accepted c = struct_ref_is_accepted c.args.ty c.requires.is_struct

pub returns-in-Some-clause-only : goal.returns-in-Some-clause-only
returns-in-Some-clause-only c =
    let t = type_of_ref c.args.ty in
    let b = c.args.bytes.now in
    let k = c.in-Ok.ensures.known in
    let least = sym (ap (λ (p : Progress). p.found) k.2) ∙ c.in-Some.is in
    subst (λ (f : ValueFault). IsOnlyCaused t b (Err f)) (sym c.fault_of.ensures) (only_fault t b k.0 c.in-Some.found k.1 least)

pub returns-in-None-clause-cause : goal.returns-in-None-clause-cause
returns-in-None-clause-cause c =
    let k = c.in-Ok.ensures.known in
    (k.0, sound_is (type_of_ref c.args.ty) c.args.bytes.now k.0 k.1 (sym (ap (λ (p : Progress). p.found) k.2) ∙ c.in-None.is))

pub returns-in-None-clause-only : goal.returns-in-None-clause-only
returns-in-None-clause-only c =
    let k = c.in-Ok.ensures.known in
    only_sound (type_of_ref c.args.ty) c.args.bytes.now k.0 k.1 (sym (ap (λ (p : Progress). p.found) k.2) ∙ c.in-None.is)

pub returns-in-Err-clause-only : goal.returns-in-Err-clause-only
returns-in-Err-clause-only c = only_unread (type_of_ref c.args.ty) c.args.bytes.now c.in-Err.fault c.in-Err.ensures.refused

pub returns-in-None-clause-counts : goal.returns-in-None-clause-counts
returns-in-None-clause-counts c = c.in-Ok.ensures.counts c.in-None.is

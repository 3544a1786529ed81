use Rattle.std.proofs.Common.{◌≡◌, ◌∙◌, sym, ap, None, Some}
use Rattle.idl_parse.specs.Refs.{type_of_ref}
use Rattle.serde_json.specs.View.{view}
use Rattle.typed_reading.specs.Faults.{least}
use Rattle.json_value.specs.declared.progress.Progress.{Progress}
use Rattle.json_value.specs.Faults.{faults}
use Rattle.json_value.proofs.Answering.{least_of_json, clean_is}
use Rattle.json_value.proofs.whole.find_fault.Goals as goal

pub fault_of-requires : goal.fault_of-requires
fault_of-requires c =
    let j = view c.in-Ok.value in let t = type_of_ref c.args.ty in
    let some : least (faults j t 0) ≡ Some c.in-Some.found =
    sym (ap (λ (p : Progress). p.found) c.in-Ok-check_whole.ensures.ok) ∙ c.in-Some.is in
    least_of_json j t 0 c.in-Some.found some

pub returns-clause-cause : goal.returns-clause-cause
returns-clause-cause c =
    let j = view c.in-Ok.value in let t = type_of_ref c.args.ty in
    let none : least (faults j t 0) ≡ None =
    sym (ap (λ (p : Progress). p.found) c.in-Ok-check_whole.ensures.ok) ∙ c.in-None.is in
    clean_is t c.args.text.now j c.in-Ok.ensures.ok none

use Rattle.std.proofs.Common.{◌≡◌, drop}
use Rattle.std.specs.Prelude.{find}
use Rattle.std.specs.Str.{bytes_eq}
use Rattle.idl_parse.specs.Refs.{fields_in}
use Rattle.idl_parse.proofs.definition.FieldRefs.named.Given as goal

abbrev pub invariant-loop-field : goal.invariant-loop-field
invariant-loop-field l = find (λ f. bytes_eq f.name l.name) (fields_in l.def l.within (drop l.field-index l.fields)) ≡ find (λ f. bytes_eq f.name l.name) (fields_in l.def l.within l.fields)

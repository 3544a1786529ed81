use Rattle.std.specs.Prelude.{string_bytes}
use Rattle.std.proofs.Common.{◌≡◌, ◌++◌}
use Rattle.idl_fields.specs.View.{types_in, nameds_of, field_of}
use Rattle.idl_print.specs.Written.{field_text}
use Rattle.idl_print.proofs.Loops.{left}
use Rattle.idl_print.proofs.text.push_fields.Given as goal

abbrev pub invariant-loop-field : goal.invariant-loop-field
invariant-loop-field l =
    string_bytes l.out ++ left (field_text (nameds_of l.text (types_in l.types) l.named)) (field_of l.text (types_in l.types)) l.field-index l.fields ≡ string_bytes l.initial.out ++ left (field_text (nameds_of l.text (types_in l.types) l.named)) (field_of l.text (types_in l.types)) 0 l.fields

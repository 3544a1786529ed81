use Rattle.std.specs.Prelude.{string_bytes}
use Rattle.std.proofs.Common.{◌≡◌, ◌++◌}
use Rattle.idl_fields.specs.View.{types_in}
use Rattle.idl_print.proofs.AnyText.{still}
use Rattle.idl_print.proofs.text.print_named.Given as goal

abbrev pub invariant-loop-i : goal.invariant-loop-i
invariant-loop-i l = string_bytes l.out ++ still l.text (types_in l.types) l.named l.i ≡ still l.text (types_in l.types) l.named 0

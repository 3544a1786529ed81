use Rattle.std.specs.Prelude.{string_bytes}
use Rattle.std.proofs.Common.{◌≡◌, ◌++◌}
use Rattle.idl_fields.specs.View.{member_of}
use Rattle.idl_print.specs.Printed.{member_text}
use Rattle.idl_print.proofs.Loops.{left}
use Rattle.idl_print.proofs.text.push_members.Given as goal

abbrev pub invariant-loop-member : goal.invariant-loop-member
invariant-loop-member l = string_bytes l.out ++ left member_text (member_of l.text) l.member-index l.members ≡ string_bytes l.initial.out ++ left member_text (member_of l.text) 0 l.members

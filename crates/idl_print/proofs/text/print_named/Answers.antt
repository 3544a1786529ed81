use Rattle.std.specs.Prelude.{string_bytes}
use Rattle.std.proofs.Common.{◌≤◌, ◌∙◌, length, arith}
use Rattle.idl_fields.specs.View.{types_in, nameds_of}
use Rattle.idl_print.proofs.AnyText.{any_text, still_none}
use Rattle.idl_print.proofs.text.print_named.Goals as goal

-- nothing is left to be written
pub returns : goal.returns
returns c =
    let past : length c.args.named.now ≤ c.loop-i.i = omega arith in
    still_none c.args.text.now (types_in c.args.types.now) c.args.named.now c.loop-i.i (string_bytes c.loop-i.out) _ past (c.loop-i.invariant ∙ any_text (nameds_of c.args.text.now (types_in c.args.types.now) c.args.named.now))

use Rattle.std.specs.Prelude.{string_bytes}
use Rattle.idl_fields.specs.Nodes.{node_type}
use Rattle.idl_fields.specs.View.{types_in, nameds_of, field_of, default_of}
use Rattle.idl_print.specs.Written.{declared_text, default_text}
use Rattle.idl_print.proofs.Loops.{line_ends}
use Rattle.idl_print.proofs.values.push_field.Goals as goal

pub returns : goal.returns
returns c =
    let text = c.args.text.now in
    let types = types_in c.args.types.now in
    let f = c.args.field.now in
    line_ends c.push_str.result (string_bytes c.args.out.now) (string_bytes c.push_declared.new.out) (string_bytes c.push_default.new.out) (string_bytes c.push_str.new.self)
    (declared_text (nameds_of text types c.args.named.now) (field_of text types f)) (default_text (node_type types f.ty) (default_of text f.default))
    c.in_ok-push_declared.ensures (c.in_ok-push_default.ensures types) c.push_str.ensures.bytes

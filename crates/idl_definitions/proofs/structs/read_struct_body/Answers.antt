use Rattle.std.proofs.lemmas.Result.{err_from_is_err_and}
use Rattle.idl_tokens.specs.Spans.{toks}
use Rattle.idl_fields.specs.View.{entries_in, scope_of, written_fields}
use Rattle.idl_definitions.proofs.StructSteps.{end_breaks}
use Rattle.idl_definitions.proofs.structs.read_struct_body.Goals as goal

pub returns-in_err-rest-2 : goal.returns-in_err-rest-2
returns-in_err-rest-2 c =
    let p = err_from_is_err_and c.from_residual-in_err-rest-2.result c.from_residual-in_err-rest-2.ensures.1 in
    let k = c.in_err-rest-2.ensures in
    let j = rw c.deref.ensures.value at k in
    rw (p.1, p.2) (end_breaks c.in_err-rest-2.field-0.0 (scope_of c.args.text.now c.args.scope.now) (toks c.args.text.now c.args.tokens.now) (toks c.args.text.now c.in_ok-rest.rest.now) (toks c.args.text.now c.in_ok-fields.rest.now) (written_fields c.args.text.now (entries_in c.args.text.now c.args.scope.now) c.in_ok-fields.fields.items)
    (c.in_ok-rest.ensures c.args.text.now) c.in_ok-fields.ensures j)

use Rattle.std.proofs.lemmas.Result.{err_from_is_err_and}
use Rattle.idl_tokens.specs.Spans.{toks}
use Rattle.idl_fields.specs.View.{scope_of}
use Rattle.idl_parse.proofs.Answering.{read-means, read-stops, read-rooted}
use Rattle.idl_parse.proofs.parsing.read_characters.Goals as goal

pub returns-in_err-scope : goal.returns-in_err-scope
returns-in_err-scope c =
    let p = err_from_is_err_and c.from_residual-in_err-scope.result c.from_residual-in_err-scope.ensures.1 in
    let h = c.in_err-scope.ensures in
    rw (p.1, p.2) (read-stops c.args.text.now (toks c.args.text.now c.in_ok-tokens.tokens.items) c.in_err-scope.field-0.0 c.utf8.text c.in_ok-tokens.ensures (rw c.deref.ensures.value at h))

pub returns : goal.returns
returns c =
    let h = c.in_ok-scope.ensures in
    read-rooted c.args.text.now (toks c.args.text.now c.in_ok-tokens.tokens.items) (scope_of c.args.text.now c.in_ok-scope.scope) _ c.rooted.result c.utf8.text c.in_ok-tokens.ensures (rw c.deref.ensures.value at h) c.rooted.ensures.ok c.rooted.ensures.err

-- where one of the enums and structs is a struct, the tokens spell them
pub rooted-requires-clause-meant : goal.rooted-requires-clause-meant
rooted-requires-clause-meant c =
    let h = c.in_ok-scope.ensures in λ s. read-means c.args.text.now (toks c.args.text.now c.in_ok-tokens.tokens.items) (scope_of c.args.text.now c.in_ok-scope.scope) _ c.in_ok-tokens.ensures (rw c.deref.ensures.value at h) s

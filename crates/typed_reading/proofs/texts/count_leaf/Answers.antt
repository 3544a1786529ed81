use Rattle.std.proofs.lemmas.Result.{err_from_is_err_and}
use Rattle.idl_parse.specs.Refs.{type_of_ref}
use Rattle.typed_reading.proofs.CountSteps.{number_fails, taken_fails, bytes_counted, scalar_counted}
use Rattle.typed_reading.proofs.texts.count_leaf.Goals as goal

pub returns-in_err-n-in-Binary-clause-counts : goal.returns-in_err-n-in-Binary-clause-counts
returns-in_err-n-in-Binary-clause-counts c =
    let p = err_from_is_err_and c.from_residual.result c.from_residual.ensures.1 in
    rw (p.1, p.2) (number_fails (type_of_ref c.args.ty) c.args.sums.now c.args.kind c.args.bytes.now c.in_err-n-in-Binary.field-0.0 c.in-Binary.is c.in_err-n-in-Binary.ensures.reads)

pub returns-in_err-x-in-Binary-clause-counts : goal.returns-in_err-x-in-Binary-clause-counts
returns-in_err-x-in-Binary-clause-counts c =
    let p = err_from_is_err_and c.from_residual-in_err-x-in-Binary.result c.from_residual-in_err-x-in-Binary.ensures.1 in
    rw (p.1, p.2) (taken_fails (type_of_ref c.args.ty) c.args.sums.now c.args.kind c.args.bytes.now c.in_ok-n-in-Binary.n c.in_ok-n-in-Binary.rest.now c.in_err-x-in-Binary.field-0.0 c.in-Binary.is c.in_ok-n-in-Binary.ensures.reads c.in_err-x-in-Binary.ensures.reads)

pub returns-in_ok-x-in-Binary-clause-counts : goal.returns-in_ok-x-in-Binary-clause-counts
returns-in_ok-x-in-Binary-clause-counts c =
    rw c.with_bytes.ensures (bytes_counted (type_of_ref c.args.ty) c.args.sums.now c.args.kind c.args.bytes.now c.in_ok-n-in-Binary.n c.in_ok-n-in-Binary.rest.now c.in_ok-x-in-Binary.x.now c.in_ok-x-in-Binary.rest.now c.in-Binary.is c.requires c.in_ok-n-in-Binary.ensures.reads c.in_ok-x-in-Binary.ensures.reads)

pub returns-in_ok-rest-in_default-clause-counts : goal.returns-in_ok-rest-in_default-clause-counts
returns-in_ok-rest-in_default-clause-counts c =
    rw c.with_scalar.ensures (scalar_counted (type_of_ref c.args.ty) c.args.sums.now c.args.kind c.args.bytes.now c.in_ok-rest-in_default.rest.now c.in_default.not-Binary c.requires c.in_ok-rest-in_default.ensures.reads)

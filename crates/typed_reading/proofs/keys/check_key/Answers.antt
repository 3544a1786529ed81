use Rattle.std.proofs.Common.{arith}
use Rattle.std.proofs.lemmas.Result.{err_from_is_err_and}
use Rattle.idl_parse.specs.Refs.{type_of_ref}
use Rattle.key_order.specs.Keys.{value_of}
use Rattle.typed_reading.proofs.CountSteps.{key_counted}
use Rattle.typed_reading.proofs.Leaves.{key_seen, key_next, key_seen_err}
use Rattle.typed_reading.proofs.keys.check_key.Goals as goal

pub returns-in_err-key-clause-reads : goal.returns-in_err-key-clause-reads
returns-in_err-key-clause-reads c =
    let p = err_from_is_err_and c.from_residual.result c.from_residual.ensures.1 in
    rw (p.1, p.2) (key_seen_err (type_of_ref c.args.ty) c.args.progress.now c.args.kind c.args.bytes.now c.requires.code c.in_err-key.field-0.0 c.in_err-key.ensures.reads)

pub returns-clause-reads : goal.returns-clause-reads
returns-clause-reads c =
    key_seen (type_of_ref c.args.ty) c.args.progress.now c.args.kind c.args.bytes.now c.requires.code (value_of c.in_ok-key.key) c.behind_key.new.progress c.in_ok-key.rest.now c.in_ok-key.ensures.reads c.behind_key.ensures

pub returns-clause-room : goal.returns-clause-room
returns-clause-room c =
    let n = key_next (type_of_ref c.args.ty) c.args.progress.now c.args.kind c.args.bytes.now c.requires.code (value_of c.in_ok-key.key) c.behind_key.new.progress c.in_ok-key.rest.now c.in_ok-key.ensures.reads c.behind_key.ensures in
    omega (arith, n, c.in_ok-key.ensures.shorter)

pub returns-clause-next : goal.returns-clause-next
returns-clause-next c =
    key_next (type_of_ref c.args.ty) c.args.progress.now c.args.kind c.args.bytes.now c.requires.code (value_of c.in_ok-key.key) c.behind_key.new.progress c.in_ok-key.rest.now c.in_ok-key.ensures.reads c.behind_key.ensures

pub returns-clause-counts : goal.returns-clause-counts
returns-clause-counts c =
    key_counted (type_of_ref c.args.ty) c.args.sums.now c.args.kind c.args.bytes.now (value_of c.in_ok-key.key) c.with_key.result c.in_ok-key.rest.now c.requires.code c.in_ok-key.ensures.reads (λ w. c.with_key.ensures (type_of_ref c.args.ty) w)

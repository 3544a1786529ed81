use Rattle.std.proofs.Common.{◌∙◌, sym, ap, arith}
use Rattle.std.proofs.lemmas.Result.{err_from_is_err_and}
use Rattle.idl_parse.specs.Refs.{type_of_ref}
use Rattle.exact_reading.specs.Reading.{seen, left}
use Rattle.compact_wire.specs.Reads.{scalar}
use Rattle.wire_scan.proofs.Seen.{seen_ok, seen_err}
use Rattle.typed_reading.specs.Counts.{counted}
use Rattle.typed_reading.specs.Progress.{after}
use Rattle.typed_reading.proofs.CountSteps.{text_counted}
use Rattle.typed_reading.proofs.Leaves.{text_seen, plain_seen}
use Rattle.typed_reading.proofs.texts.check_leaf.Goals as goal

pub returns-in-Text-clause-reads : goal.returns-in-Text-clause-reads
returns-in-Text-clause-reads c =
    let e = text_seen (type_of_ref c.args.ty) c.args.progress.now c.args.kind c.args.bytes.now (sym c.kind.ensures ∙ c.in-Text.is) c.requires.code in
    rw (sym e) c.check_text.ensures.reads

pub returns-in-Text-clause-counts : goal.returns-in-Text-clause-counts
returns-in-Text-clause-counts c =
    let e = text_counted (type_of_ref c.args.ty) c.args.sums.now c.args.kind c.args.bytes.now (sym c.kind.ensures ∙ c.in-Text.is) c.requires.code in
    rw (sym e) c.check_text.ensures.counts

pub returns-in_err-rest-in_default-clause-reads : goal.returns-in_err-rest-in_default-clause-reads
returns-in_err-rest-in_default-clause-reads c =
    let p = err_from_is_err_and c.from_residual.result c.from_residual.ensures.1 in
    let t = type_of_ref c.args.ty in
    rw (p.1, p.2) (ap (seen (after t c.args.progress.now)) (seen_err (counted t c.args.sums.now) (scalar c.args.kind c.args.bytes.now) c.in_err-rest-in_default.field-0.0 c.in_err-rest-in_default.ensures.counts))

pub returns-in_ok-rest-in_default : goal.returns-in_ok-rest-in_default
returns-in_ok-rest-in_default c =
    let t = type_of_ref c.args.ty in
    let x = seen_ok (counted t c.args.sums.now) (scalar c.args.kind c.args.bytes.now) c.count_leaf.new.sums c.in_ok-rest-in_default.rest.now c.in_ok-rest-in_default.ensures.counts in
    record {
      reads = rw c.pass_node.ensures (plain_seen t c.args.progress.now c.args.kind c.args.bytes.now c.in_ok-rest-in_default.rest.now (λ e. c.in_default.not-Text (c.kind.ensures ∙ e)) c.requires.code (ap left x.1));
      counts = c.in_ok-rest-in_default.ensures.counts;
      room = omega (arith, c.in_ok-rest-in_default.ensures.shorter, ap (λ s. s.next) c.pass_node.ensures);
    }

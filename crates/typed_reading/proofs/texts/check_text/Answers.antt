use Rattle.std.proofs.Common.{◌∙◌, sym, refl}
use Rattle.compact_wire.specs.declared.kind.Kind.TheVariants as k
use Rattle.idl_profile.specs.Types.{text}
use Rattle.typed_reading.proofs.CountSteps.{bytes_counted}
use Rattle.std.proofs.lemmas.Result.{err_from_is_err_and}
use Rattle.typed_reading.proofs.Leaves.{text_number_err, text_taken_err, text_fine, text_bad}
use Rattle.typed_reading.proofs.texts.check_text.Goals as goal

pub returns-in_err-n-clause-reads : goal.returns-in_err-n-clause-reads
returns-in_err-n-clause-reads c =
    let p = err_from_is_err_and c.from_residual.result c.from_residual.ensures.1 in
    rw (p.1, p.2) (text_number_err c.args.progress.now c.args.bytes.now c.in_err-n.field-0.0 c.in_err-n.ensures.reads)

pub returns-in_err-x-clause-reads : goal.returns-in_err-x-clause-reads
returns-in_err-x-clause-reads c =
    let p = err_from_is_err_and c.from_residual-in_err-x.result c.from_residual-in_err-x.ensures.1 in
    rw (p.1, p.2) (text_taken_err c.args.progress.now c.args.bytes.now c.in_ok-n.n c.in_ok-n.rest.now c.in_err-x.field-0.0 c.in_ok-n.ensures.reads c.in_err-x.ensures.reads)

pub returns-then-is_text-clause-reads : goal.returns-then-is_text-clause-reads
returns-then-is_text-clause-reads c = rw c.pass_node.ensures (text_fine c.args.progress.now c.args.bytes.now c.in_ok-n.n c.in_ok-n.rest.now c.in_ok-x.x.now c.in_ok-x.rest.now c.in_ok-n.ensures.reads c.in_ok-x.ensures.reads (sym c.is_text.ensures ∙ c.if-is_text.true))

pub returns-else-is_text-clause-reads : goal.returns-else-is_text-clause-reads
returns-else-is_text-clause-reads c = rw c.note_fault.ensures (text_bad c.args.progress.now c.args.bytes.now c.in_ok-n.n c.in_ok-n.rest.now c.in_ok-x.x.now c.in_ok-x.rest.now c.in_ok-n.ensures.reads c.in_ok-x.ensures.reads (sym c.is_text.ensures ∙ c.if-is_text.false))

pub returns-then-is_text-clause-counts : goal.returns-then-is_text-clause-counts
returns-then-is_text-clause-counts c = rw c.with_bytes.ensures (bytes_counted text c.args.sums.now k.Binary c.args.bytes.now c.in_ok-n.n c.in_ok-n.rest.now c.in_ok-x.x.now c.in_ok-x.rest.now refl refl c.in_ok-n.ensures.reads c.in_ok-x.ensures.reads)

pub returns-else-is_text-clause-counts : goal.returns-else-is_text-clause-counts
returns-else-is_text-clause-counts c = rw c.with_bytes.ensures (bytes_counted text c.args.sums.now k.Binary c.args.bytes.now c.in_ok-n.n c.in_ok-n.rest.now c.in_ok-x.x.now c.in_ok-x.rest.now refl refl c.in_ok-n.ensures.reads c.in_ok-x.ensures.reads)

use Rattle.std.proofs.Common.{Ok, Err, arith, ap, sym, subst, ◌∙◌, ◌+◌, ◌≡◌}
use Rattle.std.specs.Prelude.{IfOk, nat_eq, ◌||◌}
use Rattle.compact_wire.specs.declared.kind.Kind.{Kind}
use Rattle.compact_wire.specs.Codes.{code_of}
use Rattle.typed_reading.specs.declared.progress.Progress.{Progress}
use Rattle.wire_scan.specs.Sizes.{sizes}
use Rattle.std.proofs.lemmas.Result.{err_from_is_err_and}
use Rattle.exact_reading.specs.Reading.{Gives, seen}
use Rattle.compact_wire.specs.Node.{Nodes, set}
use Rattle.compact_wire.specs.Reads.{items, value}
use Rattle.idl_profile.specs.Types.{TypeTree}
use Rattle.idl_parse.specs.Refs.{type_of_ref, element_of}
use Rattle.typed_reading.specs.declared.counts.Checked.{Checked}
use Rattle.typed_reading.specs.declared.fault.NodeFault.TheVariants.{WrongType}
use Rattle.typed_reading.specs.Counts.{grown, a_holder, counted_items, IsCount}
use Rattle.typed_reading.proofs.CountSteps.{set_holds, row_counted, noted}
use Rattle.typed_reading.specs.Codes.{code}
use Rattle.typed_reading.specs.Progress.{after_set, inside}
use Rattle.typed_reading.proofs.Steps.{some_same}
use Rattle.typed_reading.proofs.Rows.{row_header_err, row_count_err, set_fine, row_wrong, row_wrong_err, set_row}
use Rattle.typed_reading.proofs.Parts.{key_kind, element_is_key}
use Rattle.typed_reading.proofs.checking.check_set.Goals as goal

pub returns-in_err-header-clause-reads : goal.returns-in_err-header-clause-reads
returns-in_err-header-clause-reads c =
    let p = err_from_is_err_and c.from_residual.result c.from_residual.ensures.1 in
    rw (p.1, p.2) (row_header_err set (type_of_ref c.args.ty) c.args.progress.now c.args.levels c.args.bytes.now c.in_err-header.field-0.0 c.in_err-header.ensures.reads)

pub returns-in_err-count-clause-reads : goal.returns-in_err-count-clause-reads
returns-in_err-count-clause-reads c =
    let p = err_from_is_err_and c.from_residual-in_err-count.result c.from_residual-in_err-count.ensures.1 in
    rw (p.1, p.2) (row_count_err set (type_of_ref c.args.ty) c.args.progress.now c.args.levels c.args.bytes.now c.in_ok-header.header c.in_ok-header.rest.now c.in_err-count.field-0.0 c.in_ok-header.ensures.reads c.in_err-count.ensures.reads)

pub returns-in_err-next-clause-reads : goal.returns-in_err-next-clause-reads
returns-in_err-next-clause-reads c =
    let p = err_from_is_err_and c.from_residual-in_err-next.result c.from_residual-in_err-next.ensures.1 in
    let g = subst (λ (k : Kind). seen (λ (xs : Nodes). c.args.progress.now.next + 1 + sizes xs) (items (value c.args.levels k) c.in_ok-count.count c.in_ok-count.rest.now) ≡ Err c.in_err-next.field-0.0) c.element_of-kind.ensures c.in_err-next.ensures.reads in
    rw (p.1, p.2) (row_wrong_err set 10 set_row (type_of_ref c.args.ty) c.args.progress.now c.args.levels c.args.bytes.now c.in_ok-header.header c.in_ok-header.rest.now c.in_ok-count.rest.now c.in_ok-count.count c.in_err-next.field-0.0 c.in_ok-header.ensures.reads c.in_ok-count.ensures.reads g)

pub returns-then-not-elements_fit-clause-reads : goal.returns-then-not-elements_fit-clause-reads
returns-then-not-elements_fit-clause-reads c =
    let n = c.in_ok-count.count in
    let g = subst (λ (k : Kind). seen (λ (xs : Nodes). c.args.progress.now.next + 1 + sizes xs) (items (value c.args.levels k) c.in_ok-count.count c.in_ok-count.rest.now) ≡ Ok (c.in_ok-next.next, c.in_ok-next.rest.now)) c.element_of-kind.ensures c.in_ok-next.ensures.reads in
    let fit = ap (λ (k : Kind). nat_eq n 0 || nat_eq (code_of k) (code (element_of (type_of_ref c.args.ty)))) (sym c.element_of-kind.ensures)
    ∙ ap (λ (u : TypeTree). nat_eq n 0 || nat_eq (code_of c.element_of-kind.result) (code u)) (sym c.element-element.ensures) ∙ sym c.elements_fit.ensures ∙ c.if-not-elements_fit.true in
    rw c.note_fault.ensures (row_wrong set 10 set_row (type_of_ref c.args.ty) c.args.progress.now c.args.levels c.args.bytes.now c.in_ok-header.header c.in_ok-header.rest.now c.in_ok-count.rest.now c.in_ok-next.rest.now n c.in_ok-next.next c.in_ok-header.ensures.reads c.in_ok-count.ensures.reads fit g)

pub check_set_items-requires : goal.check_set_items-requires
check_set_items-requires c =
    let t = type_of_ref c.args.ty in
    let fit = sym c.elements_fit.ensures ∙ c.if-not-elements_fit.false in
    record {
      room = omega (arith, ap (λ (s : Progress). s.next) c.pass_node.ensures, c.in_ok-header.ensures.shorter, c.in_ok-count.ensures.shorter, c.requires.room);
      kind = λ lt. let same = some_same c.in_ok-count.count (code_of c.element_of-kind.result) (code (type_of_ref c.element-element.result)) lt fit in (key_kind (element_of t) c.element_of-kind.result (element_is_key t c.requires.code c.requires.accepted) (same ∙ ap code c.element-element.ensures), same);
    }

pub returns-clause-reads : goal.returns-clause-reads
returns-clause-reads c =
    let n = c.in_ok-count.count in
    let b = c.in_ok-count.rest.now in
    let fit = ap (λ (k : Kind). nat_eq n 0 || nat_eq (code_of k) (code (element_of (type_of_ref c.args.ty)))) (sym c.element_of-kind.ensures)
    ∙ ap (λ (u : TypeTree). nat_eq n 0 || nat_eq (code_of c.element_of-kind.result) (code u)) (sym c.element-element.ensures) ∙ sym c.elements_fit.ensures ∙ c.if-not-elements_fit.false in
    let e = set_fine (type_of_ref c.args.ty) c.args.progress.now c.args.levels c.args.bytes.now c.in_ok-header.header c.in_ok-header.rest.now b n c.in_ok-header.ensures.reads c.in_ok-count.ensures.reads c.requires.code fit in
    let g = ap (λ (u : TypeTree). seen (after_set u c.pass_node.new.progress) (items (value c.args.levels c.element_of-kind.result) n b)) c.element-element.ensures
    ∙ ap (λ (p : Progress). seen (after_set (element_of (type_of_ref c.args.ty)) p) (items (value c.args.levels c.element_of-kind.result) n b)) c.pass_node.ensures
    ∙ ap (λ (k : Kind). seen (after_set (element_of (type_of_ref c.args.ty)) (inside c.args.progress.now)) (items (value c.args.levels k) n b)) c.element_of-kind.ensures ∙ sym e in
    subst (λ z. Gives (λ x. (c.check_set_items.new.progress, x.now)) c.check_set_items.result z) g c.check_set_items.ensures.reads

pub returns-then-not-elements_fit-clause-counts : goal.returns-then-not-elements_fit-clause-counts
returns-then-not-elements_fit-clause-counts c clean = absurd (noted c.args.progress.now WrongType c.in_ok-next.next c.note_fault.new.progress c.note_fault.ensures clean)

pub returns-clause-counts : goal.returns-clause-counts
returns-clause-counts c =
    let t = type_of_ref c.args.ty in
    let n = c.in_ok-count.count in
    let b = c.in_ok-count.rest.now in
    let e = row_counted set t c.args.sums.now c.args.levels c.args.bytes.now c.in_ok-header.header c.in_ok-header.rest.now b n c.in_ok-header.ensures.reads c.in_ok-count.ensures.reads (set_holds t c.requires.code) in
    let g = ap (λ (u : TypeTree). seen (counted_items u c.with_holder.result) (items (value c.args.levels c.element_of-kind.result) n b)) c.element-element.ensures
    ∙ ap (λ (s : Checked). seen (counted_items (element_of t) s) (items (value c.args.levels c.element_of-kind.result) n b)) c.with_holder.ensures
    ∙ ap (λ (k : Kind). seen (counted_items (element_of t) (grown c.args.sums.now a_holder)) (items (value c.args.levels k) n b)) c.element_of-kind.ensures ∙ sym e in
    subst (λ z. IfOk c.check_set_items.result (λ x. IsCount c.check_set_items.new.progress c.check_set_items.new.sums x.now z)) g c.check_set_items.ensures.counts

use Rattle.std.proofs.Common.{◌≡◌, ◌+◌, ◌/◌, ◌*◌, ◌-◌, ◌≤◌, arith, ap, ◌∙◌, subst, None, Ok, Err, length}
use Rattle.frozen_model.specs.Values.{inline_cells}
use Rattle.frozen_model.specs.Layouts.{Layout, stride}
use Rattle.frozen_model.specs.Packing.{bytes_for}
use Rattle.frozen_model.specs.Walk.{walk}
use Rattle.layout_tree.specs.Nodes.{at, layout_of}
use Rattle.layout_tree.specs.Listing.{tree_of, version_of, layout_in}
use Rattle.layout_tree.proofs.Children.{root_sub, root_node}
use Rattle.content_check.specs.declared.reach.Reach.{Reach}
use Rattle.content_check.specs.Agreeing.{Agrees}
use Rattle.content_check.proofs.Opening.{short_opens, dirty_opens, err_opens, long_opens, ok_opens}
use Rattle.content_check.proofs.open.walk_content.Goals as goal

pub bits-bits-requires : goal.bits-bits-requires
bits-bits-requires c = root_node (tree_of c.args.layouts.now.nodes.items)

pub cells_at-cells-requires : goal.cells_at-cells-requires
cells_at-cells-requires c = record {
  node = root_node (tree_of c.args.layouts.now.nodes.items);
  facts = c.note_facts.ensures;
}

pub check_part-requires-clause-node : goal.check_part-requires-clause-node
check_part-requires-clause-node c = root_node (tree_of c.args.layouts.now.nodes.items)

pub returns-then-first-content : goal.returns-then-first-content
returns-then-first-content c =
    let y = c.args.layouts.now in
    let bs = c.args.content.now in
    let l = (layout_of y).tree in
    let e0 : at y 0 ≡ l = ap (layout_in (version_of y.version)) (root_sub (tree_of y.nodes.items)) in
    let es : c.bits-bits.result ≡ stride l = c.bits-bits.ensures.bits ∙ ap stride e0 in
    let first = (c.bits-bits.result + 7) / 8 in
    let en : first ≡ bytes_for (stride l) = ap (λ z. (z + 7) / 8) es in
    short_opens bs l (omega (arith, c.if-first-content.true, en))

pub returns-in-Err : goal.returns-in-Err
returns-in-Err c =
    let y = c.args.layouts.now in
    let bs = c.args.content.now in
    let l = (layout_of y).tree in
    let e0 : at y 0 ≡ l = ap (layout_in (version_of y.version)) (root_sub (tree_of y.nodes.items)) in
    let es : c.bits-bits.result ≡ stride l = c.bits-bits.ensures.bits ∙ ap stride e0 in
    let first = (c.bits-bits.result + 7) / 8 in
    let en : first ≡ bytes_for (stride l) = ap (λ z. (z + 7) / 8) es in
    let n = 8 * first - c.bits-bits.result in
    let ek : n ≡ 8 * bytes_for (stride l) - stride l = ap (λ z. 8 * z - c.bits-bits.result) en
    ∙ ap (λ z. 8 * bytes_for (stride l) - z) es in
    let le : bytes_for (stride l) ≤ length bs = omega (arith, c.if-first-content.false, en) in
    dirty_opens bs l c.bits-bits.result n c.in-Err.fault es ek le c.in-Err.ensures

pub returns-then-end-content : goal.returns-then-end-content
returns-then-end-content c =
    let y = c.args.layouts.now in
    let bs = c.args.content.now in
    let l = (layout_of y).tree in
    let e0 : at y 0 ≡ l = ap (layout_in (version_of y.version)) (root_sub (tree_of y.nodes.items)) in
    let es : c.bits-bits.result ≡ stride l = c.bits-bits.ensures.bits ∙ ap stride e0 in
    let first = (c.bits-bits.result + 7) / 8 in
    let en : first ≡ bytes_for (stride l) = ap (λ z. (z + 7) / 8) es in
    let n = 8 * first - c.bits-bits.result in
    let ek : n ≡ 8 * bytes_for (stride l) - stride l = ap (λ z. 8 * z - c.bits-bits.result) en
    ∙ ap (λ z. 8 * bytes_for (stride l) - z) es in
    let le : bytes_for (stride l) ≤ length bs = omega (arith, c.if-first-content.false, en) in
    let ec : c.cells_at-cells.result ≡ inline_cells l = c.cells_at-cells.ensures.cells ∙ ap inline_cells e0 in
    let at0 : Reach = record { next = first; cells = c.cells_at-cells.result } in
    let s1 = subst (λ (z : Layout). Agrees bs (walk bs z 0 None 0 first c.cells_at-cells.result) at0
    (Ok c.in-Ok-check_part.end)) e0 c.in-Ok-check_part.ensures in
    let s2 = subst (λ k. Agrees bs (walk bs l 0 None 0 k c.cells_at-cells.result) at0
    (Ok c.in-Ok-check_part.end)) en s1 in
    let s3 = subst (λ k. Agrees bs (walk bs l 0 None 0 (bytes_for (stride l)) k) at0
    (Ok c.in-Ok-check_part.end)) ec s2 in
    ok_opens bs l c.bits-bits.result n at0 c.in-Ok-check_part.end es ek le c.in-Ok.ensures s3
    c.if-end-content.true

pub returns-else-end-content : goal.returns-else-end-content
returns-else-end-content c =
    let y = c.args.layouts.now in
    let bs = c.args.content.now in
    let l = (layout_of y).tree in
    let e0 : at y 0 ≡ l = ap (layout_in (version_of y.version)) (root_sub (tree_of y.nodes.items)) in
    let es : c.bits-bits.result ≡ stride l = c.bits-bits.ensures.bits ∙ ap stride e0 in
    let first = (c.bits-bits.result + 7) / 8 in
    let en : first ≡ bytes_for (stride l) = ap (λ z. (z + 7) / 8) es in
    let n = 8 * first - c.bits-bits.result in
    let ek : n ≡ 8 * bytes_for (stride l) - stride l = ap (λ z. 8 * z - c.bits-bits.result) en
    ∙ ap (λ z. 8 * bytes_for (stride l) - z) es in
    let le : bytes_for (stride l) ≤ length bs = omega (arith, c.if-first-content.false, en) in
    let ec : c.cells_at-cells.result ≡ inline_cells l = c.cells_at-cells.ensures.cells ∙ ap inline_cells e0 in
    let at0 : Reach = record { next = first; cells = c.cells_at-cells.result } in
    let s1 = subst (λ (z : Layout). Agrees bs (walk bs z 0 None 0 first c.cells_at-cells.result) at0
    (Ok c.in-Ok-check_part.end)) e0 c.in-Ok-check_part.ensures in
    let s2 = subst (λ k. Agrees bs (walk bs l 0 None 0 k c.cells_at-cells.result) at0
    (Ok c.in-Ok-check_part.end)) en s1 in
    let s3 = subst (λ k. Agrees bs (walk bs l 0 None 0 (bytes_for (stride l)) k) at0
    (Ok c.in-Ok-check_part.end)) ec s2 in
    long_opens bs l c.bits-bits.result n at0 c.in-Ok-check_part.end es ek le c.in-Ok.ensures s3
    c.if-end-content.false

pub returns-in-Err-check_part : goal.returns-in-Err-check_part
returns-in-Err-check_part c =
    let y = c.args.layouts.now in
    let bs = c.args.content.now in
    let l = (layout_of y).tree in
    let e0 : at y 0 ≡ l = ap (layout_in (version_of y.version)) (root_sub (tree_of y.nodes.items)) in
    let es : c.bits-bits.result ≡ stride l = c.bits-bits.ensures.bits ∙ ap stride e0 in
    let first = (c.bits-bits.result + 7) / 8 in
    let en : first ≡ bytes_for (stride l) = ap (λ z. (z + 7) / 8) es in
    let n = 8 * first - c.bits-bits.result in
    let ek : n ≡ 8 * bytes_for (stride l) - stride l = ap (λ z. 8 * z - c.bits-bits.result) en
    ∙ ap (λ z. 8 * bytes_for (stride l) - z) es in
    let le : bytes_for (stride l) ≤ length bs = omega (arith, c.if-first-content.false, en) in
    let ec : c.cells_at-cells.result ≡ inline_cells l = c.cells_at-cells.ensures.cells ∙ ap inline_cells e0 in
    let at0 : Reach = record { next = first; cells = c.cells_at-cells.result } in
    let s1 = subst (λ (z : Layout). Agrees bs (walk bs z 0 None 0 first c.cells_at-cells.result) at0
    (Err c.in-Err-check_part.fault)) e0 c.in-Err-check_part.ensures in
    let s2 = subst (λ k. Agrees bs (walk bs l 0 None 0 k c.cells_at-cells.result) at0
    (Err c.in-Err-check_part.fault)) en s1 in
    let s3 = subst (λ k. Agrees bs (walk bs l 0 None 0 (bytes_for (stride l)) k) at0
    (Err c.in-Err-check_part.fault)) ec s2 in
    err_opens bs l c.bits-bits.result n at0 c.in-Err-check_part.fault es ek le c.in-Ok.ensures s3

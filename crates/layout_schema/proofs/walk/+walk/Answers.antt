use Rattle.std.proofs.Common.{ℕ, Bool, rules, suc, add-one, ◌≡◌, ◌<◌, ◌≤◌, ◌+◌, ◌++◌, ◌∷◌, [], arith, ap, sym, subst, ◌∙◌, length, length-append, true, false, Some, inl, inr, w16}
use Rattle.std.proofs.lemmas.Int.{to_z-of_z}
use Rattle.std.proofs.lemmas.Result.{err_from_is_err_and}
use mir.Val.{SFits, to_z, of_z}
use Rattle.std.specs.Prelude.{Option, IfSome, option_map}
use Rattle.typed_tree.specs.declared.tree.Tree.{Tree}
use Rattle.typed_tree.specs.References.{value_of_tree}
use Rattle.layout_schema.specs.Shapes.{entry_in, entry_of, kind_named, may_enter, is_named, place_of, walk_part}
use Rattle.layout_schema.specs.Reading.{IsLayoutValue, entry_told, child_told, layouts_told, at_told, place_told, node_at}
use Rattle.layout_schema.proofs.ReadWalk.{IsFound, IsNext, entering, barred, opened, at_fault, part_faulty, part_walked, inline_offset, named_offset, wider_bits, wider_greatest, stops_unnamed, stops_faulty, goes_on, children_walked}
use Rattle.layout_schema.proofs.walk.+walk.Goals as goal
use Rattle.layout_schema.proofs.walk.+walk.Goals.{walk_part-After-may_enter, walk_children-After-is_named, walk_children-then-is_inline, walk_children-else-is_inline}

-- ---- a part

-- the node that is asked for
part_found : (t : ℕ) (c : walk_part-After-may_enter t) (enters : Bool) → c.may_enter.result ≡ enters → IsFound (layouts_told c.args.entries) (length c.args.nodes.now.items) (at_told c.args.at) (entry_told c.of-entry.result) c.in-Some-kind_named.kind enters
part_found t c enters e =
    let ls = layouts_told c.args.entries in
    let is : c.len-number.result ≡ length c.args.nodes.now.items = omega (arith, c.len-number.ensures, c.args.nodes.now.ok.0) in
    let found : Some (entry_told c.of-entry.result) ≡ entry_of ls c.len-number.result = ap (λ v. Some (entry_in v)) c.of-entry.ensures ∙ sym (ap (option_map (λ (tree : Tree). entry_in (value_of_tree tree))) c.in-Some.is) ∙ c.in_ok-found.ensures.is in
    let named : Some c.in-Some-kind_named.kind ≡ kind_named c.name.result.now = c.in-Some-kind_named.ensures in
    record {
      entry = ap (entry_of ls) (sym is) ∙ sym found;
      kind = ap kind_named (sym c.name.ensures) ∙ sym named;
      test = ap (λ n. may_enter (at_told c.args.at) n (entry_told c.of-entry.result) c.in-Some-kind_named.kind) (sym is) ∙ sym c.may_enter.ensures ∙ e;
    }

pub walk_part-returns-then-not-may_enter-clause-walks : goal.walk_part-returns-then-not-may_enter-clause-walks
walk_part-returns-then-not-may_enter-clause-walks t c room much =
    let ls = layouts_told c.args.entries in
    let at = at_told c.args.at in
    let n = length c.args.nodes.now.items in
    let x = entry_told c.of-entry.result in
    let k = c.in-Some-kind_named.kind in
    let is : c.len-number.result ≡ n = omega (arith, c.len-number.ensures, c.args.nodes.now.ok.0) in
    let found = part_found t (goal.at.walk_part-returns-then-not-may_enter-clause-walks t c).After-may_enter false c.if-not-may_enter.true in
    at_fault c.fault_at-then-not-may_enter.result n c.len-number.result (walk_part ls room at n) c.fault_at-then-not-may_enter.ensures is (barred ls room n at x k found)

pub walk_part-walk_children-requires : goal.walk_part-walk_children-requires
walk_part-walk_children-requires t c =
    let at = at_told c.args.at in
    let x = entry_told c.of-entry.result in
    let k = c.in-Some-kind_named.kind in
    let in_there = entering at c.len-number.result x k (sym c.may_enter.ensures ∙ c.if-not-may_enter.false) in
    let formed = subst (λ (o : Option Tree). IfSome o (λ (tree : Tree). IsLayoutValue (value_of_tree tree))) c.in-Some.is c.in_ok-found.ensures.formed in
    let pushed : c.push_node.new.nodes.items ≡ c.args.nodes.now.items ++ node_at at x k ∷ [] = c.in_ok-push_node.ensures.pushed in
    let more : length c.push_node.new.nodes.items ≡ length c.args.nodes.now.items + 1 = ap length pushed ∙ length-append c.args.nodes.now.items (node_at at x k ∷ []) in
    let lt : length c.args.nodes.now.items < 4096 = omega (arith, c.len-number.ensures, c.args.nodes.now.ok.0, in_there.number) in
    (omega (arith, c.decreases, more, lt), (c.requires.layouts, ((subst IsLayoutValue (sym c.of-entry.ensures) formed), (omega (arith, more, lt), in_there.level))))

pub walk_part-returns-in_err-below-clause-walks : goal.walk_part-returns-in_err-below-clause-walks
walk_part-returns-in_err-below-clause-walks t c room much =
    let ls = layouts_told c.args.entries in
    let at = at_told c.args.at in
    let n = length c.args.nodes.now.items in
    let x = entry_told c.of-entry.result in
    let k = c.in-Some-kind_named.kind in
    let is : c.len-number.result ≡ n = omega (arith, c.len-number.ensures, c.args.nodes.now.ok.0) in
    let found = part_found t (goal.at.walk_part-returns-in_err-below-clause-walks t c).After-may_enter true c.if-not-may_enter.false in
    let open_part = opened ls room n at x k much found in
    let pushed : c.push_node.new.nodes.items ≡ c.args.nodes.now.items ++ node_at at x k ∷ [] = c.in_ok-push_node.ensures.pushed in
    let more : length c.push_node.new.nodes.items ≡ suc n = ap length pushed ∙ length-append c.args.nodes.now.items (node_at at x k ∷ []) ∙ add-one n in
    let p = err_from_is_err_and c.from_residual-in_err-below.result c.from_residual-in_err-below.ensures.1 in
    rw (p.1, p.2) (part_faulty ls room n at x k open_part (length c.push_node.new.nodes.items) c.len-number.result more is _ c.in_err-below.ensures.walks)

pub walk_part-finish-requires-clause-width : goal.walk_part-finish-requires-clause-width
walk_part-finish-requires-clause-width t c =
    (entering (at_told c.args.at) c.len-number.result (entry_told c.of-entry.result) c.in-Some-kind_named.kind (sym c.may_enter.ensures ∙ c.if-not-may_enter.false)).width

pub walk_part-returns-clause-walks : goal.walk_part-returns-clause-walks
walk_part-returns-clause-walks t c room much =
    let ls = layouts_told c.args.entries in
    let at = at_told c.args.at in
    let n = length c.args.nodes.now.items in
    let x = entry_told c.of-entry.result in
    let k = c.in-Some-kind_named.kind in
    let is : c.len-number.result ≡ n = omega (arith, c.len-number.ensures, c.args.nodes.now.ok.0) in
    let found = part_found t (goal.at.walk_part-returns-clause-walks t c).After-may_enter true c.if-not-may_enter.false in
    let open_part = opened ls room n at x k much found in
    let pushed : c.push_node.new.nodes.items ≡ c.args.nodes.now.items ++ node_at at x k ∷ [] = c.in_ok-push_node.ensures.pushed in
    let more : length c.push_node.new.nodes.items ≡ suc n = ap length pushed ∙ length-append c.args.nodes.now.items (node_at at x k ∷ []) ∙ add-one n in
    part_walked ls room n at x k open_part (length c.push_node.new.nodes.items) c.len-number.result more is (entering at n x k found.test) c.in_ok-below.below
    c.args.nodes.now.items c.push_node.new.nodes.items c.walk_children.new.nodes.items c.finish.result pushed c.in_ok-below.ensures.walks c.finish.ensures.answer

-- ---- children

-- the child that comes next
child_next : (t : ℕ) (c : walk_children-After-is_named t) (named : Bool) → c.is_named.result ≡ named → IsNext c.args.kind (child_told c.child-child.result) c.loop-i.widths (length c.loop-i.nodes.items) (place_told c.of_child-place.result) c.if-is_inline.offset named
child_next t c named e =
    let z = c.child-child.result.field in
    let f : SFits w16 z = search rules in
    let is : c.len-number.result ≡ length c.loop-i.nodes.items = omega (arith, c.len-number.ensures, c.loop-i.nodes.ok.0) in
    record {
      place = c.of_child-place.ensures ∙ ap (place_of c.args.kind) (to_z-of_z w16 z f);
      offset = inline_offset (place_told c.of_child-place.result) c.is_inline.result c.if-is_inline.offset c.loop-i.widths.bits c.is_inline.ensures (elim c.if-is_inline.branch [
        | walk_children-then-is_inline w ↦ inl (w.if-is_inline.true, w.offset-is)
        | walk_children-else-is_inline w ↦ inr (w.if-is_inline.false, w.offset-is)
      ]);
      test = ap (λ n. is_named (child_told c.child-child.result) n c.if-is_inline.offset) (sym is) ∙ sym c.is_named.ensures ∙ e;
    }

pub walk_children-returns-then-not-is_named-clause-walks : goal.walk_children-returns-then-not-is_named-clause-walks
walk_children-returns-then-not-is_named-clause-walks t c room much =
    let nodes = c.loop-i.nodes.items in
    let is : c.len-number.result ≡ length nodes = omega (arith, c.len-number.ensures, c.loop-i.nodes.ok.0) in
    let unnamed = child_next t (goal.at.walk_children-returns-then-not-is_named-clause-walks t c).After-is_named false c.if-not-is_named.true in
    at_fault c.fault_at.result (length nodes) c.len-number.result _ c.fault_at.ensures is
    (stops_unnamed (layouts_told c.args.entries) c.args.kind c.args.level c.args.parent (entry_told c.args.entry).children c.args.nodes.now.items nodes c.loop-i.i c.loop-i.widths c.loop-i.invariant.so_far
    (child_told c.child-child.result) c.child-child.ensures (place_told c.of_child-place.result) c.if-is_inline.offset unnamed room much)

pub walk_children-returns-in_err-part-clause-walks : goal.walk_children-returns-in_err-part-clause-walks
walk_children-returns-in_err-part-clause-walks t c room much =
    let nodes = c.loop-i.nodes.items in
    let z = c.child-child.result.field in
    let f : SFits w16 z = search rules in
    let next = child_next t (goal.at.walk_children-returns-in_err-part-clause-walks t c).After-is_named true c.if-not-is_named.false in
    let p = err_from_is_err_and c.from_residual.result c.from_residual.ensures.1 in
    rw (p.1, p.2) (stops_faulty (layouts_told c.args.entries) c.args.kind c.args.level c.args.parent (entry_told c.args.entry).children c.args.nodes.now.items nodes c.loop-i.i c.loop-i.widths c.loop-i.invariant.so_far
    (child_told c.child-child.result) c.child-child.ensures (place_told c.of_child-place.result) c.if-is_inline.offset next c.deeper.result c.deeper.ensures.is (to_z w16 (of_z w16 z)) (to_z-of_z w16 z f)
    _ c.walk_part.new.nodes.items c.in_err-part.ensures.walks room much)

pub walk_children-loop-i-preserved : goal.walk_children-loop-i-preserved
walk_children-loop-i-preserved t c =
    let nodes = c.loop-i.nodes.items in
    let z = c.child-child.result.field in
    let f : SFits w16 z = search rules in
    let next = child_next t (goal.at.walk_children-loop-i-preserved t c).After-is_named true c.if-not-is_named.false in
    let w = c.loop-i.widths in
    let a = c.in_ok-part.part in
    let v = c.with_child-widths.result in
    let new = c.walk_part.new.nodes.items in
    let place = place_told c.of_child-place.result in
    let g : SFits w16 c.child-child.result.offset = search rules in
    let i = c.loop-i.invariant in
    record {
      so_far = goes_on (layouts_told c.args.entries) c.args.kind c.args.level c.args.parent (entry_told c.args.entry).children c.args.nodes.now.items nodes c.loop-i.i c.loop-i.widths c.loop-i.invariant.so_far
          (child_told c.child-child.result) c.child-child.ensures (place_told c.of_child-place.result) c.if-is_inline.offset next c.deeper.result c.deeper.ensures.is (to_z w16 (of_z w16 z)) (to_z-of_z w16 z f)
          new a c.in_ok-part.ensures.walks v c.with_child-widths.ensures;
      few = c.in_ok-part.ensures.few;
      more = omega (arith, i.more, c.in_ok-part.ensures.more);
      bits = wider_bits place w a v c.if-is_inline.offset c.with_child-widths.ensures next.offset (named_offset (child_told c.child-child.result) (length nodes) c.if-is_inline.offset g next.test) i.bits c.in_ok-part.ensures.small.bits;
      greatest = wider_greatest place w a v (length nodes) (length new) c.with_child-widths.ensures i.greatest c.in_ok-part.ensures.grown c.in_ok-part.ensures.small.greatest;
    }

pub walk_children-returns-clause-walks : goal.walk_children-returns-clause-walks
walk_children-returns-clause-walks t c =
    let cs = (entry_told c.args.entry).children in
    let all : length cs ≤ c.loop-i.i = omega (arith, c.child_count-i-end.ensures, c.loop-i-test.false) in
    children_walked (layouts_told c.args.entries) c.args.kind c.args.level c.args.parent cs c.args.nodes.now.items c.loop-i.nodes.items c.loop-i.i c.loop-i.widths all c.loop-i.invariant.so_far

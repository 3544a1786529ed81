use Rattle.std.proofs.Common.{arith, ap, sym, ◌∙◌, pos}
use Rattle.layout_tree.specs.declared.node.Kind.TheVariants as kinds
use Rattle.layout_tree.specs.Listing.{spec}
use Rattle.layout_tree.specs.Groups.{group}
use Rattle.layout_tree.proofs.Settling.{group_bytes_cases, group_holder_cases}
use Rattle.layout_tree.proofs.Marks.{unmarked_in, unmarked_end, unmarked_below, leaf_marked, part_marked}
use Rattle.layout_tree.proofs.Marks.{below_group, below_struct, bytes_marked, item_below, inner_below}
use Rattle.layout_tree.proofs.Marks.{fields_below, mark_start, mark_next, mark_end}
use Rattle.layout_tree.proofs.mark.+mark.Goals as goal

pub mark_part-bounds-nodes-i : goal.mark_part-bounds-nodes-i
mark_part-bounds-nodes-i t c = unmarked_in c.requires

pub mark_part-returns-then-is_leaf : goal.mark_part-returns-then-is_leaf
mark_part-returns-then-is_leaf t c g = leaf_marked g _ (sym c.is_leaf.ensures ∙ c.if-is_leaf.true)

pub mark_part-mark_below-end-requires : goal.mark_part-mark_below-end-requires
mark_part-mark_below-end-requires t c = (
  omega (arith, c.decreases),
  unmarked_below c.requires _
      (sym c.is_leaf.ensures ∙ c.if-is_leaf.false),
)

pub mark_part-overflow_cast-spec : goal.mark_part-overflow_cast-spec
mark_part-overflow_cast-spec t c =
    let g = c.requires in
    let done = c.mark_below-end.ensures (unmarked_below g _ (sym c.is_leaf.ensures ∙ c.if-is_leaf.false)) in
    omega (arith, done.1, unmarked_end g, g.few)

pub mark_part-returns : goal.mark_part-returns
mark_part-returns t c g =
    let inner = sym c.is_leaf.ensures ∙ c.if-is_leaf.false in
    part_marked g _ inner _ c.mark_below-end.result _ (c.mark_below-end.ensures (unmarked_below g _ inner))

pub mark_below-returns-in-Text : goal.mark_below-returns-in-Text
mark_below-returns-in-Text t c g = bytes_marked g (sym (below_group g _) ∙ group_bytes_cases _ c.in-Text.is)

pub mark_below-mark_part-requires : goal.mark_below-mark_part-requires
mark_below-mark_part-requires t c =
    let g = c.requires in
    let p = item_below g (sym (below_group g _) ∙ group_holder_cases _ c.in-List.is) in
    (omega (arith, c.decreases, unmarked_in p.part), p.part)

pub mark_below-mark_part-requires-in-Optional : goal.mark_below-mark_part-requires-in-Optional
mark_below-mark_part-requires-in-Optional t c =
    let g = c.requires in
    let p = inner_below g (sym (below_group g _) ∙ ap group c.in-Optional.is) in
    (omega (arith, c.decreases, unmarked_in p.part), p.part)

pub mark_below-mark_fields-requires : goal.mark_below-mark_fields-requires
mark_below-mark_fields-requires t c =
    let g = c.requires in
    let o = c.in_default in
    let f = fields_below g (below_struct g _ o.not-Text o.not-Bytes o.not-List o.not-Set o.not-Map
    o.not-Optional) in
    (omega (arith, c.decreases), f.fields)

pub mark_below-returns-in-List : goal.mark_below-returns-in-List
mark_below-returns-in-List t c g =
    let p = item_below g (sym (below_group g _) ∙ group_holder_cases _ c.in-List.is) in
    p.done _ _ (c.mark_part.ensures p.part)

pub mark_below-returns-in-Optional : goal.mark_below-returns-in-Optional
mark_below-returns-in-Optional t c g =
    let p = inner_below g (sym (below_group g _) ∙ ap group c.in-Optional.is) in
    p.done _ _ (c.mark_part-in-Optional.ensures p.part)

pub mark_below-returns-in_default : goal.mark_below-returns-in_default
mark_below-returns-in_default t c g =
    let o = c.in_default in
    let f = fields_below g (below_struct g _ o.not-Text o.not-Bytes o.not-List o.not-Set o.not-Map
    o.not-Optional) in
    f.done _ _ (c.mark_fields.ensures f.fields)

pub mark_fields-loop-next-init : goal.mark_fields-loop-next-init
mark_fields-loop-next-init t c = (omega arith, λ g. mark_start g)

pub mark_fields-returns-then-nodes-next : goal.mark_fields-returns-then-nodes-next
mark_fields-returns-then-nodes-next t c g = mark_end g c.loop-next.nodes c.loop-next.next _
    (c.loop-next.invariant.1 g) (λ lt pa. c.if-nodes-next.true pa)

pub mark_fields-mark_part-next-requires : goal.mark_fields-mark_part-next-requires
mark_fields-mark_part-next-requires t c =
    let g = c.requires in
    let n = mark_next g c.loop-next.nodes c.loop-next.next _ (c.loop-next.invariant.1 g) c.loop-next-test.true
    c.if-nodes-next.false in (
      omega (arith, c.decreases, c.loop-next.invariant.0, c.loop-next-test.true, c.loop-next.auto.nodes),
      n.part,
    )

pub mark_fields-loop-next-smaller : goal.mark_fields-loop-next-smaller
mark_fields-loop-next-smaller t c =
    let g = c.requires in
    let n = mark_next g c.loop-next.nodes c.loop-next.next _ (c.loop-next.invariant.1 g) c.loop-next-test.true
    c.if-nodes-next.false in
    omega (
      arith,
      c.loop-next-test.true,
      c.mark_part-next.auto.nodes,
      n.later _ _
          (c.mark_part-next.ensures n.part),
    )

pub mark_fields-loop-next-preserved : goal.mark_fields-loop-next-preserved
mark_fields-loop-next-preserved t c =
    let low = let g = c.requires in
    let n = mark_next g c.loop-next.nodes c.loop-next.next _ (c.loop-next.invariant.1 g) c.loop-next-test.true
    c.if-nodes-next.false in
    n.later _ _ (c.mark_part-next.ensures n.part) in (
      omega (arith, low, c.loop-next.invariant.0),
      λ g.
          let n = mark_next g c.loop-next.nodes c.loop-next.next _ (c.loop-next.invariant.1 g)
          c.loop-next-test.true c.if-nodes-next.false in
          n.after _ _ (c.mark_part-next.ensures n.part) (omega (arith, c.mark_part-next.auto.nodes)),
    )

pub mark_fields-returns : goal.mark_fields-returns
mark_fields-returns t c g =
    let r = c.loop-next.invariant.1 g in
    mark_end g c.loop-next.nodes c.loop-next.next (spec kinds.Size 0 0 0 0 0 (pos 0)) r
    (λ lt pa. let no_more : ⊥ = omega (arith, lt, c.loop-next-test.false) in no_more)

use Rattle.std.proofs.Common.{◌+◌, arith, refl, ap, ◌∙◌}
use Rattle.bit_view.proofs.Seen.{view_small, view_bounds, view_first, view_second, node_number}
use Rattle.bit_view.proofs.view.View.second.Goals as goal

pub overflow_add-first : goal.overflow_add-first
overflow_add-first c = omega (arith, view_small c.args.self)

pub past-requires : goal.past-requires
past-requires c =
    let w = c.args.self in
    let first = view_first w (w.node + 1) w.bit (omega (arith, c.requires)) refl refl in
    node_number w.layouts.now (w.node + 1) first.child.node

pub bits-requires : goal.bits-requires
bits-requires c =
    let w = c.args.self in
    (view_first w (w.node + 1) w.bit (omega (arith, c.requires)) refl refl).child.node

pub overflow_add-result : goal.overflow_add-result
overflow_add-result c =
    let b = view_bounds c.args.self in
    omega (arith, b.within, b.short, c.from.ensures, c.bits.type_inv)

pub invariant_of-result : goal.invariant_of-result
invariant_of-result c =
    let w = c.args.self in
    let first = view_first w (w.node + 1) w.bit (omega (arith, c.requires)) refl refl in
    record {
      settled = w.settled;
      lies = (view_second w c.past.result (w.bit + c.from.result) c.requires
          (c.past.ensures.part first.child.node)
          (ap (λ k. w.bit + k) (c.from.ensures ∙ c.bits.ensures.bits))).lies;
    }

pub returns-clause-value : goal.returns-clause-value
returns-clause-value c =
    let w = c.args.self in
    let first = view_first w (w.node + 1) w.bit (omega (arith, c.requires)) refl refl in
    (view_second w c.past.result (w.bit + c.from.result) c.requires (c.past.ensures.part first.child.node)
    (ap (λ k. w.bit + k) (c.from.ensures ∙ c.bits.ensures.bits))).value

pub returns-clause-layout : goal.returns-clause-layout
returns-clause-layout c =
    let w = c.args.self in
    let first = view_first w (w.node + 1) w.bit (omega (arith, c.requires)) refl refl in
    (view_second w c.past.result (w.bit + c.from.result) c.requires (c.past.ensures.part first.child.node)
    (ap (λ k. w.bit + k) (c.from.ensures ∙ c.bits.ensures.bits))).child.is

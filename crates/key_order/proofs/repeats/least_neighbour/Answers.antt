-- The loop looks at one pair of neighbours after another.
use Rattle.std.proofs.Common.{◌+◌, ◌-◌, arith, inl, sym, ◌∙◌, subst}
use Rattle.key_order.specs.Neighbours.{IsLeastNeighbour}
use Rattle.key_order.proofs.KeyCmp.{key_eq-Decides}
use Rattle.key_order.proofs.Neighbours.{skip_last, take_last, at_end}
use Rattle.key_order.proofs.Sorted.{at}
use Rattle.key_order.proofs.repeats.least_neighbour.Goals as goal
use Rattle.key_order.proofs.repeats.least_neighbour.Goals.{then-eq, else-eq}

pub loop-later-preserved : goal.loop-later-preserved
loop-later-preserved c =
    let es = c.args.entries.now in
    let n = c.loop-later.later in
    let decides = key_eq-Decides (at es (n - 1)).key (at es n).key in
    elim c.if-eq.branch [
      | then-eq w ↦
          let one = decides.0 (sym c.eq.ensures ∙ w.if-eq.true) in
          let next = take_last es n (omega arith) (omega arith) c.loop-later.least w.lesser.result c.loop-later.invariant.0 one w.lesser.ensures.either w.lesser.ensures.below_known w.lesser.ensures.below_new in
          (subst (IsLeastNeighbour es (n + 1)) (sym w.least-is) next, inl (omega arith))
      | else-eq w ↦
          let next = skip_last es n (omega arith) (omega arith) c.loop-later.least c.loop-later.invariant.0 (λ one. let yes = c.eq.ensures ∙ decides.1 one in cc (yes, w.if-eq.false)) in
          (subst (IsLeastNeighbour es (n + 1)) (sym w.least-is) next, inl (omega arith))
    ]

pub returns : goal.returns
returns c = at_end c.args.entries.now c.loop-later.later c.loop-later.least c.loop-later-test.false c.loop-later.invariant.1 c.loop-later.invariant.0

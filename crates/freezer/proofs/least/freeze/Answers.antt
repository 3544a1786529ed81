use Rattle.std.proofs.Common.{length, drop, arith, ap, sym, subst, List, ℕ}
use Rattle.std.proofs.lemmas.List.{length-replicate}
use Rattle.frozen_model.specs.Packing.{Packs}
use Rattle.block_region.specs.Space.{Space}
use Rattle.layout_tree.specs.Nodes.{layout_of}
use Rattle.typed_tree.specs.References.{value_of_ref}
use Rattle.freezer.proofs.least.freeze.Goals as goal

pub freeze_into-requires-clause-holds : goal.freeze_into-requires-clause-holds
freeze_into-requires-clause-holds c = c.in_ok-measured.ensures.least.holds

pub freeze_into-requires-clause-left : goal.freeze_into-requires-clause-left
freeze_into-requires-clause-left c =
    let e = c.in_ok-region.ensures.blank in
    omega (
      arith,
      ap (λ (s : Space). length s.bytes) e,
      ap (λ (s : Space). s.taken) e,
      length-replicate
          {A = ℕ} c.in_ok-measured.measured.content_len 0,
      c.in_ok-measured.ensures.length,
    )

pub returns-clause-packed : goal.returns-clause-packed
returns-clause-packed c =
    let e = c.in_ok-region.ensures.blank in
    let tree = (layout_of c.in_ok-measured.measured.layouts).tree in
    let v = value_of_ref c.args.v in
    subst (λ (bs : List ℕ). Packs tree v bs) (sym c.finish.ensures)
    (subst (λ k. Packs tree v (drop k c.freeze_into.new.region.bytes)) (ap (λ (s : Space). s.taken) e)
    c.freeze_into.ensures.packed)

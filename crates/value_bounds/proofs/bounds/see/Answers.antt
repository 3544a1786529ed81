use Rattle.std.proofs.Common.{◌≡◌, slice_index_or, slice_set, pos, w64, to_z, of_z, ap, ◌∙◌, rules}
use Rattle.std.proofs.lemmas.Int.{to_z-of_z}
use Rattle.std.specs.Int.{int_min, int_max}
use mir.Val.{SFits}
use Rattle.value_bounds.specs.declared.bounds.Bounds.{Bounds}
use Rattle.value_bounds.proofs.Seen.{one_seen}
use Rattle.value_bounds.proofs.bounds.see.Goals as goal

pub returns : goal.returns
returns c =
    let bs = c.args.bounds.now in
    let n = c.args.node in
    let x = c.args.x in
    let d : Bounds = record { least = pos 0; greatest = pos 0 } in
    let old = slice_index_or bs n d in
    let a = c.min.result in
    let b = c.max.result in
    let least_fits : SFits w64 old.least = search rules in
    let greatest_fits : SFits w64 old.greatest = search rules in
    let x_fits : SFits w64 x = c.ranges.x in
    let a_fits : SFits w64 a = search rules in
    let b_fits : SFits w64 b = search rules in
    let least : to_z w64 (of_z w64 a) ≡ int_min old.least x =
    to_z-of_z w64 a a_fits ∙ c.min.ensures.value
    ∙ ap (λ z. int_min z (to_z w64 (of_z w64 x))) (to_z-of_z w64 old.least least_fits)
    ∙ ap (λ z. int_min old.least z) (to_z-of_z w64 x x_fits) in
    let greatest : to_z w64 (of_z w64 b) ≡ int_max old.greatest x =
    to_z-of_z w64 b b_fits ∙ c.max.ensures.value
    ∙ ap (λ z. int_max z (to_z w64 (of_z w64 x))) (to_z-of_z w64 old.greatest greatest_fits)
    ∙ ap (λ z. int_max old.greatest z) (to_z-of_z w64 x x_fits) in
    ap (λ z. slice_set bs n (record {
      least = z;
      greatest = to_z w64 (of_z w64 b);
    })) least ∙ ap (λ z. slice_set bs n (record {
      least = int_min old.least x;
      greatest = z;
    })) greatest ∙ one_seen bs n x d c.requires

use Rattle.std.proofs.Common.{arith, rules, ap, sym, ◌∙◌, subst, refl, ◌<◌, ◌^◌, ◌+ℤ◌, pos, w32, w64, to_z}
use Rattle.std.proofs.Common.{of_z}
use Rattle.std.proofs.lemmas.Int.{to_z-of_z}
use Rattle.std.specs.Prelude.{FitsSigned}
use Rattle.frozen_model.specs.Values.{One, Number}
use Rattle.layout_tree.specs.Listing.{version_of, sub}
use Rattle.layout_tree.specs.Nodes.{noted_in}
use Rattle.layout_tree.proofs.Codings.{is_first, is_second}
use Rattle.bit_view.proofs.Shapes.{first_told, second_told, far}
use Rattle.bit_view.proofs.Numbers.{fits_far, sum_is}
use Rattle.bit_view.proofs.Seen.{view_node, view_bounds, view_far}
use Rattle.layout_tree.specs.Reading.{base_at}
use Rattle.bit_view.proofs.view.View.int.Goals as goal

pub bits-width-requires : goal.bits-width-requires
bits-width-requires c = view_node c.args.self

pub read_bits-above-requires-clause-inside : goal.read_bits-above-requires-clause-inside
read_bits-above-requires-clause-inside c =
    omega (arith, (view_bounds c.args.self).within, c.bits-width.ensures.bits)

pub base-requires : goal.base-requires
base-requires c = view_node c.args.self

pub overflow_cast-result : goal.overflow_cast-result
overflow_cast-result c =
    let w = c.args.self in
    let l = w.layouts.now in
    let v = version_of l.version in
    let n = c.read_bits-above.result in
    let g : FitsSigned w64 c.base.result = search rules in
    let second = is_second v (of_z w32 c.version.result) (ap
    (of_z w32) c.version.ensures) c.if-version-eq2.true in
    let is = second_told v (sub
    (noted_in l) w.node) w.content.now w.block w.bit c.bits-width.result n c.base.result
    second c.requires c.read_bits-above.ensures.value c.bits-width.ensures.bits (λ k b w e. c.base.ensures ∙ ap base_at e) in
    let fits = fits_far (c.base.result +ℤ pos n) (subst (λ u. far u < 2 ^ 63) is (view_far w)) in
    let sum = sum_is c.from.result c.from-then-version-eq2.result c.base.result (c.base.result +ℤ pos n) n
    (c.from.ensures ∙ to_z-of_z w64 c.base.result g) c.from-then-version-eq2.ensures g
    (omega (arith, c.read_bits-above.type_inv)) refl fits in
    subst (FitsSigned w64) (sym sum) fits

pub read_signed-requires-clause-inside : goal.read_signed-requires-clause-inside
read_signed-requires-clause-inside c =
    omega (arith, (view_bounds c.args.self).within, c.bits-width.ensures.bits)

pub returns-then-version-eq2 : goal.returns-then-version-eq2
returns-then-version-eq2 c =
    let w = c.args.self in
    let l = w.layouts.now in
    let v = version_of l.version in
    let n = c.read_bits-above.result in
    let z = c.base.result +ℤ pos n in
    let g : FitsSigned w64 c.base.result = search rules in
    let second = is_second v (of_z w32 c.version.result) (ap
    (of_z w32) c.version.ensures) c.if-version-eq2.true in
    let is = second_told v (sub
    (noted_in l) w.node) w.content.now w.block w.bit c.bits-width.result n c.base.result
    second c.requires c.read_bits-above.ensures.value c.bits-width.ensures.bits (λ k b w e. c.base.ensures ∙ ap base_at e) in
    let fits = fits_far z (subst (λ u. far u < 2 ^ 63) is (view_far w)) in
    let sum = sum_is c.from.result c.from-then-version-eq2.result c.base.result z n
    (c.from.ensures ∙ to_z-of_z w64 c.base.result g) c.from-then-version-eq2.ensures g
    (omega (arith, c.read_bits-above.type_inv)) refl fits in
    is ∙ ap (λ k. One (Number k)) (sym (ap (λ k. to_z w64 (of_z w64 k)) sum ∙ to_z-of_z w64 z fits))

pub returns-else-version-eq2 : goal.returns-else-version-eq2
returns-else-version-eq2 c =
    let w = c.args.self in
    let l = w.layouts.now in
    let v = version_of l.version in
    let g : FitsSigned w64 c.read_signed.result = search rules in
    let first = is_first v (of_z w32 c.version.result) (ap
    (of_z w32) c.version.ensures) c.if-version-eq2.false in
    first_told v (sub (noted_in l) w.node) w.content.now w.block w.bit c.bits-width.result
    (to_z w64 (of_z w64 c.read_signed.result)) first c.requires
    (to_z-of_z w64 c.read_signed.result g ∙ c.read_signed.ensures.value) c.bits-width.ensures.bits

use Rattle.std.proofs.Common.{◌≡◌, ◌<◌, true, false, Some, refl, sym, ap, ◌∙◌, length, arith, w16, w64}
use Rattle.std.proofs.lemmas.Int.{to_z-of_z}
use mir.Val.{SFits, to_z, of_z}
use Rattle.frozen_model.specs.Values.{One, Number}
use Rattle.idl_parse.specs.Refs.{type_of_ref}
use Rattle.layout_schema.specs.Shapes.{is_walked}
use Rattle.layout_schema.specs.Reading.{layouts_told}
use Rattle.layout_schema.specs.Standing.{spelled_as}
use Rattle.layout_schema.proofs.ByNumber.{many, at_place, inside, its}
use Rattle.layout_schema.proofs.ReadEntries.{fits_16, word_16, first_unwalked, one_more_walked, all_walked}
use Rattle.layout_schema.proofs.entries.Entries.unwalked.Goals as goal

pub returns-then-not-is_among_first : goal.returns-then-not-is_among_first
returns-then-not-is_among_first c =
    let e = c.args.self in
    let x = c.layout_at-layout.result in
    let i = c.loop-i.i in
    let lt : i < length e.layouts.now = omega (arith, c.loop-i-test.true) in
    let key = (its e c.requires i x c.layout_at-layout.ensures lt).key in
    let fits : SFits w16 x.number = fits_16 key refl in
    let here : is_walked c.args.walked x.number ≡ false = sym (ap (is_walked c.args.walked) (ap (λ y. to_z w64 (of_z w64 y)) (c.from.ensures ∙ to_z-of_z w16 x.number fits) ∙ word_16 key refl)) ∙ sym c.is_among_first.ensures ∙ c.if-not-is_among_first.true in
    ap Some (to_z-of_z w16 x.number fits) ∙ sym (first_unwalked (layouts_told e) c.args.walked i (One (Number x.number)) (spelled_as (type_of_ref e.ty) x.bytes.now) x.number (inside e c.requires i x c.layout_at-layout.ensures lt)
    (at_place e c.requires i x c.layout_at-layout.ensures lt) refl here c.loop-i.invariant)

pub loop-i-preserved : goal.loop-i-preserved
loop-i-preserved c =
    let e = c.args.self in
    let x = c.layout_at-layout.result in
    let i = c.loop-i.i in
    let lt : i < length e.layouts.now = omega (arith, c.loop-i-test.true) in
    let key = (its e c.requires i x c.layout_at-layout.ensures lt).key in
    let fits : SFits w16 x.number = fits_16 key refl in
    let here : is_walked c.args.walked x.number ≡ true = sym (ap (is_walked c.args.walked) (ap (λ y. to_z w64 (of_z w64 y)) (c.from.ensures ∙ to_z-of_z w16 x.number fits) ∙ word_16 key refl)) ∙ sym c.is_among_first.ensures ∙ c.if-not-is_among_first.false in
    one_more_walked (layouts_told e) c.args.walked i (One (Number x.number)) (spelled_as (type_of_ref e.ty) x.bytes.now) x.number (at_place e c.requires i x c.layout_at-layout.ensures lt) refl here c.loop-i.invariant

pub returns : goal.returns
returns c =
    let e = c.args.self in
    sym (all_walked (layouts_told e) c.args.walked (λ j l. c.loop-i.invariant j (omega (arith, l, c.loop-i-test.false, many e c.requires))))

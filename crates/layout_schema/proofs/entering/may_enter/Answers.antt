use Rattle.std.proofs.Common.{◌≡◌, inl, inr, ap, sym, ◌∙◌, ◌&&◌, nat_lt, nat_le, pos, rules, w16, w64}
use Rattle.std.specs.Ordering.{int_eq}
use Rattle.std.proofs.lemmas.Bool.{lt-ltb, le-ltb}
use Rattle.std.proofs.lemmas.Int.{to_z-of_z}
use mir.Val.{SFits}
use Rattle.layout_schema.specs.Shapes.{may_stand, fields_fit, is_width, base_fits, greatest_of}
use Rattle.layout_schema.specs.Reading.{entry_told, place_told}
use Rattle.layout_schema.proofs.ReadFields.{in_turn, one_fails, zero_test}
use Rattle.layout_schema.proofs.entering.may_enter.Goals as goal
use Rattle.layout_schema.proofs.entering.may_enter.Goals.{then-number-lt4096, else-number-lt4096, then-size-eq0, else-size-eq0, then-allows, else-allows, then-fields_fit, else-fields_fit, then-is_width, else-is_width}

pub returns-else-base_fits : goal.returns-else-base_fits
returns-else-base_fits c =
    let n = c.args.number in
    let k = c.args.kind in
    let x = entry_told c.args.entry in
    let v1 = c.if-number-lt4096.value in
    let v2 = c.if-size-eq0.value in
    let v3 = c.if-allows.value in
    let v4 = c.if-fields_fit.value in
    let v5 = c.if-is_width.value in
    let number = nat_lt n 4096 in
    let size = int_eq x.size (pos 0) in
    let stands = may_stand (place_told c.args.at.place) k in
    let fits = fields_fit k x.children in
    let width = is_width (greatest_of k) x.bits in
    let base = base_fits k x.base in
    let e1 : v1 ≡ (number && size) = in_turn v1 number size (elim c.if-number-lt4096.branch [
      | then-number-lt4096 w ↦
          let f : SFits w64 w.size.result = search rules in
          inl (lt-ltb n 4096 w.if-number-lt4096.true, w.value-is ∙ zero_test w.size.result f ∙ ap (λ z. int_eq z (pos 0)) w.size.ensures)
      | else-number-lt4096 w ↦ inr (le-ltb n 4096 w.if-number-lt4096.false, w.value-is)
    ]) in
    let e2 : v2 ≡ (v1 && stands) = in_turn v2 v1 stands (elim c.if-size-eq0.branch [
      | then-size-eq0 w ↦ inl (w.if-size-eq0.true, w.value-is ∙ w.allows.ensures)
      | else-size-eq0 w ↦ inr (w.if-size-eq0.false, w.value-is)
    ]) in
    let e3 : v3 ≡ (v2 && fits) = in_turn v3 v2 fits (elim c.if-allows.branch [
      | then-allows w ↦ inl (w.if-allows.true, w.value-is ∙ w.fields_fit.ensures)
      | else-allows w ↦ inr (w.if-allows.false, w.value-is)
    ]) in
    let e4 : v4 ≡ (v3 && width) = in_turn v4 v3 width (elim c.if-fields_fit.branch [
      | then-fields_fit w ↦
          let f : SFits w16 w.bits.result = search rules in
          inl (w.if-fields_fit.true, w.value-is ∙ w.is_width.ensures ∙ ap (is_width (greatest_of k)) (to_z-of_z w16 w.bits.result f ∙ w.bits.ensures))
      | else-fields_fit w ↦ inr (w.if-fields_fit.false, w.value-is)
    ]) in
    let e5 : v5 ≡ (v4 && base) = in_turn v5 v4 base (elim c.if-is_width.branch [
      | then-is_width w ↦
          let f : SFits w64 w.base.result = search rules in
          inl (w.if-is_width.true, w.value-is ∙ w.base_fits.ensures ∙ ap (base_fits k) (to_z-of_z w64 w.base.result f ∙ w.base.ensures))
      | else-is_width w ↦ inr (w.if-is_width.false, w.value-is)
    ]) in
    let all : v5 ≡ (((((number && size) && stands) && fits) && width) && base) =
    e5 ∙ ap (λ b. b && base) (e4 ∙ ap (λ b. b && width) (e3 ∙ ap (λ b. b && fits) (e2 ∙ ap (λ b. b && stands) e1))) in
    c.if-base_fits.false ∙ sym (one_fails number size stands fits width base (nat_le c.args.at.level 32) (sym all ∙ c.if-base_fits.false))

use Rattle.std.proofs.Common.{◌≡◌, ◌+◌, ◌∙◌, ap, w64}
use Rattle.std.proofs.lemmas.Int.{to_z-of_z}
use mir.Val.{to_z, of_z}
use Rattle.bit_field.proofs.Signs.{low_sign, high_sign}
use Rattle.bit_field.proofs.word.sign_extended.Goals as goal
use Rattle.bit_field.proofs.word.sign_extended.Goals.{then-x-mask, else-x-mask}

pub returns : goal.returns
returns c =
    let back : to_z w64 (of_z w64 c.cast_signed.result) ≡ c.cast_signed.result = to_z-of_z w64 c.cast_signed.result (record { sfits = c.cast_signed.type_inv }) in
    back ∙ c.cast_signed.ensures ∙ elim c.if-x-mask.branch [
      | then-x-mask w ↦ ap (λ z. to_z w64 (c.args.x + z)) w.sign-is ∙ low_sign c.args.width c.args.x c.ones-mask.result c.requires.wide c.ones-mask.ensures w.if-x-mask.true
      | else-x-mask w ↦
          ap (λ z. to_z w64 (c.args.x + z)) w.sign-is
          ∙ high_sign c.args.width c.args.x c.ones-mask.result c.requires.wide c.requires.fits c.ones-mask.ensures w.if-x-mask.false
    ]

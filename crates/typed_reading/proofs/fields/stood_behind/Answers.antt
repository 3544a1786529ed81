use Rattle.std.proofs.Common.{◌∙◌, sym, ap, arith, Some}
use Rattle.typed_reading.proofs.FieldLaws.{stood_more}
use Rattle.typed_reading.proofs.fields.stood_behind.Goals as goal

pub returns-in-Some : goal.returns-in-Some
returns-in-Some c fs ids id p h =
    stood_more fs ids id c.args.stood c.saturating_add.result (sym p ∙ c.in-Some.is ∙ ap Some c.if-place-stood.true)
    (omega (arith, c.saturating_add.ensures)) h

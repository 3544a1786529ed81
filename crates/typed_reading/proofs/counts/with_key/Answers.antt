use Rattle.std.proofs.Common.{◌∙◌, sym, ap}
use Rattle.key_order.specs.Keys.{value_of}
use Rattle.frozen_model.specs.Values.{Truth, Number}
use Rattle.typed_reading.specs.Counts.{grown}
use Rattle.typed_reading.proofs.CountSteps.{bytes_key, scalar_key}
use Rattle.typed_reading.proofs.counts.with_key.Goals as goal

pub returns-in-Bytes : goal.returns-in-Bytes
returns-in-Bytes c t w l e =
    c.with_bytes.ensures ∙ ap (grown c.args.count) (sym (bytes_key t w c.in-Bytes.x.now l (e ∙ ap value_of c.in-Bytes.is)))

pub returns-in-Number : goal.returns-in-Number
returns-in-Number c t w l e = c.with_scalar.ensures ∙ ap (grown c.args.count) (sym (scalar_key t w (Number c.in-Number.field-0) l (e ∙ ap value_of c.in-Number.is)))

pub returns-in-Flag : goal.returns-in-Flag
returns-in-Flag c t w l e = c.with_scalar-in-Flag.ensures ∙ ap (grown c.args.count) (sym (scalar_key t w (Truth c.in-Flag.field-0) l (e ∙ ap value_of c.in-Flag.is)))

use Rattle.std.proofs.Common.{sym, ◌∙◌}
use Rattle.layout_schema.proofs.FieldSteps.{no_other_kind, key_there, key_not}
use Rattle.layout_schema.proofs.fields.key_at.Goals as goal

pub returns-then-not-is_key : goal.returns-then-not-is_key
returns-then-not-is_key c u v of_key at = absurd (no_other_kind u c.args.standing v of_key at c.in-Of.kind c.in-Of.is (sym c.is_key.ensures ∙ c.if-not-is_key.true))

pub returns-in-Ok : goal.returns-in-Ok
returns-in-Ok c u v of_key at = key_there u c.args.standing v of_key at c.in-Of.kind c.in-Of.is c.in-Ok.key c.in-Ok.field-0-1.now c.in-Ok.ensures.reads

pub returns-in-Err : goal.returns-in-Err
returns-in-Err c u v of_key at = absurd (key_not u c.args.standing v of_key at c.in-Of.kind c.in-Of.is c.in-Err.field-0 c.in-Err.ensures.reads)

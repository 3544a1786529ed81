use Rattle.std.proofs.Common.{sym, ap, if◌then◌else◌}
use Rattle.std.specs.Fmt.{digits}
use Rattle.frozen_model.specs.Layouts.{Version1, Version2}
use Rattle.layout_schema.specs.SchemaText.{schema_text}
use Rattle.layout_schema.proofs.types.types_text.Goals as goal

pub returns-then-based : goal.returns-then-based
unfolding digits
returns-then-based c = ap (λ based. schema_text (if based then Version2 else Version1)) (sym c.if-based.true)

pub returns-else-based : goal.returns-else-based
unfolding digits
returns-else-based c = ap (λ based. schema_text (if based then Version2 else Version1)) (sym c.if-based.false)

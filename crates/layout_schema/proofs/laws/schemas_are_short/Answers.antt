use Rattle.layout_schema.proofs.Short.{schema_short}
use Rattle.layout_schema.proofs.laws.schemas_are_short.Goals as goal

pub returns : goal.returns
returns c = schema_short

use Rattle.layout_schema.proofs.Exact.{schema_said, said_schema, of_one}
use Rattle.layout_schema.proofs.laws.schemas_are_exact.Goals as goal

pub returns-clause-exact : goal.returns-clause-exact
returns-clause-exact c b d = (schema_said b d, λ x. said_schema c.typed_is_a_value.ensures b x.0 x.1 d x.2)

pub returns-clause-one : goal.returns-clause-one
returns-clause-one c b d e x y = of_one b d e c.spelling_is_unique.ensures (schema_said b d x) (schema_said b e y)

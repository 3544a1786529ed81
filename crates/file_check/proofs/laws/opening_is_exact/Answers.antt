use Rattle.frozen_laws.proofs.Packed.{frozen_is}
use Rattle.layout_schema.specs.Answers.{SchemaBytes}
use Rattle.file_check.specs.Written.{written}
use Rattle.file_check.proofs.Composed.{small_schema}
use Rattle.std.proofs.Common.{refl}
use Rattle.file_check.proofs.Exact.{one_answer, exact_opening}
use Rattle.file_check.proofs.laws.opening_is_exact.Goals as goal

pub returns : goal.returns
returns c = record {
  answer = one_answer;
  files = exact_opening c.schemas_are_exact.ensures.exact;
  frozen = λ d v is holds few. frozen_is SchemaBytes written d v (c.written_schema_is_schema.ensures d is)
      (small_schema c.schemas_are_short.ensures d (written d) is refl) holds few;
}

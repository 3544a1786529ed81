use Rattle.frozen_laws.proofs.Packed.{frozen_is}
use Rattle.layout_schema.specs.Answers.{SchemaBytes}
use Rattle.file_check.specs.Written.{written}
use Rattle.demo_table.proofs.Owned.{room_for}
use Rattle.demo_table.proofs.laws.own_file_opens.Goals as goal

pub returns : goal.returns
returns c = λ d t v accepted same is holds few. (
  frozen_is SchemaBytes written d v (c.written_schema_is_schema.ensures d is)
      (room_for (written d) (c.schemas_are_short.ensures d is)) holds few,
  c.binding_has_one_answer.ensures.own d t accepted same,
)

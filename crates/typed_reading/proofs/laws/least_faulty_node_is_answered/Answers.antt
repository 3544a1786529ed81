use Rattle.typed_reading.proofs.FaultyLaws.{told_by_faulty}
use Rattle.typed_reading.proofs.laws.least_faulty_node_is_answered.Goals as goal

pub returns : goal.returns
returns c t b w spelled = told_by_faulty t b w spelled

use Rattle.demo_table.proofs.Thawed.{own_read, own_thaws}
use Rattle.demo_table.proofs.laws.own_file_thaws.Goals as goal

pub returns-clause-read : goal.returns-clause-read
returns-clause-read c =
    own_read c.schemas_are_exact.ensures.one c.packing_is_injective.ensures c.binding_has_one_answer.ensures.own
    c.projection_is_a_value.ensures.same

pub returns-clause-thaws : goal.returns-clause-thaws
returns-clause-thaws c =
    own_thaws (own_read c.schemas_are_exact.ensures.one c.packing_is_injective.ensures
    c.binding_has_one_answer.ensures.own
    c.projection_is_a_value.ensures.same)

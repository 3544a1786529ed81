use Rattle.demo_table.proofs.Owned.{short_file}
use Rattle.demo_table.proofs.laws.own_file_is_short.Goals as goal

pub returns : goal.returns
returns c = short_file c.schemas_are_short.ensures

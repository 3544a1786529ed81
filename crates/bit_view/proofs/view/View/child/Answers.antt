use Rattle.bit_view.specs.Views.{value_of_view}
use Rattle.bit_view.proofs.Offsets.{with_field}
use Rattle.bit_view.proofs.view.View.child.Goals as goal

pub field-requires : goal.field-requires
field-requires c = with_field (value_of_view c.args.self) c.args.id c.requires

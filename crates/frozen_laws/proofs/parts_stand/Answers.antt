use Rattle.frozen_laws.proofs.Limits.{part_cells}
use Rattle.frozen_laws.proofs.Places.{lies_once}
use Rattle.frozen_laws.proofs.Parts.{part_stands, root_stands, part_node}
use Rattle.frozen_laws.proofs.parts_stand.Goals as goal

pub returns-clause-anywhere : goal.returns-clause-anywhere
returns-clause-anywhere c bs l m v u q p small s at = part_stands bs small at s

pub returns-clause-packed : goal.returns-clause-packed
returns-clause-packed c l m v u bs p small h packed at = part_stands bs small at (root_stands l v bs small h packed)

pub returns-clause-nodes : goal.returns-clause-nodes
returns-clause-nodes c l m v u q p at = part_node at

pub returns-clause-one : goal.returns-clause-one
returns-clause-one c n l v u w node start bit o h p q = lies_once n l v u w node start bit o h p q

pub returns-clause-cells : goal.returns-clause-cells
returns-clause-cells c l m v u q p at = part_cells at

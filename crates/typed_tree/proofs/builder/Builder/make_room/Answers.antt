-- Only the room and the memory change.
use Rattle.typed_tree.proofs.Builders.{on-failure, on-success}
use Rattle.typed_tree.proofs.builder.Builder.make_room.Goals as goal

pub returns-clause-failed : goal.returns-clause-failed
returns-clause-failed c = let e = c.grow.ensures in on-failure c.grow.result c.args.self.now c.grow.new.self e.store e.nodes e.stack e.failed

pub returns-clause-same : goal.returns-clause-same
returns-clause-same c = let e = c.grow.ensures in on-success c.grow.result c.args.self.now c.grow.new.self e.store e.nodes e.stack

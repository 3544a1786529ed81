-- A node is put once there is room.
use Rattle.std.proofs.Common.{◌∙◌, ap, List}
use Rattle.typed_tree.specs.Pools.{store_of}
use Rattle.typed_tree.specs.Rooms.{room_of}
use Rattle.typed_tree.specs.Spots.{Store, value_of, values}
use Rattle.typed_tree.specs.declared.spot.Spot.{Spot}
use Rattle.typed_tree.proofs.Builders.{pushes-after, left-from}
use Rattle.typed_tree.proofs.builder.Builder.push.Goals as goal

pub returns-clause-pushed : goal.returns-clause-pushed
returns-clause-pushed c =
    let b = c.args.self.now in
    let e = c.in_ok-make_room.ensures in
    pushes-after b _ c.put.new.self _ _ _ _ (room_of 1 0) c.put.ensures.pushed e.same.0 e.same.1
    (ap (λ (st : Store). value_of st (values st c.make_room.new.self.pool.nodes.items) c.args.spot) e.store ∙ ap (λ (xs : List Spot). value_of (store_of b.pool) (values (store_of b.pool) xs) c.args.spot) e.nodes)
    (left-from b.room c.make_room.new.self.room (room_of 1 0) e.room)

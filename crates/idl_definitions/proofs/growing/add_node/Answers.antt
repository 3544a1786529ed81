use Rattle.std.proofs.Common.{refl, [], ◌∷◌}
use Rattle.idl_fields.specs.Nodes.{node_type}
use Rattle.idl_fields.specs.View.{types_in}
use Rattle.idl_definitions.proofs.GrowLaws.{sized-node}
use Rattle.idl_definitions.proofs.growing.add_node.Goals as goal

pub returns-clause-sized : goal.returns-clause-sized
returns-clause-sized c =
    let old = c.args.scope.now in
    sized-node c.args.text.now old _ c.args.node c.size_of_node-size.result c.requires.sized c.requires.stands
    (record { more = node_type (types_in old.types) c.args.node ∷ []; types = c.in_ok-place.ensures.grows; entries = refl; names = refl; named = refl; members = refl })
    c.in_ok-place.ensures.grows refl c.in_ok-push.ensures.items c.size_of_node-size.ensures

use Rattle.std.proofs.Common.{refl}
use Rattle.idl_fields.specs.View.{types_in}
use Rattle.idl_definitions.proofs.Collecting.{indexes_push}
use Rattle.idl_definitions.proofs.GrowLaws.{sized-named}
use Rattle.idl_definitions.proofs.collect.add_named.Goals as goal

pub returns-clause-sized : goal.returns-clause-sized
returns-clause-sized c =
    sized-named c.args.text.now c.args.scope.now _ c.args.named c.args.size c.requires.sized c.requires.placed refl refl refl c.in_ok-push.ensures.items c.in_ok-push-3.ensures.items c.requires.size

pub returns-clause-indexed : goal.returns-clause-indexed
returns-clause-indexed c h k = record {
  names = h.names;
  members = indexes_push c.args.text.now (types_in c.args.scope.now.types) c.args.scope.now.members.items _ c.args.scope.now.named.items _ c.args.names c.args.named
      c.in_ok-push-2.ensures.items c.in_ok-push.ensures.items h.members k;
}

use Rattle.idl_definitions.proofs.GrowLaws.{grows-none, grows-twice, type-next}
use Rattle.idl_definitions.proofs.growing.add_type.Goals as goal

pub loop-container-init : goal.loop-container-init
loop-container-init c = record {
  means = c.type_of-node.ensures.means c.args.text.now;
  stand = c.type_of-node.ensures.stands _ _ c.requires.entries;
  grows = grows-none c.args.scope.now;
  sized = c.requires;
}

pub loop-container-preserved : goal.loop-container-preserved
loop-container-preserved c =
    let i = c.loop-container.invariant in
    record {
      means = type-next c.args.text.now c.args.scope.now c.loop-container.scope c.around.new.scope c.args.ty.now c.loop-container.node c.in_ok-node.node c.deref-container-items.result.now c.loop-container.container-index _
          c.requires i.grows c.deref-container-items.ensures.value c.loop-container-test.true i.means c.in_ok-node.ensures.means;
      stand = c.in_ok-node.ensures.stands;
      grows = grows-twice c.args.scope.now c.loop-container.scope c.around.new.scope i.grows c.in_ok-node.ensures.grows;
      sized = c.in_ok-node.ensures.sized;
    }

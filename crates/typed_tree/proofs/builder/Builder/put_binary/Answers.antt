-- The bytes are added, and then their node.
use Rattle.std.proofs.Common.{ap, refl, length}
use Rattle.frozen_model.specs.Values.{Bytes}
use Rattle.typed_tree.proofs.Builders.{grown-trees, grown-kinds, pushes-after, bytes-left}
use Rattle.typed_tree.proofs.Making.{makes-grown}
use Rattle.typed_tree.proofs.builder.Builder.put_binary.Goals as goal

pub returns-clause-pushed : goal.returns-clause-pushed
returns-clause-pushed c =
    let b = c.args.self.now in
    let d = c.put_bytes-block.new.self in
    let e = c.put_bytes-block.ensures in
    let nodes = ap (λ v. v.items) e.nodes in
    let stack = ap (λ v. v.items) e.stack in
    pushes-after b d c.put.new.self _ _ _ _ _ c.put.ensures.pushed (grown-trees b d e.grows nodes stack) (grown-kinds b d e.grows nodes stack) (ap Bytes e.added) (bytes-left b.room d.room (length c.args.x.now) e.room)

pub returns-clause-made : goal.returns-clause-made
returns-clause-made c =
    let e = c.put_bytes-block.ensures in
    makes-grown c.args.self.now c.put_bytes-block.new.self c.put.new.self _ (c.put.ensures.made _ refl) e.grows (ap (λ v. v.items) e.nodes) (ap (λ v. v.items) e.stack)

-- The bytes of the text are added, and then its node.
use Rattle.typed_tree.specs.Rooms.{room_of}
use Rattle.std.proofs.Common.{ℕ, List, ◌-◌, ◌∙◌, ap, refl, arith, length}
use Rattle.std.specs.Str.{is_utf8}
use Rattle.std.proofs.lemmas.Str.{is_utf8-from_IsUtf8}
use Rattle.std.proofs.lemmas.Bool.{and_from, le-leb}
use Rattle.frozen_model.specs.Values.{Bytes}
use Rattle.typed_tree.specs.Pools.{store_of}
use Rattle.typed_tree.proofs.Builders.{grown-trees, grown-kinds, pushes-after, bytes-left}
use Rattle.typed_tree.proofs.Making.{makes-grown}
use Rattle.typed_tree.proofs.builder.Builder.put_text.Goals as goal

pub returns-clause-pushed : goal.returns-clause-pushed
returns-clause-pushed c =
    let b = c.args.self.now in
    let d = c.put_bytes-block.new.self in
    let e = c.put_bytes-block.ensures in
    let nodes = ap (λ v. v.items) e.nodes in
    let stack = ap (λ v. v.items) e.stack in
    pushes-after b d c.put.new.self _ _ _ _ _ c.put.ensures.pushed (grown-trees b d e.grows nodes stack) (grown-kinds b d e.grows nodes stack) (ap Bytes (e.added ∙ c.as_bytes.ensures.value)) (bytes-left b.room d.room (length c.args.x.now) (e.room ∙ ap (λ (bs : List ℕ). room_of b.room.nodes (b.room.bytes - length bs)) c.as_bytes.ensures.value))

pub put-requires-clause-fit : goal.put-requires-clause-fit
put-requires-clause-fit c =
    let e = c.put_bytes-block.ensures in
    let st = store_of c.put_bytes-block.new.self.pool in
    and_from _ _ (le-leb _ _ (omega (arith, e.inside))) (ap is_utf8 (e.added ∙ c.as_bytes.ensures.value) ∙ is_utf8-from_IsUtf8 c.args.x.now c.utf8.x)

pub returns-clause-made : goal.returns-clause-made
returns-clause-made c =
    let e = c.put_bytes-block.ensures in
    makes-grown c.args.self.now c.put_bytes-block.new.self c.put.new.self _ (c.put.ensures.made _ refl) e.grows (ap (λ v. v.items) e.nodes) (ap (λ v. v.items) e.stack)

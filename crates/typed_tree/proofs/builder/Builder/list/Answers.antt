-- The last trees are joined once there is room.
use Rattle.typed_tree.specs.Pools.{store_of}
use Rattle.typed_tree.specs.Made.{MadeAt}
use Rattle.std.specs.List.{AllByRecursion}
use Rattle.typed_tree.specs.Trees.{trees}
use Rattle.std.proofs.Common.{◌≡◌, ◌-◌, refl, ap, length, vec_len, arith, drop, sym, subst}
use Rattle.typed_tree.specs.declared.joined.Joined.TheVariants as j
use Rattle.typed_tree.proofs.Builders.{joins-last, base-at}
use Rattle.typed_tree.proofs.Making.{trees-many, items-each, makes-last}
use Rattle.typed_tree.proofs.builder.Builder.list.Goals as goal

pub returns-clause-joined : goal.returns-clause-joined
returns-clause-joined c =
    let a = c.args.self.now in
    let d = c.make_room.new.self in
    let e = c.in_ok-make_room.ensures in
    let stack = ap (λ zs. length zs) e.stack in
    let at = base-at a (vec_len a.stack) c.args.n refl in
    joins-last a d c.join.new.self c.args.n _ j.List _ c.join.ensures.joined e.same.0 e.same.1 stack (omega (arith, at, c.len.ensures, d.stack.ok.0, a.stack.ok.0, stack)) c.requires refl e.room

pub returns-clause-made : goal.returns-clause-made
returns-clause-made c t h =
    let a = c.args.self.now in
    let d = c.make_room.new.self in
    let e = c.in_ok-make_room.ensures in
    let stack = ap (λ zs. length zs) e.stack in
    let at = base-at a (vec_len a.stack) c.args.n refl in
    let here : c.len.result - c.args.n ≡ length (trees a) - c.args.n = omega (arith, at, c.len.ensures, d.stack.ok.0, a.stack.ok.0, stack) in
    makes-last a d c.join.new.self c.args.n _ j.List t c.join.ensures.made e.store e.nodes e.stack here c.requires
    (subst (λ i. AllByRecursion (MadeAt (store_of a.pool) a.pool.nodes.items t) (drop i a.stack.items)) (sym here) (items-each a _ c.args.n t (omega (arith, trees-many a, c.requires)) h))

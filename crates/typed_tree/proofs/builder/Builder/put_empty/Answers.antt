-- No trees are joined.
use Rattle.std.proofs.Common.{◌≡◌, ◌-◌, [], sym, subst, length, drop, arith}
use Rattle.std.proofs.Math.ListN.{drop_of_length-le}
use Rattle.frozen_model.specs.Trees.{ItemRange}
use Rattle.typed_tree.specs.Made.{Makes, ItemsAreMade, holder_of}
use Rattle.typed_tree.proofs.Making.{none-made}
use Rattle.typed_tree.proofs.builder.Builder.put_empty.Goals as goal

pub returns-clause-made : goal.returns-clause-made
returns-clause-made c t =
    let a = c.args.self.now in
    let none : drop c.len-base.result a.stack.items ≡ [] = drop_of_length-le a.stack.items (omega (arith, c.len-base.ensures, a.stack.ok.0)) in
    let zero : length a.stack.items - c.len-base.result ≡ 0 = omega (arith, c.len-base.ensures, a.stack.ok.0) in
    subst (λ n. Makes a c.join.new.self n (ItemRange (holder_of c.args.to) tt tt t)) zero (c.join.ensures.made t (subst (ItemsAreMade c.args.to a t) (sym none) (none-made c.args.to a t)))

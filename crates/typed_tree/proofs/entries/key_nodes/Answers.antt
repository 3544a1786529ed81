-- Half of the nodes are keys.
use Rattle.std.proofs.Common.{◌≡◌, ◌∙◌, length, ◌*◌, ◌++◌, ◌∷◌, [], ap, sym, get_or, take, arith}
use Rattle.std.proofs.Math.Seq.{take-length}
use Rattle.std.proofs.lemmas.List.{take_more}
use Rattle.typed_tree.specs.Tables.{evens}
use Rattle.typed_tree.proofs.Paired.{evens-at, half-evens}
use Rattle.typed_tree.proofs.entries.key_nodes.Goals as goal

pub loop-i-preserved : goal.loop-i-preserved
loop-i-preserved c =
    let ks = c.args.nodes.now in
    let i = c.loop-i.i in
    c.in_ok-push.ensures.items ∙ ap (λ zs. zs ++ get_or ks (2 * i) 0 ∷ []) c.loop-i.invariant ∙ ap (λ k. take i (evens ks) ++ k ∷ []) (sym (evens-at ks i (omega arith)))
    ∙ sym (take_more (evens ks) i 0 (omega (arith, half-evens ks)))

pub returns : goal.returns
returns c =
    let ks = evens c.args.nodes.now in
    let all : c.loop-i.i ≡ length ks = omega (arith, half-evens c.args.nodes.now) in
    c.loop-i.invariant ∙ ap (λ n. take n ks) all ∙ take-length ks

-- Two nodes are added for each place.
use Rattle.std.proofs.Common.{◌∙◌, ◌++◌, ◌∷◌, [], ◌+◌, ◌*◌, List, ℕ, ap, sym, get_or, take, arith}
use Rattle.std.proofs.lemmas.List.{take_more}
use Rattle.typed_tree.specs.Tables.{turned}
use Rattle.typed_tree.proofs.Paired.{turned-push}
use Rattle.typed_tree.proofs.entries.nodes_of_pairs.Goals as goal

pub loop-place-preserved : goal.loop-place-preserved
loop-place-preserved c =
    let ks = c.args.nodes.now in
    let ps = c.args.places.now in
    let i = c.loop-place.place-index in
    let p = get_or ps i 0 in
    c.in_ok-push-2.ensures.items ∙ ap (λ (zs : List ℕ). zs ++ get_or ks (2 * p + 1) 0 ∷ []) (c.in_ok-push.ensures.items ∙ ap (λ (zs : List ℕ). zs ++ get_or ks (2 * p) 0 ∷ []) c.loop-place.invariant)
    ∙ sym (turned-push ks (take i ps) p) ∙ ap (turned ks) (sym (take_more ps i 0 (omega arith)))

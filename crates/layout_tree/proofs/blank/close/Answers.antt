use Rattle.std.proofs.Common.{◌≡◌, ◌∷◌, ◌++◌, arith, ap, ◌∙◌, length, slice_set}
use Rattle.layout_tree.specs.Shapes.{marked}
use Rattle.layout_tree.proofs.Settling.{seam_get, seam_set}
use Rattle.layout_tree.proofs.blank.close.Goals as goal

pub returns : goal.returns
returns c pre post x e w =
    let ns = c.args.nodes.now.items in
    let y = c.index_mut-spec.result.now in
    let end = c.len-end.result in
    let same : y ≡ x = c.index_mut-spec.ensures.value ∙ seam_get ns pre post x y c.args.node e w in
    let el : end ≡ length ns = omega (arith, c.len-end.ensures, c.args.nodes.now.ok.0) in
    ap (λ z. slice_set ns c.args.node (marked z end)) same
    ∙ seam_set ns pre post x (marked x end) c.args.node e w ∙ ap (λ m. pre ++ marked x m ∷ post) el

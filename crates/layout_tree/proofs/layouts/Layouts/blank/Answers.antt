use Rattle.std.proofs.Common.{◌≤◌, ◌<◌, ◌∷◌, ◌++◌, [], map, take, length, arith, ap, sym, ◌∙◌}
use Rattle.std.proofs.lemmas.List.{take_all, map_more}
use Rattle.layout_tree.specs.Listing.{version_of}
use Rattle.layout_tree.specs.Shapes.{cleared}
use Rattle.layout_tree.proofs.Clearing.{renewed}
use Rattle.layout_tree.proofs.layouts.Layouts.blank.Goals as goal

pub loop-i-preserved : goal.loop-i-preserved
loop-i-preserved c =
    let xs = c.args.from.now.nodes.items in
    let k = c.loop-i in
    let x = c.index.result.now in
    let lt : k.i < length xs = omega (arith, c.args.from.now.nodes.ok.0) in
    c.in_ok-push.ensures.items ∙ ap (λ r. r ++ c.clear.result ∷ []) k.invariant
    ∙ ap (λ y. map cleared (take k.i xs) ++ y ∷ []) (c.clear.ensures ∙ ap cleared c.index.ensures)
    ∙ sym (map_more cleared xs k.i x lt)

pub invariant_of-result : goal.invariant_of-result
invariant_of-result c =
    let l = c.args.from.now in
    let k = c.loop-i in
    let le : length l.nodes.items ≤ k.i = omega (arith, l.nodes.ok.0) in
    let s = renewed l.version (version_of l.version) l.nodes.items k.nodes.items l.listing l.sound
    (k.invariant ∙ ap (map cleared) (take_all k.i l.nodes.items le)) in
    record { listing = s.listing; sound = s.sound; relaxing = ∣ tt ∣₁ }

pub returns : goal.returns
returns c =
    let l = c.args.from.now in
    let k = c.loop-i in
    let le : length l.nodes.items ≤ k.i = omega (arith, l.nodes.ok.0) in
    let s = renewed l.version (version_of l.version) l.nodes.items k.nodes.items l.listing l.sound
    (k.invariant ∙ ap (map cleared) (take_all k.i l.nodes.items le)) in
    record { layout = s.layout; settled = s.settled; noted = s.tells }

use Rattle.std.specs.Prelude.{codes}
use Rattle.std.proofs.Common.{rules, ◌≡◌, ◌%◌, [], ◌∷◌, ◌++◌, refl}
use Rattle.frozen_model.specs.Trees.{AMap}
use Rattle.frozen_model.specs.Values.{Items, Bytes}
use Rattle.key_order.specs.InOrder.{row, in_order}
use Rattle.typed_tree.specs.Parts.{pairs}
use Rattle.typed_tree.specs.Trees.{trees}
use Rattle.cli_texts.specs.Demos.{number}
use Rattle.cli_texts.proofs.Users.{joined_last, four_on}
use Rattle.cli_texts.proofs.demo.add_scores.Goals as goal

pub returns : goal.returns
returns c =
    let o = trees c.args.builder.now in
    let art = Bytes (codes "art") in
    let math = Bytes (codes "math") in
    let x = number (c.args.i % 7) in
    let y = number (c.args.i % 100) in
    let us = art ∷ x ∷ math ∷ y ∷ [] in
    let e1 : trees c.text.new.self ≡ o ++ art ∷ [] = search rules in
    let e2 : trees c.int.new.self ≡ trees c.text.new.self ++ x ∷ [] = search rules in
    let e3 : trees c.text-2.new.self ≡ trees c.int.new.self ++ math ∷ [] = search rules in
    let e4 : trees c.int-2.new.self ≡ trees c.text-2.new.self ++ y ∷ [] = search rules in
    let mid : trees c.int-2.new.self ≡ o ++ us = four_on o art x math y e1 e2 e3 e4 in
    joined_last 4 (λ r. Items AMap (row (in_order (pairs r)))) o us (trees c.int-2.new.self)
    (trees c.join_map.new.builder) mid refl c.in_ok-join_map.ensures

use Rattle.std.proofs.Common.{rules, ◌≡◌, [], ◌∷◌, ◌++◌, ◌∙◌, pos, refl, ap, append_assoc}
use Rattle.frozen_model.specs.Trees.{AList, AMap}
use Rattle.frozen_model.specs.Values.{Items}
use Rattle.key_order.specs.InOrder.{row}
use Rattle.typed_tree.specs.Fields.{record_of, id_numbers}
use Rattle.typed_tree.specs.Trees.{trees}
use Rattle.cli_texts.specs.Demos.{number, name, mail, tags, scores, user}
use Rattle.cli_texts.proofs.Users.{joined_last, five_on}
use Rattle.cli_texts.proofs.demo.add_user.Goals as goal

pub returns : goal.returns
returns c =
    let i = c.args.i in
    let o = trees c.args.builder.now in
    let ts = Items AList (row (tags i)) in
    let ss = Items AMap (row (scores i)) in
    let ids = pos 1 ∷ pos 2 ∷ pos 3 ∷ pos 4 ∷ pos 5 ∷ [] in
    let keyed : trees c.int.new.self ≡ o ++ number i ∷ [] = search rules in
    let e1 : trees c.int-2.new.self ≡ trees c.int.new.self ++ number i ∷ [] = search rules in
    let e2 : trees c.add_name.new.builder ≡ trees c.int-2.new.self ++ name i ∷ [] = search rules in
    let e3 : trees c.add_mail.new.builder ≡ trees c.add_name.new.builder ++ mail i ∷ [] = search rules in
    let e4 : trees c.add_tags.new.builder ≡ trees c.add_mail.new.builder ++ ts ∷ [] = search rules in
    let e5 : trees c.add_scores.new.builder ≡ trees c.add_tags.new.builder ++ ss ∷ [] = search rules in
    let us = number i ∷ name i ∷ mail i ∷ ts ∷ ss ∷ [] in
    let mid = five_on (trees c.int.new.self) (number i) (name i) (mail i) ts ss e1 e2 e3 e4 e5 in
    joined_last 5 (record_of (id_numbers ids)) (trees c.int.new.self) us (trees c.add_scores.new.builder)
    (trees c.structure.new.self) mid refl c.in_ok-structure.ensures.joined.trees
    ∙ ap (λ r. r ++ user i ∷ []) keyed ∙ append_assoc o (number i ∷ []) (user i ∷ [])

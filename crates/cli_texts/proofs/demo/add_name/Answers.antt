use Rattle.std.specs.Prelude.{string_bytes, codes}
use Rattle.std.proofs.Common.{rules, ◌≡◌, [], ◌∷◌, ◌++◌, ◌∙◌, ap}
use Rattle.frozen_model.specs.Values.{Bytes}
use Rattle.typed_tree.specs.Trees.{trees}
use Rattle.cli_texts.specs.Demos.{six_digits}
use Rattle.cli_texts.proofs.demo.add_name.Goals as goal

pub returns : goal.returns
returns c =
    let o = trees c.args.builder.now in
    let six = six_digits c.args.i in
    let e1 : string_bytes c.push_str.new.self ≡ codes "user" = search rules in
    let e2 : string_bytes c.push_six.new.out ≡ string_bytes c.push_str.new.self ++ six = search rules in
    let e3 : c.as_str.result.now ≡ string_bytes c.push_six.new.out = search rules in
    let e4 : trees c.text.new.self ≡ o ++ Bytes c.as_str.result.now ∷ [] = search rules in
    e4 ∙ ap (λ r. o ++ Bytes r ∷ []) (e3 ∙ e2 ∙ ap (λ r. r ++ six) e1)

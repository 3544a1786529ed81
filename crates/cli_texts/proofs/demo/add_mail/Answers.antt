-- The text is put, and then that it is present.
use Rattle.std.specs.Prelude.{codes, ◌==◌, if◌then◌else◌}
use Rattle.std.proofs.Common.{rules, ◌≡◌, ◌++◌, ◌∷◌, [], ◌∙◌, ◌%◌, true, ap, sym, refl, arith, string_bytes, slice_index_or}
use Rattle.std.proofs.lemmas.Bool.Decides.{nat_tests}
use Rattle.frozen_model.specs.Values.{Absent, Present, Bytes}
use Rattle.typed_tree.specs.Trees.{trees}
use Rattle.cli_texts.specs.Demos.{six_digits}
use Rattle.cli_texts.proofs.Users.{joined_last}
use Rattle.cli_texts.proofs.demo.add_mail.Goals as goal

pub returns : goal.returns
returns c =
    let o = trees c.args.builder.now in
    let v = Bytes (six_digits c.args.i ++ codes "@example.com") in
    let e1 : c.as_str.result.now ≡ six_digits c.args.i ++ codes "@example.com" = search rules in
    let e2 : trees c.text.new.self ≡ o ++ v ∷ [] = c.in_ok-text.ensures.pushed.trees ∙ ap (λ r. o ++ Bytes r ∷ []) e1 in
    let even : (c.args.i % 2 == 0) ≡ true = (let e = c.if-i-ne0.false in grind (arith, nat_tests)) in
    joined_last 1 (λ r. Present (slice_index_or r 0 Absent)) o (v ∷ []) (trees c.text.new.self) (trees c.present.new.self) e2 refl c.in_ok-present.ensures.wrapped.trees
    ∙ ap (λ b. o ++ (if b then Present v else Absent) ∷ []) (sym even)

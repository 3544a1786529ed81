use Rattle.std.proofs.Common.{rules, ◌≡◌, sym, subst}
use Rattle.layout_tree.specs.Nodes.{layout_of}
use Rattle.file_check.specs.Held.{PacksValue}
use Rattle.file_tests.proofs.file_check_tests.opened_and_composed_again.Goals as goal

pub compose-requires-clause-content : goal.compose-requires-clause-content
compose-requires-clause-content g c =
    let e : c.in_ok-content.content.items ≡ c.in_ok-opened.opened.content.now = search rules in
    subst (λ bs. ∥ PacksValue (layout_of c.in_ok-opened.opened.layouts).tree bs ∥₁) (sym e)
    c.opened_composes.ensures.content

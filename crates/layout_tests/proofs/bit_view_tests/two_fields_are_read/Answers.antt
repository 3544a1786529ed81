use Rattle.std.proofs.Common.{◌<◌, ◌∙◌, rules, refl, sym, ap, subst, false, pos, negsuc, arith}
use Rattle.std.specs.Prelude.{IsSome}
use Rattle.frozen_model.specs.Values.{count, nth}
use Rattle.frozen_model.specs.Layouts.{Version1, described}
use Rattle.frozen_model.specs.Rows.{two_numbers}
use Rattle.layout_tree.specs.Nodes.{layout_of}
use Rattle.typed_tree.specs.Parts.{IsInt, field_of, fields_of}
use Rattle.bit_view.specs.Views.{value_of_view}
use Rattle.layout_tree.proofs.Worked.{worked, given, lists}
use Rattle.bit_view.proofs.Worked.{content_is, number_found}
use Rattle.layout_tests.proofs.bit_view_tests.two_fields_are_read.Goals as goal

pub from_nodes-layouts-requires : goal.from_nodes-layouts-requires
from_nodes-layouts-requires g c = lists _ (search (rules, c.in_ok-to_vec.ensures.items_if_clones_equal))

pub new-whole-requires-clause-held : goal.new-whole-requires-clause-held
new-whole-requires-clause-held g c =
    let is = c.from_nodes-layouts.ensures.layout (described Version1 false worked)
    (given _ (search (rules, c.in_ok-to_vec.ensures.items_if_clones_equal))) in
    ∣ (two_numbers (pos 5) (negsuc 0), content_is (layout_of c.from_nodes-layouts.result) is) ∣₁

pub child-requires : goal.child-requires
child-requires g c =
    let is = c.from_nodes-layouts.ensures.layout (described Version1 false worked)
    (given _ (search (rules, c.in_ok-to_vec.ensures.items_if_clones_equal))) in
    let tells = c.new-whole.ensures.value (two_numbers (pos 5) (negsuc 0)) (content_is
    (layout_of c.from_nodes-layouts.result) is) in
    subst (λ v. IsSome (field_of v (pos 1))) (sym tells) refl

pub int-requires : goal.int-requires
int-requires g c =
    let is = c.from_nodes-layouts.ensures.layout (described Version1 false worked)
    (given _ (search (rules, c.in_ok-to_vec.ensures.items_if_clones_equal))) in
    let tells = c.new-whole.ensures.value (two_numbers (pos 5) (negsuc 0)) (content_is
    (layout_of c.from_nodes-layouts.result) is) in
    number_found (field_of (value_of_view c.new-whole.result) (pos 1)) (value_of_view c.child.result) (pos 5)
    c.child.ensures.value (ap (λ v. field_of v (pos 1)) tells)

pub child-requires-2 : goal.child-requires-2
child-requires-2 g c =
    let is = c.from_nodes-layouts.ensures.layout (described Version1 false worked)
    (given _ (search (rules, c.in_ok-to_vec.ensures.items_if_clones_equal))) in
    let tells = c.new-whole.ensures.value (two_numbers (pos 5) (negsuc 0)) (content_is
    (layout_of c.from_nodes-layouts.result) is) in
    subst (λ v. IsSome (field_of v (pos 2))) (sym tells) refl

pub int-requires-2 : goal.int-requires-2
int-requires-2 g c =
    let is = c.from_nodes-layouts.ensures.layout (described Version1 false worked)
    (given _ (search (rules, c.in_ok-to_vec.ensures.items_if_clones_equal))) in
    let tells = c.new-whole.ensures.value (two_numbers (pos 5) (negsuc 0)) (content_is
    (layout_of c.from_nodes-layouts.result) is) in
    number_found (field_of (value_of_view c.new-whole.result) (pos 2)) (value_of_view c.child-2.result)
    (negsuc 0)
    c.child-2.ensures.value (ap (λ v. field_of v (pos 2)) tells)

pub second-requires : goal.second-requires
second-requires g c =
    let is = c.from_nodes-layouts.ensures.layout (described Version1 false worked)
    (given _ (search (rules, c.in_ok-to_vec.ensures.items_if_clones_equal))) in
    let tells = c.new-whole.ensures.value (two_numbers (pos 5) (negsuc 0)) (content_is
    (layout_of c.from_nodes-layouts.result) is) in
    subst (λ v. 1 < count (fields_of v)) (sym tells) (omega arith)

pub int-requires-3 : goal.int-requires-3
int-requires-3 g c =
    let is = c.from_nodes-layouts.ensures.layout (described Version1 false worked)
    (given _ (search (rules, c.in_ok-to_vec.ensures.items_if_clones_equal))) in
    let tells = c.new-whole.ensures.value (two_numbers (pos 5) (negsuc 0)) (content_is
    (layout_of c.from_nodes-layouts.result) is) in
    subst IsInt (sym (c.second.ensures.value ∙ ap (λ v. nth (fields_of v) 1) tells)) tt

use Rattle.std.proofs.Common.{◌≡◌, rules, false, arith, refl, pos, negsuc, ◌+◌, ap, sym}
use Rattle.std.proofs.Common.{◌∙◌, subst, length, List, [], ◌∷◌, ◌++◌}
use Rattle.block_region.specs.Space.{Space}
use Rattle.frozen_model.specs.Bits.{digits}
use Rattle.typed_tree.specs.Fields.{record_of as record_in, id_numbers}
use Rattle.typed_tree.specs.Trees.{but_last, last}
use Rattle.frozen_model.specs.Values.{Value, Number, One, one, record_of, part, no_part}
use Rattle.frozen_model.specs.Rows.{two_numbers}
use Rattle.frozen_model.specs.Holding.{Holds}
use Rattle.frozen_model.specs.Packing.{extent, bytes_for}
use Rattle.frozen_model.specs.Layouts.{Version1, Layout, Described, described}
use Rattle.frozen_model.specs.Layouts.{stride}
use Rattle.frozen_laws.proofs.Holding.{fit_at}
use Rattle.layout_tree.specs.Nodes.{layout_of}
use Rattle.layout_tree.proofs.Worked.{worked, given, lists}
use Rattle.typed_tree.specs.References.{value_of_ref}
use Rattle.layout_tests.proofs.freezer_tests.two_fields_are_packed.Goals as goal

head_same : {x y : Value} → ◌≡◌ {A = List Value} (x ∷ []) (y ∷ []) → x ≡ y
head_same e = cc

holds : Holds worked (two_numbers (pos 5) (negsuc 0))
unfolding digits
holds =
    let of = record_of refl (part (one (omega arith)) (part (one (omega arith)) no_part)) in
    record {
      of_kind = of;
      fits = fit_at of 1 (
        record {
          reached = tt;
          wide = omega arith;
        },
        (record { reached = tt; wide = omega arith }, tt),
      );
    }

pub from_nodes-layouts-requires : goal.from_nodes-layouts-requires
from_nodes-layouts-requires c d = lists _ (search (rules, d.in_ok-to_vec.ensures.items_if_clones_equal))

pub freeze_into-requires-clause-holds : goal.freeze_into-requires-clause-holds
freeze_into-requires-clause-holds c d =
    let el = ap (λ (x : Described). x.tree) (d.from_nodes-layouts.ensures.layout
    (described Version1 false worked)
    (given _ (search (rules, d.in_ok-to_vec.ensures.items_if_clones_equal)))) in
    let two = d.in_ok-int-2.ensures.pushed.trees
    ∙ ap (λ (r : List Value). r ++ One (Number (negsuc 0)) ∷ [])
    (d.in_ok-int.ensures.pushed.trees
    ∙ ap (λ (r : List Value). r ++ One (Number (pos 5)) ∷ []) d.new-builder.ensures.trees) in
    let three = d.in_ok-structure.ensures.joined.trees
    ∙ ap (λ (r : List Value). but_last 2 r ++ record_in (id_numbers (pos 1 ∷ pos 2 ∷ [])) (last 2 r) ∷ [])
    two in
    let same = sym d.finish-tree.ensures.tree ∙ three in
    let ev : value_of_ref d.top.result ≡ two_numbers (pos 5) (negsuc 0) = d.top.ensures.value
    ∙ head_same same in
    subst (λ (l : Layout). Holds l (value_of_ref d.top.result)) (sym el)
    (subst (λ (v : Value). Holds worked v) (sym ev) holds)

pub freeze_into-requires-clause-left : goal.freeze_into-requires-clause-left
freeze_into-requires-clause-left c d =
    let el = ap (λ (x : Described). x.tree) (d.from_nodes-layouts.ensures.layout
    (described Version1 false worked)
    (given _ (search (rules, d.in_ok-to_vec.ensures.items_if_clones_equal)))) in
    let two = d.in_ok-int-2.ensures.pushed.trees
    ∙ ap (λ (r : List Value). r ++ One (Number (negsuc 0)) ∷ [])
    (d.in_ok-int.ensures.pushed.trees
    ∙ ap (λ (r : List Value). r ++ One (Number (pos 5)) ∷ []) d.new-builder.ensures.trees) in
    let three = d.in_ok-structure.ensures.joined.trees
    ∙ ap (λ (r : List Value). but_last 2 r ++ record_in (id_numbers (pos 1 ∷ pos 2 ∷ [])) (last 2 r) ∷ [])
    two in
    let same = sym d.finish-tree.ensures.tree ∙ three in
    let ev : value_of_ref d.top.result ≡ two_numbers (pos 5) (negsuc 0) = d.top.ensures.value
    ∙ head_same same in
    let q : bytes_for (stride (layout_of d.from_nodes-layouts.result).tree)
    + extent (layout_of d.from_nodes-layouts.result).tree (value_of_ref d.top.result) ≡ 1 =
    ap (λ (l : Layout). bytes_for (stride l) + extent l (value_of_ref d.top.result)) el
    ∙ ap (λ (v : Value). bytes_for 5 + extent worked v) ev in
    omega (
      arith,
      ap (λ (s : Space). length s.bytes) d.in_ok-region.ensures.blank,
      ap (λ (s : Space). s.taken)
          d.in_ok-region.ensures.blank,
      q,
    )

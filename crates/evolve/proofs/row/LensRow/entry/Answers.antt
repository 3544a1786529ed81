use Rattle.std.proofs.Common.{ap, sym, subst, ◌∙◌, arith, ◌<◌}
use Rattle.std.specs.Str.{IsUtf8}
use Rattle.std.proofs.Math.Logic.{∥∥₁_map}
use Rattle.idl_parse.specs.Refs.{type_of_ref, key_of, value_of}
use Rattle.frozen_model.specs.Values.{nth, count}
use Rattle.type_kinds.specs.Accepted.{IsAccepted, HasShortTexts}
use Rattle.typed_tree.specs.Parts.{IsMap, items_of, fields_of}
use Rattle.typed_tree.specs.Spots.{pair}
use Rattle.bit_view.specs.Branches.{fields_in, layout_nth}
use Rattle.bit_view.specs.Views.{value_of_view, layout_of_view, is_relaxed}
use Rattle.evolve.specs.Projection.{proj}
use Rattle.evolve.specs.Lenses.{value_of_lens}
use Rattle.evolve.specs.LensRows.{lens_of_row}
use Rattle.layout_tree.specs.Reading.{item_of}
use Rattle.evolve.proofs.Rows.{map_item, map_binds, map_accepted, map_short}
use Rattle.evolve.proofs.Arms.{map_at, no_item, rebound}
use Rattle.evolve.proofs.row.LensRow.entry.Goals as goal

pub item-pair-requires : goal.item-pair-requires
item-pair-requires c =
    subst (λ w. c.args.i < count (items_of (value_of_view w))) (sym c.in-Stored.stored.same)
    (map_at (lens_of_row c.args.self) c.in-Stored.stored.whole c.args.i (ap lens_of_row c.in-Stored.is)
    c.requires.map c.requires.there).inside

pub key-requires : goal.key-requires
key-requires c =
    (map_at (lens_of_row c.args.self) c.in-Stored.stored.whole c.args.i (ap lens_of_row c.in-Stored.is)
    c.requires.map c.requires.there).kind

pub first-requires : goal.first-requires
first-requires c =
    let h = map_at (lens_of_row c.args.self) c.in-Stored.stored.whole c.args.i (ap lens_of_row c.in-Stored.is)
    c.requires.map c.requires.there in
    omega (
      arith,
      c.item-pair.ensures.pair (subst (λ w. IsMap (value_of_view w))
          (sym c.in-Stored.stored.same) h.map),
    )

pub invariant_of-result : goal.invariant_of-result
invariant_of-result c =
    let s = c.in-Stored.stored.whole in
    let same = c.in-Stored.stored.same in
    let relaxed = c.item-pair.ensures.relaxed ∙ ap is_relaxed same in
    let layout = c.item-pair.ensures.layout ∙ ap (λ w. item_of (layout_of_view w)) same in
    let t = type_of_ref s.ty in
    let h = map_at (lens_of_row c.args.self) s c.args.i (ap lens_of_row c.in-Stored.is) c.requires.map
    c.requires.there in
    record {
      binds =
          ∥∥₁_map s.binds (λ b. rebound (c.first.ensures.relaxed ∙ relaxed) c.key.ensures
          (c.first.ensures.layout ∙ ap (λ m. layout_nth (fields_in m) 0) layout)
          (map_binds (is_relaxed s.view) t (layout_of_view s.view) h.type b).0);
      accepted = ∥∥₁_map s.accepted (λ a. subst (IsAccepted IsUtf8) (sym c.key.ensures)
          (map_accepted IsUtf8 t h.type a).0);
      short = ∥∥₁_map s.short (λ a. subst HasShortTexts (sym c.key.ensures) (map_short t h.type a).0);
    }

pub value-requires : goal.value-requires
value-requires c =
    (map_at (lens_of_row c.args.self) c.in-Stored.stored.whole c.args.i (ap lens_of_row c.in-Stored.is)
    c.requires.map c.requires.there).kind

pub second-requires : goal.second-requires
second-requires c =
    let h = map_at (lens_of_row c.args.self) c.in-Stored.stored.whole c.args.i (ap lens_of_row c.in-Stored.is)
    c.requires.map c.requires.there in
    let map = subst (λ w. IsMap (value_of_view w)) (sym c.in-Stored.stored.same) h.map in
    omega (arith, c.item-pair.ensures.pair map)

pub invariant_of-result-in-Stored : goal.invariant_of-result-in-Stored
invariant_of-result-in-Stored c =
    let s = c.in-Stored.stored.whole in
    let same = c.in-Stored.stored.same in
    let relaxed = c.item-pair.ensures.relaxed ∙ ap is_relaxed same in
    let layout = c.item-pair.ensures.layout ∙ ap (λ w. item_of (layout_of_view w)) same in
    let t = type_of_ref s.ty in
    let h = map_at (lens_of_row c.args.self) s c.args.i (ap lens_of_row c.in-Stored.is) c.requires.map
    c.requires.there in
    record {
      binds = ∥∥₁_map s.binds (λ b. rebound (c.second.ensures.relaxed ∙ relaxed)
          c.value.ensures
          (c.second.ensures.layout ∙ ap (λ m. layout_nth (fields_in m) 1) layout)
          (map_binds (is_relaxed s.view) t (layout_of_view s.view) h.type b).1);
      accepted = ∥∥₁_map s.accepted (λ a. subst (IsAccepted IsUtf8) (sym c.value.ensures)
          (map_accepted IsUtf8 t h.type a).1);
      short = ∥∥₁_map s.short (λ a. subst HasShortTexts (sym c.value.ensures) (map_short t h.type a).1);
    }

pub unreachable-requires : goal.unreachable-requires
unreachable-requires c = no_item (lens_of_row c.args.self) c.in-Default.field-0 c.args.i
    (ap lens_of_row c.in-Default.is) c.requires.there

pub returns-clause-value : goal.returns-clause-value
returns-clause-value c =
    let s = c.in-Stored.stored.whole in
    let same = c.in-Stored.stored.same in
    let t = type_of_ref s.ty in
    let v = value_of_view s.view in
    let i = c.args.i in
    let told = c.item-pair.ensures.item ∙ ap (λ w. nth (items_of (value_of_view w)) i) same in
    let h = map_at (lens_of_row c.args.self) s i (ap lens_of_row c.in-Stored.is) c.requires.map
    c.requires.there in
    let two = sym (ap (λ u. count (fields_of u)) told) ∙ c.item-pair.ensures.pair
    (subst (λ w. IsMap (value_of_view w)) (sym same) h.map) in
    let key = ap (λ x. proj x (value_of_view c.first.result)) c.key.ensures
    ∙ ap (proj (key_of t)) (c.first.ensures.value ∙ ap (λ u. nth (fields_of u) 0) told) in
    let value = ap (λ x. proj x (value_of_view c.second.result)) c.value.ensures
    ∙ ap (proj (value_of t)) (c.second.ensures.value
    ∙ ap (λ u. nth (fields_of u) 1) told) in
    ap (λ k. pair k (proj (type_of_ref c.value.result) (value_of_view c.second.result))) key
    ∙ ap (pair (proj (key_of t) (nth (fields_of (nth (items_of v) i)) 0))) value
    ∙ map_item t v i h.items h.type h.key h.inside two
    ∙ ap (λ l. nth (items_of (value_of_lens l)) i) (sym (ap lens_of_row c.in-Stored.is))

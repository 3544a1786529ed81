use Rattle.std.proofs.Common.{ap, sym, ◌∙◌, ◌<◌}
use Rattle.std.specs.Str.{IsUtf8}
use Rattle.std.proofs.Common.{subst}
use Rattle.std.proofs.Math.Logic.{∥∥₁_map}
use Rattle.idl_parse.specs.Refs.{type_of_ref, element_of}
use Rattle.frozen_model.specs.Values.{nth, count}
use Rattle.type_kinds.specs.Accepted.{IsAccepted, HasShortTexts}
use Rattle.typed_tree.specs.Parts.{items_of}
use Rattle.bit_view.specs.Views.{value_of_view, layout_of_view, is_relaxed}
use Rattle.evolve.specs.Projection.{proj}
use Rattle.evolve.specs.Lenses.{value_of_lens}
use Rattle.evolve.specs.LensRows.{lens_of_row}
use Rattle.layout_tree.specs.Reading.{item_of}
use Rattle.evolve.proofs.Rows.{row_item, row_binds, row_accepted, row_short}
use Rattle.evolve.proofs.Arms.{row_at, no_item, rebound}
use Rattle.evolve.proofs.row.LensRow.item.Goals as goal

pub element-requires : goal.element-requires
element-requires c =
    (row_at (lens_of_row c.args.self) c.in-Stored.stored.whole c.args.i (ap lens_of_row c.in-Stored.is)
    c.requires.row c.requires.there).kind

pub item-requires : goal.item-requires
item-requires c =
    subst (λ w. c.args.i < count (items_of (value_of_view w))) (sym c.in-Stored.stored.same)
    (row_at (lens_of_row c.args.self) c.in-Stored.stored.whole c.args.i (ap lens_of_row c.in-Stored.is)
    c.requires.row c.requires.there).inside

pub invariant_of-result : goal.invariant_of-result
invariant_of-result c =
    let s = c.in-Stored.stored.whole in
    let same = c.in-Stored.stored.same in
    let relaxed = c.item.ensures.relaxed ∙ ap is_relaxed same in
    let layout = c.item.ensures.layout ∙ ap (λ w. item_of (layout_of_view w)) same in
    let t = type_of_ref s.ty in
    let h = row_at (lens_of_row c.args.self) s c.args.i (ap lens_of_row c.in-Stored.is) c.requires.row
    c.requires.there in
    record {
      binds = ∥∥₁_map s.binds (λ b. rebound relaxed c.element.ensures layout
          (row_binds (is_relaxed s.view) t (layout_of_view s.view) h.type b));
      accepted = ∥∥₁_map s.accepted (λ a. subst (IsAccepted IsUtf8) (sym c.element.ensures)
          (row_accepted IsUtf8 t h.type a));
      short = ∥∥₁_map s.short (λ a. subst HasShortTexts (sym c.element.ensures) (row_short t h.type a));
    }

pub unreachable-requires : goal.unreachable-requires
unreachable-requires c = no_item (lens_of_row c.args.self) c.in-Default.field-0 c.args.i
    (ap lens_of_row c.in-Default.is) c.requires.there

pub returns-clause-value : goal.returns-clause-value
returns-clause-value c =
    let s = c.in-Stored.stored.whole in
    let same = c.in-Stored.stored.same in
    let t = type_of_ref s.ty in
    let v = value_of_view s.view in
    let told = c.item.ensures.item ∙ ap (λ w. nth (items_of (value_of_view w)) c.args.i) same in
    let h = row_at (lens_of_row c.args.self) s c.args.i (ap lens_of_row c.in-Stored.is) c.requires.row
    c.requires.there in
    ap (λ x. proj x (value_of_view c.item.result)) c.element.ensures
    ∙ ap (proj (element_of t)) told
    ∙ row_item t v c.args.i h.items h.type h.key h.inside
    ∙ ap (λ l. nth (items_of (value_of_lens l)) c.args.i) (sym (ap lens_of_row c.in-Stored.is))

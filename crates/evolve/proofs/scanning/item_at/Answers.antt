use Rattle.std.proofs.Common.{ap, sym, subst, ◌∙◌}
use Rattle.idl_profile.specs.Types.{kind_of}
use Rattle.evolve.specs.Lenses.{type_of_lens, value_of_lens, HasForm}
use Rattle.evolve.specs.LensRows.{lens_of_row}
use Rattle.evolve.proofs.Rows.{row_type, row_kind}
use Rattle.evolve.proofs.Walking.{row_or_map}
use Rattle.evolve.proofs.Known.{lens_form}
use Rattle.evolve.proofs.scanning.item_at.Goals as goal

pub entry-requires-clause-map : goal.entry-requires-clause-map
entry-requires-clause-map c =
    let l = lens_of_row c.args.row in
    subst (λ k. HasForm k (value_of_lens l)) (sym (c.kind.ensures ∙ ap kind_of c.ty.ensures) ∙ c.in-Map.is)
    (lens_form l)

pub item-requires-clause-row : goal.item-requires-clause-row
item-requires-clause-row c =
    let l = lens_of_row c.args.row in
    let form = subst (λ k. HasForm k (value_of_lens l)) (sym (c.kind.ensures ∙ ap kind_of c.ty.ensures))
    (lens_form l) in
    row_or_map c.kind.result (value_of_lens l) form c.requires.items c.in_default.not-Map

pub returns-in_default : goal.returns-in_default
returns-in_default c =
    let l = lens_of_row c.args.row in
    let form = subst (λ k. HasForm k (value_of_lens l)) (sym (c.kind.ensures ∙ ap kind_of c.ty.ensures))
    (lens_form l) in
    let row = row_or_map c.kind.result (value_of_lens l) form c.requires.items c.in_default.not-Map in
    record {
      value = c.item.ensures.value;
      form = (
        row_kind (type_of_lens l) (row_type (type_of_lens l) (value_of_lens l) (lens_form l) row),
        c.item.ensures.typed,
      );
    }

-- A field is smaller than its struct, and adds its cells to those before.
use Rattle.std.proofs.Common.{◌≡◌, ◌∙◌, ◌+◌, ap, sym, subst, take, length, rules, arith}
use Rattle.std.specs.List.{sum_by}
use Rattle.std.proofs.Math.Seq.{take-length}
use Rattle.idl_profile.specs.Types.{Default, fields_of}
use Rattle.frozen_model.specs.Values.{cells}
use Rattle.root_kinds.proofs.References.{field_ref_is_accepted}
use Rattle.type_kinds.specs.Accepted.{IsWritten}
use Rattle.type_kinds.specs.Defaults.{default_of, written}
use Rattle.type_kinds.specs.KindsOf.{kinds_of}
use Rattle.type_kinds.specs.Laws.{Any}
use Rattle.idl_parse.specs.Refs.{type_of_ref, field_of_ref}
use Rattle.typed_tree.specs.Sizes.{capped, cells_of_default}
use Rattle.typed_tree.proofs.Typed.{field-smaller, cells-more, cells-struct}
use Rattle.typed_tree.proofs.Written.{flag-cells, int-cells, text-cells}
use Rattle.typed_tree.proofs.sizes.+cells.Goals as goal

pub field_defaults_cells-default_cells-requires : goal.field_defaults_cells-default_cells-requires
field_defaults_cells-default_cells-requires t c =
    let less = field-smaller (type_of_ref c.args.ty) c.loop-i.i (field_of_ref c.field_at.result) c.field_at.ensures in
    (omega (arith, c.decreases, less), tt)

pub field_defaults_cells-loop-i-preserved : goal.field_defaults_cells-loop-i-preserved
field_defaults_cells-loop-i-preserved t c =
    cells-more (type_of_ref c.args.ty) c.loop-i.i c.loop-i.cells c.default_cells.result _ (field_of_ref c.field_at.result) c.field_at.ensures c.loop-i.invariant c.default_cells.ensures c.saturating_add-cells.ensures

pub field_defaults_cells-returns : goal.field_defaults_cells-returns
field_defaults_cells-returns t c =
    let fs = fields_of (type_of_ref c.args.ty) in
    let all : c.loop-i.i ≡ length fs = omega (arith, c.loop-i-test.false, c.loop-i.auto.i-end, c.field_count-i-end.ensures) in
    c.loop-i.invariant ∙ ap (λ n. capped (sum_by cells_of_default (take n fs))) all ∙ ap (λ gs. capped (sum_by cells_of_default gs)) (take-length fs) ∙ ap capped (sym (cells-struct (type_of_ref c.args.ty) c.requires))

pub written_cells-returns-in-Flag : goal.written_cells-returns-in-Flag
written_cells-returns-in-Flag t c =
    let f = field_of_ref c.args.field in
    let may = subst (IsWritten Any f.type) (sym c.in-Flag.ensures) (field_ref_is_accepted c.args.field).1 in
    ap capped (sym (flag-cells f.type c.in-Flag.field-0 may)) ∙ ap (λ (d : Default). capped (cells (kinds_of f.type) (written d (default_of f.type)))) c.in-Flag.ensures

pub written_cells-returns-in-Int : goal.written_cells-returns-in-Int
written_cells-returns-in-Int t c =
    let f = field_of_ref c.args.field in
    let may = subst (IsWritten Any f.type) (sym c.in-Int.ensures) (field_ref_is_accepted c.args.field).1 in
    ap capped (sym (int-cells f.type c.in-Int.field-0 may)) ∙ ap (λ (d : Default). capped (cells (kinds_of f.type) (written d (default_of f.type)))) c.in-Int.ensures

pub written_cells-returns-in-Text : goal.written_cells-returns-in-Text
written_cells-returns-in-Text t c =
    let f = field_of_ref c.args.field in
    let may = subst (IsWritten Any f.type) (sym c.in-Text.ensures) (field_ref_is_accepted c.args.field).1 in
    let is : c.saturating_add.result ≡ capped (2 + length c.in-Text.x.now) = search rules in
    is ∙ ap capped (sym (text-cells f.type c.in-Text.x.now may)) ∙ ap (λ (d : Default). capped (cells (kinds_of f.type) (written d (default_of f.type)))) c.in-Text.ensures

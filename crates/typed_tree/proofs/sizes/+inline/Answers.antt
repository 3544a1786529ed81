-- A field is smaller than its struct, and adds its cells to those before.
use Rattle.std.proofs.Common.{◌≡◌, ◌∙◌, ap, sym, take, length, arith}
use Rattle.std.proofs.Math.Seq.{take-length}
use Rattle.std.specs.List.{sum_by}
use Rattle.idl_profile.specs.Types.{fields_of}
use Rattle.idl_parse.specs.Refs.{type_of_ref, field_of_ref}
use Rattle.typed_tree.specs.Sizes.{capped}
use Rattle.typed_tree.proofs.Typed.{field-smaller, inline-more, inline-struct, inline_of}
use Rattle.typed_tree.proofs.sizes.+inline.Goals as goal

pub struct_cells-field_cells-requires : goal.struct_cells-field_cells-requires
struct_cells-field_cells-requires t c =
    let less = field-smaller (type_of_ref c.args.ty) c.loop-i.i (field_of_ref c.field_at.result) c.field_at.ensures in
    (omega (arith, c.decreases, less), tt)

pub struct_cells-loop-i-preserved : goal.struct_cells-loop-i-preserved
struct_cells-loop-i-preserved t c =
    inline-more (type_of_ref c.args.ty) c.loop-i.i c.loop-i.cells c.field_cells.result _ (field_of_ref c.field_at.result) c.field_at.ensures c.loop-i.invariant c.field_cells.ensures c.saturating_add-cells.ensures

pub struct_cells-returns : goal.struct_cells-returns
struct_cells-returns t c =
    let fs = fields_of (type_of_ref c.args.ty) in
    let all : c.loop-i.i ≡ length fs = omega (arith, c.loop-i-test.false, c.loop-i.auto.i-end, c.field_count-i-end.ensures) in
    c.loop-i.invariant ∙ ap (λ n. capped (sum_by inline_of (take n fs))) all ∙ ap (λ gs. capped (sum_by inline_of gs)) (take-length fs) ∙ ap capped (sym (inline-struct (type_of_ref c.args.ty) c.requires))

-- A flag, a number or an enum is one cell, and an optional one is two.
use Rattle.std.proofs.Common.{◌≡◌, ◌∙◌, sym, subst, arith}
use Rattle.idl_parse.specs.Refs.{field_of_ref}
use Rattle.frozen_model.specs.Values.{Of, cells}
use Rattle.type_kinds.specs.KindsOf.{kinds_of}
use Rattle.typed_tree.specs.Sizes.{field_kinds}
use Rattle.lens_values.proofs.FlatTypes.{leaf_one, leaf_two}
use Rattle.lens_values.proofs.cells.leaf_cells.Goals as goal

pub returns-in-Optional : goal.returns-in-Optional
returns-in-Optional c = λ v o.
    let f = field_of_ref c.args.field in
    let is = sym c.need.ensures ∙ c.in-Optional.is in
    let two = subst (λ n. Of (field_kinds n f.type) v → cells (field_kinds n f.type) v ≡ 2) (sym is)
    (λ h. leaf_two (kinds_of f.type) h c.requires) o in
    omega (arith, two)

pub returns-in-Plain : goal.returns-in-Plain
returns-in-Plain c = λ v o.
    let f = field_of_ref c.args.field in
    let is = sym c.need.ensures ∙ c.in-Plain.is in
    let one = subst (λ n. cells (field_kinds n f.type) v ≡ 1) (sym is)
    (leaf_one (kinds_of f.type) v c.requires) in
    omega (arith, one)

pub returns-in-Required : goal.returns-in-Required
returns-in-Required c = λ v o.
    let f = field_of_ref c.args.field in
    let is = sym c.need.ensures ∙ c.in-Required.is in
    let one = subst (λ n. cells (field_kinds n f.type) v ≡ 1) (sym is)
    (leaf_one (kinds_of f.type) v c.requires) in
    omega (arith, one)

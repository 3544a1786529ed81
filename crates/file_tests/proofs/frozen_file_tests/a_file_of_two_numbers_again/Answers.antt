use Rattle.std.proofs.Common.{◌≤◌, sym, subst}
use Rattle.idl_profile.specs.Types.{root_of}
use Rattle.idl_parse.specs.Parsed.{definition_of}
use Rattle.type_kinds.specs.KindsOf.{kinds_of}
use Rattle.frozen_model.specs.Values.{Value, Of, cells, cell_limit}
use Rattle.layout_tree.specs.Nodes.{layout_of}
use Rattle.typed_tree.specs.References.{value_of_ref}
use Rattle.measure_pass.proofs.Measuring.{from_shape}
use Rattle.file_tests.proofs.frozen_file_tests.a_file_of_two_numbers_again.Goals as goal

pub refrozen_file-requires-clause-form : goal.refrozen_file-requires-clause-form
refrozen_file-requires-clause-form g c =
    let k = kinds_of (root_of (definition_of c.in_ok-def.def)) in
    let same = sym c.top.ensures.value in
    (from_shape (layout_of c.in_ok-blank.blank) k (value_of_ref c.top.result) c.in_ok-blank.ensures.layout
    (subst (λ (v : Value). Of k v) same c.in_ok-tree.ensures.form)
    (subst (λ (v : Value). cells k v ≤ cell_limit) same c.in_ok-tree.ensures.few)).form

pub refrozen_file-requires-clause-few : goal.refrozen_file-requires-clause-few
refrozen_file-requires-clause-few g c =
    let k = kinds_of (root_of (definition_of c.in_ok-def.def)) in
    let same = sym c.top.ensures.value in
    (from_shape (layout_of c.in_ok-blank.blank) k (value_of_ref c.top.result) c.in_ok-blank.ensures.layout
    (subst (λ (v : Value). Of k v) same c.in_ok-tree.ensures.form)
    (subst (λ (v : Value). cells k v ≤ cell_limit) same c.in_ok-tree.ensures.few)).few

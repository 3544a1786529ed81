use Rattle.std.proofs.Common.{◌≡◌, rules, subst}
use Rattle.std.specs.Str.{IsUtf8}
use Rattle.idl_profile.specs.Types.{root_of}
use Rattle.idl_parse.specs.Parsed.{definition_of}
use Rattle.type_kinds.specs.Accepted.{IsAccepted}
use Rattle.layout_tree.specs.Nodes.{layout_of}
use Rattle.evolve.specs.declared.fault.BindFault.TheVariants.{NoMemory}
use Rattle.root_kinds.proofs.References.{struct_ref_is_utf8}
use Rattle.demo_table.proofs.Binds.{only_memory}
use Rattle.demo_table.proofs.opening.own_plan.Goals as goal

pub unreachable-requires : goal.unreachable-requires
unreachable-requires c =
    let not : c.in-Err.field-0 ≡ NoMemory → ⊥ = search rules in
    let root = root_of (definition_of c.args.def.now) in
    let l = layout_of c.args.opened.now.layouts in
    let accepted : IsAccepted IsUtf8 root =
    subst (IsAccepted IsUtf8) c.root-root.ensures.tree
    (struct_ref_is_utf8 c.root-root.result c.root-root.ensures.kind) in
    let binds = c.binding_has_one_answer.ensures.own l root accepted c.requires in
    not (only_memory l root c.in-Err.field-0 c.in-Err.ensures
    ((c.binding_has_one_answer.ensures.one l root).0 binds))

use Rattle.std.proofs.Common.{◌≡◌, ◌∙◌, ap, refl, subst, Some, Err}
use Rattle.idl_profile.specs.Types.{root_of}
use Rattle.idl_parse.specs.Parsed.{definition_of}
use Rattle.layout_tree.specs.Nodes.{layout_of}
use Rattle.evolve.specs.Binding.{bind_fault, type_changed, required_absent}
use Rattle.evolve.specs.Bound.{IsBound}
use Rattle.frozen_cli.specs.Refusal.{ids_text}
use Rattle.frozen_cli.proofs.stages.bind.Goals as goal

pub returns-in_ok-ids_text-in-Err-TypeChanged-clause-gives :
    goal.returns-in_ok-ids_text-in-Err-TypeChanged-clause-gives
returns-in_ok-ids_text-in-Err-TypeChanged-clause-gives c =
    let l = layout_of c.args.opened.now.layouts in
    let root = root_of (definition_of c.args.def.now) in
    let e = c.in-Err-TypeChanged in
    let ids = e.ids.items in
    let fault : bind_fault l root ≡ Some (type_changed ids) =
    subst (λ f. IsBound l root (Err f)) e.field-0-is e.ensures in
    let text = c.in_ok-ids_text-in-Err-TypeChanged in (
      type_changed ids,
      fault,
      (text.field-0, text.ensures ∙ ap (λ xs. ids_text xs) c.deref.ensures.value, refl),
    )

pub returns-in_ok-ids_text-in-Err-RequiredAbsent-clause-gives :
    goal.returns-in_ok-ids_text-in-Err-RequiredAbsent-clause-gives
returns-in_ok-ids_text-in-Err-RequiredAbsent-clause-gives c =
    let l = layout_of c.args.opened.now.layouts in
    let root = root_of (definition_of c.args.def.now) in
    let e = c.in-Err-RequiredAbsent in
    let ids = e.ids.items in
    let fault : bind_fault l root ≡ Some (required_absent ids) =
    subst (λ f. IsBound l root (Err f)) e.field-0-is e.ensures in
    let text = c.in_ok-ids_text-in-Err-RequiredAbsent in (
      required_absent ids,
      fault,
      (
        text.field-0,
        text.ensures ∙ ap (λ xs. ids_text xs)
            c.deref-in-Err-RequiredAbsent.ensures.value,
        refl,
      ),
    )

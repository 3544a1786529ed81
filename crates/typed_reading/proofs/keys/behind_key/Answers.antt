use Rattle.std.proofs.Common.{◌∙◌, sym, ap, subst}
use Rattle.idl_profile.specs.Types.{TypeTree}
use Rattle.idl_parse.specs.Refs.{type_of_ref}
use Rattle.typed_reading.specs.Progress.{after}
use Rattle.typed_reading.specs.Marks.{IsLeafAs}
use Rattle.typed_reading.proofs.Leaves.{is_text, other_key}
use Rattle.typed_reading.proofs.keys.behind_key.Goals as goal

pub returns-in-Text : goal.returns-in-Text
returns-in-Text c w l e =
    let is = is_text (type_of_ref c.args.ty) (sym c.kind.ensures ∙ c.in-Text.is) in
    c.behind_text.ensures w (subst (λ (t : TypeTree). IsLeafAs t w) is l) e ∙ ap (λ (t : TypeTree). after t c.args.progress.now w) (sym is)

pub returns-in_default : goal.returns-in_default
returns-in_default c w l e = c.pass_node.ensures ∙ other_key (type_of_ref c.args.ty) c.args.progress.now w (λ h. c.in_default.not-Text (c.kind.ensures ∙ h)) l

use Rattle.std.proofs.Common.{◌∙◌}
use Rattle.idl_fields.proofs.found.Found.has_id.Goals as goal

pub returns : goal.returns
returns c text ts h = c.contains.ensures ∙ h.ids c.args.z.value

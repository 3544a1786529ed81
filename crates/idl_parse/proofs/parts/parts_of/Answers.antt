use Rattle.std.proofs.Common.{sym, subst}
use Rattle.idl_parse.specs.Parsed.{DefText, definition_of}
use Rattle.idl_parse.proofs.Meant.{text_means}
use Rattle.idl_parse.proofs.parts.parts_of.Goals as goal

-- its own text means the definition
pub returns-clause-means : goal.returns-clause-means
returns-clause-means c =
    let d = c.args.def.now in
    subst (λ t. DefText t (definition_of d)) (sym c.as_str.ensures.value) (text_means d)

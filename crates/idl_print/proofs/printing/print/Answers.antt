use Rattle.std.specs.Prelude.{string_bytes}
use Rattle.idl_fields.specs.View.{types_in, nameds_of}
use Rattle.idl_parse.specs.Meant.{definition_in}
use Rattle.idl_parse.specs.Parsed.{definition_of}
use Rattle.idl_print.proofs.PrintedAnswer.{means_it}
use Rattle.idl_print.proofs.printing.print.Goals as goal

-- the text means the definition
pub returns-clause-means : goal.returns-clause-means
returns-clause-means c =
    means_it string_bytes c.print_named.result c.parts_of.result.0.now (definition_of c.args.def.now) (definition_in (nameds_of c.parts_of.result.0.now (types_in c.parts_of.result.2.now) c.parts_of.result.1.now)) c.parts_of.ensures.means c.parts_of.ensures.is c.print_named.ensures

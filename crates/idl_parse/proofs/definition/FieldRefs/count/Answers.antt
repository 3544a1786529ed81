use Rattle.std.proofs.Common.{sym}
use Rattle.idl_parse.proofs.Standing.{length-fields}
use Rattle.idl_parse.proofs.definition.FieldRefs.count.Goals as goal

pub returns : goal.returns
returns c = sym (length-fields c.args.self.def.now c.args.self.within c.args.self.fields.now)

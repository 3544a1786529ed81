use Rattle.std.proofs.Common.{rules}
use Rattle.idl_fields.specs.View.{types_in}
use Rattle.idl_print.proofs.types.+push_type.Goals as goal

pub returns-in-Enum : goal.returns-in-Enum
returns-in-Enum t c = let k = c.name_at.ensures (types_in c.args.types.now) in search rules

pub returns-in-Struct : goal.returns-in-Struct
returns-in-Struct t c = let k = c.name_at-in-Struct.ensures (types_in c.args.types.now) in search rules

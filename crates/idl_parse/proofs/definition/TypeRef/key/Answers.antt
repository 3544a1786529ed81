use Rattle.std.proofs.Common.{inl, inr, sym}
use Rattle.idl_parse.proofs.Standing.{no_parts}
use Rattle.idl_parse.proofs.definition.TypeRef.key.Goals as goal

pub returns-in-Enum : goal.returns-in-Enum
returns-in-Enum c = sym (no_parts c.args.self.def.now c.args.self.within c.in-Enum.field-0 c.args.self.node (inl c.in-Enum.is)).1

pub returns-in-Struct : goal.returns-in-Struct
returns-in-Struct c = sym (no_parts c.args.self.def.now c.args.self.within c.in-Struct.field-0 c.args.self.node (inr c.in-Struct.is)).1

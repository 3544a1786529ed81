use Rattle.std.proofs.Common.{sym, subst, arith}
use Rattle.typed_tree.specs.Parts.{IsBytes}
use Rattle.typed_tree.specs.References.{value_of_ref}
use Rattle.layout_schema.proofs.ReadEntries.{entry_form}
use Rattle.layout_schema.proofs.entries.EntryRef.name.Goals as goal

pub field_at-requires : goal.field_at-requires
field_at-requires c = omega (arith, (entry_form (value_of_ref c.args.self.layout) c.requires).many)

pub bytes-requires : goal.bytes-requires
bytes-requires c = subst IsBytes (sym c.field_at.ensures.value) (entry_form (value_of_ref c.args.self.layout) c.requires).name

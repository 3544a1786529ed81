use Rattle.std.proofs.Common.{sym, subst}
use Rattle.typed_tree.specs.Parts.{IsInt}
use Rattle.typed_tree.specs.References.{value_of_ref}
use Rattle.layout_schema.proofs.ReadEntries.{entry_form, is_int}
use Rattle.layout_schema.proofs.entries.EntryRef.size.Goals as goal

pub int-requires : goal.int-requires
int-requires c = subst IsInt (sym c.field_at.ensures.value) (is_int (entry_form (value_of_ref c.args.self.layout) c.requires).size)

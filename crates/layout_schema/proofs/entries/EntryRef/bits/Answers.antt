use Rattle.std.proofs.Common.{sym, subst, ◌∙◌, arith}
use Rattle.typed_tree.specs.Parts.{IsInt}
use Rattle.typed_tree.specs.References.{value_of_ref}
use Rattle.layout_schema.proofs.ReadEntries.{entry_form, is_int, fits_cast, cast_16}
use Rattle.layout_schema.proofs.entries.EntryRef.bits.Goals as goal

pub field_at-requires : goal.field_at-requires
field_at-requires c = omega (arith, (entry_form (value_of_ref c.args.self.layout) c.requires).many)

pub int-requires : goal.int-requires
int-requires c = subst IsInt (sym c.field_at.ensures.value) (is_int (entry_form (value_of_ref c.args.self.layout) c.requires).bits)

pub overflow_cast-result : goal.overflow_cast-result
overflow_cast-result c = fits_cast (entry_form (value_of_ref c.args.self.layout) c.requires).bits (sym c.field_at.ensures.value ∙ c.int.ensures)

pub returns : goal.returns
returns c = cast_16 (entry_form (value_of_ref c.args.self.layout) c.requires).bits (sym c.field_at.ensures.value ∙ c.int.ensures)

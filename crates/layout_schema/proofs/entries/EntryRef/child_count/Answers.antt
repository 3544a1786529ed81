use Rattle.std.proofs.Common.{sym, subst, ap, ◌∙◌, arith}
use Rattle.frozen_model.specs.Values.{count, nth}
use Rattle.typed_tree.specs.Parts.{IsItems, fields_of, items_of}
use Rattle.typed_tree.specs.References.{value_of_ref}
use Rattle.layout_schema.proofs.ReadEntries.{entry_form, child_count, is_items}
use Rattle.layout_schema.proofs.entries.EntryRef.child_count.Goals as goal

pub field_at-requires : goal.field_at-requires
field_at-requires c = omega (arith, (entry_form (value_of_ref c.args.self.layout) c.requires).many)

pub len-requires : goal.len-requires
len-requires c = subst IsItems (sym c.field_at.ensures.value) (is_items (entry_form (value_of_ref c.args.self.layout) c.requires).children)

pub returns : goal.returns
returns c =
    c.len.ensures ∙ ap (λ v. count (items_of v)) c.field_at.ensures.value
    ∙ sym (child_count (items_of (nth (fields_of (value_of_ref c.args.self.layout)) 2)))

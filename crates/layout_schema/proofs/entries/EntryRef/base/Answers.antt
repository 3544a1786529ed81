use Rattle.std.proofs.Common.{◌≡◌, Some, sym, ap, ◌∙◌, w64}
use Rattle.std.specs.Prelude.{pos, option_map}
use Rattle.std.proofs.lemmas.Int.{to_z-of_z}
use Rattle.compact_codec.specs.Wire.{number_in}
use Rattle.typed_tree.specs.Parts.{field_of}
use Rattle.typed_tree.specs.References.{value_of_ref}
use Rattle.layout_schema.proofs.ReadEntries.{base_form}
use Rattle.layout_schema.proofs.entries.EntryRef.base.Goals as goal

pub int-requires : goal.int-requires
int-requires c =
    let x = value_of_ref c.args.self.layout in
    let is : field_of x (pos 5) ≡ Some (value_of_ref c.in-Some.base) = sym c.field.ensures.value ∙ ap (option_map value_of_ref) c.in-Some.is in
    ((base_form x c.requires).given (value_of_ref c.in-Some.base) is).1

pub returns-in-Some : goal.returns-in-Some
returns-in-Some c =
    let x = value_of_ref c.args.self.layout in
    let v = value_of_ref c.in-Some.base in
    let is : field_of x (pos 5) ≡ Some v = sym c.field.ensures.value ∙ ap (option_map value_of_ref) c.in-Some.is in
    to_z-of_z w64 c.int.result (record { sfits = c.int.type_inv }) ∙ sym (ap number_in c.int.ensures) ∙ ap number_in ((base_form x c.requires).given v is).0

pub returns-in-None : goal.returns-in-None
returns-in-None c =
    let x = value_of_ref c.args.self.layout in
    sym ((base_form x c.requires).without (sym c.field.ensures.value ∙ ap (option_map value_of_ref) c.in-None.is))

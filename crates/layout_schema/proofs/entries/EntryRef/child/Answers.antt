use Rattle.std.proofs.Common.{◌≡◌, ◌<◌, Some, sym, subst, ap, ◌∙◌, arith}
use Rattle.std.specs.Prelude.{ℤ}
use Rattle.frozen_model.specs.Values.{count, nth}
use Rattle.typed_tree.specs.Parts.{IsInt, IsMap, fields_of, items_of}
use Rattle.typed_tree.specs.References.{value_of_ref}
use Rattle.layout_schema.specs.Shapes.{Child, child_in}
use Rattle.layout_schema.proofs.ReadEntries.{entry_form, child_count, child_at, child_there, is_int, is_map, fits_cast, cast_16}
use Rattle.layout_schema.proofs.entries.EntryRef.child.Goals as goal

pub field_at-requires : goal.field_at-requires
field_at-requires c = omega (arith, (entry_form (value_of_ref c.args.self.layout) c.requires.layout).many)

pub entry-requires-clause-map : goal.entry-requires-clause-map
entry-requires-clause-map c = subst IsMap (sym c.field_at.ensures.value) (is_map (entry_form (value_of_ref c.args.self.layout) c.requires.layout).children)

pub entry-requires-clause-inside : goal.entry-requires-clause-inside
entry-requires-clause-inside c =
    let y = nth (fields_of (value_of_ref c.args.self.layout)) 2 in
    subst (λ u. c.args.place < count (items_of u)) (sym c.field_at.ensures.value) (omega (arith, c.requires.inside, child_count (items_of y)))

pub int-requires : goal.int-requires
int-requires c =
    is_int (child_there (value_of_ref c.args.self.layout) c.requires.layout c.args.place c.requires.inside c.field_at.ensures.value c.entry.ensures.pair).field

pub overflow_cast-result : goal.overflow_cast-result
overflow_cast-result c =
    fits_cast (child_there (value_of_ref c.args.self.layout) c.requires.layout c.args.place c.requires.inside c.field_at.ensures.value c.entry.ensures.pair).field c.int.ensures

pub field_at-requires-2 : goal.field_at-requires-2
field_at-requires-2 c =
    omega (arith, (child_there (value_of_ref c.args.self.layout) c.requires.layout c.args.place c.requires.inside c.field_at.ensures.value c.entry.ensures.pair).child.two)

pub int-requires-2 : goal.int-requires-2
int-requires-2 c =
    subst IsInt (sym c.field_at-2.ensures.value) (is_int (child_there (value_of_ref c.args.self.layout) c.requires.layout c.args.place c.requires.inside c.field_at.ensures.value c.entry.ensures.pair).child.number)

pub overflow_cast-result-2 : goal.overflow_cast-result-2
overflow_cast-result-2 c =
    fits_cast (child_there (value_of_ref c.args.self.layout) c.requires.layout c.args.place c.requires.inside c.field_at.ensures.value c.entry.ensures.pair).child.number (sym c.field_at-2.ensures.value ∙ c.int-2.ensures)

pub field_at-requires-3 : goal.field_at-requires-3
field_at-requires-3 c =
    omega (arith, (child_there (value_of_ref c.args.self.layout) c.requires.layout c.args.place c.requires.inside c.field_at.ensures.value c.entry.ensures.pair).child.two)

pub int-requires-3 : goal.int-requires-3
int-requires-3 c =
    subst IsInt (sym c.field_at-3.ensures.value) (is_int (child_there (value_of_ref c.args.self.layout) c.requires.layout c.args.place c.requires.inside c.field_at.ensures.value c.entry.ensures.pair).child.offset)

pub overflow_cast-result-3 : goal.overflow_cast-result-3
overflow_cast-result-3 c =
    fits_cast (child_there (value_of_ref c.args.self.layout) c.requires.layout c.args.place c.requires.inside c.field_at.ensures.value c.entry.ensures.pair).child.offset (sym c.field_at-3.ensures.value ∙ c.int-3.ensures)

abbrev child_with : ℤ → ℤ → ℤ → Child
child_with f n o = record { field = f; number = n; offset = o }

same_child : (a b c f n o : ℤ) → f ≡ a → n ≡ b → o ≡ c → Some (child_with a b c) ≡ Some (child_with f n o)
same_child a b c f n o p q r = cc

pub returns : goal.returns
returns c =
    let y = nth (fields_of (value_of_ref c.args.self.layout)) 2 in
    let lt : c.args.place < count (items_of y) = omega (arith, c.requires.inside, child_count (items_of y)) in
    let p = child_there (value_of_ref c.args.self.layout) c.requires.layout c.args.place c.requires.inside c.field_at.ensures.value c.entry.ensures.pair in
    child_at (items_of y) c.args.place lt ∙ ap (λ u. Some (child_in (nth (items_of u) c.args.place))) (sym c.field_at.ensures.value)
    ∙ ap (λ u. Some (child_in u)) c.entry.ensures.pair
    ∙ same_child _ _ _ _ _ _ (cast_16 p.field c.int.ensures) (cast_16 p.child.number (sym c.field_at-2.ensures.value ∙ c.int-2.ensures)) (cast_16 p.child.offset (sym c.field_at-3.ensures.value ∙ c.int-3.ensures))

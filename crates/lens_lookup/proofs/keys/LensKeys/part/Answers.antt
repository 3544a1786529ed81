use Rattle.evolve.specs.LensRows.{lens_of_row}
use Rattle.std.proofs.Common.{refl, sym, ap, subst, ◌∙◌}
use Rattle.idl_profile.specs.Types.{kind_of}
use Rattle.frozen_model.specs.Values.{key_of}
use Rattle.evolve.specs.Lenses.{type_of_lens, value_of_lens}
use Rattle.evolve.proofs.Known.{lens_form}
use Rattle.lens_lookup.specs.KeySorts.{key_type}
use Rattle.lens_lookup.proofs.KeyForms.{IsHeld, lens_held, held_row, own_key, lens_sort}
use Rattle.lens_lookup.proofs.keys.LensKeys.part.Goals as goal

pub key-requires-clause-map : goal.key-requires-clause-map
key-requires-clause-map c =
    let s = c.args.self.now in
    let l = lens_of_row s.row in
    subst (λ b. IsHeld b (value_of_lens l)) c.if-self.true (lens_held s.map l s.keyed)

pub item-requires-clause-row : goal.item-requires-clause-row
item-requires-clause-row c =
    let s = c.args.self.now in
    let l = lens_of_row s.row in
    held_row (value_of_lens l)
    (subst (λ b. IsHeld b (value_of_lens l)) c.if-self.false (lens_held s.map l s.keyed))

pub returns-else-self-clause-value : goal.returns-else-self-clause-value
returns-else-self-clause-value c =
    let s = c.args.self.now in
    let l = c.item.result in
    let to = ap (λ b. key_type b (type_of_lens (lens_of_row s.row))) (sym c.if-self.false) in
    let sorted = lens_sort s.sort s.sort l _ refl (c.item.ensures.typed ∙ to) s.sorted in
    sym (own_key s.sort (kind_of (type_of_lens l)) (value_of_lens l) sorted (lens_form l))
    ∙ ap key_of c.item.ensures.value

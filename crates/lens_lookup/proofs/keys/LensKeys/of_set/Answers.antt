use Rattle.std.proofs.Common.{false, sym, ap, subst, ◌∙◌}
use Rattle.idl_parse.specs.Refs.{element_of}
use Rattle.type_kinds.specs.Accepted.{IsKeyType}
use Rattle.evolve.specs.Lenses.{value_of_lens}
use Rattle.lens_lookup.specs.KeySorts.{is_keyed}
use Rattle.lens_lookup.proofs.KeyForms.{lens_held, held_items, set_keys}
use Rattle.lens_lookup.proofs.keys.LensKeys.of_set.Goals as goal

pub row-requires : goal.row-requires
row-requires c =
    let l = c.args.whole in
    held_items false (value_of_lens l) (lens_held false l (ap (is_keyed false) c.requires))

pub len-requires : goal.len-requires
len-requires c =
    let l = c.args.whole in
    held_items false (value_of_lens l) (lens_held false l (ap (is_keyed false) c.requires))

pub sort_of-requires : goal.sort_of-requires
sort_of-requires c =
    subst IsKeyType (sym (c.element.ensures ∙ ap element_of c.ty.ensures)) (set_keys c.args.whole c.requires)

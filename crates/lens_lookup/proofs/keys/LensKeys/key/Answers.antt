use Rattle.idl_profile.specs.Types.{kind_of}
use Rattle.evolve.specs.Lenses.{type_of_lens, value_of_lens}
use Rattle.evolve.proofs.Known.{lens_form}
use Rattle.lens_lookup.specs.declared.keys.KeySort.TheVariants as sort
use Rattle.lens_lookup.proofs.KeyForms.{lens_sort, number_form, flag_form, bytes_form}
use Rattle.lens_lookup.proofs.keys.LensKeys.key.Goals as goal

pub int-requires : goal.int-requires
int-requires c =
    let s = c.args.self.now in let l = c.part-part.result in
    number_form (kind_of (type_of_lens l)) (value_of_lens l)
    (lens_sort sort.Number s.sort l _ c.in-Number.is c.part-part.ensures.typed s.sorted) (lens_form l)

pub flag-requires : goal.flag-requires
flag-requires c =
    let s = c.args.self.now in let l = c.part-part.result in
    flag_form (kind_of (type_of_lens l)) (value_of_lens l)
    (lens_sort sort.Flag s.sort l _ c.in-Flag.is c.part-part.ensures.typed s.sorted) (lens_form l)

pub bytes-requires : goal.bytes-requires
bytes-requires c =
    let s = c.args.self.now in let l = c.part-part.result in
    bytes_form (kind_of (type_of_lens l)) (value_of_lens l)
    (lens_sort sort.Bytes s.sort l _ c.in-Bytes.is c.part-part.ensures.typed s.sorted) (lens_form l)

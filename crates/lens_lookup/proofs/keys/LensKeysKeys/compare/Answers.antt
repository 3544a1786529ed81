use Rattle.std.proofs.Common.{◌<◌, arith, rules, w64, int_cmp, ap, sym, ◌∙◌}
use Rattle.std.proofs.lemmas.Int.{to_z-of_z}
use Rattle.std.specs.Prelude.{FitsSigned}
use Rattle.idl_profile.specs.Types.{kind_of}
use Rattle.frozen_model.specs.Values.{count}
use Rattle.key_order.specs.declared.key.Key.TheVariants as key
use Rattle.path_text.specs.Views.{key_of_literal}
use Rattle.evolve.specs.Lenses.{type_of_lens, value_of_lens}
use Rattle.evolve.proofs.Known.{lens_form}
use Rattle.lens_lookup.specs.declared.keys.KeySort.TheVariants as sort
use Rattle.lens_lookup.specs.LensKeys.{values_searched}
use Rattle.lens_lookup.specs.Sought.{sought, value_of_key}
use Rattle.lens_lookup.proofs.Finding.{keys_counted}
use Rattle.lens_lookup.proofs.KeyForms.{compared, lens_sort, number_form}
use Rattle.lens_lookup.proofs.keys.LensKeysKeys.compare.Goals as goal

pub part-requires : goal.part-requires
part-requires g c = omega (arith, c.requires, keys_counted (values_searched c.args.self.now))

pub int-requires : goal.int-requires
int-requires g c =
    let s = c.args.self.now in let l = c.part.result in
    number_form (kind_of (type_of_lens l)) (value_of_lens l)
    (lens_sort sort.Number s.sort l _ c.in-Number-Int.is-0 c.part.ensures.typed s.sorted) (lens_form l)

pub returns-in-Number-Int-clause-answer : goal.returns-in-Number-Int-clause-answer
returns-in-Number-Int-clause-answer g c =
    let vs = values_searched c.args.self.now in
    let there : c.args.i < count vs = omega (arith, c.requires, keys_counted vs) in
    let found = c.int.result in
    let number = c.in-Number-Int.number in
    let wanted = sought (key_of_literal c.args.key.now) in
    let fits : FitsSigned w64 found = search rules in
    c.cmp.ensures ∙ ap (λ x. int_cmp x number) (to_z-of_z w64 found fits)
    ∙ compared (key.Number found) (key.Number number) vs c.args.i wanted there
    (sym c.int.ensures ∙ c.part.ensures.value)
    (ap (λ k. value_of_key (sought (key_of_literal k))) (sym c.in-Number-Int.is-1))

pub key-requires : goal.key-requires
key-requires g c = omega (arith, c.requires, keys_counted (values_searched c.args.self.now))

pub returns-clause-answer : goal.returns-clause-answer
returns-clause-answer g c =
    let vs = values_searched c.args.self.now in
    let there : c.args.i < count vs = omega (arith, c.requires, keys_counted vs) in
    let key = sought (key_of_literal c.args.key.now) in
    c.cmp-2.ensures
    ∙ compared c.key.result c.literal_key.result vs c.args.i key there c.key.ensures c.literal_key.ensures

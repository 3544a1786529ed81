use Rattle.std.proofs.Common.{Some, true, false, refl, sym, ap, subst, arith, slice_get, ◌∙◌}
use Rattle.std.specs.List.{Contains}
use Rattle.idl_parse.specs.Refs.{element_of, value_of}
use Rattle.typed_tree.specs.Parts.{items_of}
use Rattle.path_text.specs.Views.{key_of_literal}
use Rattle.evolve.specs.Lenses.{type_of_lens, value_of_lens}
use Rattle.evolve.proofs.Known.{lens_form}
use Rattle.lens_lookup.specs.KeySorts.{is_keyed}
use Rattle.lens_lookup.specs.Sought.{sought, keys_in}
use Rattle.lens_lookup.proofs.Finding.{key_within}
use Rattle.lens_lookup.proofs.KeyForms.{lens_rises}
use Rattle.lens_lookup.proofs.StepForms.{typed_is, set_part, set_lacks, map_part, map_lacks, search_cost}
use Rattle.lens_lookup.proofs.steps.part_at_key.Goals as goal

pub item-requires-clause-there : goal.item-requires-clause-there
item-requires-clause-there g c =
    let i = c.in-Some.place in
    let at = ap (λ vs. slice_get (keys_in vs) i) (sym c.of_set.ensures) ∙ c.in-Some.ensures.place in
    key_within (items_of (value_of_lens c.args.from)) i _ at

pub entry-requires-clause-there : goal.entry-requires-clause-there
entry-requires-clause-there g c =
    let i = c.in-Some-search.place in
    let at = ap (λ vs. slice_get (keys_in vs) i) (sym c.of_map.ensures) ∙ c.in-Some-search.ensures.place in
    key_within (items_of (value_of_lens c.args.from)) i _ at

pub returns-in-Some-clause-part : goal.returns-in-Some-clause-part
returns-in-Some-clause-part g c =
    let l = c.args.from in let t = type_of_lens l in
    let key = key_of_literal c.args.key.now in
    let kind = sym c.kind.ensures.kind ∙ c.in-Set.is in
    let rises = lens_rises false l (ap (is_keyed false) kind) in
    let i = c.in-Some.place in
    let at = ap (λ vs. slice_get (keys_in vs) i) (sym c.of_set.ensures) ∙ c.in-Some.ensures.place in
    ap (λ p. Some p) (typed_is c.item.result (element_of t) _ c.item.ensures.typed c.item.ensures.value)
    ∙ sym (set_part key t (value_of_lens l) i kind (lens_form l) rises at)

pub returns-in-Some-clause-cost : goal.returns-in-Some-clause-cost
returns-in-Some-clause-cost g c =
    let keyed = ap (is_keyed false) (sym c.kind.ensures.kind ∙ c.in-Set.is) in
    let spent = search_cost false (key_of_literal c.args.key.now) c.args.from _ keyed c.of_set.ensures in
    omega (arith, c.search.ensures.cost, spent)

pub returns-in-None-clause-part : goal.returns-in-None-clause-part
returns-in-None-clause-part g c =
    let l = c.args.from in
    let key = key_of_literal c.args.key.now in
    let kind = sym c.kind.ensures.kind ∙ c.in-Set.is in
    sym (set_lacks key (type_of_lens l) (value_of_lens l) kind (lens_form l)
    (subst (λ vs. Contains (keys_in vs) (sought key) → ⊥) c.of_set.ensures c.in-None.ensures.place))

pub returns-in-None-clause-cost : goal.returns-in-None-clause-cost
returns-in-None-clause-cost g c =
    let keyed = ap (is_keyed false) (sym c.kind.ensures.kind ∙ c.in-Set.is) in
    let spent = search_cost false (key_of_literal c.args.key.now) c.args.from _ keyed c.of_set.ensures in
    omega (arith, c.search.ensures.cost, spent)

pub returns-in-Some-search-clause-part : goal.returns-in-Some-search-clause-part
returns-in-Some-search-clause-part g c =
    let l = c.args.from in let t = type_of_lens l in
    let key = key_of_literal c.args.key.now in
    let kind = sym c.kind.ensures.kind ∙ c.in-Map.is in
    let rises = lens_rises true l (ap (is_keyed true) kind) in
    let i = c.in-Some-search.place in
    let at = ap (λ vs. slice_get (keys_in vs) i) (sym c.of_map.ensures) ∙ c.in-Some-search.ensures.place in
    let first = value_of_lens c.entry.result.0 in let part = c.entry.result.1 in
    ap (λ p. Some p) (typed_is part (value_of t) (value_of_lens part) c.entry.ensures.typed refl)
    ∙ sym (map_part key t (value_of_lens l) first (value_of_lens part) i kind (lens_form l) rises at
    c.entry.ensures.value)

pub returns-in-Some-search-clause-cost : goal.returns-in-Some-search-clause-cost
returns-in-Some-search-clause-cost g c =
    let keyed = ap (is_keyed true) (sym c.kind.ensures.kind ∙ c.in-Map.is) in
    let spent = search_cost true (key_of_literal c.args.key.now) c.args.from _ keyed c.of_map.ensures in
    omega (arith, c.search-in-Map.ensures.cost, spent)

pub returns-in-None-search-clause-part : goal.returns-in-None-search-clause-part
returns-in-None-search-clause-part g c =
    let l = c.args.from in
    let key = key_of_literal c.args.key.now in
    let kind = sym c.kind.ensures.kind ∙ c.in-Map.is in
    sym (map_lacks key (type_of_lens l) (value_of_lens l) kind (lens_form l)
    (subst (λ vs. Contains (keys_in vs) (sought key) → ⊥) c.of_map.ensures c.in-None-search.ensures.place))

pub returns-in-None-search-clause-cost : goal.returns-in-None-search-clause-cost
returns-in-None-search-clause-cost g c =
    let keyed = ap (is_keyed true) (sym c.kind.ensures.kind ∙ c.in-Map.is) in
    let spent = search_cost true (key_of_literal c.args.key.now) c.args.from _ keyed c.of_map.ensures in
    omega (arith, c.search-in-Map.ensures.cost, spent)

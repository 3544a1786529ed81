use Rattle.std.proofs.Common.{ap, ◌∙◌, arith, length}
use Rattle.frozen_model.specs.Bits.{digits}
use Rattle.typed_tree.specs.Parts.{items_of}
use Rattle.path_text.specs.Views.{key_of_literal}
use Rattle.key_lookup.specs.Order.{count_below}
use Rattle.evolve.specs.Lenses.{type_of_lens, value_of_lens}
use Rattle.evolve.specs.LensItems.{from_to}
use Rattle.lens_lookup.specs.Sought.{sought, keys_in, sought_cmp}
use Rattle.lens_lookup.proofs.Finding.{keys_counted}
use Rattle.lens_lookup.proofs.Intervals.{counted, has_keys, lens_items, lens_below, lens_interval}
use Rattle.lens_lookup.proofs.interval.between.Goals as goal

pub keys_of-keys-requires : goal.keys_of-keys-requires
keys_of-keys-requires g c = has_keys (type_of_lens c.args.from) (key_of_literal c.args.low.now) c.requires.low

pub scan_places-requires : goal.scan_places-requires
scan_places-requires g c = lens_items c.args.from (key_of_literal c.args.low.now) c.requires.low

pub returns-clause-items : goal.returns-clause-items
returns-clause-items g c =
    let l = c.args.from in let vs = items_of (value_of_lens l) in
    let low = key_of_literal c.args.low.now in let high = key_of_literal c.args.high.now in
    let first = c.lower_bound-first.ensures.below
    ∙ ap (λ us. count_below sought_cmp (keys_in us) (sought low)) c.keys_of-keys.ensures
    ∙ lens_below l low c.requires.low in
    let end = c.lower_bound-end.ensures.below
    ∙ ap (λ us. count_below sought_cmp (keys_in us) (sought high)) c.keys_of-keys.ensures
    ∙ lens_below l high c.requires.high in
    c.scan_places.ensures.items
    ∙ ap (λ n. from_to vs n c.lower_bound-end.result) first ∙ ap (from_to vs (counted low vs)) end
    ∙ lens_interval l low high c.requires.low

pub returns-clause-cost : goal.returns-clause-cost
returns-clause-cost g c =
    let many = ap (λ us. length (keys_in us)) c.keys_of-keys.ensures
    ∙ keys_counted (items_of (value_of_lens c.args.from)) in
    omega (arith, c.lower_bound-first.ensures.cost, c.lower_bound-end.ensures.cost, ap digits many)

-- Entries whose keys climb are in order, and none repeats; else the neighbours of the sorted entries answer for all.
use Rattle.std.proofs.Common.{None}
use Rattle.std.proofs.lemmas.List.Sorted.{IsPermutation-refl}
use Rattle.key_order.proofs.Repeated.{least_from_neighbours, rising_from_neighbours}
use Rattle.key_order.proofs.Sorted.{in_turn, climbing_is_sorted, climbing_apart}
use Rattle.key_order.proofs.repeats.least_repeat.Goals as goal

pub returns-clause-ordered : goal.returns-clause-ordered
returns-clause-ordered c = in_turn c.sort_unstable.new.self c.sort_unstable.ensures.sorted

pub returns-clause-least : goal.returns-clause-least
returns-clause-least c = least_from_neighbours c.args.entries.now c.sort_unstable.new.self c.sort_unstable.ensures.permutation c.sort_unstable.ensures.sorted c.least_neighbour.result c.requires c.least_neighbour.ensures

pub returns-clause-rising : goal.returns-clause-rising
returns-clause-rising c = rising_from_neighbours c.args.entries.now c.sort_unstable.new.self c.sort_unstable.ensures.permutation c.sort_unstable.ensures.sorted c.least_neighbour.result c.least_neighbour.ensures

pub returns-then-are_climbing-clause-moved : goal.returns-then-are_climbing-clause-moved
returns-then-are_climbing-clause-moved c = IsPermutation-refl c.args.entries.now

pub returns-then-are_climbing-clause-ordered : goal.returns-then-are_climbing-clause-ordered
returns-then-are_climbing-clause-ordered c =
    let es = c.args.entries.now in
    in_turn es (climbing_is_sorted es (c.are_climbing.ensures c.if-are_climbing.true))

pub returns-then-are_climbing-clause-least : goal.returns-then-are_climbing-clause-least
returns-then-are_climbing-clause-least c =
    let es = c.args.entries.now in
    let up = c.are_climbing.ensures c.if-are_climbing.true in
    least_from_neighbours es es (IsPermutation-refl es) (climbing_is_sorted es up) None c.requires (climbing_apart es up)

pub returns-then-are_climbing-clause-rising : goal.returns-then-are_climbing-clause-rising
returns-then-are_climbing-clause-rising c =
    let es = c.args.entries.now in
    let up = c.are_climbing.ensures c.if-are_climbing.true in
    rising_from_neighbours es es (IsPermutation-refl es) (climbing_is_sorted es up) None (climbing_apart es up)

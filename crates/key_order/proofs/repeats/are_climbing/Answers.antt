-- One pair of neighbours after another is seen to climb.
use Rattle.std.proofs.Common.{◌≡◌, ℕ, ◌-◌, ◌<◌, length, get_or, arith}
use Rattle.std.proofs.lemmas.List.{get_or_default}
use Rattle.std.proofs.lemmas.List.Sorted.{all_adjacent_more}
use Rattle.key_order.specs.declared.repeats.PlacedKey.{PlacedKey}
use Rattle.key_order.specs.Neighbours.{Climbs}
use Rattle.key_order.proofs.Sorted.{at}
use Rattle.key_order.proofs.repeats.are_climbing.Goals as goal

pub loop-later-preserved : goal.loop-later-preserved
loop-later-preserved c =
    let es = c.args.entries.now in
    let n = c.loop-later.later in
    let less = c.is_below.ensures c.if-not-is_below.false in
    let same : (i : ℕ) (d : PlacedKey) → i < length es → get_or es i d ≡ at es i = λ i d h. get_or_default es i d _ h in
    all_adjacent_more es Climbs n (omega arith) c.loop-later.invariant (λ d. rw (same (n - 1) d (omega arith), same n d (omega arith)) less)

pub returns : goal.returns
returns c = λ t k d h. c.loop-later.invariant k d (omega (arith, h, c.loop-later-test.false))

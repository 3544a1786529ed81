-- Entries that number their keys have places that differ.
use Rattle.std.proofs.Common.{◌≡◌, ◌∙◌, List, sym, subst}
use Rattle.std.specs.List.{enumerate_from}
use Rattle.key_order.specs.declared.repeats.PlacedKey.{PlacedKey}
use Rattle.key_order.specs.Entries.{keys, placed}
use Rattle.key_order.proofs.Numbered.{numbered-push, numbered_places_differ}
use Rattle.low_tests.proofs.key_order_tests.numbered.Goals as goal

pub loop-key-preserved : goal.loop-key-preserved
loop-key-preserved c = subst (λ (es : List PlacedKey). placed es ≡ enumerate_from 0 (keys es)) (sym c.in_ok-push.ensures.items) (numbered-push c.loop-key.entries.items _ c.loop-key.invariant (c.len-place.ensures ∙ c.loop-key.entries.ok.0))

pub returns : goal.returns
returns c = (numbered_places_differ (keys c.loop-key.entries.items) c.loop-key.entries.items c.loop-key.invariant).1

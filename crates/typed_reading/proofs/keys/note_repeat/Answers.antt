use Rattle.std.proofs.Common.{◌∙◌, sym, ap}
use Rattle.std.specs.Prelude.{Option}
use Rattle.key_order.specs.Entries.{placed}
use Rattle.typed_reading.specs.declared.fault.Found.{Found}
use Rattle.typed_reading.specs.Faults.{lesser, least}
use Rattle.typed_reading.proofs.Order.{lesser_none}
use Rattle.typed_reading.proofs.Steps.{progress}
use Rattle.typed_reading.proofs.Keyed.{places_differ, no_repeats, least_repeats}
use Rattle.typed_reading.proofs.keys.note_repeat.Goals as goal

pub least_repeat-requires : goal.least_repeat-requires
least_repeat-requires c = places_differ c.args.keys.now 0 c.args.progress.now.next c.requires

pub returns-in-Some : goal.returns-in-Some
returns-in-Some c =
    let least = least_repeats c.args.keys.now 0 c.args.progress.now.next c.in-Some.repeat.first c.in-Some.repeat.second c.requires c.in-Some.ensures.least in
    c.note_found.ensures ∙ ap (λ (o : Option Found). progress (lesser c.args.progress.now.found o) c.args.progress.now.next) (sym least)

pub returns-in-None : goal.returns-in-None
returns-in-None c =
    let none = no_repeats 0 c.args.progress.now.next (placed c.args.keys.now) c.requires c.in-None.ensures.least in
    ap (λ (o : Option Found). progress o c.args.progress.now.next) (sym (ap (λ fs. lesser c.args.progress.now.found (least fs)) none ∙ lesser_none c.args.progress.now.found))

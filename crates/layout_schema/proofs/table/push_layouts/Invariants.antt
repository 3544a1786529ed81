-- The layouts so far and those to come are all, whatever the version.
use Rattle.frozen_model.specs.Layouts.{Version}
use Rattle.compact_wire.specs.Bytes.{AreBytes}
use Rattle.layout_schema.proofs.TableSteps.{AreLeft, Going}
use Rattle.layout_schema.proofs.table.push_layouts.Given as goal

abbrev pub invariant-loop : goal.invariant-loop
invariant-loop l =
    AreBytes l.rest × ((v : Version) → AreLeft v l.count l.bytes → Going v l.bytes l.count l.counter l.rest l.initial.layouts.items l.layouts.items)

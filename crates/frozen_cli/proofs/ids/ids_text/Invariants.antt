-- What is written of the ids from a place on is still to come.
use Rattle.std.proofs.Common.{◌≡◌, ◌++◌, false, nat_lt, drop, string_bytes}
use Rattle.frozen_cli.specs.Refusal.{dotted}
use Rattle.frozen_cli.proofs.ids.ids_text.Given as goal

abbrev pub invariant-loop-i : goal.invariant-loop-i
invariant-loop-i l =
    string_bytes l.out ++ dotted (nat_lt 0 l.i) (drop l.i l.ids) ≡ dotted false l.ids

use Rattle.std.proofs.Common.{None, Result, Ok, Err, IfOk, ℕ, List, ◌≡◌, ◌+◌, ◌≤◌}
use Rattle.frozen_model.specs.Values.{Value, range_cells, cell_limit}
use Rattle.frozen_model.specs.Layouts.{Layout}
use Rattle.frozen_model.specs.Packing.{extent}
use Rattle.frozen_model.specs.Walk.{Fault, walk}
use Rattle.frozen_laws.specs.Laws.{Placed}
use Rattle.frozen_laws.proofs.Reading.{WhereOk, is_ok, Reads}
use Rattle.frozen_laws.proofs.Sound.{walk_reads}
use Rattle.frozen_laws.proofs.walk_is_sound.Goals as goal

told : (bs : List ℕ) (l : Layout) (start bit next cells : ℕ) (r : Result (Value × ℕ × ℕ) Fault) → WhereOk (Reads bs l start None bit next cells) r
    → IfOk r (λ x. Placed bs l start bit next x.0 × (x.1 ≡ next + extent l x.0) × (x.2 ≡ cells + range_cells l x.0) × (cells ≤ cell_limit → x.2 ≤ cell_limit))
told bs l start bit next cells (Ok x) (is_ok p) = (record { of_kind = p.of_kind; holds = p.holds; image_there = p.image_there; tail_there = p.tail_there }, p.after, p.grows, p.few)
told bs l start bit next cells (Err e) g = tt

pub returns : goal.returns
returns c n bs l start bit next cells p =
    told bs l start bit next cells (walk bs l start None bit next cells) (walk_reads n bs p.are_bytes l p.coded p.legal p.keys start None bit next cells tt p.within p.inside p.past)

-- How many comparisons a lookup may take.
use Rattle.std.specs.Prelude.{ℕ, ◌+◌, List, [], ◌∷◌}
use Rattle.std.specs.Option.{option_map_or}
use Rattle.idl_profile.specs.Types.{TypeTree}
use Rattle.frozen_model.specs.Bits.{digits}
use Rattle.frozen_model.specs.Values.{Value, Items, count}
use Rattle.path_text.specs.Steps.{PathStep, key_step, PlacedStep}
use Rattle.evolve.specs.Parts.{step_at}

-- for a key, the binary digits of the number of items that it is looked for in; another step compares nothing
abbrev pub step_cost : PathStep → Value → ℕ
step_cost (key_step key) (Items h vs) = digits (count vs)
step_cost s v = 0

-- the sum over the steps that are reached
abbrev pub lookup_cost : List PlacedStep → TypeTree → Value → ℕ
lookup_cost [] t v = 0
lookup_cost (s ∷ ss) t v =
    step_cost s.step v + option_map_or (λ p. lookup_cost ss p.type p.value) (step_at s.step t v) 0

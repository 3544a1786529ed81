use Rattle.std.proofs.Common.{length, ℕ, List}
use Rattle.std.specs.Prelude.{map}
use Rattle.std.specs.Str.{IsUtf8}
use Rattle.path_text.specs.Steps.{PlacedStep}
use Rattle.path_text.specs.Texts.{Begins}
use Rattle.path_text.specs.Views.{step_of}
use Rattle.path_text.proofs.parse.parse_path.Given as goal

pub record Parsed (steps : List PlacedStep) (text rest : List ℕ) : Type 0 where
  pub begins : Begins 0 steps text rest
  pub utf8 : IsUtf8 rest

abbrev pub invariant-steps : goal.invariant-steps
invariant-steps l = Parsed (map step_of l.steps.items) l.text l.rest

abbrev pub decreases-steps : goal.decreases-steps
decreases-steps l = length l.rest

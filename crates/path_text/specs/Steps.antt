-- Paths: steps, each with the place of the byte where it begins, and the length of the whole text.
use Rattle.std.specs.Prelude.{ℕ, ℤ, Bool, List}

-- a key literal
pub data PathKey : Type 0 where
  int_key : ℤ → PathKey
  flag_key : Bool → PathKey
  text_key : List ℕ → PathKey
  bytes_key : List ℕ → PathKey

pub data PathStep : Type 0 where
  -- the name of a field
  field_step : List ℕ → PathStep
  -- the place of an item, from 0
  index_step : ℕ → PathStep
  key_step : PathKey → PathStep

pub record PlacedStep : Type 0 where
  pub place : ℕ
  pub step : PathStep

abbrev pub placed : ℕ → PathStep → PlacedStep
placed at s = record { place = at; step = s }

pub record WholePath : Type 0 where
  pub steps : List PlacedStep
  pub len : ℕ

abbrev pub whole : List PlacedStep → ℕ → WholePath
whole ss n = record { steps = ss; len = n }

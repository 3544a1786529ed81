-- Parts of the value that a content packs.
use Rattle.std.specs.Prelude.{ℕ, List}
use Rattle.frozen_model.specs.BitLaws.{IsBytes}
use Rattle.frozen_model.specs.Values.{Value}
use Rattle.frozen_model.specs.Layouts.{Layout}
use Rattle.frozen_model.specs.Packing.{Lies}
use Rattle.frozen_laws.specs.Laws.{IsContent}

-- u is the part of the value that the content packs which lies at that node, in the block that begins at that
-- byte, with its first bit at that bit
pub record IsPart (l : Layout) (bs : List ℕ) (node block bit : ℕ) (u : Value) : Type 0 where
  pub are_bytes : IsBytes bs
  pub whole : Value
  pub content : IsContent l whole bs
  pub lies : Lies l whole node block bit u

-- some part of that value lies there
abbrev pub HasPart : Layout → List ℕ → ℕ → ℕ → ℕ → Type 0
HasPart l bs node block bit = (u : Value) × IsPart l bs node block bit u

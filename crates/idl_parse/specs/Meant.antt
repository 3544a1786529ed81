-- Which texts mean which definitions.
use Rattle.std.specs.Prelude.{◌≡◌, ℕ, List, [], ◌∷◌}
use Rattle.std.specs.Str.{IsUtf8}
use Rattle.idl_tokens.specs.Tokens.{tokens}
use Rattle.idl_profile.specs.Types.{TypeTree, Named, named}
use Rattle.idl_profile.specs.Meaning as m
use Rattle.idl_profile.specs.Measures.{trees}
use Rattle.idl_profile.specs.DefText.{DefTokens}

-- the enums and structs among these types
abbrev pub nameds : List TypeTree → List Named
nameds [] = []
nameds (named n ∷ ts) = n ∷ nameds ts
nameds (t ∷ ts) = nameds ts

-- a definition as finite trees, where each name of a type stands for its tree
abbrev pub definition_in : List m.MeantNamed → List Named
definition_in ns = nameds (trees ns)

-- the text means the definition
pub record DefText (text : List ℕ) (d : List Named) : Type 0 where
  pub utf8 : IsUtf8 text
  pub read : List m.MeantNamed
  pub means : DefTokens (tokens text) read
  pub is : d ≡ definition_in read

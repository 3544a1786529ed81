-- The trees of enums and structs behind those that stand already.
use Rattle.std.specs.Prelude.{List, [], ◌∷◌, ◌++◌}
use Rattle.std.specs.List.{fold}
use Rattle.idl_profile.specs.Types.{TypeTree}
use Rattle.idl_profile.specs.Meaning.{MeantNamed}
use Rattle.idl_profile.specs.Measures.{named_tree}

abbrev pub grown : List TypeTree → List MeantNamed → List TypeTree
grown ts ns = fold (λ us n. us ++ named_tree us n ∷ []) ts ns

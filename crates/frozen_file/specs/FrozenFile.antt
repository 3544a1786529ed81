-- The frozen file of a value under a definition, or under the kinds of a layout.
use Rattle.std.specs.Prelude.{◌≡◌, ℕ, List, true}
use Rattle.idl_profile.specs.Types.{Named, root_of}
use Rattle.type_kinds.specs.KindsOf.{kinds_of}
use Rattle.frozen_model.specs.Trees.{KindTree, kinds}
use Rattle.frozen_model.specs.Values.{Value}
use Rattle.frozen_model.specs.Layouts.{Layout, Version2, Described}
use Rattle.frozen_model.specs.Holding.{Least}
use Rattle.frozen_model.specs.Files.{File, frozen}
use Rattle.layout_schema.specs.Answers.{SchemaBytes}
use Rattle.file_check.specs.Written.{written}

-- the bytes are the frozen file of the value in the least layout of these kinds that holds it, of version 2 and
-- relaxed, with its schema in the canonical spelling
pub record IsLeastFile (k : KindTree) (v : Value) (bytes : List ℕ) : Type 0 where
  pub layout : Described
  pub root : kinds layout.tree ≡ k
  pub version : layout.version ≡ Version2
  pub relaxed : layout.relaxed ≡ true
  pub least : Least layout v
  pub spelled : bytes ≡ frozen written layout v
  pub file : File SchemaBytes bytes layout v

-- the same of the kinds of a definition's root
abbrev pub IsFrozenFile : List Named → Value → List ℕ → Type 0
IsFrozenFile d v bytes = IsLeastFile (kinds_of (root_of d)) v bytes

-- the same of the kinds of another layout
abbrev pub IsRefrozenFile : Layout → Value → List ℕ → Type 0
IsRefrozenFile l v bytes = IsLeastFile (kinds l) v bytes

-- The indexes of a scope are those of the names that stand for types, and of the names of each enum's members.
use Rattle.std.specs.Prelude.{ℕ, List, [], map}
use Rattle.std.specs.List.{AllZip}
use Rattle.name_index.specs.declared.index.NameIndex.{NameIndex}
use Rattle.name_index.specs.Names.{Indexes}
use Rattle.idl_profile.specs.Types as types
use Rattle.idl_profile.specs.Meaning as m
use Rattle.idl_profile.specs.Judged.{entry_names}
use Rattle.idl_fields.specs.declared.draft.Member.{Member}
use Rattle.idl_fields.specs.declared.scope.Scope.{Scope}
use Rattle.idl_fields.specs.View.{member_of, entries_in, named_in}

abbrev pub names_of : List types.Member → List (List ℕ)
names_of xs = map (λ x. x.name) xs

-- the index of the names of these members
abbrev pub IndexesMembers : List ℕ → NameIndex → List Member → Type 0
IndexesMembers text index xs = Indexes index (names_of (map (member_of text) xs))

-- the same of an enum's members; a struct has none
abbrev pub IndexesNamed : NameIndex → m.MeantNamed → Type 0
IndexesNamed index (m.enum_of w xs) = Indexes index (names_of xs)
IndexesNamed index (m.struct_of w fs) = Indexes index []

pub record IsIndexed (text : List ℕ) (s : Scope) : Type 0 where
  pub names : Indexes s.names (entry_names (entries_in text s))
  pub members : AllZip IndexesNamed s.members.items (named_in text s)

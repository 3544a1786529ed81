-- The tables of sizes are those of the types and of the enums and structs, and what a name, a type or a field names is there.
use Rattle.std.specs.Prelude.{◌≡◌, ℕ, Bool, true, ◌&&◌, nat_lt, List, ◌++◌, map, length}
use Rattle.std.specs.List.{list_all}
use Rattle.idl_fields.specs.declared.draft.DraftNamed.{DraftNamed}
use Rattle.idl_fields.specs.declared.draft.DraftNamed.TheVariants as n
use Rattle.idl_fields.specs.declared.draft.DraftField.{DraftField}
use Rattle.idl_fields.specs.declared.draft.TypeNode.{TypeNode}
use Rattle.idl_fields.specs.declared.scope.Scope.{Scope}
use Rattle.idl_profile.specs.Meaning as m
use Rattle.idl_profile.specs.Measures.{trees, tree}
use Rattle.idl_definitions.specs.Sizes.{size}
use Rattle.idl_fields.specs.Nodes.{parts_below, node_stands}
use Rattle.idl_fields.specs.View.{types_in, named_in}

-- the enums and structs that a type names are among the first so many
abbrev pub names_below : ℕ → m.Ty → Bool
names_below k (m.scalar b) = true
names_below k (m.enum i) = nat_lt i k
names_below k (m.struct i) = nat_lt i k
names_below k (m.list x) = names_below k x
names_below k (m.set x) = names_below k x
names_below k (m.map x y) = names_below k x && names_below k y

-- the types of the fields are made of the first so many types
abbrev pub fields_placed : ℕ → List DraftField → Bool
fields_placed types fs = list_all (λ f. parts_below types f.ty) fs

abbrev pub named_placed : ℕ → DraftNamed → Bool
named_placed types (n.Enum w ms) = true
named_placed types (n.Struct w fs) = fields_placed types fs.items

-- how many types there are, and how many enums and structs
abbrev pub type_count : Scope → ℕ
type_count s = length (types_in s.types)

abbrev pub stands : Scope → TypeNode → Bool
stands s x = node_stands (type_count s) (length s.named.items) x

pub record IsSized (text : List ℕ) (s : Scope) : Type 0 where
  pub sizes : s.sizes.items ≡ map size (trees (named_in text s))
  pub type_sizes : s.type_sizes.items ≡ map (λ t. size (tree (trees (named_in text s)) t)) (types_in s.types)
  pub below : list_all (names_below (length s.named.items)) (types_in s.types) ≡ true
  pub entries : list_all (λ e. stands s e.ty) s.entries.items ≡ true
  pub fields : list_all (named_placed (type_count s)) s.named.items ≡ true

-- types are added at the end, and all else is as it was
pub record Grows (old new : Scope) : Type 0 where
  pub more : List m.Ty
  pub types : types_in new.types ≡ types_in old.types ++ more
  pub entries : new.entries ≡ old.entries
  pub names : new.names ≡ old.names
  pub named : new.named ≡ old.named
  pub members : new.members ≡ old.members

-- What definition texts mean, while they are read: typedefs are resolved, and an enum or struct is known by its number.
use Rattle.std.specs.Prelude.{ℕ, ℤ, if◌then◌else◌, List, [], ◌∷◌, Option, Some, None}
use Rattle.std.specs.Str.{bytes_eq}
use Rattle.idl_profile.specs.declared.kinds.BaseType.{BaseType}
use Rattle.idl_profile.specs.declared.kinds.Need.{Need}
use Rattle.idl_profile.specs.Types.{Default, Member}

-- A type as it is meant: typedefs are resolved, and the number of an enum or struct is its place in the definition.
pub data Ty : Type 0 where
  scalar : BaseType → Ty
  enum : ℕ → Ty
  struct : ℕ → Ty
  list : Ty → Ty
  set : Ty → Ty
  map : Ty → Ty → Ty
  deriving IsSet as Ty-set

pub record MeantField : Type 0 where
  pub id : ℤ
  pub need : Need
  pub type : Ty
  pub name : List ℕ
  pub default : Default

pub data MeantNamed : Type 0 where
  enum_of : List ℕ → List Member → MeantNamed
  struct_of : List ℕ → List MeantField → MeantNamed

-- a name that may stand for a type
pub record Entry : Type 0 where
  pub name : List ℕ
  pub type : Ty

-- what has been defined: the names, also of typedefs, and the enums and structs in order
pub record Scope : Type 0 where
  pub entries : List Entry
  pub named : List MeantNamed

abbrev pub nothing_yet : Scope
nothing_yet = record { entries = []; named = [] }

abbrev pub find : List ℕ → List Entry → Option Ty
find w [] = None
find w (e ∷ es) = if bytes_eq e.name w then Some e.type else find w es

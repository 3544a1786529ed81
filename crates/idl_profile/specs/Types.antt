-- Types as finite trees, and definitions as lists of named enums and structs.
use Rattle.std.specs.Prelude.{ℕ, ℤ, Bool, List, [], ◌∷◌}
use Rattle.idl_profile.specs.declared.kinds.TypeKind.{TypeKind}
use Rattle.idl_profile.specs.declared.kinds.TypeKind.TheVariants as kinds
use Rattle.idl_profile.specs.declared.kinds.Need.{Need}

pub data Scalar : Type 0 where
  flag : Scalar
  i8 : Scalar
  i16 : Scalar
  i32 : Scalar
  i64 : Scalar

-- what a field has that nobody gave: nothing written, or a value of its type; the last is [] or {}
pub data Default : Type 0 where
  without : Default
  flag_default : Bool → Default
  int_default : ℤ → Default
  text_default : List ℕ → Default
  empty_default : Default

-- a name of an enum, and its number
pub record Member : Type 0 where
  pub name : List ℕ
  pub number : ℤ

mutual
  pub data TypeTree : Type 0 where
    scalar : Scalar → TypeTree
    text : TypeTree
    bytes : TypeTree
    list_of : TypeTree → TypeTree
    set_of : TypeTree → TypeTree
    map_of : TypeTree → TypeTree → TypeTree
    named : Named → TypeTree

  -- an enum or a struct, with its name
  pub data Named : Type 0 where
    enum_of : List ℕ → List Member → Named
    struct_of : List ℕ → Fields → Named

  -- fields by rising id: id, name, need, type, default, and the fields behind
  pub data Fields : Type 0 where
    no_fields : Fields
    field : ℤ → List ℕ → Need → TypeTree → Default → Fields → Fields

pub record DefField : Type 0 where
  pub id : ℤ
  pub name : List ℕ
  pub need : Need
  pub type : TypeTree
  pub default : Default

abbrev pub field_list : Fields → List DefField
field_list no_fields = []
field_list (field i n o t d fs) = record { id = i; name = n; need = o; type = t; default = d } ∷ field_list fs

-- the fields of a struct by rising id; no other type has any
abbrev pub fields_of : TypeTree → List DefField
fields_of (named (struct_of n fs)) = field_list fs
fields_of _ = []

-- the name of an enum or a struct; no other type has one
abbrev pub name_of : TypeTree → List ℕ
name_of (named (enum_of n ms)) = n
name_of (named (struct_of n fs)) = n
name_of _ = []

abbrev pub scalar_kind : Scalar → TypeKind
scalar_kind flag = kinds.Flag
scalar_kind i8 = kinds.I8
scalar_kind i16 = kinds.I16
scalar_kind i32 = kinds.I32
scalar_kind i64 = kinds.I64

abbrev pub kind_of : TypeTree → TypeKind
kind_of (scalar s) = scalar_kind s
kind_of text = kinds.Text
kind_of bytes = kinds.Bytes
kind_of (list_of x) = kinds.List
kind_of (set_of x) = kinds.Set
kind_of (map_of k v) = kinds.Map
kind_of (named (enum_of n ms)) = kinds.Enum
kind_of (named (struct_of n fs)) = kinds.Struct

abbrev pub last_struct : TypeTree → List Named → TypeTree
last_struct before [] = before
last_struct before (enum_of n ms ∷ ns) = last_struct before ns
last_struct before (struct_of n fs ∷ ns) = last_struct (named (struct_of n fs)) ns

-- the root of a definition: its last struct
abbrev pub root_of : List Named → TypeTree
root_of ns = last_struct (scalar flag) ns

-- The text of a definition as the code has it: an enum or struct is known by its number, and its name is looked up among those before.
use Rattle.std.specs.Prelude.{ℕ, List, [], ◌∷◌, ◌++◌, Option, Some, None, codes, slice_get}
use Rattle.std.specs.List.{flat_map}
use Rattle.std.specs.Fmt.{signed_decimal}
use Rattle.idl_profile.specs.declared.kinds.BaseType.{BaseType}
use Rattle.idl_profile.specs.declared.kinds.BaseType.TheVariants as k
use Rattle.idl_profile.specs.Meaning as m
use Rattle.idl_profile.specs.Types as types
use Rattle.idl_proper.specs.Proper.{name}
use Rattle.idl_print.specs.Printed.{newline, need_text, flag_text, literal_text, member_text}

-- the name of the enum or struct at this place; a place with none stands for a bool
abbrev pub name_if : Option m.MeantNamed → List ℕ
name_if (Some n) = name n
name_if None = codes "bool"

abbrev pub name_at : List m.MeantNamed → ℕ → List ℕ
name_at ns n = name_if (slice_get ns n)

abbrev pub scalar_text : BaseType → List ℕ
scalar_text k.Flag = codes "bool"
scalar_text k.I8 = codes "i8"
scalar_text k.I16 = codes "i16"
scalar_text k.I32 = codes "i32"
scalar_text k.I64 = codes "i64"
scalar_text k.Text = codes "string"
scalar_text k.Bytes = codes "binary"

abbrev pub type_text : List m.MeantNamed → m.Ty → List ℕ
type_text ns (m.scalar s) = scalar_text s
type_text ns (m.enum n) = name_at ns n
type_text ns (m.struct n) = name_at ns n
type_text ns (m.list x) = codes "list<" ++ type_text ns x ++ codes ">"
type_text ns (m.set x) = codes "set<" ++ type_text ns x ++ codes ">"
type_text ns (m.map x y) = codes "map<" ++ type_text ns x ++ codes "," ++ type_text ns y ++ codes ">"

-- the empty value of a list, set, map or struct
abbrev pub empty_text : m.Ty → List ℕ
empty_text (m.list x) = codes "[]"
empty_text (m.set x) = codes "[]"
empty_text _ = codes "{}"

abbrev pub default_text : m.Ty → types.Default → List ℕ
default_text t types.without = []
default_text t (types.flag_default b) = codes " = " ++ flag_text b
default_text t (types.int_default z) = codes " = " ++ signed_decimal z
default_text t (types.text_default x) = codes " = " ++ literal_text x
default_text t types.empty_default = codes " = " ++ empty_text t

-- a field as far as its name
abbrev pub declared_text : List m.MeantNamed → m.MeantField → List ℕ
declared_text ns f = codes "  " ++ signed_decimal f.id ++ codes ": " ++ need_text f.need ++ type_text ns f.type ++ codes " " ++ f.name

-- the line of a field
abbrev pub field_text : List m.MeantNamed → m.MeantField → List ℕ
field_text ns f = codes "  " ++ signed_decimal f.id ++ codes ": " ++ need_text f.need ++ type_text ns f.type ++ codes " " ++ f.name ++ default_text f.type f.default ++ codes ";" ++ newline

abbrev pub named_text : List m.MeantNamed → m.MeantNamed → List ℕ
named_text ns (m.enum_of w xs) = codes "enum " ++ w ++ codes " {" ++ newline ++ flat_map member_text xs ++ codes "}" ++ newline
named_text ns (m.struct_of w fs) = codes "struct " ++ w ++ codes " {" ++ newline ++ flat_map (field_text ns) fs ++ codes "}" ++ newline

-- enums and structs behind others
abbrev pub written_behind : List m.MeantNamed → List m.MeantNamed → List ℕ
written_behind before [] = []
written_behind before (n ∷ ns) = named_text before n ++ written_behind (before ++ n ∷ []) ns

-- ns are all of them, where a type's number is looked up
abbrev pub written : List m.MeantNamed → List ℕ
written ns = flat_map (named_text ns) ns

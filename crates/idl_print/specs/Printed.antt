-- The text of a definition.
use Rattle.std.specs.Prelude.{ℕ, Bool, true, false, if◌then◌else◌, ◌==◌, List, [], ◌∷◌, ◌++◌, codes}
use Rattle.std.specs.List.{list_any, flat_map}
use Rattle.std.specs.Fmt.{signed_decimal}
use Rattle.idl_profile.specs.declared.kinds.Need.{Need}
use Rattle.idl_profile.specs.declared.kinds.Need.TheVariants.{Plain, Required, Optional}
use Rattle.idl_profile.specs.Types.{Scalar, flag, i8, i16, i32, i64, Default, without, flag_default, int_default, text_default, empty_default, Member, TypeTree, scalar, text, bytes, list_of, set_of, map_of, named, Named, enum_of, struct_of, DefField, field_list}

abbrev pub newline : List ℕ
newline = 10 ∷ []

abbrev pub name : Named → List ℕ
name (enum_of w xs) = w
name (struct_of w fs) = w

abbrev pub scalar_text : Scalar → List ℕ
scalar_text flag = codes "bool"
scalar_text i8 = codes "i8"
scalar_text i16 = codes "i16"
scalar_text i32 = codes "i32"
scalar_text i64 = codes "i64"

abbrev pub type_text : TypeTree → List ℕ
type_text (scalar s) = scalar_text s
type_text text = codes "string"
type_text bytes = codes "binary"
type_text (list_of x) = codes "list<" ++ type_text x ++ codes ">"
type_text (set_of x) = codes "set<" ++ type_text x ++ codes ">"
type_text (map_of x y) = codes "map<" ++ type_text x ++ codes "," ++ type_text y ++ codes ">"
type_text (named n) = name n

abbrev pub need_text : Need → List ℕ
need_text Plain = []
need_text Required = codes "required "
need_text Optional = codes "optional "

abbrev pub has_quote : List ℕ → Bool
has_quote x = list_any (λ c. c == 34) x

-- " but where the text holds one, and then '
abbrev pub quote : List ℕ → ℕ
quote x = if has_quote x then 39 else 34

abbrev pub literal_text : List ℕ → List ℕ
literal_text x = quote x ∷ x ++ quote x ∷ []

abbrev pub flag_text : Bool → List ℕ
flag_text true = codes "true"
flag_text false = codes "false"

-- the empty list, set, map or struct
abbrev pub empty_text : TypeTree → List ℕ
empty_text (list_of x) = codes "[]"
empty_text (set_of x) = codes "[]"
empty_text _ = codes "{}"

abbrev pub default_text : TypeTree → Default → List ℕ
default_text t without = []
default_text t (flag_default b) = codes " = " ++ flag_text b
default_text t (int_default z) = codes " = " ++ signed_decimal z
default_text t (text_default x) = codes " = " ++ literal_text x
default_text t empty_default = codes " = " ++ empty_text t

-- the line of a field
abbrev pub field_text : DefField → List ℕ
field_text f = codes "  " ++ signed_decimal f.id ++ codes ": " ++ need_text f.need ++ type_text f.type ++ codes " " ++ f.name ++ default_text f.type f.default ++ codes ";" ++ newline

-- the line of a member
abbrev pub member_text : Member → List ℕ
member_text x = codes "  " ++ x.name ++ codes " = " ++ signed_decimal x.number ++ codes "," ++ newline

abbrev pub named_text : Named → List ℕ
named_text (enum_of w xs) = codes "enum " ++ w ++ codes " {" ++ newline ++ flat_map member_text xs ++ codes "}" ++ newline
named_text (struct_of w fs) = codes "struct " ++ w ++ codes " {" ++ newline ++ flat_map field_text (field_list fs) ++ codes "}" ++ newline

-- The text of a definition: its enums and structs in their order.
abbrev pub printed : List Named → List ℕ
printed d = flat_map named_text d

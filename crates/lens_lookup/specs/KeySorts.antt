-- What keys of a kind are read as, and which types have keys.
use Rattle.std.specs.Prelude.{Bool, true, false}
use Rattle.idl_profile.specs.declared.kinds.TypeKind.{TypeKind}
use Rattle.idl_profile.specs.declared.kinds.TypeKind.TheVariants as kinds
use Rattle.idl_profile.specs.Types.{TypeTree}
use Rattle.idl_parse.specs.Refs.{element_of, key_of}
use Rattle.lens_lookup.specs.declared.keys.KeySort.{KeySort}
use Rattle.lens_lookup.specs.declared.keys.KeySort.TheVariants as sort

-- whether keys of this kind are read so
abbrev pub is_sort_of : KeySort → TypeKind → Bool
is_sort_of sort.Number kinds.I8 = true
is_sort_of sort.Number kinds.I16 = true
is_sort_of sort.Number kinds.I32 = true
is_sort_of sort.Number kinds.I64 = true
is_sort_of sort.Number kinds.Enum = true
is_sort_of sort.Flag kinds.Flag = true
is_sort_of sort.Bytes kinds.Text = true
is_sort_of sort.Bytes kinds.Bytes = true
is_sort_of s k = false

-- whether it is a map, or a set
abbrev pub is_keyed : Bool → TypeKind → Bool
is_keyed true kinds.Map = true
is_keyed false kinds.Set = true
is_keyed map k = false

-- the type of a map's keys, or of a set's items
abbrev pub key_type : Bool → TypeTree → TypeTree
key_type true t = key_of t
key_type false t = element_of t

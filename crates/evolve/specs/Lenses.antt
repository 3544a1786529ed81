-- What a lens stands for.
use Rattle.idl_profile.specs.declared.kinds.TypeKind.{TypeKind}
use Rattle.idl_profile.specs.declared.kinds.TypeKind.TheVariants as k
use Rattle.idl_profile.specs.Types.{TypeTree}
use Rattle.idl_parse.specs.Refs.{type_of_ref, field_of_ref}
use Rattle.frozen_model.specs.Values.{Value}
use Rattle.typed_tree.specs.Parts.{IsFlag, IsInt, IsText, IsBytes, IsList, IsSet, IsMap, IsRecord}
use Rattle.typed_tree.specs.Sizes.{default_value}
use Rattle.bit_view.specs.Views.{value_of_view}
use Rattle.evolve.specs.declared.lens.Lens.{Lens}
use Rattle.evolve.specs.declared.lens.Lens.TheVariants as lens
use Rattle.evolve.specs.Projection.{proj}

-- the type of the part
abbrev pub type_of_lens : Lens → TypeTree
type_of_lens (lens.Stored s) = type_of_ref s.ty
type_of_lens (lens.Default d) = (field_of_ref d.field).type

-- the part: what the file has, projected, or the default of a field that the file lacks
abbrev pub value_of_lens : Lens → Value
value_of_lens (lens.Stored s) = proj (type_of_ref s.ty) (value_of_view s.view)
value_of_lens (lens.Default d) = default_value (field_of_ref d.field)

-- a value of a type of this kind is of this form
abbrev pub HasForm : TypeKind → Value → Type 0
HasForm k.Flag v = IsFlag v
HasForm k.I8 v = IsInt v
HasForm k.I16 v = IsInt v
HasForm k.I32 v = IsInt v
HasForm k.I64 v = IsInt v
HasForm k.Enum v = IsInt v
HasForm k.Text v = IsText v
HasForm k.Bytes v = IsBytes v
HasForm k.List v = IsList v
HasForm k.Set v = IsSet v
HasForm k.Map v = IsMap v
HasForm k.Struct v = IsRecord v

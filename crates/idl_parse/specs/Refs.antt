-- What types and fields of a definition stand for.
use Rattle.std.specs.Prelude.{◌≡◌, ℕ, List, Option, Some, None, map, take, string_bytes}
use Rattle.base_lists.specs.Spans.{text_at}
use Rattle.idl_profile.specs.Types.{TypeTree, DefField, Default, without, flag_default, int_default, text_default, empty_default, scalar, flag, list_of, set_of, map_of}
use Rattle.idl_profile.specs.Measures.{at, tree, trees, named_tree}
use Rattle.idl_fields.specs.declared.draft.DraftField as draft
use Rattle.idl_fields.specs.declared.draft.DraftNamed.{DraftNamed}
use Rattle.idl_fields.specs.declared.draft.TypeNode.{TypeNode}
use Rattle.idl_fields.specs.Nodes.{node_type}
use Rattle.idl_fields.specs.View.{types_in, named_of, default_of}
use Rattle.idl_parse.specs.Parsed.{meant_of}
use Rattle.idl_parse.specs.declared.definition.Definition.{Definition}
use Rattle.idl_parse.specs.declared.definition.TypeRef.{TypeRef}
use Rattle.idl_parse.specs.declared.definition.FieldRef.{FieldRef}
use Rattle.idl_parse.specs.declared.definition.FieldRefs.{FieldRefs}
use Rattle.idl_parse.specs.declared.definition.DefaultRef.{DefaultRef}
use Rattle.idl_parse.specs.declared.definition.DefaultRef.TheVariants as w

-- the first enums and structs of a definition, so many
abbrev pub visible : Definition → ℕ → List TypeTree
visible d k = trees (take k (meant_of d))

-- the type of a node that names enums and structs among the first so many
abbrev pub node_tree : Definition → ℕ → TypeNode → TypeTree
node_tree d k x = tree (visible d k) (node_type (types_in d.types) x)

-- the type that a reference stands for
abbrev pub type_of_ref : TypeRef → TypeTree
type_of_ref r = node_tree r.def.now r.within r.node

abbrev pub field_in : Definition → ℕ → draft.DraftField → DefField
field_in d k f =
    record { id = f.id.id; name = text_at (string_bytes d.text) f.name; need = f.need; type = node_tree d k f.ty; default = default_of (string_bytes d.text) f.default }

abbrev pub fields_in : Definition → ℕ → List draft.DraftField → List DefField
fields_in d k fs = map (field_in d k) fs

-- the field that a reference stands for
abbrev pub field_of_ref : FieldRef → DefField
field_of_ref r = field_in r.def.now r.within r.field.now

-- the fields that a reference stands for
abbrev pub fields_of_refs : FieldRefs → List DefField
fields_of_refs r = fields_in r.def.now r.within r.fields.now

-- what stands at a number: this enum or struct, or the type of none
abbrev pub Stands : Definition → ℕ → ℕ → Option DraftNamed → Type 0
Stands d k n None = at (visible d k) n ≡ scalar flag
Stands d k n (Some x) = at (visible d k) n ≡ named_tree (visible d n) (named_of (string_bytes d.text) (types_in d.types) x)

-- the parts of a container; of any other type itself
abbrev pub element_of : TypeTree → TypeTree
element_of (list_of x) = x
element_of (set_of x) = x
element_of t = t

abbrev pub key_of : TypeTree → TypeTree
key_of (map_of x y) = x
key_of t = t

abbrev pub value_of : TypeTree → TypeTree
value_of (map_of x y) = y
value_of t = t

-- the default that a reference stands for
abbrev pub default_of_ref : DefaultRef → Default
default_of_ref w.Without = without
default_of_ref (w.Flag b) = flag_default b
default_of_ref (w.Int n) = int_default n
default_of_ref (w.Text x) = text_default x.now
default_of_ref w.Empty = empty_default

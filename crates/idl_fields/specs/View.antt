-- What the code's types stand for.
use Rattle.std.specs.Prelude.{ℕ, ℤ, List, [], map as map_list, slice_index_or, Result, Ok, Err, Option, option_map}
use Rattle.std.specs.List.{fold}
use Rattle.idl_profile.specs.declared.kinds.BaseType.TheVariants.{Flag}
use Rattle.idl_fields.specs.declared.draft.Container.{Container}
use Rattle.idl_fields.specs.declared.draft.Container.TheVariants as c
use Rattle.idl_fields.specs.declared.draft.WrittenType.{WrittenType}
use Rattle.idl_fields.specs.declared.draft.WrittenField.{WrittenField}
use Rattle.idl_fields.specs.declared.draft.Outermost.{Outermost}
use Rattle.idl_fields.specs.declared.draft.Outermost.TheVariants as o
use Rattle.idl_fields.specs.declared.nodes.TypeNodes.{TypeNodes}
use Rattle.idl_fields.specs.Nodes.{node_type, known}
use Rattle.idl_fields.specs.declared.draft.Head.{Head}
use Rattle.idl_fields.specs.declared.draft.Head.TheVariants as h
use Rattle.idl_fields.specs.declared.draft.TypeWord.{TypeWord}
use Rattle.idl_fields.specs.declared.draft.TypeWord.TheVariants as y
use Rattle.idl_fields.specs.declared.draft.Opening.{Opening}
use Rattle.idl_fields.specs.declared.draft.Opening.TheVariants as w
use Rattle.idl_fields.specs.declared.draft.Entry.{Entry}
use Rattle.idl_fields.specs.declared.draft.DraftField.{DraftField}
use Rattle.idl_fields.specs.declared.draft.Id.{Id}
use Rattle.idl_fields.specs.declared.scope.Scope.{Scope}
use Rattle.idl_fields.specs.declared.draft.Typed.{Typed}
use Rattle.idl_fields.specs.declared.draft.Parts.{Parts}
use Rattle.idl_fields.specs.declared.draft.Alias.{Alias}
use Rattle.base_lists.specs.declared.span.Span.{Span}
use Rattle.idl_fields.specs.declared.draft.Member.{Member}
use Rattle.idl_fields.specs.declared.draft.DraftNamed.{DraftNamed}
use Rattle.idl_fields.specs.declared.draft.DraftNamed.TheVariants as n
use Rattle.idl_fields.specs.declared.draft.Default.{Default}
use Rattle.idl_fields.specs.declared.draft.Default.TheVariants as d
use Rattle.idl_fields.specs.declared.draft.Start.{Start}
use Rattle.idl_fields.specs.declared.draft.Start.TheVariants as st
use Rattle.idl_grammar.specs.declared.fault.Fault.{Fault}
use Rattle.base_lists.specs.Spans.{text_at}
use Rattle.idl_profile.specs.Types as types
use Rattle.idl_profile.specs.Meaning as m
use Rattle.idl_profile.specs.Judged as j
use Rattle.idl_profile.specs.Text as t

-- what the types of a list mean
abbrev pub types_in : TypeNodes → List m.Ty
types_in t = known [] t.nodes.items

-- the type that the name at a place stands for; beyond the last stands a bool
abbrev pub entry_type : List m.Entry → ℕ → m.Ty
entry_type es i = slice_index_or (map_list (λ e. e.type) es) i (m.scalar Flag)

abbrev pub word_type : List m.Entry → TypeWord → m.Ty
word_type es (y.Base b) = m.scalar b
word_type es (y.Name i) = entry_type es i

-- a type inside one more container
abbrev pub contained : List m.Entry → m.Ty → Container → m.Ty
contained es t c.List = m.list t
contained es t c.Set = m.set t
contained es t (c.Map k) = m.map (word_type es k) t

-- a type as it is written, where names stand for types by these entries
abbrev pub written_type : List m.Entry → WrittenType → m.Ty
written_type es t = fold (contained es) (word_type es t.word) t.around.items

-- a type with a bool for each part
abbrev pub outer : m.Ty → m.Ty
outer (m.scalar b) = m.scalar b
outer (m.enum n) = m.enum n
outer (m.struct n) = m.struct n
outer (m.list x) = m.list (m.scalar Flag)
outer (m.set x) = m.set (m.scalar Flag)
outer (m.map x y) = m.map (m.scalar Flag) (m.scalar Flag)

abbrev pub outer_type : Outermost → m.Ty
outer_type (o.Base b) = m.scalar b
outer_type (o.Enum n) = m.enum n
outer_type (o.Struct n) = m.struct n
outer_type o.List = m.list (m.scalar Flag)
outer_type o.Set = m.set (m.scalar Flag)
outer_type o.Map = m.map (m.scalar Flag) (m.scalar Flag)

abbrev pub opening_of : Opening → j.Head
opening_of w.List = j.list_head
opening_of w.Set = j.set_head
opening_of w.Map = j.map_head

abbrev pub head_of : List m.Entry → Head → j.Head
head_of es (h.Plain t) = j.plain (word_type es t)
head_of es (h.Open x) = opening_of x

abbrev pub entry_of : List ℕ → List m.Ty → Entry → m.Entry
entry_of text ts e = record { name = text_at text e.name; type = node_type ts e.ty }

abbrev pub entries_of : List ℕ → List m.Ty → List Entry → List m.Entry
entries_of text ts es = map_list (entry_of text ts) es

abbrev pub judged_head : List m.Entry → Result Head Fault → Result j.Head Fault
judged_head es (Ok h) = Ok (head_of es h)
judged_head es (Err f) = Err f

abbrev pub judged_word : List m.Entry → Result TypeWord Fault → Result j.Head Fault
judged_word es (Ok t) = Ok (j.plain (word_type es t))
judged_word es (Err f) = Err f

abbrev pub default_of : List ℕ → Default → types.Default
default_of text d.Without = types.without
default_of text (d.Flag b) = types.flag_default b
default_of text (d.Int n) = types.int_default n.value
default_of text (d.Text s) = types.text_default (text_at text s)
default_of text d.Empty = types.empty_default

abbrev pub start_of : List ℕ → Start → j.Start
start_of text (st.Complete d) = j.complete (default_of text d)
start_of text (st.ClosedBy c) = j.closed_by c

abbrev pub judged_start : List ℕ → Result Start Fault → Result j.Start Fault
judged_start text (Ok s) = Ok (start_of text s)
judged_start text (Err f) = Err f

abbrev pub written_field : List ℕ → List m.Entry → WrittenField → m.MeantField
written_field text es f =
    record { id = f.id.id; need = f.need; type = written_type es f.ty; name = text_at text f.name; default = default_of text f.default }

abbrev pub written_fields : List ℕ → List m.Entry → List WrittenField → List m.MeantField
written_fields text es fs = map_list (written_field text es) fs

abbrev pub field_of : List ℕ → List m.Ty → DraftField → m.MeantField
field_of text ts f =
    record { id = f.id.id; need = f.need; type = node_type ts f.ty; name = text_at text f.name; default = default_of text f.default }

abbrev pub fields_of : List ℕ → List m.Ty → List DraftField → List m.MeantField
fields_of text ts fs = map_list (field_of text ts) fs

abbrev pub member_of : List ℕ → Member → types.Member
member_of text x = record { name = text_at text x.name; number = x.number.value }

abbrev pub named_of : List ℕ → List m.Ty → DraftNamed → m.MeantNamed
named_of text ts (n.Enum w ms) = m.enum_of (text_at text w) (map_list (member_of text) ms.items)
named_of text ts (n.Struct w fs) = m.struct_of (text_at text w) (fields_of text ts fs.items)

abbrev pub nameds_of : List ℕ → List m.Ty → List DraftNamed → List m.MeantNamed
nameds_of text ts ns = map_list (named_of text ts) ns

abbrev pub judged_id : Result Id Fault → Result ℤ Fault
judged_id (Ok i) = Ok i.id
judged_id (Err f) = Err f

-- the names that stand for types, and the enums and structs, of a scope
abbrev pub entries_in : List ℕ → Scope → List m.Entry
entries_in text s = entries_of text (types_in s.types) s.entries.items

abbrev pub named_in : List ℕ → Scope → List m.MeantNamed
named_in text s = nameds_of text (types_in s.types) s.named.items

abbrev pub scope_of : List ℕ → Scope → m.Scope
scope_of text s = record { entries = entries_in text s; named = named_in text s }

abbrev pub typed_of : List ℕ → List m.Entry → Typed → t.Typed
typed_of text es p = record { need = p.need; type = written_type es p.ty; name = text_at text p.name }

abbrev pub parts_of : List ℕ → List m.Entry → Parts → t.Parts
parts_of text es p = record { name = text_at text p.name; fields = written_fields text es p.fields.items }

abbrev pub alias_of : List ℕ → List m.Entry → Alias → m.Entry
alias_of text es a = record { name = text_at text a.name; type = written_type es a.ty }

abbrev pub judged_name : List ℕ → Result Span Fault → Result (List ℕ) Fault
judged_name text (Ok s) = Ok (text_at text s)
judged_name text (Err f) = Err f

abbrev pub turn_name : List ℕ → Option Span → Option (List ℕ)
turn_name text w = option_map (text_at text) w

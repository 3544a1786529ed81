-- What the values of this crate stand for.
use Rattle.std.specs.Prelude.{ℕ, List, map, Option, Result, Ok, Err, option_map}
use Rattle.base_lists.specs.Spans.{text_at}
use Rattle.idl_grammar.specs.declared.fault.Fault.{Fault}
use Rattle.idl_grammar.specs.Grammar.{Turn, enter, wrong}
use Rattle.idl_definitions.specs.declared.items.Choice.{Choice}
use Rattle.idl_definitions.specs.declared.items.Item.{Item}
use Rattle.idl_definitions.specs.declared.items.Item.TheVariants as i
use Rattle.idl_definitions.specs.declared.members.Members.{Members}
use Rattle.idl_definitions.specs.declared.items.Begin.{Begin}
use Rattle.idl_definitions.specs.declared.items.Begin.TheVariants as b
use Rattle.idl_profile.specs.Judged as j
use Rattle.idl_profile.specs.Meaning as m
use Rattle.idl_profile.specs.Text as t
use Rattle.base_lists.specs.declared.span.Span.{Span}
use Rattle.idl_fields.specs.declared.draft.TypeNode.{TypeNode}
use Rattle.idl_fields.specs.declared.draft.Entry.{Entry}
use Rattle.idl_fields.specs.View.{member_of, alias_of, parts_of}
use Rattle.idl_fields.specs.Indexed.{IndexesMembers}

-- the members so far
abbrev pub members_of : List ℕ → Members → j.Members
members_of text ms = record { list = map (member_of text) ms.found.items; coming = option_map (λ w. w.value) ms.coming }

abbrev pub choice_of : List ℕ → Choice → t.Choice
choice_of text c = t.make_choice (text_at text c.name) (map (member_of text) c.members.items)

abbrev pub item_of : List ℕ → List m.Entry → Item → t.Item
item_of text es i.Nothing = t.nothing
item_of text es (i.Alias a) = t.alias (alias_of text es a)
item_of text es (i.Choice c) = t.choice (choice_of text c)
item_of text es (i.Structure p) = t.structure (parts_of text es p)

-- the index of an enum is that of its members
abbrev pub IsIndexedItem : List ℕ → Item → Type 0
IsIndexedItem text i.Nothing = Unit {0}
IsIndexedItem text (i.Alias a) = Unit {0}
IsIndexedItem text (i.Choice c) = IndexesMembers text c.names c.members.items
IsIndexedItem text (i.Structure p) = Unit {0}

abbrev pub begin_as : Begin → j.Begin
begin_as b.Namespace = j.a_namespace
begin_as b.Include = j.an_include
begin_as b.Typedef = j.a_typedef
begin_as b.Enum = j.an_enum
begin_as b.Struct = j.a_struct

-- what a word begins, or what it has against it
abbrev pub turn_of : Result Begin Fault → Turn j.Begin
turn_of (Ok b) = enter (begin_as b)
turn_of (Err f) = wrong f

abbrev pub begins : Option Begin → Option j.Begin
begins o = option_map begin_as o

abbrev pub entry : Span → TypeNode → Entry
entry w t = record { name = w; ty = t }

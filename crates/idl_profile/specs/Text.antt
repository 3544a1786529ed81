-- The grammar of definition texts, line by line.
use Rattle.std.specs.Prelude.{ℕ, zero, suc, ℤ, int_lt, nat_lt, Bool, true, false, if◌then◌else◌, List, [], ◌∷◌, ◌++◌, length, Option, Some, None, Err}
use Rattle.idl_grammar.specs.declared.fault.Fault.TheVariants.{TooDeep}
use Rattle.base_lists.specs.InOrder.{insert_by, in_order}
use Rattle.idl_profile.specs.declared.kinds.Need.{Need}
use Rattle.idl_profile.specs.declared.kinds.Need.TheVariants.{Plain}
use Rattle.idl_tokens.specs.Tokens.{Tok}
use Rattle.idl_grammar.specs.Grammar.{Grammar, give, token, next, look, loop}
use Rattle.idl_profile.specs.Types as types
use Rattle.idl_profile.specs.Meaning as m
use Rattle.idl_profile.specs.Judged.{is_mark, a_mark, taken, is_sep, a_literal, new_name, a_scope, word_or_literal, a_value, a_note, Head, plain, list_head, set_head, map_head, a_type, an_open, field_names, a_field, a_need, a_struct_end, Start, complete, closed_by, a_default, a_default_end, Members, no_members, a_member, a_member_number, next_number, Begin, a_namespace, an_include, a_typedef, an_enum, a_struct, a_definition, entry_names, yes}

infixl 10 ◌>>=◌
abbrev pub ◌>>=◌ : {A B : Type 0} → Grammar A → (A → Grammar B) → Grammar B
g >>= f = next g f

abbrev pub pick : {A : Type 0} → Bool → Grammar A → Grammar A → Grammar A
pick true g h = g
pick false g h = h

-- [ g ], where g begins at the tokens of the test. It is taken wherever such a token stands. No text of the grammar is lost by
-- that: the first tokens of each optional part are others than those that follow where it is left out.
--   [Sep]                   , ;                    a word, a number, @, } or ) or the end
--   [Ann]                   (                      the same, and , ; > = and the name of a field or typedef
--   ["=" ..]                =                      the same as behind [Ann], but for =, and (
--   [required | optional]   these two words        the first word of a type, which is neither
abbrev pub optional : {A : Type 0} → (Tok → Bool) → A → Grammar A → Grammar A
optional test x g = look (λ t. pick (test t) g (give x))

abbrev pub sep : Grammar (Unit {0})
sep = optional is_sep yes (token taken)

-- Word ["=" (Literal | Number | Word)] [Sep], after the word
abbrev pub note : Grammar (Unit {0})
note = optional (is_mark 61) yes (token taken >>= λ _. token a_value) >>= λ _. sep

abbrev pub ann : Grammar (Unit {0})
ann = optional (is_mark 40) yes (token taken >>= λ _. loop a_note (λ _ _. note) yes >>= λ _. token (a_mark 41))

-- [Ann] [Sep]
abbrev pub ended : Grammar (Unit {0})
ended = ann >>= λ _. sep

-- the same after what means x
abbrev pub closing : {A : Type 0} → A → Grammar A
closing x = ended >>= λ _. give x

-- the rest of a type after its first word; inner reads a type inside, as a key or not
abbrev pub after_head : (Bool → Grammar m.Ty) → Head → Grammar m.Ty
after_head inner (plain t) = give t
after_head inner list_head = token an_open >>= λ _. inner false >>= λ x. token (a_mark 62) >>= λ _. give (m.list x)
after_head inner set_head = token an_open >>= λ _. inner true >>= λ x. token (a_mark 62) >>= λ _. give (m.set x)
after_head inner map_head = token an_open >>= λ _. inner true >>= λ x. token (a_mark 44) >>= λ _. inner false >>= λ y. token (a_mark 62) >>= λ _. give (m.map x y)

abbrev pub noted : {A : Type 0} → Grammar A → Grammar A
noted g = g >>= λ x. ann >>= λ _. give x

-- A type: the number is one more than that of the containers that may open in it. At 0 its container has been refused.
unfoldable pub inner : List m.Entry → ℕ → Bool → Grammar m.Ty
inner entries zero key = token (λ t. Err TooDeep)
inner entries (suc depth) key = noted (token (a_type entries key (nat_lt 0 depth)) >>= after_head (inner entries depth))

abbrev pub type : List m.Entry → ℕ → Bool → Grammar m.Ty
type entries depth key = inner entries (suc depth) key

abbrev pub if_need : Option Need → Grammar Need
if_need (Some n) = token taken >>= λ _. give n
if_need None = give Plain

abbrev pub need_of : Tok → Grammar Need
need_of t = if_need (a_need t)

abbrev pub start : Start → Grammar types.Default
start (complete d) = give d
start (closed_by c) = token (a_default_end c) >>= λ _. give types.empty_default

abbrev pub default : List m.MeantNamed → m.Ty → Grammar types.Default
default named t = optional (is_mark 61) types.without (token taken >>= λ _. token (a_default named t) >>= start)

abbrev pub added : {A : Type 0} → List A → A → List A
added xs x = xs ++ x ∷ []

-- what a field says before its default
pub record Typed : Type 0 where
  pub need : Need
  pub type : m.Ty
  pub name : List ℕ

abbrev pub make_typed : Need → m.Ty → List ℕ → Typed
make_typed n t w = record { need = n; type = t; name = w }

abbrev pub make_field : ℤ → Typed → types.Default → m.MeantField
make_field id p d = record { id = id; need = p.need; type = p.type; name = p.name; default = d }

-- ":" [required | optional] Type Name
unfoldable pub typed : List m.Entry → List m.MeantField → Grammar Typed
typed entries fs =
    token (a_mark 58) >>= λ _.
    look need_of >>= λ n.
    type entries 32 false >>= λ t.
    token (new_name (field_names fs)) >>= λ w.
    give (make_typed n t w)

-- a field after its number
unfoldable pub field : m.Scope → List m.MeantField → ℤ → Grammar m.MeantField
field scope fs id =
    typed scope.entries fs >>= λ p.
    default scope.named p.type >>= λ d.
    closing (make_field id p d)

abbrev pub one_field : m.Scope → List m.MeantField → ℤ → Grammar (List m.MeantField)
one_field scope fs id = field scope fs id >>= λ f. give (added fs f)

-- { Field }, after these
abbrev pub fields : m.Scope → List m.MeantField → Grammar (List m.MeantField)
fields scope fs = loop a_field (one_field scope) fs

-- behind the fields of lesser id
abbrev pub insert : m.MeantField → List m.MeantField → List m.MeantField
insert f gs = insert_by int_lt (λ g. g.id) f gs

-- the fields by rising id
abbrev pub by_id : List m.MeantField → List m.MeantField
by_id fs = in_order int_lt (λ f. f.id) fs

-- what begins with struct
abbrev pub with_struct : m.Scope → List ℕ → List m.MeantField → m.Scope
with_struct scope w fs = record { entries = scope.entries ++ record { name = w; type = m.struct (length scope.named) } ∷ []; named = scope.named ++ m.struct_of w fs ∷ [] }

pub record Parts : Type 0 where
  pub name : List ℕ
  pub fields : List m.MeantField

abbrev pub make_parts : List ℕ → List m.MeantField → Parts
make_parts w fs = record { name = w; fields = fs }

-- "{" { Field } "}"
unfoldable pub struct_body : m.Scope → Grammar (List m.MeantField)
struct_body scope =
    token (a_mark 123) >>= λ _.
    fields scope [] >>= λ fs.
    token (a_struct_end scope.named fs) >>= λ _.
    give fs

-- a struct after its first word
unfoldable pub struct_parts : m.Scope → Grammar Parts
struct_parts scope =
    token (new_name (entry_names scope.entries)) >>= λ w.
    struct_body scope >>= λ fs.
    closing (make_parts w fs)

-- a member after its name
abbrev pub with_member : Members → List ℕ → ℤ → Members
with_member ms w z = record { list = ms.list ++ record { name = w; number = z } ∷ []; coming = next_number z }

-- ["=" Number]; where counting has left i32, the number has to be there
abbrev pub own_number : Option ℤ → Grammar ℤ
own_number (Some n) = optional (is_mark 61) n (token taken >>= λ _. token a_member_number)
own_number None = token (a_mark 61) >>= λ _. token a_member_number

abbrev pub member : Members → List ℕ → Grammar Members
member ms w =
    own_number ms.coming >>= λ z.
    closing (with_member ms w z)

abbrev pub with_enum : m.Scope → List ℕ → List types.Member → m.Scope
with_enum scope w xs = record { entries = scope.entries ++ record { name = w; type = m.enum (length scope.named) } ∷ []; named = scope.named ++ m.enum_of w xs ∷ [] }

pub record Choice : Type 0 where
  pub name : List ℕ
  pub members : List types.Member

abbrev pub make_choice : List ℕ → List types.Member → Choice
make_choice w xs = record { name = w; members = xs }

-- "{" { Member } "}"
unfoldable pub enum_body : Grammar (List types.Member)
enum_body =
    token (a_mark 123) >>= λ _.
    loop a_member member no_members >>= λ ms.
    token (a_mark 125) >>= λ _.
    give ms.list

-- an enum after its first word
unfoldable pub enum_parts : m.Scope → Grammar Choice
enum_parts scope =
    token (new_name (entry_names scope.entries)) >>= λ w.
    enum_body >>= λ xs.
    closing (make_choice w xs)

abbrev pub make_entry : List ℕ → m.Ty → m.Entry
make_entry w t = record { name = w; type = t }

-- Type Name [Ann] [Sep]
unfoldable pub typedef_parts : List m.Entry → Grammar m.Entry
typedef_parts entries =
    type entries 32 false >>= λ t.
    token (new_name (entry_names entries)) >>= λ w.
    closing (make_entry w t)

abbrev pub with_entry : m.Scope → m.Entry → m.Scope
with_entry scope e = record scope { entries = scope.entries ++ e ∷ [] }

-- (Word | "*") (Word | Literal) [Sep]
abbrev pub namespace : Grammar (Unit {0})
namespace = token a_scope >>= λ _. token word_or_literal >>= λ _. sep

-- Literal [Sep]
abbrev pub cpp_include : Grammar (Unit {0})
cpp_include = token a_literal >>= λ _. sep

-- what a definition or a header adds
pub data Item : Type 0 where
  nothing : Item
  alias : m.Entry → Item
  choice : Choice → Item
  structure : Parts → Item

abbrev pub with_item : m.Scope → Item → m.Scope
with_item scope nothing = scope
with_item scope (alias e) = with_entry scope e
with_item scope (choice c) = with_enum scope c.name c.members
with_item scope (structure p) = with_struct scope p.name (by_id p.fields)

-- a definition or a header, after its first word
unfoldable pub item : m.Scope → Begin → Grammar Item
item scope a_namespace = namespace >>= λ _. give nothing
item scope an_include = cpp_include >>= λ _. give nothing
item scope a_typedef = typedef_parts scope.entries >>= λ e. give (alias e)
item scope an_enum = enum_parts scope >>= λ c. give (choice c)
item scope a_struct = struct_parts scope >>= λ p. give (structure p)

abbrev pub definition : m.Scope → Begin → Grammar m.Scope
definition scope b = item scope b >>= λ i. give (with_item scope i)

abbrev pub whole : Grammar m.Scope
whole = loop a_definition definition m.nothing_yet

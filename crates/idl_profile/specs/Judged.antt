-- What each token means at its place, or what it has against it: of several faults the first in their order.
use Rattle.std.specs.Prelude.{ℕ, ℤ, pos, negsuc, ◌+ℤ◌, int_le, int_lt, Bool, true, false, if◌then◌else◌, nat_lt, ◌==◌, ◌&&◌, ◌||◌, not, List, [], ◌∷◌, ◌++◌, Option, Some, None, is_some, Result, Ok, Err, codes, map, slice_get}
use Rattle.std.specs.List.{list_any}
use Rattle.std.specs.Ordering.{int_eq}
use Rattle.std.specs.Str.{bytes_eq}
use Rattle.idl_grammar.specs.declared.fault.Fault.{Fault}
use Rattle.idl_grammar.specs.declared.fault.Fault.TheVariants.{Syntax, Unsupported, UnknownType, RepeatedName, RepeatedId, BadId, BadDefault, KeyType, TooDeep, TooManyNodes, StructTooWide}
use Rattle.idl_profile.specs.declared.kinds.BaseType.{BaseType}
use Rattle.idl_profile.specs.declared.kinds.BaseType.TheVariants as k
use Rattle.idl_profile.specs.declared.kinds.Need.{Need}
use Rattle.idl_profile.specs.declared.kinds.Need.TheVariants.{Required, Optional}
use Rattle.name_index.specs.Names.{is_among}
use Rattle.idl_tokens.specs.Tokens.{Tok, word, number, literal, mark, finish}
use Rattle.idl_grammar.specs.Grammar.{Turn, leave, enter, wrong}
use Rattle.idl_profile.specs.Meaning as m
use Rattle.idl_profile.specs.Types as types
use Rattle.idl_profile.specs.Types.{TypeTree}
use Rattle.idl_profile.specs.Measures.{trees, named_tree, depth, nodes, bits, widest}

abbrev pub keywords : List (List ℕ)
keywords =
    codes "namespace" ∷ codes "cpp_include" ∷ codes "include" ∷ codes "typedef" ∷ codes "enum" ∷ codes "struct" ∷ codes "union" ∷ codes "exception" ∷ codes "service" ∷ codes "const"
    ∷ codes "required" ∷ codes "optional" ∷ codes "bool" ∷ codes "byte" ∷ codes "i8" ∷ codes "i16" ∷ codes "i32" ∷ codes "i64" ∷ codes "float" ∷ codes "double" ∷ codes "string" ∷ codes "binary"
    ∷ codes "list" ∷ codes "set" ∷ codes "map" ∷ codes "true" ∷ codes "false" ∷ []

-- a word that is no keyword and has no dot
unfoldable pub is_name : List ℕ → Bool
is_name w = not (is_among keywords w) && not (list_any (λ b. b == 46) w)

abbrev pub Judge : Type 0 → Type 0
Judge A = Tok → Result A Fault

abbrev pub yes : Unit {0}
yes = tt

-- ---- marks, words, literals, numbers

abbrev pub is_mark : ℕ → Tok → Bool
is_mark c (mark d) = d == c
is_mark c _ = false

abbrev pub is_word : List ℕ → Tok → Bool
is_word x (word w) = bytes_eq w x
is_word x _ = false

abbrev pub a_mark : ℕ → Judge (Unit {0})
a_mark c t = if is_mark c t then Ok yes else Err Syntax

-- a token that was looked at
abbrev pub taken : Judge (Unit {0})
taken t = Ok yes

abbrev pub is_sep : Tok → Bool
is_sep t = is_mark 44 t || is_mark 59 t

abbrev pub has_backslash : List ℕ → Bool
has_backslash x = list_any (λ b. b == 92) x

abbrev pub a_literal : Judge (List ℕ)
a_literal (literal x) = if has_backslash x then Err Unsupported else Ok x
a_literal _ = Err Syntax

abbrev pub a_number : Judge ℤ
a_number (number (Some z)) = Ok z
a_number (number None) = Err Unsupported
a_number _ = Err Syntax

-- ---- names

abbrev pub new_name : List (List ℕ) → Judge (List ℕ)
new_name names (word w) = if is_name w then (if is_among names w then Err RepeatedName else Ok w) else Err Syntax
new_name names _ = Err Syntax

-- ---- headers and annotations

abbrev pub a_scope : Judge (Unit {0})
a_scope (word w) = Ok yes
a_scope t = a_mark 42 t

abbrev pub word_or_literal : Judge (Unit {0})
word_or_literal (word w) = Ok yes
word_or_literal (literal x) = if has_backslash x then Err Unsupported else Ok yes
word_or_literal _ = Err Syntax

abbrev pub a_value : Judge (Unit {0})
a_value (word w) = Ok yes
a_value (literal x) = if has_backslash x then Err Unsupported else Ok yes
a_value (number (Some z)) = Ok yes
a_value (number None) = Err Unsupported
a_value _ = Err Syntax

abbrev pub refused_notes : List (List ℕ)
refused_notes = codes "cpp.type" ∷ codes "cpp2.type" ∷ codes "cpp.template" ∷ codes "cpp2.template" ∷ []

abbrev pub a_note : Unit {0} → Tok → Tok → Turn (Unit {0})
a_note _ (word w) after = if is_among refused_notes w then wrong Unsupported else enter yes
a_note _ t after = if is_mark 41 t then leave else wrong Syntax

-- ---- types

-- a whole type, or a container whose parts follow
pub data Head : Type 0 where
  plain : m.Ty → Head
  list_head : Head
  set_head : Head
  map_head : Head

abbrev pub is_key : m.Ty → Bool
is_key (m.scalar s) = true
is_key (m.enum n) = true
is_key _ = false

unfoldable pub scalar_of : List ℕ → Option BaseType
scalar_of w =
    if bytes_eq w (codes "bool") then Some k.Flag
    else (if bytes_eq w (codes "byte") then Some k.I8
    else (if bytes_eq w (codes "i8") then Some k.I8
    else (if bytes_eq w (codes "i16") then Some k.I16
    else (if bytes_eq w (codes "i32") then Some k.I32
    else (if bytes_eq w (codes "i64") then Some k.I64
    else (if bytes_eq w (codes "string") then Some k.Text
    else (if bytes_eq w (codes "binary") then Some k.Bytes else None)))))))

unfoldable pub container_of : List ℕ → Option Head
container_of w =
    if bytes_eq w (codes "list") then Some list_head
    else (if bytes_eq w (codes "set") then Some set_head
    else (if bytes_eq w (codes "map") then Some map_head else None))

abbrev pub a_known_type : Bool → Option m.Ty → Result Head Fault
a_known_type key None = Err UnknownType
a_known_type key (Some t) = if key && not (is_key t) then Err KeyType else Ok (plain t)

abbrev pub a_named_type : List m.Entry → Bool → List ℕ → Result Head Fault
a_named_type entries key w = if is_name w then a_known_type key (m.find w entries) else Err Syntax

abbrev pub a_container : List m.Entry → Bool → Bool → List ℕ → Option Head → Result Head Fault
a_container entries key room w None = a_named_type entries key w
a_container entries key room w (Some h) = if key then Err KeyType else (if room then Ok h else Err TooDeep)

abbrev pub a_scalar : List m.Entry → Bool → Bool → List ℕ → Option BaseType → Result Head Fault
a_scalar entries key room w (Some s) = Ok (plain (m.scalar s))
a_scalar entries key room w None = a_container entries key room w (container_of w)

abbrev pub a_word_type : List m.Entry → Bool → Bool → List ℕ → Result Head Fault
a_word_type entries key room w =
    if bytes_eq w (codes "float") || bytes_eq w (codes "double") then Err Unsupported
    else a_scalar entries key room w (scalar_of w)

-- the first token of a type; whether it is a key's or an element's, and whether a container may open
abbrev pub a_type : List m.Entry → Bool → Bool → Judge Head
a_type entries key room (word w) = a_word_type entries key room w
a_type entries key room _ = Err Syntax

-- the < after list, set or map
abbrev pub an_open : Judge (Unit {0})
an_open t = if is_word (codes "cpp_type") t then Err Unsupported else a_mark 60 t

-- ---- fields

abbrev pub ids : List m.MeantField → List ℤ
ids fs = map (λ f. f.id) fs

abbrev pub field_names : List m.MeantField → List (List ℕ)
field_names fs = map (λ f. f.name) fs

abbrev pub an_id : List m.MeantField → ℤ → Result ℤ Fault
an_id fs z =
    if list_any (λ i. int_eq i z) (ids fs) then Err RepeatedId
    else (if int_le (pos 1) z && int_le z (pos 32767) then Ok z else Err BadId)

abbrev pub entered : {B : Type 0} → Result B Fault → Turn B
entered (Ok b) = enter b
entered (Err f) = wrong f

-- the number of a field, or what ends the fields
abbrev pub a_field : List m.MeantField → Tok → Tok → Turn ℤ
a_field fs (number (Some z)) after = entered (an_id fs z)
a_field fs (number None) after = wrong Unsupported
a_field fs t after = if is_mark 125 t then leave else (if is_mark 64 t then wrong Unsupported else wrong Syntax)

abbrev pub a_need : Tok → Option Need
a_need t = if is_word (codes "required") t then Some Required else (if is_word (codes "optional") t then Some Optional else None)

-- the } of a struct
abbrev pub measured : TypeTree → Result (Unit {0}) Fault
measured t =
    if nat_lt 32 (depth t) then Err TooDeep
    else (if nat_lt 4096 (nodes t) then Err TooManyNodes
    else (if nat_lt 32767 (bits t) || nat_lt 32767 (widest t) then Err StructTooWide else Ok yes))

abbrev pub measured_struct : List m.MeantNamed → List m.MeantField → Result (Unit {0}) Fault
measured_struct named fs = measured (named_tree (trees named) (m.struct_of [] fs))

abbrev pub a_struct_end : List m.MeantNamed → List m.MeantField → Judge (Unit {0})
a_struct_end named fs t = if is_mark 125 t then measured_struct named fs else Err Syntax

-- ---- defaults

-- a whole default, or one whose bracket has to close at once
pub data Start : Type 0 where
  complete : types.Default → Start
  closed_by : ℕ → Start

abbrev pub an_int : ℤ → ℤ → ℤ → Result Start Fault
an_int low high z = if int_le low z && int_le z high then Ok (complete (types.int_default z)) else Err BadDefault

abbrev pub least_i32 : ℤ
least_i32 = negsuc 2147483647

abbrev pub greatest_i32 : ℤ
greatest_i32 = pos 2147483647

abbrev pub is_i32 : ℤ → Bool
is_i32 z = int_le least_i32 z && int_le z greatest_i32

abbrev pub an_i32 : ℤ → Result Start Fault
an_i32 z = an_int least_i32 greatest_i32 z

abbrev pub scalar_number : BaseType → ℤ → Result Start Fault
scalar_number k.Flag z = if int_eq z (pos 0) then Ok (complete (types.flag_default false)) else (if int_eq z (pos 1) then Ok (complete (types.flag_default true)) else Err BadDefault)
scalar_number k.I8 z = an_int (negsuc 127) (pos 127) z
scalar_number k.I16 z = an_int (negsuc 32767) (pos 32767) z
scalar_number k.I32 z = an_i32 z
scalar_number k.I64 z = Ok (complete (types.int_default z))
scalar_number _ z = Err BadDefault

abbrev pub number_default : m.Ty → ℤ → Result Start Fault
number_default (m.scalar s) z = scalar_number s z
number_default (m.enum n) z = an_i32 z
number_default _ z = Err BadDefault

abbrev pub scalar_literal : BaseType → List ℕ → Result Start Fault
scalar_literal k.Text x = Ok (complete (types.text_default x))
scalar_literal k.Bytes x = Ok (complete (types.text_default x))
scalar_literal _ x = Err BadDefault

abbrev pub literal_default : m.Ty → List ℕ → Result Start Fault
literal_default (m.scalar s) x = scalar_literal s x
literal_default _ x = Err BadDefault

-- the number of a member, written MEMBER or Enum.MEMBER
abbrev pub member_number : List ℕ → List types.Member → List ℕ → Result Start Fault
member_number name [] w = Err BadDefault
member_number name (x ∷ xs) w = if bytes_eq x.name w || bytes_eq (name ++ 46 ∷ x.name) w then Ok (complete (types.int_default x.number)) else member_number name xs w

abbrev pub enum_members : Option m.MeantNamed → List ℕ → Result Start Fault
enum_members (Some (m.enum_of name xs)) w = member_number name xs w
enum_members (Some (m.struct_of name fs)) w = Err BadDefault
enum_members None w = Err BadDefault

abbrev pub enum_default : List m.MeantNamed → ℕ → List ℕ → Result Start Fault
enum_default named n w = enum_members (slice_get named n) w

abbrev pub scalar_word : BaseType → List ℕ → Result Start Fault
scalar_word k.Flag w = if bytes_eq w (codes "true") then Ok (complete (types.flag_default true)) else (if bytes_eq w (codes "false") then Ok (complete (types.flag_default false)) else Err BadDefault)
scalar_word _ w = Err BadDefault

abbrev pub word_default : List m.MeantNamed → m.Ty → List ℕ → Result Start Fault
word_default named (m.scalar s) w = scalar_word s w
word_default named (m.enum n) w = enum_default named n w
word_default named _ w = Err BadDefault

abbrev pub bracket_default : m.Ty → Result Start Fault
bracket_default (m.list x) = Ok (closed_by 93)
bracket_default (m.set x) = Ok (closed_by 93)
bracket_default _ = Err BadDefault

abbrev pub brace_default : m.Ty → Result Start Fault
brace_default (m.set x) = Ok (closed_by 125)
brace_default (m.map x y) = Ok (closed_by 125)
brace_default (m.struct n) = Ok (closed_by 125)
brace_default _ = Err BadDefault

-- the first token of a default
abbrev pub a_default : List m.MeantNamed → m.Ty → Judge Start
a_default named t (number (Some z)) = number_default t z
a_default named t (number None) = Err Unsupported
a_default named t (literal x) = if has_backslash x then Err Unsupported else literal_default t x
a_default named t (word w) = word_default named t w
a_default named t (mark c) = if c == 91 then bracket_default t else (if c == 123 then brace_default t else Err Syntax)
a_default named t _ = Err Syntax

-- the token after the [ or { of a default
abbrev pub a_default_end : ℕ → Judge (Unit {0})
a_default_end c (number z) = Err Unsupported
a_default_end c (word w) = Err Unsupported
a_default_end c (literal x) = Err Unsupported
a_default_end c t = if is_mark 91 t || is_mark 123 t then Err Unsupported else a_mark c t

-- ---- enums

-- the members so far, and the number that counting gives the next one, if it is an i32
pub record Members : Type 0 where
  pub list : List types.Member
  pub coming : Option ℤ

abbrev pub no_members : Members
no_members = record { list = []; coming = Some (pos 0) }

abbrev pub next_number : ℤ → Option ℤ
next_number z = if int_lt z greatest_i32 then Some (z +ℤ pos 1) else None

abbrev pub member_names : Members → List (List ℕ)
member_names ms = map (λ x. x.name) ms.list

-- a member's name, in view of the token after it
abbrev pub counted : Members → Tok → Result (List ℕ) Fault → Turn (List ℕ)
counted ms after (Ok w) = if is_some ms.coming || is_mark 61 after then enter w else wrong BadDefault
counted ms after (Err f) = wrong f

abbrev pub a_member : Members → Tok → Tok → Turn (List ℕ)
a_member ms t after =
    if is_mark 125 t then leave
    else (if is_mark 64 t then wrong Unsupported
    else counted ms after (new_name (member_names ms) t))

abbrev pub a_member_number : Judge ℤ
a_member_number (number (Some z)) = if is_i32 z then Ok z else Err BadDefault
a_member_number (number None) = Err Unsupported
a_member_number _ = Err Syntax

-- ---- the text

-- what begins at a word where a definition stands
pub data Begin : Type 0 where
  a_namespace : Begin
  an_include : Begin
  a_typedef : Begin
  an_enum : Begin
  a_struct : Begin

abbrev pub no_definition : List (List ℕ)
no_definition = codes "union" ∷ codes "exception" ∷ codes "service" ∷ codes "const" ∷ codes "include" ∷ []

unfoldable pub begin_of : List ℕ → Turn Begin
begin_of w =
    if is_among no_definition w then wrong Unsupported
    else (if bytes_eq w (codes "namespace") then enter a_namespace
    else (if bytes_eq w (codes "cpp_include") then enter an_include
    else (if bytes_eq w (codes "typedef") then enter a_typedef
    else (if bytes_eq w (codes "enum") then enter an_enum
    else (if bytes_eq w (codes "struct") then enter a_struct else wrong Syntax)))))

abbrev pub a_definition : m.Scope → Tok → Tok → Turn Begin
a_definition scope (word w) after = begin_of w
a_definition scope finish after = leave
a_definition scope t after = if is_mark 64 t then wrong Unsupported else wrong Syntax

abbrev pub entry_names : List m.Entry → List (List ℕ)
entry_names es = map (λ e. e.name) es

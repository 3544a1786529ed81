-- The tokens of a printed text, line by line.
use Rattle.idl_profile.proofs.Each.{Each}
use Rattle.std.proofs.Common.{append_assoc, ◌≡◌, ℕ, ◌+◌, true, false, List, [], ◌∷◌, ◌++◌, Some, refl, ap, ◌∙◌}
use Rattle.std.specs.Prelude.{codes}
use Rattle.std.specs.List.{flat_map}
use Rattle.std.specs.Fmt.{signed_decimal}
use Rattle.idl_tokens.specs.Tokens.{word, number, mark, spot, Toks, tokens_behind, tokens}
use Rattle.idl_profile.specs.declared.kinds.BaseType.{BaseType}
use Rattle.idl_profile.specs.declared.kinds.BaseType.TheVariants as k
use Rattle.idl_profile.specs.declared.kinds.Need.{Need}
use Rattle.idl_profile.specs.declared.kinds.Need.TheVariants.{Plain, Required, Optional}
use Rattle.idl_profile.specs.Meaning as m
use Rattle.idl_profile.specs.Types as types
use Rattle.idl_print.specs.Printed.{newline, need_text, member_text}
use Rattle.idl_print.specs.Written.{name_at, scalar_text, type_text, empty_text, default_text, field_text, named_text, written}
use Rattle.idl_print.proofs.PrintedTokens.{type_tokens, need_tokens, empty_tokens, default_tokens, field_tokens, fields_tokens, member_tokens, members_tokens, closed, named_tokens, all_tokens, printed_tokens}
use Rattle.idl_proper.specs.Proper.{Is64, IsLiteral, IsWord}
use Rattle.idl_print.proofs.Pieces.{Apart, word-tokens, literal-tokens}
use Rattle.idl_print.proofs.Numbers.{number-tokens}

abbrev pub after : ℕ → List ℕ → Toks
after l text = tokens_behind 0 l text

pub scalar-word : (s : BaseType) → IsWord (scalar_text s)
scalar-word k.Flag = (refl, (refl, (refl, (refl, tt))))
scalar-word k.I8 = (refl, (refl, tt))
scalar-word k.I16 = (refl, (refl, (refl, tt)))
scalar-word k.I32 = (refl, (refl, (refl, tt)))
scalar-word k.I64 = (refl, (refl, (refl, tt)))
scalar-word k.Text = (refl, (refl, (refl, (refl, (refl, (refl, tt))))))
scalar-word k.Bytes = (refl, (refl, (refl, (refl, (refl, (refl, tt))))))

-- the names in a type are words
abbrev pub TypeWords : List m.MeantNamed → m.Ty → Type 0
TypeWords ns (m.scalar s) = Unit {0}
TypeWords ns (m.enum n) = IsWord (name_at ns n)
TypeWords ns (m.struct n) = IsWord (name_at ns n)
TypeWords ns (m.list x) = TypeWords ns x
TypeWords ns (m.set x) = TypeWords ns x
TypeWords ns (m.map x y) = TypeWords ns x × TypeWords ns y

one_inside : (v w rest : List ℕ) → (v ++ w) ++ rest ≡ v ++ (w ++ rest)
one_inside v w rest = append_assoc v w rest

two_inside : (v w rest : List ℕ) → (codes "map<" ++ v ++ codes "," ++ w ++ codes ">") ++ rest ≡ codes "map<" ++ (v ++ 44 ∷ (w ++ 62 ∷ rest))
two_inside v w rest = simp append_assoc

pub type-tokens : (ns : List m.MeantNamed) (t : m.Ty) (rest : List ℕ) (l : ℕ) → TypeWords ns t → Apart rest → after l (type_text ns t ++ rest) ≡ type_tokens ns l t (after l rest)
type-tokens ns (m.scalar s) rest l h a = word-tokens (scalar_text s) rest l (scalar-word s) a
type-tokens ns (m.enum n) rest l h a = word-tokens (name_at ns n) rest l h a
type-tokens ns (m.struct n) rest l h a = word-tokens (name_at ns n) rest l h a
type-tokens ns (m.list x) rest l h a =
    ap (λ (z : Toks). spot (word (codes "list")) l ∷ spot (mark 60) l ∷ z) (ap (after l) (one_inside (type_text ns x) (62 ∷ []) rest) ∙ type-tokens ns x (62 ∷ rest) l h refl)
type-tokens ns (m.set x) rest l h a =
    ap (λ (z : Toks). spot (word (codes "set")) l ∷ spot (mark 60) l ∷ z) (ap (after l) (one_inside (type_text ns x) (62 ∷ []) rest) ∙ type-tokens ns x (62 ∷ rest) l h refl)
type-tokens ns (m.map x y) rest l h a =
    ap (after l) (two_inside (type_text ns x) (type_text ns y) rest)
    ∙ ap (λ (z : Toks). spot (word (codes "map")) l ∷ spot (mark 60) l ∷ z)
    (type-tokens ns x (44 ∷ (type_text ns y ++ 62 ∷ rest)) l h.0 refl
    ∙ ap (λ (z : Toks). type_tokens ns l x (spot (mark 44) l ∷ z)) (type-tokens ns y (62 ∷ rest) l h.1 refl))

need-tokens : (n : Need) (rest : List ℕ) (l : ℕ) → after l (need_text n ++ rest) ≡ need_tokens l n (after l rest)
need-tokens Plain rest l = refl
need-tokens Required rest l = refl
need-tokens Optional rest l = refl

-- what a default holds can be written
abbrev pub DefaultText : types.Default → Type 0
DefaultText (types.int_default z) = Is64 z
DefaultText (types.text_default x) = IsLiteral x
DefaultText _ = Unit {0}

empty-tokens : (t : m.Ty) (rest : List ℕ) (l : ℕ) → after l (empty_text t ++ rest) ≡ empty_tokens l t (after l rest)
empty-tokens (m.scalar s) rest l = refl
empty-tokens (m.enum n) rest l = refl
empty-tokens (m.struct n) rest l = refl
empty-tokens (m.list x) rest l = refl
empty-tokens (m.set x) rest l = refl
empty-tokens (m.map x y) rest l = refl

default-tokens : (t : m.Ty) (d : types.Default) (rest : List ℕ) (l : ℕ) → DefaultText d → Apart rest → after l (default_text t d ++ rest) ≡ default_tokens l t d (after l rest)
default-tokens t types.without rest l h a = refl
default-tokens t (types.flag_default true) rest l h a = ap (λ (z : Toks). spot (mark 61) l ∷ z) (word-tokens (codes "true") rest l (refl, (refl, (refl, (refl, tt)))) a)
default-tokens t (types.flag_default false) rest l h a = ap (λ (z : Toks). spot (mark 61) l ∷ z) (word-tokens (codes "false") rest l (refl, (refl, (refl, (refl, (refl, tt))))) a)
default-tokens t (types.int_default z) rest l h a = ap (λ (z : Toks). spot (mark 61) l ∷ z) (number-tokens z rest l h a)
default-tokens t (types.text_default x) rest l h a = ap (λ (z : Toks). spot (mark 61) l ∷ z) (literal-tokens x rest l h)
default-tokens t types.empty_default rest l h a = ap (λ (z : Toks). spot (mark 61) l ∷ z) (empty-tokens t rest l)

apart-default : (t : m.Ty) (d : types.Default) (rest : List ℕ) → Apart rest → Apart (default_text t d ++ rest)
apart-default t types.without rest a = a
apart-default t (types.flag_default b) rest a = refl
apart-default t (types.int_default z) rest a = refl
apart-default t (types.text_default x) rest a = refl
apart-default t types.empty_default rest a = refl

abbrev pub FieldText : List m.MeantNamed → m.MeantField → Type 0
FieldText ns f = Is64 f.id × TypeWords ns f.type × IsWord f.name × DefaultText f.default

field_parts : (i n t w d rest : List ℕ) → (codes "  " ++ i ++ codes ": " ++ n ++ t ++ codes " " ++ w ++ d ++ codes ";" ++ newline) ++ rest ≡ codes "  " ++ (i ++ 58 ∷ 32 ∷ (n ++ (t ++ 32 ∷ (w ++ (d ++ 59 ∷ 10 ∷ rest)))))
field_parts i n t w d rest = simp append_assoc

pub field-tokens : (ns : List m.MeantNamed) (f : m.MeantField) (rest : List ℕ) (l : ℕ) → FieldText ns f → after l (field_text ns f ++ rest) ≡ field_tokens ns l f (after (l + 1) rest)
field-tokens ns f rest l h =
    ap (after l) (field_parts (signed_decimal f.id) (need_text f.need) (type_text ns f.type) f.name (default_text f.type f.default) rest)
    ∙ number-tokens f.id (58 ∷ 32 ∷ (need_text f.need ++ (type_text ns f.type ++ 32 ∷ (f.name ++ (default_text f.type f.default ++ 59 ∷ 10 ∷ rest))))) l h.0 refl
    ∙ ap (λ (z : Toks). spot (number (Some f.id)) l ∷ spot (mark 58) l ∷ z)
    (need-tokens f.need (type_text ns f.type ++ 32 ∷ (f.name ++ (default_text f.type f.default ++ 59 ∷ 10 ∷ rest))) l
    ∙ ap (need_tokens l f.need)
    (type-tokens ns f.type (32 ∷ (f.name ++ (default_text f.type f.default ++ 59 ∷ 10 ∷ rest))) l h.1 refl
    ∙ ap (type_tokens ns l f.type)
    (word-tokens f.name (default_text f.type f.default ++ 59 ∷ 10 ∷ rest) l h.2 (apart-default f.type f.default (59 ∷ 10 ∷ rest) refl)
    ∙ ap (λ (z : Toks). spot (word f.name) l ∷ z) (default-tokens f.type f.default (59 ∷ 10 ∷ rest) l h.3 refl))))

abbrev pub MemberText : types.Member → Type 0
MemberText x = IsWord x.name × Is64 x.number

member_parts : (w n rest : List ℕ) → (codes "  " ++ w ++ codes " = " ++ n ++ codes "," ++ newline) ++ rest ≡ codes "  " ++ (w ++ 32 ∷ 61 ∷ 32 ∷ (n ++ 44 ∷ 10 ∷ rest))
member_parts w n rest = simp append_assoc

pub member-tokens : (x : types.Member) (rest : List ℕ) (l : ℕ) → MemberText x → after l (member_text x ++ rest) ≡ member_tokens l x (after (l + 1) rest)
member-tokens x rest l h =
    ap (after l) (member_parts x.name (signed_decimal x.number) rest) ∙ word-tokens x.name (32 ∷ 61 ∷ 32 ∷ (signed_decimal x.number ++ 44 ∷ 10 ∷ rest)) l h.0 refl
    ∙ ap (λ (z : Toks). spot (word x.name) l ∷ spot (mark 61) l ∷ z) (number-tokens x.number (44 ∷ 10 ∷ rest) l h.1 refl)

-- what stands from a line on, behind a printed text
abbrev pub From : List ℕ → (ℕ → Toks) → Type 0
From text rest = (l : ℕ) → after l text ≡ rest l

fields-tokens : (ns : List m.MeantNamed) (fs : List m.MeantField) (text : List ℕ) (rest : ℕ → Toks) → Each (FieldText ns) fs → From text rest → From (flat_map (field_text ns) fs ++ text) (λ l. fields_tokens ns l fs rest)
fields-tokens ns [] text rest h e l = e l
fields-tokens ns (f ∷ fs) text rest h e l =
    ap (after l) (append_assoc (field_text ns f) (flat_map (field_text ns) fs) text) ∙ field-tokens ns f (flat_map (field_text ns) fs ++ text) l h.0
    ∙ ap (field_tokens ns l f) (fields-tokens ns fs text rest h.1 e (l + 1))

members-tokens : (xs : List types.Member) (text : List ℕ) (rest : ℕ → Toks) → Each MemberText xs → From text rest → From (flat_map member_text xs ++ text) (λ l. members_tokens l xs rest)
members-tokens [] text rest h e l = e l
members-tokens (x ∷ xs) text rest h e l =
    ap (after l) (append_assoc (member_text x) (flat_map member_text xs) text) ∙ member-tokens x (flat_map member_text xs ++ text) l h.0
    ∙ ap (member_tokens l x) (members-tokens xs text rest h.1 e (l + 1))

abbrev pub NamedText : List m.MeantNamed → m.MeantNamed → Type 0
NamedText ns (m.enum_of w xs) = IsWord w × Each MemberText xs
NamedText ns (m.struct_of w fs) = IsWord w × Each (FieldText ns) fs

closing : (text : List ℕ) (rest : ℕ → Toks) → From text rest → From (125 ∷ 10 ∷ text) (closed rest)
closing text rest e l = ap (λ (z : Toks). spot (mark 125) l ∷ z) (e (l + 1))

parts : (w x text : List ℕ) → (w ++ codes " {" ++ newline ++ x ++ codes "}" ++ newline) ++ text ≡ w ++ 32 ∷ 123 ∷ 10 ∷ (x ++ 125 ∷ 10 ∷ text)
parts w x text = simp append_assoc

pub named-tokens : (ns : List m.MeantNamed) (n : m.MeantNamed) (text : List ℕ) (rest : ℕ → Toks) → NamedText ns n → From text rest → From (named_text ns n ++ text) (λ l. named_tokens ns l n rest)
named-tokens ns (m.enum_of w xs) text rest h e l =
    ap (λ (z : Toks). spot (word (codes "enum")) l ∷ z)
    (ap (after l) (parts w (flat_map member_text xs) text) ∙ word-tokens w (32 ∷ 123 ∷ 10 ∷ (flat_map member_text xs ++ 125 ∷ 10 ∷ text)) l h.0 refl
    ∙ ap (λ (z : Toks). spot (word w) l ∷ spot (mark 123) l ∷ z) (members-tokens xs (125 ∷ 10 ∷ text) (closed rest) h.1 (closing text rest e) (l + 1)))
named-tokens ns (m.struct_of w fs) text rest h e l =
    ap (λ (z : Toks). spot (word (codes "struct")) l ∷ z)
    (ap (after l) (parts w (flat_map (field_text ns) fs) text) ∙ word-tokens w (32 ∷ 123 ∷ 10 ∷ (flat_map (field_text ns) fs ++ 125 ∷ 10 ∷ text)) l h.0 refl
    ∙ ap (λ (z : Toks). spot (word w) l ∷ spot (mark 123) l ∷ z) (fields-tokens ns fs (125 ∷ 10 ∷ text) (closed rest) h.1 (closing text rest e) (l + 1)))

all-tokens : (ns more : List m.MeantNamed) → Each (NamedText ns) more → From (flat_map (named_text ns) more) (λ l. all_tokens ns l more)
all-tokens ns [] h l = refl
all-tokens ns (n ∷ more) h l = named-tokens ns n (flat_map (named_text ns) more) (λ k. all_tokens ns k more) h.0 (all-tokens ns more h.1) l

-- The tokens of a printed text.
pub tokens-written : (ns : List m.MeantNamed) → Each (NamedText ns) ns → tokens (written ns) ≡ printed_tokens ns
tokens-written ns h = all-tokens ns ns h 1

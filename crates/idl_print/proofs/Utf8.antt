-- A printed text is UTF-8.
use Rattle.std.proofs.Common.{◌≡◌, ℕ, Bool, true, false, ◌&&◌, List, [], ◌∷◌, ◌++◌, refl}
use Rattle.std.specs.Prelude.{ℤ, pos, negsuc, codes, nat_lt}
use Rattle.std.specs.List.{flat_map}
use Rattle.std.specs.Fmt.{signed_decimal}
use Rattle.std.specs.Str.{IsUtf8, IsAscii}
use Rattle.std.proofs.lemmas.Str.{IsUtf8-append, IsUtf8-from_ascii}
use Rattle.std.proofs.lemmas.Str.Ascii.{IsAscii-nil, IsAscii-cons}
use Rattle.std.proofs.lemmas.Fmt.{IsAscii-signed}
use Rattle.std.proofs.lemmas.Bool.{and_parts, ltb-true}
use Rattle.idl_tokens.specs.Characters.{is_word_character}
use Rattle.idl_tokens.proofs.Cuts.{start-small, character-small}
use Rattle.idl_profile.specs.declared.kinds.BaseType.{BaseType}
use Rattle.idl_profile.specs.declared.kinds.BaseType.TheVariants as k
use Rattle.idl_profile.specs.declared.kinds.Need.{Need}
use Rattle.idl_profile.specs.declared.kinds.Need.TheVariants.{Plain, Required, Optional}
use Rattle.idl_profile.specs.Meaning as m
use Rattle.idl_profile.specs.Types as types
use Rattle.idl_print.specs.Printed.{newline, has_quote, quote, literal_text, need_text, member_text}
use Rattle.idl_print.specs.Written.{name_at, scalar_text, type_text, empty_text, default_text, field_text, named_text}
use Rattle.idl_proper.specs.Proper.{Every, Is64, IsLiteral, IsWord}
use Rattle.idl_profile.proofs.Each.{Each}
use Rattle.idl_print.proofs.TextTokens.{TypeWords, DefaultText, FieldText, MemberText, NamedText}

pub record Utf8 (bs : List ℕ) : Type 0 where
  pub is : IsUtf8 bs

glue : {x y : List ℕ} → Utf8 x → Utf8 y → Utf8 (x ++ y)
glue {x = x} {y = y} g h = record { is = IsUtf8-append x y g.is h.is }

abbrev is_small : List ℕ → Bool
is_small [] = true
is_small (c ∷ cs) = nat_lt c 128 && is_small cs

small-ascii : (bs : List ℕ) → is_small bs ≡ true → IsAscii bs
small-ascii [] h = IsAscii-nil
small-ascii (c ∷ cs) h = let a = and_parts (nat_lt c 128) (is_small cs) h in IsAscii-cons c cs (ltb-true c 128 a.0) (small-ascii cs a.1)

ascii : (bs : List ℕ) → is_small bs ≡ true → Utf8 bs
ascii bs h = record { is = IsUtf8-from_ascii bs (small-ascii bs h) }

word-ascii : (w : List ℕ) → Every is_word_character w → IsAscii w
word-ascii [] h = IsAscii-nil
word-ascii (c ∷ w) h = IsAscii-cons c w (character-small c h.0) (word-ascii w h.1)

word-utf8 : (w : List ℕ) → IsWord w → Utf8 w
word-utf8 [] h = absurd h
word-utf8 (c ∷ w) h = record { is = IsUtf8-from_ascii (c ∷ w) (IsAscii-cons c w (start-small c h.0) (word-ascii w h.1)) }

number-utf8 : (z : ℤ) → Is64 z → Utf8 (signed_decimal z)
number-utf8 (pos n) h = record { is = IsUtf8-from_ascii (signed_decimal (pos n)) (IsAscii-signed (pos n) h) }
number-utf8 (negsuc n) h = record { is = IsUtf8-from_ascii (signed_decimal (negsuc n)) (IsAscii-signed (negsuc n) h) }

scalar-utf8 : (s : BaseType) → Utf8 (scalar_text s)
scalar-utf8 k.Flag = ascii (codes "bool") refl
scalar-utf8 k.I8 = ascii (codes "i8") refl
scalar-utf8 k.I16 = ascii (codes "i16") refl
scalar-utf8 k.I32 = ascii (codes "i32") refl
scalar-utf8 k.I64 = ascii (codes "i64") refl
scalar-utf8 k.Text = ascii (codes "string") refl
scalar-utf8 k.Bytes = ascii (codes "binary") refl

type-utf8 : (ns : List m.MeantNamed) (t : m.Ty) → TypeWords ns t → Utf8 (type_text ns t)
type-utf8 ns (m.scalar s) h = scalar-utf8 s
type-utf8 ns (m.enum n) h = word-utf8 (name_at ns n) h
type-utf8 ns (m.struct n) h = word-utf8 (name_at ns n) h
type-utf8 ns (m.list x) h = glue (glue (ascii (codes "list<") refl) (type-utf8 ns x h)) (ascii (codes ">") refl)
type-utf8 ns (m.set x) h = glue (glue (ascii (codes "set<") refl) (type-utf8 ns x h)) (ascii (codes ">") refl)
type-utf8 ns (m.map x y) h = glue (glue (glue (glue (ascii (codes "map<") refl) (type-utf8 ns x h.0)) (ascii (codes ",") refl)) (type-utf8 ns y h.1)) (ascii (codes ">") refl)

need-utf8 : (n : Need) → Utf8 (need_text n)
need-utf8 Plain = ascii [] refl
need-utf8 Required = ascii (codes "required ") refl
need-utf8 Optional = ascii (codes "optional ") refl

quote-utf8 : (x : List ℕ) → Utf8 (quote x ∷ [])
quote-utf8 x = by_test (has_quote x) refl
  where
    by_test : (b : Bool) → has_quote x ≡ b → Utf8 (quote x ∷ [])
    by_test true e = rw e (ascii (39 ∷ []) refl)
    by_test false e = rw e (ascii (34 ∷ []) refl)

literal-utf8 : (x : List ℕ) → IsLiteral x → Utf8 (literal_text x)
literal-utf8 x h = let inside : Utf8 x = record { is = h.1 } in glue (quote-utf8 x) (glue inside (quote-utf8 x))

empty-utf8 : (t : m.Ty) → Utf8 (empty_text t)
empty-utf8 (m.scalar s) = ascii (codes "{}") refl
empty-utf8 (m.enum n) = ascii (codes "{}") refl
empty-utf8 (m.struct n) = ascii (codes "{}") refl
empty-utf8 (m.list x) = ascii (codes "[]") refl
empty-utf8 (m.set x) = ascii (codes "[]") refl
empty-utf8 (m.map x y) = ascii (codes "{}") refl

default-utf8 : (t : m.Ty) (d : types.Default) → DefaultText d → Utf8 (default_text t d)
default-utf8 t types.without h = ascii [] refl
default-utf8 t (types.flag_default true) h = ascii (codes " = true") refl
default-utf8 t (types.flag_default false) h = ascii (codes " = false") refl
default-utf8 t (types.int_default z) h = glue (ascii (codes " = ") refl) (number-utf8 z h)
default-utf8 t (types.text_default x) h = glue (ascii (codes " = ") refl) (literal-utf8 x h)
default-utf8 t types.empty_default h = glue (ascii (codes " = ") refl) (empty-utf8 t)

field-utf8 : (ns : List m.MeantNamed) (f : m.MeantField) → FieldText ns f → Utf8 (field_text ns f)
field-utf8 ns f h =
    glue (glue (glue (glue (glue (glue (glue (glue (glue (ascii (codes "  ") refl) (number-utf8 f.id h.0)) (ascii (codes ": ") refl)) (need-utf8 f.need)) (type-utf8 ns f.type h.1)) (ascii (codes " ") refl)) (word-utf8 f.name h.2)) (default-utf8 f.type f.default h.3)) (ascii (codes ";") refl)) (ascii newline refl)

member-utf8 : (x : types.Member) → MemberText x → Utf8 (member_text x)
member-utf8 x h = glue (glue (glue (glue (glue (ascii (codes "  ") refl) (word-utf8 x.name h.0)) (ascii (codes " = ") refl)) (number-utf8 x.number h.1)) (ascii (codes ",") refl)) (ascii newline refl)

each-utf8 : {A : Type 0} (f : A → List ℕ) (P : A → Type 0) → ((x : A) → P x → Utf8 (f x)) → (xs : List A) → Each P xs → Utf8 (flat_map f xs)
each-utf8 f P g [] h = ascii [] refl
each-utf8 f P g (x ∷ xs) h = glue (g x h.0) (each-utf8 f P g xs h.1)

body-utf8 : {front : List ℕ} → Utf8 front → (w : List ℕ) → IsWord w → {body : List ℕ} → Utf8 body → Utf8 (front ++ w ++ codes " {" ++ newline ++ body ++ codes "}" ++ newline)
body-utf8 f w h g = glue (glue (glue (glue (glue (glue (f) (word-utf8 w h)) (ascii (codes " {") refl)) (ascii newline refl)) (g)) (ascii (codes "}") refl)) (ascii newline refl)

named-utf8 : (ns : List m.MeantNamed) (n : m.MeantNamed) → NamedText ns n → Utf8 (named_text ns n)
named-utf8 ns (m.enum_of w xs) h = body-utf8 (ascii (codes "enum ") refl) w h.0 (each-utf8 member_text MemberText member-utf8 xs h.1)
named-utf8 ns (m.struct_of w fs) h = body-utf8 (ascii (codes "struct ") refl) w h.0 (each-utf8 (field_text ns) (FieldText ns) (field-utf8 ns) fs h.1)

pub all-utf8 : (all ns : List m.MeantNamed) → Each (NamedText all) ns → Utf8 (flat_map (named_text all) ns)
all-utf8 all ns h = each-utf8 (named_text all) (NamedText all) (named-utf8 all) ns h

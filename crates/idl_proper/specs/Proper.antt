-- Proper definitions: what holds of each that some text means.
use Rattle.std.specs.Prelude.{◌≡◌, ◌≢◌, ◌⊎◌, ℕ, suc, ◌^◌, ◌<◌, ◌≤◌, Bool, true, false, List, [], ◌∷◌, ◌++◌, Some, Ok, ℤ, pos, negsuc, slice_get}
use Rattle.std.specs.Str.{IsUtf8}
use Rattle.idl_tokens.specs.Characters.{is_word_start, is_word_character, is_in_literal}
use Rattle.idl_profile.specs.declared.kinds.BaseType.TheVariants as k
use Rattle.idl_profile.specs.Meaning as m
use Rattle.idl_profile.specs.Types as types
use Rattle.idl_profile.specs.Judged.{yes, is_name, has_backslash, complete, number_default, literal_default, measured_struct, is_i32}
use Rattle.idl_profile.specs.Text.{by_id}
use Rattle.idl_profile.proofs.Each.{Each, Distinct}
use Rattle.idl_profile.proofs.Ids.{id_fits}

-- ---- words, literals and numbers

-- every byte passes a test
abbrev pub Every : (ℕ → Bool) → List ℕ → Type 0
Every p [] = Unit {0}
Every p (c ∷ cs) = (p c ≡ true) × Every p cs

-- the bytes of a word
abbrev pub IsWord : List ℕ → Type 0
IsWord [] = ⊥
IsWord (c ∷ w) = (is_word_start c ≡ true) × Every is_word_character w

-- what can stand between two " or two '
abbrev pub Quoted : List ℕ → Type 0
Quoted x = Every (is_in_literal 34) x ⊎ Every (is_in_literal 39) x

abbrev pub IsLiteral : List ℕ → Type 0
IsLiteral x = Quoted x × IsUtf8 x

-- the numbers of 64 bits
abbrev pub Is64 : ℤ → Type 0
Is64 (pos n) = n < 2 ^ 63
Is64 (negsuc n) = suc n ≤ 2 ^ 63

abbrev pub IsName : List ℕ → Type 0
IsName w = IsWord w × (is_name w ≡ true)

abbrev pub name : m.MeantNamed → List ℕ
name (m.enum_of w ms) = w
name (m.struct_of w fs) = w

-- ---- definitions

-- the enums and structs that a type names stand there, and keys and elements are of key types
abbrev pub TypeFits : List m.MeantNamed → Bool → m.Ty → Type 0
TypeFits ns key (m.scalar s) = Unit {0}
TypeFits ns key (m.enum n) = (w : List ℕ) × (xs : List types.Member) × (slice_get ns n ≡ Some (m.enum_of w xs))
TypeFits ns key (m.struct n) = (w : List ℕ) × (fs : List m.MeantField) × (slice_get ns n ≡ Some (m.struct_of w fs)) × (key ≡ false)
TypeFits ns key (m.list x) = (key ≡ false) × TypeFits ns false x
TypeFits ns key (m.set x) = (key ≡ false) × TypeFits ns true x
TypeFits ns key (m.map x y) = (key ≡ false) × TypeFits ns true x × TypeFits ns false y

abbrev pub HasEmpty : m.Ty → Type 0
HasEmpty (m.scalar s) = ⊥
HasEmpty (m.enum n) = ⊥
HasEmpty _ = Unit {0}

abbrev pub DefaultFits : m.Ty → types.Default → Type 0
DefaultFits t types.without = Unit {0}
DefaultFits t (types.flag_default b) = t ≡ m.scalar k.Flag
DefaultFits t (types.int_default z) = (number_default t z ≡ Ok (complete (types.int_default z))) × Is64 z
DefaultFits t (types.text_default x) = (literal_default t x ≡ Ok (complete (types.text_default x))) × (has_backslash x ≡ false) × IsLiteral x
DefaultFits t types.empty_default = HasEmpty t

abbrev pub FieldFits : List m.MeantNamed → m.MeantField → Type 0
FieldFits ns f = IsName f.name × TypeFits ns false f.type × DefaultFits f.type f.default × (id_fits f.id ≡ true)

abbrev pub FieldsApart : m.MeantField → m.MeantField → Type 0
FieldsApart f g = (f.id ≢ g.id) × (f.name ≢ g.name)

abbrev pub MemberFits : types.Member → Type 0
MemberFits x = IsName x.name × (is_i32 x.number ≡ true)

abbrev pub MembersApart : types.Member → types.Member → Type 0
MembersApart x y = x.name ≢ y.name

-- an enum or struct behind these
abbrev pub NamedFits : List m.MeantNamed → m.MeantNamed → Type 0
NamedFits ns (m.enum_of w xs) = IsName w × Each MemberFits xs × Distinct MembersApart xs
NamedFits ns (m.struct_of w fs) = IsName w × Each (FieldFits ns) fs × Distinct FieldsApart fs × (by_id fs ≡ fs) × (measured_struct ns fs ≡ Ok yes)

abbrev pub IsNew : List m.MeantNamed → m.MeantNamed → Type 0
IsNew ns n = Each (λ x. name x ≢ name n) ns

abbrev pub AllFit : List m.MeantNamed → List m.MeantNamed → Type 0
AllFit before [] = Unit {0}
AllFit before (n ∷ ns) = NamedFits before n × IsNew before n × AllFit (before ++ n ∷ []) ns

abbrev pub IsProper : List m.MeantNamed → Type 0
IsProper ns = AllFit [] ns

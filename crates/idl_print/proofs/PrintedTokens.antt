-- The tokens of a printed text, before further ones: each line's on its line.
use Rattle.std.specs.Prelude.{ℕ, ◌+◌, List, [], ◌∷◌, Some, codes}
use Rattle.idl_tokens.specs.Tokens.{word, number, literal, mark, finish, spot, Toks}
use Rattle.idl_profile.specs.declared.kinds.Need.{Need}
use Rattle.idl_profile.specs.declared.kinds.Need.TheVariants.{Plain, Required, Optional}
use Rattle.idl_profile.specs.Meaning as m
use Rattle.idl_profile.specs.Types as types
use Rattle.idl_print.specs.Printed.{flag_text}
use Rattle.idl_print.specs.Written.{name_at, scalar_text}

abbrev pub type_tokens : List m.MeantNamed → ℕ → m.Ty → Toks → Toks
type_tokens ns l (m.scalar s) ts = spot (word (scalar_text s)) l ∷ ts
type_tokens ns l (m.enum n) ts = spot (word (name_at ns n)) l ∷ ts
type_tokens ns l (m.struct n) ts = spot (word (name_at ns n)) l ∷ ts
type_tokens ns l (m.list x) ts = spot (word (codes "list")) l ∷ spot (mark 60) l ∷ type_tokens ns l x (spot (mark 62) l ∷ ts)
type_tokens ns l (m.set x) ts = spot (word (codes "set")) l ∷ spot (mark 60) l ∷ type_tokens ns l x (spot (mark 62) l ∷ ts)
type_tokens ns l (m.map x y) ts =
    spot (word (codes "map")) l ∷ spot (mark 60) l ∷ type_tokens ns l x (spot (mark 44) l ∷ type_tokens ns l y (spot (mark 62) l ∷ ts))

abbrev pub need_tokens : ℕ → Need → Toks → Toks
need_tokens l Plain ts = ts
need_tokens l Required ts = spot (word (codes "required")) l ∷ ts
need_tokens l Optional ts = spot (word (codes "optional")) l ∷ ts

abbrev pub empty_tokens : ℕ → m.Ty → Toks → Toks
empty_tokens l (m.list x) ts = spot (mark 91) l ∷ spot (mark 93) l ∷ ts
empty_tokens l (m.set x) ts = spot (mark 91) l ∷ spot (mark 93) l ∷ ts
empty_tokens l _ ts = spot (mark 123) l ∷ spot (mark 125) l ∷ ts

abbrev pub default_tokens : ℕ → m.Ty → types.Default → Toks → Toks
default_tokens l t types.without ts = ts
default_tokens l t (types.flag_default b) ts = spot (mark 61) l ∷ spot (word (flag_text b)) l ∷ ts
default_tokens l t (types.int_default z) ts = spot (mark 61) l ∷ spot (number (Some z)) l ∷ ts
default_tokens l t (types.text_default x) ts = spot (mark 61) l ∷ spot (literal x) l ∷ ts
default_tokens l t types.empty_default ts = spot (mark 61) l ∷ empty_tokens l t ts

abbrev pub field_tokens : List m.MeantNamed → ℕ → m.MeantField → Toks → Toks
field_tokens ns l f ts =
    spot (number (Some f.id)) l ∷ spot (mark 58) l ∷ need_tokens l f.need (type_tokens ns l f.type (spot (word f.name) l ∷ default_tokens l f.type f.default (spot (mark 59) l ∷ ts)))

abbrev pub fields_tokens : List m.MeantNamed → ℕ → List m.MeantField → (ℕ → Toks) → Toks
fields_tokens ns l [] rest = rest l
fields_tokens ns l (f ∷ fs) rest = field_tokens ns l f (fields_tokens ns (l + 1) fs rest)

abbrev pub member_tokens : ℕ → types.Member → Toks → Toks
member_tokens l x ts = spot (word x.name) l ∷ spot (mark 61) l ∷ spot (number (Some x.number)) l ∷ spot (mark 44) l ∷ ts

abbrev pub members_tokens : ℕ → List types.Member → (ℕ → Toks) → Toks
members_tokens l [] rest = rest l
members_tokens l (x ∷ xs) rest = member_tokens l x (members_tokens (l + 1) xs rest)

-- the } of a definition, and what stands from the next line on
abbrev pub closed : (ℕ → Toks) → ℕ → Toks
closed rest l = spot (mark 125) l ∷ rest (l + 1)

abbrev pub named_tokens : List m.MeantNamed → ℕ → m.MeantNamed → (ℕ → Toks) → Toks
named_tokens ns l (m.enum_of w xs) rest = spot (word (codes "enum")) l ∷ spot (word w) l ∷ spot (mark 123) l ∷ members_tokens (l + 1) xs (closed rest)
named_tokens ns l (m.struct_of w fs) rest = spot (word (codes "struct")) l ∷ spot (word w) l ∷ spot (mark 123) l ∷ fields_tokens ns (l + 1) fs (closed rest)

abbrev pub all_tokens : List m.MeantNamed → ℕ → List m.MeantNamed → Toks
all_tokens ns l [] = spot finish l ∷ []
all_tokens ns l (n ∷ more) = named_tokens ns l n (λ k. all_tokens ns k more)

abbrev pub printed_tokens : List m.MeantNamed → Toks
printed_tokens ns = all_tokens ns 1 ns

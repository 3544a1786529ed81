-- The tokens of a printed definition spell it: types, defaults and fields.
use Rattle.std.proofs.Common.{◌≡◌, ◌≢◌, ℕ, zero, suc, ◌+◌, ◌≤◌, Bool, true, false, ◌&&◌, List, [], ◌∷◌, ◌++◌, Option, Some, None, Ok, refl, sym, ap, ◌∙◌, subst, arith, append_assoc, append-nil}
use Rattle.std.specs.Prelude.{not, codes, slice_get, max, nat_lt}
use Rattle.std.proofs.lemmas.Bool.Decides.{nat_tests}
use Rattle.idl_tokens.specs.Tokens.{word, number, literal, mark, Spot, spot, Toks}
use Rattle.idl_grammar.specs.Grammar.{Grammar, give, look, done, more, Spells}
use Rattle.idl_profile.specs.declared.kinds.BaseType.{BaseType}
use Rattle.idl_profile.specs.declared.kinds.BaseType.TheVariants as k
use Rattle.idl_profile.specs.declared.kinds.Need.{Need}
use Rattle.idl_profile.specs.declared.kinds.Need.TheVariants.{Plain, Required, Optional}
use Rattle.idl_profile.specs.Meaning as m
use Rattle.idl_profile.specs.Types as types
use Rattle.name_index.specs.Names.{is_among}
use Rattle.idl_profile.specs.Judged.{yes, is_mark, is_sep, is_name, new_name, plain, list_head, set_head, map_head, scalar_of, container_of, a_type, is_key, a_need, an_id, entered, a_default, complete, closed_by, field_names}
use Rattle.idl_profile.specs.Text.{ann, sep, pick, inner, need_of, if_need, default, typed, make_typed, field, one_field, fields, added}
use Rattle.idl_print.specs.Written.{name_at, scalar_text}
use Rattle.idl_print.proofs.PrintedTokens.{type_tokens, need_tokens, default_tokens, fields_tokens, closed}
use Rattle.idl_profile.proofs.Each.{Each}
use Rattle.idl_proper.specs.Proper.{DefaultFits, FieldFits, FieldsApart, IsName, TypeFits}
use Rattle.idl_proper.proofs.Proper.{Distinct, distinct-here, each-map, names-new, ids-new, no_keyword, id_fits}

-- ---- what is left out

left_out : {A : Type 0} (b : Bool) (g : Grammar A) (x : A) (ts : Toks) → b ≡ false → Spells (pick b g (give x)) x ts ts
left_out true g x ts e = absurd cc
left_out false g x ts e = (refl, refl)

pub no_ann : (s : Spot) (ts : Toks) → is_mark 40 s.token ≡ false → Spells ann yes (s ∷ ts) (s ∷ ts)
no_ann s ts e = left_out (is_mark 40 s.token) _ yes (s ∷ ts) e

pub no_sep : (s : Spot) (ts : Toks) → is_sep s.token ≡ false → Spells sep yes (s ∷ ts) (s ∷ ts)
no_sep s ts e = left_out (is_sep s.token) _ yes (s ∷ ts) e

-- ---- types

-- the type of the enum or struct of this number
abbrev pub type_for : ℕ → m.MeantNamed → m.Ty
type_for n (m.enum_of w xs) = m.enum n
type_for n (m.struct_of w fs) = m.struct n

-- the names of the definition, of which these enums and structs are the first, are looked up in the entries
abbrev pub Knows : List m.MeantNamed → List m.MeantNamed → List m.Entry → Type 0
Knows all ns es = (n : ℕ) (x : m.MeantNamed) → slice_get ns n ≡ Some x → IsName (name_at all n) × (m.find (name_at all n) es ≡ Some (type_for n x))

abbrev pub containers : m.Ty → ℕ
containers (m.list x) = suc (containers x)
containers (m.set x) = suc (containers x)
containers (m.map x y) = suc (max (containers x) (containers y))
containers _ = 0

no_scalar : (w : List ℕ) → is_name w ≡ true → scalar_of w ≡ None
unfolding scalar_of
no_scalar w n =
    rw (
      no_keyword w (codes "bool") n refl,
      no_keyword w (codes "byte") n refl,
      no_keyword w (codes "i8") n refl,
      no_keyword w (codes "i16") n refl,
      no_keyword w (codes "i32") n refl,
      no_keyword w (codes "i64") n refl,
      no_keyword w (codes "string") n refl,
      no_keyword w (codes "binary") n refl,
    ) refl

no_container : (w : List ℕ) → is_name w ≡ true → container_of w ≡ None
unfolding container_of
no_container w n = rw (no_keyword w (codes "list") n refl, no_keyword w (codes "set") n refl, no_keyword w (codes "map") n refl) refl

named-type : (es : List m.Entry) (key room : Bool) (w : List ℕ) (t : m.Ty) → is_name w ≡ true → m.find w es ≡ Some t → (key && not (is_key t)) ≡ false → a_type es key room (word w) ≡ Ok (plain t)
named-type es key room w t n e f =
    rw (no_keyword w (codes "float") n refl, no_keyword w (codes "double") n refl, no_scalar w n, no_container w n, n, e, f) refl

scalar-type : (es : List m.Entry) (key room : Bool) (s : BaseType) → a_type es key room (word (scalar_text s)) ≡ Ok (plain (m.scalar s))
unfolding scalar_of
scalar-type es key room k.Flag = refl
scalar-type es key room k.I8 = refl
scalar-type es key room k.I16 = refl
scalar-type es key room k.I32 = refl
scalar-type es key room k.I64 = refl
scalar-type es key room k.Text = refl
scalar-type es key room k.Bytes = refl

list-type : (es : List m.Entry) (key room : Bool) → key ≡ false → room ≡ true → a_type es key room (word (codes "list")) ≡ Ok list_head
unfolding scalar_of container_of
list-type es key room e f = rw (e, f) refl

set-type : (es : List m.Entry) (key room : Bool) → key ≡ false → room ≡ true → a_type es key room (word (codes "set")) ≡ Ok set_head
unfolding scalar_of container_of
set-type es key room e f = rw (e, f) refl

map-type : (es : List m.Entry) (key room : Bool) → key ≡ false → room ≡ true → a_type es key room (word (codes "map")) ≡ Ok map_head
unfolding scalar_of container_of
map-type es key room e f = rw (e, f) refl

any_key : (key : Bool) → (key && not true) ≡ false
any_key true = refl
any_key false = refl

room-is : (d : ℕ) → nat_lt 0 (suc d) ≡ true
room-is d = grind (arith, nat_tests)

pub type-spelled : (all ns : List m.MeantNamed) (es : List m.Entry) → Knows all ns es → (t : m.Ty) (depth : ℕ) (key : Bool) (l : ℕ) (s : Spot) (ts : Toks) → containers t ≤ depth → TypeFits ns key t → is_mark 40 s.token ≡ false
    → Spells (inner es (suc depth) key) t (type_tokens all l t (s ∷ ts)) (s ∷ ts)
unfolding inner
type-spelled all ns es kn (m.scalar c) depth key l s ts h f a =
    (m.scalar c, s ∷ ts, (plain (m.scalar c), s ∷ ts, (scalar-type es key (nat_lt 0 depth) c, refl), (refl, refl)), (yes, s ∷ ts, no_ann s ts a, (refl, refl)))
type-spelled all ns es kn (m.enum n) depth key l s ts h f a =
    let g = kn n (m.enum_of f.0 f.1) f.2 in
    (m.enum n, s ∷ ts, (plain (m.enum n), s ∷ ts, (named-type es key (nat_lt 0 depth) (name_at all n) (m.enum n) g.0.1 g.1 (any_key key), refl), (refl, refl)), (yes, s ∷ ts, no_ann s ts a, (refl, refl)))
type-spelled all ns es kn (m.struct n) depth key l s ts h f a =
    let g = kn n (m.struct_of f.0 f.1) f.2 in
    let no : (key && not false) ≡ false = rw f.3 refl in
    (m.struct n, s ∷ ts, (plain (m.struct n), s ∷ ts, (named-type es key (nat_lt 0 depth) (name_at all n) (m.struct n) g.0.1 g.1 no, refl), (refl, refl)), (yes, s ∷ ts, no_ann s ts a, (refl, refl)))
type-spelled all ns es kn (m.list x) zero key l s ts h f a = absurd (omega arith)
type-spelled all ns es kn (m.list x) (suc d) key l s ts h f a = (
  m.list x,
  s ∷ ts,
  (
    list_head,
    spot (mark 60) l ∷ type_tokens all l x (spot (mark 62) l ∷ s ∷ ts),
    (list-type es key (nat_lt 0 (suc d)) f.0 (room-is d), refl),
    (yes, type_tokens all l x (spot (mark 62) l ∷ s ∷ ts), (refl, refl), (x, spot (mark 62) l ∷ s ∷ ts, type-spelled all ns es kn x d false l (spot (mark 62) l) (s ∷ ts) (omega arith) f.1 refl, (yes, s ∷ ts, (refl, refl), (refl, refl)))),
  ),
  (yes, s ∷ ts, no_ann s ts a, (refl, refl)),
)
type-spelled all ns es kn (m.set x) zero key l s ts h f a = absurd (omega arith)
type-spelled all ns es kn (m.set x) (suc d) key l s ts h f a = (
  m.set x,
  s ∷ ts,
  (
    set_head,
    spot (mark 60) l ∷ type_tokens all l x (spot (mark 62) l ∷ s ∷ ts),
    (set-type es key (nat_lt 0 (suc d)) f.0 (room-is d), refl),
    (yes, type_tokens all l x (spot (mark 62) l ∷ s ∷ ts), (refl, refl), (x, spot (mark 62) l ∷ s ∷ ts, type-spelled all ns es kn x d true l (spot (mark 62) l) (s ∷ ts) (omega arith) f.1 refl, (yes, s ∷ ts, (refl, refl), (refl, refl)))),
  ),
  (yes, s ∷ ts, no_ann s ts a, (refl, refl)),
)
type-spelled all ns es kn (m.map x y) zero key l s ts h f a = absurd (omega arith)
type-spelled all ns es kn (m.map x y) (suc d) key l s ts h f a =
    let behind : Toks = type_tokens all l y (spot (mark 62) l ∷ s ∷ ts) in (
      m.map x y,
      s ∷ ts,
      (
        map_head,
        spot (mark 60) l ∷ type_tokens all l x (spot (mark 44) l ∷ behind),
        (map-type es key (nat_lt 0 (suc d)) f.0 (room-is d), refl),
        (
          yes,
          type_tokens all l x (spot (mark 44) l ∷ behind),
          (refl, refl),
          (
            x,
            spot (mark 44) l ∷ behind,
            type-spelled all ns es kn x d true l (spot (mark 44) l) behind (omega arith) f.1 refl,
            (
              yes,
              behind,
              (refl, refl),
              (
                y,
                spot (mark 62) l ∷ s ∷ ts,
                type-spelled all ns es kn y d false l (spot (mark 62) l) (s ∷ ts) (omega arith) f.2 refl,
                (yes, s ∷ ts, (refl, refl), (refl, refl)),
              ),
            ),
          ),
        ),
      ),
      (yes, s ∷ ts, no_ann s ts a, (refl, refl)),
    )

-- ---- required and optional

name-need : (w : List ℕ) → is_name w ≡ true → a_need (word w) ≡ None
name-need w n = rw (no_keyword w (codes "required") n refl, no_keyword w (codes "optional") n refl) refl

no_need-if : (o : Option Need) (ts : Toks) → o ≡ None → Spells (if_need o) Plain ts ts
no_need-if None ts e = (refl, refl)
no_need-if (Some n) ts e = absurd cc

no_need : (all ns : List m.MeantNamed) (es : List m.Entry) → Knows all ns es → (key : Bool) (t : m.Ty) (l : ℕ) (ts : Toks) → TypeFits ns key t → Spells (look need_of) Plain (type_tokens all l t ts) (type_tokens all l t ts)
no_need all ns es kn key (m.scalar k.Flag) l ts f = (refl, refl)
no_need all ns es kn key (m.scalar k.I8) l ts f = (refl, refl)
no_need all ns es kn key (m.scalar k.I16) l ts f = (refl, refl)
no_need all ns es kn key (m.scalar k.I32) l ts f = (refl, refl)
no_need all ns es kn key (m.scalar k.I64) l ts f = (refl, refl)
no_need all ns es kn key (m.scalar k.Text) l ts f = (refl, refl)
no_need all ns es kn key (m.scalar k.Bytes) l ts f = (refl, refl)
no_need all ns es kn key (m.enum n) l ts f = let g = kn n (m.enum_of f.0 f.1) f.2 in no_need-if (a_need (word (name_at all n))) (type_tokens all l (m.enum n) ts) (name-need (name_at all n) g.0.1)
no_need all ns es kn key (m.struct n) l ts f = let g = kn n (m.struct_of f.0 f.1) f.2 in no_need-if (a_need (word (name_at all n))) (type_tokens all l (m.struct n) ts) (name-need (name_at all n) g.0.1)
no_need all ns es kn key (m.list x) l ts f = (refl, refl)
no_need all ns es kn key (m.set x) l ts f = (refl, refl)
no_need all ns es kn key (m.map x y) l ts f = (refl, refl)

need-spelled : (all ns : List m.MeantNamed) (es : List m.Entry) → Knows all ns es → (n : Need) (key : Bool) (t : m.Ty) (l : ℕ) (ts : Toks) → TypeFits ns key t → Spells (look need_of) n (need_tokens l n (type_tokens all l t ts)) (type_tokens all l t ts)
need-spelled all ns es kn Plain key t l ts f = no_need all ns es kn key t l ts f
need-spelled all ns es kn Required key t l ts f = (yes, type_tokens all l t ts, (refl, refl), (refl, refl))
need-spelled all ns es kn Optional key t l ts f = (yes, type_tokens all l t ts, (refl, refl), (refl, refl))

-- ---- defaults

pub default-spelled : (ns : List m.MeantNamed) (t : m.Ty) (d : types.Default) (l : ℕ) (s : Spot) (ts : Toks) → DefaultFits t d → is_mark 61 s.token ≡ false → Spells (default ns t) d (default_tokens l t d (s ∷ ts)) (s ∷ ts)
default-spelled ns t types.without l s ts f e = left_out (is_mark 61 s.token) _ types.without (s ∷ ts) e
default-spelled ns t (types.flag_default true) l s ts f e =
    (yes, spot (word (codes "true")) l ∷ s ∷ ts, (refl, refl), (complete (types.flag_default true), s ∷ ts, (ap (λ (z : m.Ty). a_default ns z (word (codes "true"))) f, refl), (refl, refl)))
default-spelled ns t (types.flag_default false) l s ts f e =
    (yes, spot (word (codes "false")) l ∷ s ∷ ts, (refl, refl), (complete (types.flag_default false), s ∷ ts, (ap (λ (z : m.Ty). a_default ns z (word (codes "false"))) f, refl), (refl, refl)))
default-spelled ns t (types.int_default z) l s ts f e = (yes, spot (number (Some z)) l ∷ s ∷ ts, (refl, refl), (complete (types.int_default z), s ∷ ts, (f.0, refl), (refl, refl)))
default-spelled ns t (types.text_default x) l s ts f e = (yes, spot (literal x) l ∷ s ∷ ts, (refl, refl), (complete (types.text_default x), s ∷ ts, (rw f.1 f.0, refl), (refl, refl)))
default-spelled ns (m.scalar c) types.empty_default l s ts f e = absurd f
default-spelled ns (m.enum n) types.empty_default l s ts f e = absurd f
default-spelled ns (m.struct n) types.empty_default l s ts f e = (yes, spot (mark 123) l ∷ spot (mark 125) l ∷ s ∷ ts, (refl, refl), (closed_by 125, spot (mark 125) l ∷ s ∷ ts, (refl, refl), (yes, s ∷ ts, (refl, refl), (refl, refl))))
default-spelled ns (m.list x) types.empty_default l s ts f e = (yes, spot (mark 91) l ∷ spot (mark 93) l ∷ s ∷ ts, (refl, refl), (closed_by 93, spot (mark 93) l ∷ s ∷ ts, (refl, refl), (yes, s ∷ ts, (refl, refl), (refl, refl))))
default-spelled ns (m.set x) types.empty_default l s ts f e = (yes, spot (mark 91) l ∷ spot (mark 93) l ∷ s ∷ ts, (refl, refl), (closed_by 93, spot (mark 93) l ∷ s ∷ ts, (refl, refl), (yes, s ∷ ts, (refl, refl), (refl, refl))))
default-spelled ns (m.map x y) types.empty_default l s ts f e = (yes, spot (mark 123) l ∷ spot (mark 125) l ∷ s ∷ ts, (refl, refl), (closed_by 125, spot (mark 125) l ∷ s ∷ ts, (refl, refl), (yes, s ∷ ts, (refl, refl), (refl, refl))))

-- ---- fields

pub name-is_new : (names : List (List ℕ)) (w : List ℕ) → is_name w ≡ true → is_among names w ≡ false → new_name names (word w) ≡ Ok w
name-is_new names w n e = rw (n, e) refl

typed-spelled : (all ns : List m.MeantNamed) (es : List m.Entry) → Knows all ns es → (before : List m.MeantField) (f : m.MeantField) (l : ℕ) (ts : Toks) → FieldFits ns f → containers f.type ≤ 32 → Each (λ g. FieldsApart g f) before
    → Spells (typed es before) (make_typed f.need f.type f.name) (spot (mark 58) l ∷ need_tokens l f.need (type_tokens all l f.type (spot (word f.name) l ∷ ts))) ts
unfolding typed
typed-spelled all ns es kn before f l ts fits h new =
    let names : is_among (field_names before) f.name ≡ false = names-new (λ g. g.name) before f.name (each-map (λ g. FieldsApart g f) (λ g. g.name ≢ f.name) before (λ g a. a.1) new) in (
      yes,
      need_tokens l f.need (type_tokens all l f.type (spot (word f.name) l ∷ ts)),
      (refl, refl),
      (
        f.need,
        type_tokens all l f.type (spot (word f.name) l ∷ ts),
        need-spelled all ns es kn f.need false f.type l (spot (word f.name) l ∷ ts) fits.1,
        (
          f.type,
          spot (word f.name) l ∷ ts,
          type-spelled all ns es kn f.type 32 false l (spot (word f.name) l) ts h fits.1 refl,
          (f.name, ts, (name-is_new (field_names before) f.name fits.0.1 names, refl), (refl, refl)),
        ),
      ),
    )

field-spelled : (all ns : List m.MeantNamed) (es : List m.Entry) → Knows all ns es → (before : List m.MeantField) (f : m.MeantField) (l : ℕ) (ts : Toks) → FieldFits ns f → containers f.type ≤ 32 → Each (λ g. FieldsApart g f) before
    → Spells (one_field (record { entries = es; named = ns }) before f.id) (added before f)
    (spot (mark 58) l ∷ need_tokens l f.need (type_tokens all l f.type (spot (word f.name) l ∷ default_tokens l f.type f.default (spot (mark 59) l ∷ ts)))) ts
unfolding field
field-spelled all ns es kn before f l ts fits h new = (
  f,
  ts,
  (
    make_typed f.need f.type f.name,
    default_tokens l f.type f.default (spot (mark 59) l ∷ ts),
    typed-spelled all ns es kn before f l (default_tokens l f.type f.default (spot (mark 59) l ∷ ts)) fits h new,
    (
      f.default,
      spot (mark 59) l ∷ ts,
      default-spelled ns f.type f.default l (spot (mark 59) l) ts fits.2 refl,
      (yes, ts, (yes, spot (mark 59) l ∷ ts, (refl, refl), (refl, refl)), (refl, refl)),
    ),
  ),
  (refl, refl),
)

field-id : (before : List m.MeantField) (f : m.MeantField) → Each (λ g. FieldsApart g f) before → id_fits f.id ≡ true → an_id before f.id ≡ Ok f.id
field-id before f new e = rw (ids-new before f.id (each-map (λ g. FieldsApart g f) (λ g. g.id ≢ f.id) before (λ g a. a.0) new), e) refl

-- the fields of a struct, behind these
pub fields-spelled : (all ns : List m.MeantNamed) (es : List m.Entry) → Knows all ns es → (whole before fs : List m.MeantField) (l : ℕ) (rest : ℕ → Toks) → before ++ fs ≡ whole → Distinct FieldsApart whole → Each (FieldFits ns) fs → Each (λ f. containers f.type ≤ 32) fs
    → (n : ℕ) × Spells (fields (record { entries = es; named = ns }) before) whole (fields_tokens all l fs (closed rest)) (closed rest n)
fields-spelled all ns es kn whole before [] l rest e d fits h =
    (l, subst (λ (z : List m.MeantField). Spells (fields (record { entries = es; named = ns }) before) z (closed rest l) (closed rest l)) (sym (append-nil before) ∙ e) (done before (spot (mark 125) l) (rest (l + 1)) refl))
fields-spelled all ns es kn whole before (f ∷ fs) l rest e d fits h =
    let new : Each (λ g. FieldsApart g f) before = distinct-here FieldsApart before f fs (subst (Distinct FieldsApart) (sym e) d) in
    let e2 : added before f ++ fs ≡ whole = append_assoc before (f ∷ []) fs ∙ e in
    let ih = fields-spelled all ns es kn whole (added before f) fs (l + 1) rest e2 d fits.1 h.1 in
    let body = field-spelled all ns es kn before f l (fields_tokens all (l + 1) fs (closed rest)) fits.0 h.0 new in
    (ih.0, more before (added before f) whole f.id (spot (number (Some f.id)) l) _ (fields_tokens all (l + 1) fs (closed rest)) (closed rest ih.0) (ap entered (field-id before f new fits.0.3)) body ih.1)

-- What a text means is proper: enums, structs and the whole.
use Rattle.std.proofs.Common.{◌≡◌, ◌≢◌, ℕ, zero, suc, Bool, true, false, ◌||◌, if◌then◌else◌, List, [], ◌∷◌, ◌++◌, length, Option, Some, None, Result, Ok, Err, refl, sym, ap, ◌∙◌, subst, arith, append_assoc, append-nil}
use Rattle.std.specs.Prelude.{ℤ, pos, ◌+ℤ◌, int_lt, slice_get, is_some}
use Rattle.std.proofs.lemmas.Int.{ints}
use Rattle.idl_grammar.specs.declared.fault.Fault.{Fault}
use Rattle.idl_grammar.specs.declared.fault.Fault.TheVariants as fault
use Rattle.idl_tokens.specs.Tokens.{Tok, word, number, literal, mark, finish, bad, Toks}
use Rattle.idl_grammar.specs.Grammar.{leave, enter, wrong, give, token, next, Spells}
use Rattle.idl_profile.specs.Meaning as m
use Rattle.idl_profile.specs.Types as types
use Rattle.idl_profile.specs.Judged.{yes, a_mark, taken, is_mark, new_name, measured_struct, a_struct_end, Members, no_members, next_number, member_names, is_i32, counted, a_member, a_member_number, Begin, a_namespace, an_include, a_typedef, an_enum, a_struct, a_definition, entry_names}
use Rattle.idl_profile.specs.Text.{pick, type, fields, by_id, Parts, struct_body, struct_parts, with_member, own_number, member, Choice, enum_body, enum_parts, typedef_parts, Item, with_item, item, definition, whole}
use Rattle.idl_proper.specs.Proper.{AllFit, FieldFits, FieldsApart, IsName, IsNew, IsProper, MemberFits, MembersApart, name, NamedFits, TypeFits}
use Rattle.idl_profile.proofs.Each.{Each}
use Rattle.idl_proper.proofs.Proper.{Distinct, distinct-push, each-append, each-map, new-names}
use Rattle.idl_proper.proofs.TokensFit.{TokFits, Fits, left-fits, turns-keep, one-token}
use Rattle.idl_proper.proofs.Meant as meant
use Rattle.idl_proper.proofs.Meant.{passed-test, held-test, ok-same, EntriesFit, type-fits}
use Rattle.idl_proper.proofs.MeantFields.{EnumsFit, FieldsFit, fields-fit}
use Rattle.idl_proper.proofs.Rising.{each-by_id, distinct-by_id, rising-by_id, by_id-rising, same-measures}

-- ---- structs

ids-apart : (fs : List m.MeantField) → Distinct FieldsApart fs → Distinct (λ f g. f.id ≢ g.id) fs
ids-apart [] d = tt
ids-apart (f ∷ fs) d = (each-map (FieldsApart f) (λ g. f.id ≢ g.id) fs (λ g a. a.0) d.0, ids-apart fs d.1)

struct-named : (ns : List m.MeantNamed) (w : List ℕ) (fs : List m.MeantField) → IsName w → FieldsFit ns fs → measured_struct ns fs ≡ Ok yes → NamedFits ns (m.struct_of w (by_id fs))
struct-named ns w fs n h e = (
  n,
  each-by_id (FieldFits ns) fs h.0,
  distinct-by_id FieldsApart (λ f g a. ((λ is. a.0 (sym is)), (λ is. a.1 (sym is)))) fs h.1,
  by_id-rising (by_id fs) (rising-by_id fs (ids-apart fs h.1)),
  sym (same-measures ns fs) ∙ e,
)

struct_end-is : (ns : List m.MeantNamed) (fs : List m.MeantField) (t : Tok) (u : Unit {0}) → a_struct_end ns fs t ≡ Ok u → measured_struct ns fs ≡ Ok yes
struct_end-is ns fs t u e = (held-test (is_mark 125 t) fault.Syntax (measured_struct ns fs) u e).1

body-fits : (ns : List m.MeantNamed) (es : List m.Entry) → EntriesFit ns es → EnumsFit ns → (fs : List m.MeantField) (ts rest : Toks) → Spells (struct_body (record { entries = es; named = ns })) fs ts rest → Fits ts
    → FieldsFit ns fs × (measured_struct ns fs ≡ Ok yes)
unfolding struct_body
body-fits ns es ef nf fs ts rest h f =
    let f1 = left-fits (token (a_mark 123)) h.0 ts h.1 h.2 f in
    let g = h.3 in
    let ff = fields-fit ns es ef nf g.0 h.1 g.1 g.2 f1 in
    let f2 = left-fits (fields (record { entries = es; named = ns }) []) g.0 h.1 g.1 g.2 f1 in
    let e = g.3 in
    let a = one-token (a_struct_end ns g.0) e.0 g.1 e.1 e.2 f2 in
    subst (λ (z : List m.MeantField). FieldsFit ns z × (measured_struct ns z ≡ Ok yes)) e.3.0 (ff, struct_end-is ns g.0 a.0 e.0 a.2)

abbrev NewName : List m.Entry → List ℕ → Type 0
NewName es w = IsName w × Each (λ e. e.name ≢ w) es

name-here : (es : List m.Entry) (w : List ℕ) (ts rest : Toks) → Spells (token (new_name (entry_names es))) w ts rest → Fits ts → NewName es w
name-here es w ts rest h f =
    let a = one-token (new_name (entry_names es)) w ts rest h f in
    let b = meant.new-name (entry_names es) a.0 w a.2 a.1 in
    (b.0, new-names (λ e. e.name) es w b.1)

abbrev PartsFit : List m.MeantNamed → List m.Entry → Parts → Type 0
PartsFit ns es p = NewName es p.name × FieldsFit ns p.fields × (measured_struct ns p.fields ≡ Ok yes)

parts-fit : (ns : List m.MeantNamed) (es : List m.Entry) → EntriesFit ns es → EnumsFit ns → (p : Parts) (ts rest : Toks) → Spells (struct_parts (record { entries = es; named = ns })) p ts rest → Fits ts → PartsFit ns es p
unfolding struct_parts
parts-fit ns es ef nf p ts rest h f =
    let n = name-here es h.0 ts h.1 h.2 f in
    let f1 = left-fits (token (new_name (entry_names es))) h.0 ts h.1 h.2 f in
    let b = h.3 in
    let ff = body-fits ns es ef nf b.0 h.1 b.1 b.2 f1 in
    subst (PartsFit ns es) b.3.3.0 (n, ff.0, ff.1)

-- ---- enums

next_number-is : (z n : ℤ) → is_i32 z ≡ true → next_number z ≡ Some n → is_i32 n ≡ true
next_number-is z n h e = by_test (int_lt z (pos 2147483647)) refl e
  where
    above : int_lt z (pos 2147483647) ≡ true → is_i32 (z +ℤ pos 1) ≡ true
    above t = grind (arith, ints)

    by_test : (b : Bool) → int_lt z (pos 2147483647) ≡ b → (if b then Some (z +ℤ pos 1) else None) ≡ Some n → is_i32 n ≡ true
    by_test true t k = let is : z +ℤ pos 1 ≡ n = cc in subst (λ (x : ℤ). is_i32 x ≡ true) is (above t)
    by_test false t k = absurd cc

abbrev ComingFits : Option ℤ → Type 0
ComingFits None = Unit {0}
ComingFits (Some z) = is_i32 z ≡ true

coming-fits : (z : ℤ) (o : Option ℤ) → is_i32 z ≡ true → next_number z ≡ o → ComingFits o
coming-fits z None h e = tt
coming-fits z (Some n) h e = next_number-is z n h e

member_number-is : (t : Tok) (z : ℤ) → a_member_number t ≡ Ok z → is_i32 z ≡ true
member_number-is (number (Some y)) z e =
    let a = held-test (is_i32 y) fault.BadDefault (Ok y) z e in
    subst (λ (x : ℤ). is_i32 x ≡ true) (ok-same y z a.1) a.0
member_number-is (number None) z e = absurd cc
member_number-is (word w) z e = absurd cc
member_number-is (literal x) z e = absurd cc
member_number-is (mark c) z e = absurd cc
member_number-is finish z e = absurd cc
member_number-is bad z e = absurd cc

own_number-is : (o : Option ℤ) (z : ℤ) (ts rest : Toks) → ComingFits o → Spells (own_number o) z ts rest → Fits ts → is_i32 z ≡ true
own_number-is None z ts rest c h f =
    let f1 = left-fits (token (a_mark 61)) h.0 ts h.1 h.2 f in
    let a = one-token a_member_number z h.1 rest h.3 f1 in
    member_number-is a.0 z a.2
own_number-is (Some n) z [] rest c h f = absurd h
own_number-is (Some n) z (t ∷ ts) rest c h f = by_test (is_mark 61 t.token) h
  where
    by_test : (b : Bool) → Spells (pick b (next (token taken) (λ _. token a_member_number)) (give n)) z (t ∷ ts) rest → is_i32 z ≡ true
    by_test false g = subst (λ (x : ℤ). is_i32 x ≡ true) g.0 c
    by_test true g =
        let f1 = left-fits (token taken) g.0 (t ∷ ts) g.1 g.2 f in
        let a = one-token a_member_number z g.1 rest g.3 f1 in
        member_number-is a.0 z a.2

abbrev MembersFit : Members → Type 0
MembersFit ms = Each MemberFits ms.list × Distinct MembersApart ms.list × ComingFits ms.coming

counted-is : (ms : Members) (after : Tok) (r : Result (List ℕ) Fault) (w : List ℕ) → counted ms after r ≡ enter w → r ≡ Ok w
counted-is ms after (Ok v) w e = by_test (is_some ms.coming || is_mark 61 after) e
  where
    by_test : (b : Bool) → (if b then enter v else wrong fault.BadDefault) ≡ enter w → meant.ok v ≡ meant.ok w
    by_test true k = let is : v ≡ w = cc in ap Ok is
    by_test false k = absurd cc
counted-is ms after (Err d) w e = absurd cc

member-turn : (ms : Members) (t after : Tok) (w : List ℕ) → a_member ms t after ≡ enter w → new_name (member_names ms) t ≡ Ok w
member-turn ms t after w e = by_tests (is_mark 125 t) (is_mark 64 t) e
  where
    by_tests : (p q : Bool) → (if p then leave else (if q then wrong fault.Unsupported else counted ms after (new_name (member_names ms) t))) ≡ enter w → new_name (member_names ms) t ≡ Ok w
    by_tests true q k = absurd cc
    by_tests false true k = absurd cc
    by_tests false false k = counted-is ms after (new_name (member_names ms) t) w k

member-step : (ms : Members) (w : List ℕ) (t after : Tok) (ns : Members) (ts mid : Toks) → TokFits t → Fits ts → a_member ms t after ≡ enter w → Spells (member ms w) ns ts mid → MembersFit ms → MembersFit ns
member-step ms w t after ns ts mid tf f e h holds =
    let n = meant.new-name (member_names ms) t w (member-turn ms t after w e) tf in
    let z = own_number-is ms.coming h.0 ts h.1 holds.2 h.2 f in
    let x : types.Member = record { name = w; number = h.0 } in
    let good : MembersFit (with_member ms w h.0) =
    (each-append MemberFits ms.list (x ∷ []) holds.0 ((n.0, z), tt), distinct-push MembersApart ms.list x holds.1 (new-names (λ y. y.name) ms.list w n.1), coming-fits h.0 (next_number h.0) z refl)
    in
    subst MembersFit h.3.3.0 good

abbrev ListFits : List types.Member → Type 0
ListFits xs = Each MemberFits xs × Distinct MembersApart xs

enum_body-fits : (xs : List types.Member) (ts rest : Toks) → Spells enum_body xs ts rest → Fits ts → ListFits xs
unfolding enum_body
enum_body-fits xs ts rest h f =
    let f1 = left-fits (token (a_mark 123)) h.0 ts h.1 h.2 f in
    let g = h.3 in
    let mf = turns-keep a_member member MembersFit (λ ms w t after ns us mid tf uf e s holds. member-step ms w t after ns us mid tf uf e s holds) no_members g.0 h.1 g.1 g.2 f1 (tt, tt, refl) in
    subst ListFits g.3.3.0 (mf.0, mf.1)

abbrev ChoiceFits : List m.Entry → Choice → Type 0
ChoiceFits es c = NewName es c.name × ListFits c.members

choice-fits : (ns : List m.MeantNamed) (es : List m.Entry) (c : Choice) (ts rest : Toks) → Spells (enum_parts (record { entries = es; named = ns })) c ts rest → Fits ts → ChoiceFits es c
unfolding enum_parts
choice-fits ns es c ts rest h f =
    let n = name-here es h.0 ts h.1 h.2 f in
    let f1 = left-fits (token (new_name (entry_names es))) h.0 ts h.1 h.2 f in
    let b = h.3 in
    subst (ChoiceFits es) b.3.3.0 (n, enum_body-fits b.0 h.1 b.1 b.2 f1)

-- ---- typedefs

abbrev AliasFits : List m.MeantNamed → List m.Entry → m.Entry → Type 0
AliasFits ns es e = NewName es e.name × TypeFits ns false e.type

alias-fits : (ns : List m.MeantNamed) (es : List m.Entry) → EntriesFit ns es → (e : m.Entry) (ts rest : Toks) → Spells (typedef_parts es) e ts rest → Fits ts → AliasFits ns es e
unfolding typedef_parts
alias-fits ns es ef e ts rest h f =
    let t = type-fits ns es ef 33 false h.0 ts h.1 h.2 f in
    let f1 = left-fits (type es 32 false) h.0 ts h.1 h.2 f in
    let b = h.3 in
    let n = name-here es b.0 h.1 b.1 b.2 f1 in
    subst (AliasFits ns es) b.3.3.0 (n, t)

-- ---- the whole

get-grown : {A : Type 0} (xs : List A) (y x : A) (i : ℕ) → slice_get xs i ≡ Some x → slice_get (xs ++ y ∷ []) i ≡ Some x
get-grown [] y x i e = absurd cc
get-grown (z ∷ xs) y x zero e = e
get-grown (z ∷ xs) y x (suc i) e = get-grown xs y x i e

get-pushed : {A : Type 0} (xs : List A) (y : A) → slice_get (xs ++ y ∷ []) (length xs) ≡ Some y
get-pushed [] y = refl
get-pushed (x ∷ xs) y = get-pushed xs y

type-grown : (ns : List m.MeantNamed) (n : m.MeantNamed) (key : Bool) (t : m.Ty) → TypeFits ns key t → TypeFits (ns ++ n ∷ []) key t
type-grown ns n key (m.scalar s) h = tt
type-grown ns n key (m.enum i) h = (h.0, h.1, get-grown ns n (m.enum_of h.0 h.1) i h.2)
type-grown ns n key (m.struct i) h = (h.0, h.1, get-grown ns n (m.struct_of h.0 h.1) i h.2, h.3)
type-grown ns n key (m.list x) h = (h.0, type-grown ns n false x h.1)
type-grown ns n key (m.set x) h = (h.0, type-grown ns n true x h.1)
type-grown ns n key (m.map x y) h = (h.0, type-grown ns n true x h.1, type-grown ns n false y h.2)

all-push : (before ns : List m.MeantNamed) (n : m.MeantNamed) → AllFit before ns → NamedFits (before ++ ns) n → IsNew (before ++ ns) n → AllFit before (ns ++ n ∷ [])
all-push before [] n h f g =
    let e : before ++ [] ≡ before = append-nil before in
    (subst (λ (z : List m.MeantNamed). NamedFits z n) e f, subst (λ (z : List m.MeantNamed). IsNew z n) e g, tt)
all-push before (x ∷ ns) n h f g =
    let e : before ++ x ∷ ns ≡ (before ++ x ∷ []) ++ ns = sym (append_assoc before (x ∷ []) ns) in
    (h.0, h.1, all-push (before ++ x ∷ []) ns n h.2 (subst (λ (z : List m.MeantNamed). NamedFits z n) e f) (subst (λ (z : List m.MeantNamed). IsNew z n) e g))

enums-from : (before ns : List m.MeantNamed) → AllFit before ns → EnumsFit ns
enums-from before [] h n w xs e = absurd cc
enums-from before (m.enum_of v ys ∷ ns) h zero w xs e =
    let o : m.enum_of v ys ≡ m.enum_of w xs = cc in
    let is : ys ≡ xs = cc in
    subst (Each MemberFits) is h.0.1
enums-from before (m.struct_of v fs ∷ ns) h zero w xs e = let o : m.struct_of v fs ≡ m.enum_of w xs = cc in absurd cc
enums-from before (x ∷ ns) h (suc n) w xs e = enums-from (before ++ x ∷ []) ns h.2 n w xs e

-- every enum and struct has its name among the entries
abbrev Covered : List m.Entry → List m.MeantNamed → Type 0
Covered es ns = (w : List ℕ) → Each (λ e. e.name ≢ w) es → Each (λ n. name n ≢ w) ns

pub record ScopeFits (s : m.Scope) : Type 0 where
  pub all : AllFit [] s.named
  pub entries : EntriesFit s.named s.entries
  pub covered : Covered s.entries s.named

each-front : {A : Type 0} (P : A → Type 0) (xs ys : List A) → Each P (xs ++ ys) → Each P xs × Each P ys
each-front P [] ys h = (tt, h)
each-front P (x ∷ xs) ys h = let a = each-front P xs ys h.1 in ((h.0, a.0), a.1)

pushed-fits : (ns : List m.MeantNamed) (es : List m.Entry) (n : m.MeantNamed) (t : m.Ty) → ScopeFits (record { entries = es; named = ns }) → NamedFits ns n → Each (λ e. e.name ≢ name n) es → TypeFits (ns ++ n ∷ []) false t
    → ScopeFits (record { entries = es ++ record { name = name n; type = t } ∷ []; named = ns ++ n ∷ [] })
pushed-fits ns es n t h f new tf = record {
  all = all-push [] ns n h.all f (h.covered (name n) new);
  entries = each-append (λ e. TypeFits (ns ++ n ∷ []) false e.type) es (record { name = name n; type = t } ∷ []) (each-map (λ e. TypeFits ns false e.type) (λ e. TypeFits (ns ++ n ∷ []) false e.type) es (λ e g. type-grown ns n false e.type g) h.entries) (tf, tt);
  covered = λ w e. let a = each-front (λ d. d.name ≢ w) es (record { name = name n; type = t } ∷ []) e in each-append (λ x. name x ≢ w) ns (n ∷ []) (h.covered w a.0) (a.1.0, tt);
}

alias-scope : (ns : List m.MeantNamed) (es : List m.Entry) (e : m.Entry) → ScopeFits (record { entries = es; named = ns }) → AliasFits ns es e → ScopeFits (record { entries = es ++ e ∷ []; named = ns })
alias-scope ns es e h f = record {
  all = h.all;
  entries = each-append (λ d. TypeFits ns false d.type) es (e ∷ []) h.entries (f.1, tt);
  covered = λ w g. h.covered w (each-front (λ d. d.name ≢ w) es (e ∷ []) g).0;
}

item-step : (ns : List m.MeantNamed) (es : List m.Entry) (b : Begin) (i : Item) (ts mid : Toks) → Fits ts → Spells (item (record { entries = es; named = ns }) b) i ts mid → ScopeFits (record { entries = es; named = ns })
    → ScopeFits (with_item (record { entries = es; named = ns }) i)
unfolding item
item-step ns es a_namespace i ts mid f h holds = subst (λ (z : Item). ScopeFits (with_item (record { entries = es; named = ns }) z)) h.3.0 holds
item-step ns es an_include i ts mid f h holds = subst (λ (z : Item). ScopeFits (with_item (record { entries = es; named = ns }) z)) h.3.0 holds
item-step ns es a_typedef i ts mid f h holds =
    let a = alias-fits ns es holds.entries h.0 ts h.1 h.2 f in
    subst (λ (z : Item). ScopeFits (with_item (record { entries = es; named = ns }) z)) h.3.0 (alias-scope ns es h.0 holds a)
item-step ns es an_enum i ts mid f h holds =
    let c = choice-fits ns es h.0 ts h.1 h.2 f in
    let n : m.MeantNamed = m.enum_of h.0.name h.0.members in
    let fits : NamedFits ns n = (c.0.0, c.1.0, c.1.1) in
    subst (λ (z : Item). ScopeFits (with_item (record { entries = es; named = ns }) z)) h.3.0 (pushed-fits ns es n (m.enum (length ns)) holds fits c.0.1 (h.0.name, h.0.members, get-pushed ns n))
item-step ns es a_struct i ts mid f h holds =
    let p = parts-fit ns es holds.entries (enums-from [] ns holds.all) h.0 ts h.1 h.2 f in
    let n : m.MeantNamed = m.struct_of h.0.name (by_id h.0.fields) in
    let fits : NamedFits ns n = struct-named ns h.0.name h.0.fields p.0.0 p.1 p.2 in
    subst (λ (z : Item). ScopeFits (with_item (record { entries = es; named = ns }) z)) h.3.0 (pushed-fits ns es n (m.struct (length ns)) holds fits p.0.1 (h.0.name, by_id h.0.fields, get-pushed ns n, refl))

definition-step : (s : m.Scope) (b : Begin) (t after : Tok) (e : m.Scope) (ts mid : Toks) → TokFits t → Fits ts → a_definition s t after ≡ enter b → Spells (definition s b) e ts mid → ScopeFits s → ScopeFits e
definition-step s b t after e ts mid tf f is h holds = subst ScopeFits h.3.0 (item-step s.named s.entries b h.0 ts h.1 f h.2 holds)

-- What some text means is proper.
pub meant-proper : (s : m.Scope) (ts rest : Toks) → Spells whole s ts rest → Fits ts → IsProper s.named
meant-proper s ts rest h f =
    (turns-keep a_definition definition ScopeFits (λ a b t after e us mid tf uf is g holds. definition-step a b t after e us mid tf uf is g holds) m.nothing_yet s ts rest h f (record { all = tt; entries = tt; covered = λ w e. tt })).all

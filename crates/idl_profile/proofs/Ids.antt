-- The ids of the fields of a struct: no two are the same, so by rising id each is less than the next.
use Rattle.std.proofs.Common.{◌≡◌, ◌≢◌, ℕ, Bool, true, false, ◌==◌, ◌&&◌, if◌then◌else◌, List, [], ◌∷◌, ◌++◌, Some, None, Result, Ok, Err, refl, ap, subst}
use Rattle.std.specs.Prelude.{ℤ, pos, int_le}
use Rattle.std.specs.List.{list_any}
use Rattle.std.specs.Ordering.{int_eq}
use Rattle.std.proofs.lemmas.Bool.Decides.{Decides-int_eq}
use Rattle.idl_grammar.specs.declared.fault.Fault.{Fault}
use Rattle.idl_grammar.specs.declared.fault.Fault.TheVariants as fault
use Rattle.idl_tokens.specs.Tokens.{Tok, word, number, literal, mark, finish, bad, Toks}
use Rattle.idl_grammar.specs.Grammar.{Grammar, Turn, leave, enter, wrong, Turns, done, more, Spells}
use Rattle.idl_profile.specs.Meaning as m
use Rattle.idl_profile.specs.Judged.{an_id, entered, a_field, ids, Begin, a_namespace, an_include, a_typedef, an_enum, a_struct, a_definition}
use Rattle.idl_profile.specs.Text.{make_field, field, one_field, fields, added, by_id, Parts, struct_body, struct_parts, Item, with_item, item, definition, whole}
use Rattle.idl_profile.proofs.Each.{Each, each-append, each-map, Distinct, distinct-push, neither}
use Rattle.idl_profile.proofs.Rising.{Below, rising-by_id}

abbrev pub id_fits : ℤ → Bool
id_fits z = int_le (pos 1) z && int_le z (pos 32767)

int_false : (y z : ℤ) → y ≢ z → int_eq y z ≡ false
int_false y z ne = by_test (int_eq y z) refl
  where
    by_test : (b : Bool) → int_eq y z ≡ b → b ≡ false
    by_test true e = absurd (ne ((Decides-int_eq y z).0 e))
    by_test false e = refl

pub ids-new : (fs : List m.MeantField) (z : ℤ) → Each (λ f. f.id ≢ z) fs → list_any (λ i. int_eq i z) (ids fs) ≡ false
ids-new [] z h = refl
ids-new (f ∷ fs) z h = rw (int_false f.id z h.0) (ids-new fs z h.1)

pub new-ids : (fs : List m.MeantField) (z : ℤ) → list_any (λ i. int_eq i z) (ids fs) ≡ false → Each (λ f. f.id ≢ z) fs
new-ids [] z h = tt
new-ids (f ∷ fs) z h = let a = neither (int_eq f.id z) (list_any (λ i. int_eq i z) (ids fs)) h in ((λ is. let t = (Decides-int_eq f.id z).1 is in cc), new-ids fs z a.1)

-- a test that did not refuse
pub passed-test : {A : Type 0} (b : Bool) (e : Fault) (r : Result A Fault) (x : A) → (if b then Err e else r) ≡ Ok x → (b ≡ false) × (r ≡ Ok x)
passed-test true e r x h = absurd cc
passed-test false e r x h = (refl, h)

pub held-test : {A : Type 0} (b : Bool) (e : Fault) (r : Result A Fault) (x : A) → (if b then r else Err e) ≡ Ok x → (b ≡ true) × (r ≡ Ok x)
held-test true e r x h = (refl, h)
held-test false e r x h = absurd cc

abbrev pub ok : {A : Type 0} → A → Result A Fault
ok x = Ok x

pub ok-same : {A : Type 0} (x y : A) → ok x ≡ ok y → x ≡ y
ok-same x y e = cc

an_id-is : (fs : List m.MeantField) (z i : ℤ) → an_id fs z ≡ Ok i → (z ≡ i) × (list_any (λ j. int_eq j z) (ids fs) ≡ false) × (id_fits z ≡ true)
an_id-is fs z i e =
    let a = passed-test (list_any (λ j. int_eq j z) (ids fs)) fault.RepeatedId (if id_fits z then Ok z else Err fault.BadId) i e in
    let b = held-test (id_fits z) fault.BadId (Ok z) i a.1 in
    (ok-same z i b.1, a.0, b.0)

entered-is : {B : Type 0} (r : Result B Fault) (b : B) → entered r ≡ enter b → r ≡ Ok b
entered-is (Ok c) b e = let is : c ≡ b = cc in ap Ok is
entered-is (Err f) b e = absurd cc

no_turn : {B : Type 0} (p q : Bool) (b : B) → (if p then leave else (if q then wrong fault.Unsupported else wrong fault.Syntax)) ≡ enter b → ⊥
no_turn true q b e = cc
no_turn false true b e = cc
no_turn false false b e = cc

pub field-turn : (fs : List m.MeantField) (t after : Tok) (i : ℤ) → a_field fs t after ≡ enter i → (list_any (λ j. int_eq j i) (ids fs) ≡ false) × (id_fits i ≡ true)
field-turn fs (number (Some z)) after i e =
    let a = an_id-is fs z i (entered-is (an_id fs z) i e) in
    subst (λ (x : ℤ). (list_any (λ j. int_eq j x) (ids fs) ≡ false) × (id_fits x ≡ true)) a.0 (a.1, a.2)
field-turn fs (number None) after i e = absurd cc
field-turn fs (word w) after i e = absurd cc
field-turn fs (literal x) after i e = absurd cc
field-turn fs (mark c) after i e = absurd (no_turn (c == 125) (c == 64) i e)
field-turn fs finish after i e = absurd cc
field-turn fs bad after i e = absurd cc

-- ---- what some tokens spell

-- what each turn keeps holds in the end
turns-hold : {S B : Type 0} (turn : S → Tok → Tok → Turn B) (g : S → B → Grammar S) (Holds : S → Type 0)
    → ((s : S) (b : B) (t after : Tok) (m : S) (ts mid : Toks) → turn s t after ≡ enter b → Spells (g s b) m ts mid → Holds s → Holds m)
    → (s e : S) (ts rest : Toks) → Turns turn (λ m b x. Spells (g m b) x) s e ts rest → Holds s → Holds e
turns-hold turn g Holds step _ _ _ _ (done s t ts q) h = h
turns-hold turn g Holds step _ _ _ _ (more s m e b t ts mid rest q is others) h = turns-hold turn g Holds step m e mid rest others (step s b t.token _ m ts mid q is h)

abbrev pub IdsApart : m.MeantField → m.MeantField → Type 0
IdsApart f g = f.id ≢ g.id

field-step : (scope : m.Scope) (fs : List m.MeantField) (i : ℤ) (t after : Tok) (gs : List m.MeantField) (ts mid : Toks) → a_field fs t after ≡ enter i → Spells (one_field scope fs i) gs ts mid → Distinct IdsApart fs → Distinct IdsApart gs
unfolding field
field-step scope fs i t after gs ts mid e h holds =
    let x = h.2 in
    let d = x.3 in
    let one : m.MeantField = make_field i x.0 d.0 in
    let good : Distinct IdsApart (added fs one) = distinct-push IdsApart fs one holds (new-ids fs i (field-turn fs t after i e).0) in
    subst (Distinct IdsApart) h.3.0 (subst (λ (g : m.MeantField). Distinct IdsApart (added fs g)) d.3.3.0 good)

body-apart : (scope : m.Scope) (fs : List m.MeantField) (ts rest : Toks) → Spells (struct_body scope) fs ts rest → Distinct IdsApart fs
unfolding struct_body
body-apart scope fs ts rest h =
    let g = h.3 in
    let apart = turns-hold a_field (one_field scope) (Distinct IdsApart) (λ s b t after m ts mid e is holds. field-step scope s b t after m ts mid e is holds) [] g.0 h.1 g.1 g.2 tt in
    subst (Distinct IdsApart) g.3.3.0 apart

parts-apart : (scope : m.Scope) (p : Parts) (ts rest : Toks) → Spells (struct_parts scope) p ts rest → Distinct IdsApart p.fields
unfolding struct_parts
parts-apart scope p ts rest h = let b = h.3 in subst (λ (z : Parts). Distinct IdsApart z.fields) b.3.3.0 (body-apart scope b.0 h.1 b.1 b.2)

-- the ids of a struct rise
abbrev pub NamedRises : m.MeantNamed → Type 0
NamedRises (m.enum_of w xs) = Unit {0}
NamedRises (m.struct_of w fs) = Distinct Below fs

abbrev ScopeRises : m.Scope → Type 0
ScopeRises s = Each NamedRises s.named

item-rises : (s : m.Scope) (b : Begin) (i : Item) (ts mid : Toks) → Spells (item s b) i ts mid → ScopeRises s → ScopeRises (with_item s i)
unfolding item
item-rises s a_namespace i ts mid h holds = subst (λ (z : Item). ScopeRises (with_item s z)) h.3.0 holds
item-rises s an_include i ts mid h holds = subst (λ (z : Item). ScopeRises (with_item s z)) h.3.0 holds
item-rises s a_typedef i ts mid h holds = subst (λ (z : Item). ScopeRises (with_item s z)) h.3.0 holds
item-rises s an_enum i ts mid h holds =
    subst (λ (z : Item). ScopeRises (with_item s z)) h.3.0 (each-append NamedRises s.named (m.enum_of h.0.name h.0.members ∷ []) holds (tt, tt))
item-rises s a_struct i ts mid h holds =
    let rises = rising-by_id h.0.fields (parts-apart s h.0 ts h.1 h.2) in
    subst (λ (z : Item). ScopeRises (with_item s z)) h.3.0 (each-append NamedRises s.named (m.struct_of h.0.name (by_id h.0.fields) ∷ []) holds (rises, tt))

-- in what some tokens spell, the ids of each struct rise
pub whole-rises : (s : m.Scope) (ts rest : Toks) → Spells whole s ts rest → Each NamedRises s.named
whole-rises s ts rest h =
    turns-hold a_definition definition ScopeRises (λ a b t after e us mid q is holds. subst ScopeRises is.3.0 (item-rises a b is.0 us is.1 is.2 holds)) m.nothing_yet s ts rest h tt

-- What a text means is proper: defaults and fields.
use Rattle.idl_profile.proofs.Ids.{field-turn}
use Rattle.std.proofs.Common.{◌≡◌, ◌≢◌, ℕ, Bool, true, false, ◌==◌, ◌&&◌, ◌||◌, if◌then◌else◌, List, [], ◌∷◌, ◌++◌, Option, Some, None, Ok, Err, refl, sym, ◌∙◌, subst, arith}
use Rattle.std.specs.Prelude.{ℤ, pos, negsuc, int_le, codes, slice_get}
use Rattle.std.specs.Ordering.{int_eq}
use Rattle.std.specs.Str.{bytes_eq}
use Rattle.std.proofs.lemmas.Int.{ints}
use Rattle.std.proofs.lemmas.Bool.Decides.{nat_tests}
use Rattle.idl_grammar.specs.declared.fault.Fault.TheVariants as fault
use Rattle.idl_tokens.specs.Tokens.{Tok, word, number, literal, mark, finish, bad, Toks}
use Rattle.idl_grammar.specs.Grammar.{enter, give, token, next, look, Spells}
use Rattle.idl_profile.specs.declared.kinds.BaseType.TheVariants as k
use Rattle.idl_profile.specs.Meaning as m
use Rattle.idl_profile.specs.Types as types
use Rattle.name_index.specs.Names.{is_among}
use Rattle.idl_profile.specs.Judged.{a_mark, taken, is_mark, has_backslash, new_name, a_field, Start, complete, closed_by, an_int, number_default, literal_default, member_number, enum_members, word_default, bracket_default, brace_default, a_default, is_i32, field_names}
use Rattle.idl_profile.specs.Text.{pick, start, need_of, type, default, typed, Typed, field, make_field, one_field, fields, added}
use Rattle.idl_proper.specs.Proper.{DefaultFits, FieldFits, FieldsApart, HasEmpty, Is64, IsLiteral, IsName, MemberFits, TypeFits}
use Rattle.idl_profile.proofs.Each.{Each}
use Rattle.idl_proper.proofs.Proper.{Distinct, distinct-push, each-append, new-names, new-ids, id_fits}
use Rattle.idl_proper.proofs.TokensFit.{TokFits, Fits, left-fits, turns-keep, one-token}
use Rattle.idl_proper.proofs.Meant as meant
use Rattle.idl_proper.proofs.Meant.{passed-test, held-test, ok-same, EntriesFit, type-fits}

-- ---- numbers

i32-most : (z : ℤ) → is_i32 z ≡ true → (int_le (negsuc 2147483647) z && int_le z (pos 2147483647)) ≡ true
i32-most z h = grind (arith, ints)

pub i32-64 : (z : ℤ) → is_i32 z ≡ true → Is64 z
i32-64 (pos n) h = grind (arith, ints, nat_tests)
i32-64 (negsuc n) h = grind (arith, ints, nat_tests)

pub id-64 : (z : ℤ) → id_fits z ≡ true → Is64 z
id-64 (pos n) h = grind (arith, ints, nat_tests)
id-64 (negsuc n) h = grind (arith, ints, nat_tests)

-- ---- defaults

-- the members of each enum are proper
abbrev pub EnumsFit : List m.MeantNamed → Type 0
EnumsFit ns = (n : ℕ) (w : List ℕ) (xs : List types.Member) → slice_get ns n ≡ Some (m.enum_of w xs) → Each MemberFits xs

abbrev StartFits : m.Ty → Start → Type 0
StartFits t (complete d) = DefaultFits t d
StartFits t (closed_by c) = HasEmpty t

start-same : (t : m.Ty) (a b : Start) → meant.ok a ≡ meant.ok b → StartFits t a → StartFits t b
start-same t a b e f = subst (StartFits t) (ok-same a b e) f

an_int-fits : (t : m.Ty) (low high z : ℤ) (s : Start) → Is64 z → number_default t z ≡ an_int low high z → an_int low high z ≡ Ok s → StartFits t s
an_int-fits t low high z s r is e =
    let a = held-test (int_le low z && int_le z high) fault.BadDefault (Ok (complete (types.int_default z))) s e in
    start-same t (complete (types.int_default z)) s a.1 (is ∙ e ∙ sym a.1, r)

number-fits : (t : m.Ty) (z : ℤ) (s : Start) → Is64 z → number_default t z ≡ Ok s → StartFits t s
number-fits (m.scalar k.Flag) z s r e = by_tests (int_eq z (pos 0)) (int_eq z (pos 1)) e
  where
    by_tests : (p q : Bool) → (if p then Ok (complete (types.flag_default false)) else (if q then Ok (complete (types.flag_default true)) else Err fault.BadDefault)) ≡ Ok s → StartFits (m.scalar k.Flag) s
    by_tests true q h = start-same (m.scalar k.Flag) (complete (types.flag_default false)) s h refl
    by_tests false true h = start-same (m.scalar k.Flag) (complete (types.flag_default true)) s h refl
    by_tests false false h = absurd cc
number-fits (m.scalar k.I8) z s r e = an_int-fits (m.scalar k.I8) (negsuc 127) (pos 127) z s r refl e
number-fits (m.scalar k.I16) z s r e = an_int-fits (m.scalar k.I16) (negsuc 32767) (pos 32767) z s r refl e
number-fits (m.scalar k.I32) z s r e = an_int-fits (m.scalar k.I32) (negsuc 2147483647) (pos 2147483647) z s r refl e
number-fits (m.scalar k.I64) z s r e = start-same (m.scalar k.I64) (complete (types.int_default z)) s e (refl, r)
number-fits (m.scalar k.Text) z s r e = absurd cc
number-fits (m.scalar k.Bytes) z s r e = absurd cc
number-fits (m.enum n) z s r e = an_int-fits (m.enum n) (negsuc 2147483647) (pos 2147483647) z s r refl e
number-fits (m.struct n) z s r e = absurd cc
number-fits (m.list x) z s r e = absurd cc
number-fits (m.set x) z s r e = absurd cc
number-fits (m.map x y) z s r e = absurd cc

literal-fits : (t : m.Ty) (x : List ℕ) (s : Start) → has_backslash x ≡ false → IsLiteral x → literal_default t x ≡ Ok s → StartFits t s
literal-fits (m.scalar k.Flag) x s b l e = absurd cc
literal-fits (m.scalar k.I8) x s b l e = absurd cc
literal-fits (m.scalar k.I16) x s b l e = absurd cc
literal-fits (m.scalar k.I32) x s b l e = absurd cc
literal-fits (m.scalar k.I64) x s b l e = absurd cc
literal-fits (m.scalar k.Text) x s b l e = start-same (m.scalar k.Text) (complete (types.text_default x)) s e (refl, b, l)
literal-fits (m.scalar k.Bytes) x s b l e = start-same (m.scalar k.Bytes) (complete (types.text_default x)) s e (refl, b, l)
literal-fits (m.enum n) x s b l e = absurd cc
literal-fits (m.struct n) x s b l e = absurd cc
literal-fits (m.list y) x s b l e = absurd cc
literal-fits (m.set y) x s b l e = absurd cc
literal-fits (m.map y z) x s b l e = absurd cc

member-fits : (n : ℕ) (name : List ℕ) (xs : List types.Member) (w : List ℕ) (s : Start) → Each MemberFits xs → member_number name xs w ≡ Ok s → StartFits (m.enum n) s
member-fits n name [] w s f e = absurd cc
member-fits n name (x ∷ xs) w s f e = by_test (λ k. member-fits n name xs w s f.1 k) (bytes_eq x.name w || bytes_eq (name ++ 46 ∷ x.name) w) e
  where
    by_test : (member_number name xs w ≡ Ok s → StartFits (m.enum n) s) → (b : Bool) → (if b then Ok (complete (types.int_default x.number)) else member_number name xs w) ≡ Ok s → StartFits (m.enum n) s
    by_test ih true h = start-same (m.enum n) (complete (types.int_default x.number)) s h (rw (i32-most x.number f.0.1) refl, i32-64 x.number f.0.1)
    by_test ih false h = ih h

enum-fits : (n : ℕ) (o : Option m.MeantNamed) (w : List ℕ) (s : Start) → ((v : List ℕ) (xs : List types.Member) → o ≡ Some (m.enum_of v xs) → Each MemberFits xs) → enum_members o w ≡ Ok s → StartFits (m.enum n) s
enum-fits n None w s f e = absurd cc
enum-fits n (Some (m.enum_of v xs)) w s f e = member-fits n v xs w s (f v xs refl) e
enum-fits n (Some (m.struct_of v fs)) w s f e = absurd cc

word-fits : (ns : List m.MeantNamed) → EnumsFit ns → (t : m.Ty) (w : List ℕ) (s : Start) → word_default ns t w ≡ Ok s → StartFits t s
word-fits ns ef (m.scalar k.Flag) w s e = by_tests (bytes_eq w (codes "true")) (bytes_eq w (codes "false")) e
  where
    by_tests : (p q : Bool) → (if p then Ok (complete (types.flag_default true)) else (if q then Ok (complete (types.flag_default false)) else Err fault.BadDefault)) ≡ Ok s → StartFits (m.scalar k.Flag) s
    by_tests true q h = start-same (m.scalar k.Flag) (complete (types.flag_default true)) s h refl
    by_tests false true h = start-same (m.scalar k.Flag) (complete (types.flag_default false)) s h refl
    by_tests false false h = absurd cc
word-fits ns ef (m.scalar k.I8) w s e = absurd cc
word-fits ns ef (m.scalar k.I16) w s e = absurd cc
word-fits ns ef (m.scalar k.I32) w s e = absurd cc
word-fits ns ef (m.scalar k.I64) w s e = absurd cc
word-fits ns ef (m.scalar k.Text) w s e = absurd cc
word-fits ns ef (m.scalar k.Bytes) w s e = absurd cc
word-fits ns ef (m.enum n) w s e = enum-fits n (slice_get ns n) w s (ef n) e
word-fits ns ef (m.struct n) w s e = absurd cc
word-fits ns ef (m.list x) w s e = absurd cc
word-fits ns ef (m.set x) w s e = absurd cc
word-fits ns ef (m.map x y) w s e = absurd cc

bracket-fits : (t : m.Ty) (s : Start) → bracket_default t ≡ Ok s → StartFits t s
bracket-fits (m.scalar x) s e = absurd cc
bracket-fits (m.enum n) s e = absurd cc
bracket-fits (m.struct n) s e = absurd cc
bracket-fits (m.list x) s e = start-same (m.list x) (closed_by 93) s e tt
bracket-fits (m.set x) s e = start-same (m.set x) (closed_by 93) s e tt
bracket-fits (m.map x y) s e = absurd cc

brace-fits : (t : m.Ty) (s : Start) → brace_default t ≡ Ok s → StartFits t s
brace-fits (m.scalar x) s e = absurd cc
brace-fits (m.enum n) s e = absurd cc
brace-fits (m.struct n) s e = start-same (m.struct n) (closed_by 125) s e tt
brace-fits (m.list x) s e = absurd cc
brace-fits (m.set x) s e = start-same (m.set x) (closed_by 125) s e tt
brace-fits (m.map x y) s e = start-same (m.map x y) (closed_by 125) s e tt

mark-fits : (t : m.Ty) (p q : Bool) (s : Start) → (if p then bracket_default t else (if q then brace_default t else Err fault.Syntax)) ≡ Ok s → StartFits t s
mark-fits t true q s e = bracket-fits t s e
mark-fits t false true s e = brace-fits t s e
mark-fits t false false s e = absurd cc

start-fits : (ns : List m.MeantNamed) → EnumsFit ns → (t : m.Ty) (x : Tok) (s : Start) → TokFits x → a_default ns t x ≡ Ok s → StartFits t s
start-fits ns ef t (word w) s f e = word-fits ns ef t w s e
start-fits ns ef t (number None) s f e = absurd cc
start-fits ns ef t (number (Some z)) s f e = number-fits t z s f e
start-fits ns ef t (literal x) s f e = let a = passed-test (has_backslash x) fault.Unsupported (literal_default t x) s e in literal-fits t x s a.0 f a.1
start-fits ns ef t (mark c) s f e = mark-fits t (c == 91) (c == 123) s e
start-fits ns ef t finish s f e = absurd cc
start-fits ns ef t bad s f e = absurd cc

started : (t : m.Ty) (s : Start) (d : types.Default) (ts rest : Toks) → Spells (start s) d ts rest → StartFits t s → DefaultFits t d
started t (complete x) d ts rest h f = subst (DefaultFits t) h.0 f
started t (closed_by c) d ts rest h f = subst (DefaultFits t) h.3.0 f

pub default-fits : (ns : List m.MeantNamed) → EnumsFit ns → (t : m.Ty) (d : types.Default) (ts rest : Toks) → Spells (default ns t) d ts rest → Fits ts → DefaultFits t d
default-fits ns ef t d [] rest h f = absurd h
default-fits ns ef t d (x ∷ ts) rest h f = by_test (is_mark 61 x.token) h
  where
    by_test : (b : Bool) → Spells (pick b (next (token taken) (λ _. next (token (a_default ns t)) start)) (give types.without)) d (x ∷ ts) rest → DefaultFits t d
    by_test false g = subst (DefaultFits t) g.0 tt
    by_test true g =
        let f1 = left-fits (token taken) g.0 (x ∷ ts) g.1 g.2 f in
        let a = one-token (a_default ns t) g.3.0 g.1 g.3.1 g.3.2 f1 in
        started t g.3.0 d g.3.1 rest g.3.3 (start-fits ns ef t a.0 g.3.0 a.1 a.2)

-- ---- fields

abbrev TypedFits : List m.MeantNamed → List m.MeantField → Typed → Type 0
TypedFits ns fs p = IsName p.name × TypeFits ns false p.type × (is_among (field_names fs) p.name ≡ false)

typed-fits : (ns : List m.MeantNamed) (es : List m.Entry) → EntriesFit ns es → (fs : List m.MeantField) (p : Typed) (ts rest : Toks) → Spells (typed es fs) p ts rest → Fits ts → TypedFits ns fs p
unfolding typed
typed-fits ns es ef fs p ts rest h f =
    let f1 = left-fits (token (a_mark 58)) h.0 ts h.1 h.2 f in
    let n = h.3 in
    let f2 = left-fits (look need_of) n.0 h.1 n.1 n.2 f1 in
    let t = n.3 in
    let tf = type-fits ns es ef 33 false t.0 n.1 t.1 t.2 f2 in
    let f3 = left-fits (type es 32 false) t.0 n.1 t.1 t.2 f2 in
    let w = t.3 in
    let a = one-token (new_name (field_names fs)) w.0 t.1 w.1 w.2 f3 in
    let b = meant.new-name (field_names fs) a.0 w.0 a.2 a.1 in
    subst (TypedFits ns fs) w.3.0 (b.0, tf, b.1)

abbrev pub FieldsFit : List m.MeantNamed → List m.MeantField → Type 0
FieldsFit ns fs = Each (FieldFits ns) fs × Distinct FieldsApart fs

both-apart : (f : m.MeantField) (fs : List m.MeantField) → Each (λ g. g.id ≢ f.id) fs → Each (λ g. g.name ≢ f.name) fs → Each (λ g. FieldsApart g f) fs
both-apart f [] a b = tt
both-apart f (g ∷ fs) a b = ((a.0, b.0), both-apart f fs a.1 b.1)

field-step : (ns : List m.MeantNamed) (es : List m.Entry) → EntriesFit ns es → EnumsFit ns → (fs : List m.MeantField) (i : ℤ) (t after : Tok) (gs : List m.MeantField) (ts mid : Toks)
    → TokFits t → Fits ts → a_field fs t after ≡ enter i → Spells (one_field (record { entries = es; named = ns }) fs i) gs ts mid → FieldsFit ns fs → FieldsFit ns gs
unfolding field
field-step ns es ef nf fs i t after gs ts mid tf f e h holds =
    let id = field-turn fs t after i e in
    let x = h.2 in
    let p = x.0 in
    let tp = typed-fits ns es ef fs p ts x.1 x.2 f in
    let f1 = left-fits (typed es fs) p ts x.1 x.2 f in
    let d = x.3 in
    let df = default-fits ns nf p.type d.0 x.1 d.1 d.2 f1 in
    let one : m.MeantField = make_field i p d.0 in
    let fits : FieldFits ns one = (tp.0, tp.1, df, id.1) in
    let apart : Each (λ g. FieldsApart g one) fs = both-apart one fs (new-ids fs i id.0) (new-names (λ g. g.name) fs p.name tp.2) in
    let good : FieldsFit ns (added fs one) = (each-append (FieldFits ns) fs (one ∷ []) holds.0 (fits, tt), distinct-push FieldsApart fs one holds.1 apart) in
    subst (FieldsFit ns) h.3.0 (subst (λ (g : m.MeantField). FieldsFit ns (added fs g)) d.3.3.0 good)

pub fields-fit : (ns : List m.MeantNamed) (es : List m.Entry) → EntriesFit ns es → EnumsFit ns → (fs : List m.MeantField) (ts rest : Toks) → Spells (fields (record { entries = es; named = ns }) []) fs ts rest → Fits ts → FieldsFit ns fs
fields-fit ns es ef nf fs ts rest h f =
    turns-keep a_field (one_field (record { entries = es; named = ns })) (FieldsFit ns) (λ gs i t after hs us mid tf uf e s holds. field-step ns es ef nf gs i t after hs us mid tf uf e s holds) [] fs ts rest h f (tt, tt)

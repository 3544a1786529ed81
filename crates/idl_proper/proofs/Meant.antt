-- What a text means is proper: names, types, defaults and fields.
pub use Rattle.idl_profile.proofs.Ids.{passed-test, held-test, ok, ok-same}
use Rattle.std.proofs.Common.{◌≡◌, ℕ, zero, suc, Bool, true, false, ◌&&◌, ◌||◌, if◌then◌else◌, List, [], ◌∷◌, Option, Some, None, Ok, Err, refl, subst}
use Rattle.std.specs.Prelude.{not, codes, nat_lt}
use Rattle.std.specs.Str.{bytes_eq}
use Rattle.idl_grammar.specs.declared.fault.Fault.TheVariants as fault
use Rattle.idl_tokens.specs.Tokens.{Tok, word, number, literal, mark, finish, bad, Toks}
use Rattle.idl_grammar.specs.Grammar.{Grammar, token, Spells}
use Rattle.idl_profile.specs.declared.kinds.BaseType.{BaseType}
use Rattle.idl_profile.specs.Meaning as m
use Rattle.name_index.specs.Names.{is_among}
use Rattle.idl_profile.specs.Judged.{a_mark, is_name, new_name, Head, plain, list_head, set_head, map_head, scalar_of, container_of, a_scalar, a_container, a_known_type, a_type, an_open, is_key}
use Rattle.idl_profile.specs.Text.{after_head, inner}
use Rattle.idl_profile.proofs.Each.{Each}
use Rattle.idl_proper.specs.Proper.{IsName, TypeFits}
use Rattle.idl_proper.proofs.TokensFit.{TokFits, Fits, left-fits, one-token}

-- ---- names

pub new-name : (names : List (List ℕ)) (t : Tok) (w : List ℕ) → new_name names t ≡ Ok w → TokFits t → IsName w × (is_among names w ≡ false)
new-name names (word v) w e f =
    let a = held-test (is_name v) fault.Syntax (if is_among names v then Err fault.RepeatedName else Ok v) w e in
    let b = passed-test (is_among names v) fault.RepeatedName (Ok v) w a.1 in
    let is : v ≡ w = ok-same v w b.1 in
    subst (λ (z : List ℕ). IsName z × (is_among names z ≡ false)) is ((f, a.0), b.0)
new-name names (number o) w e f = absurd cc
new-name names (literal x) w e f = absurd cc
new-name names (mark c) w e f = absurd cc
new-name names finish w e f = absurd cc
new-name names bad w e f = absurd cc

-- ---- types

abbrev pub EntriesFit : List m.MeantNamed → List m.Entry → Type 0
EntriesFit ns es = Each (λ e. TypeFits ns false e.type) es

abbrev HeadFits : List m.MeantNamed → Bool → Head → Type 0
HeadFits ns key (plain t) = TypeFits ns key t
HeadFits ns key _ = key ≡ false

find-fits : (ns : List m.MeantNamed) (es : List m.Entry) (w : List ℕ) (t : m.Ty) → EntriesFit ns es → m.find w es ≡ Some t → TypeFits ns false t
find-fits ns [] w t f e = absurd cc
find-fits ns (d ∷ es) w t f e = by_test (λ k. find-fits ns es w t f.1 k) (bytes_eq d.name w) e
  where
    by_test : (m.find w es ≡ Some t → TypeFits ns false t) → (b : Bool) → (if b then Some d.type else m.find w es) ≡ Some t → TypeFits ns false t
    by_test ih true k = let is : d.type ≡ t = cc in subst (TypeFits ns false) is f.0
    by_test ih false k = ih k

key-fits : (ns : List m.MeantNamed) (key : Bool) (t : m.Ty) → (key && not (is_key t)) ≡ false → TypeFits ns false t → TypeFits ns key t
key-fits ns false t e f = f
key-fits ns true (m.scalar s) e f = tt
key-fits ns true (m.enum n) e f = f
key-fits ns true (m.struct n) e f = absurd cc
key-fits ns true (m.list x) e f = absurd cc
key-fits ns true (m.set x) e f = absurd cc
key-fits ns true (m.map x y) e f = absurd cc

head-same : (ns : List m.MeantNamed) (key : Bool) (g h : Head) → ok g ≡ ok h → HeadFits ns key g → HeadFits ns key h
head-same ns key g h e f = subst (HeadFits ns key) (ok-same g h e) f

known-fits : (ns : List m.MeantNamed) (key : Bool) (o : Option m.Ty) (h : Head) → ((t : m.Ty) → o ≡ Some t → TypeFits ns false t) → a_known_type key o ≡ Ok h → HeadFits ns key h
known-fits ns key None h f e = absurd cc
known-fits ns key (Some t) h f e =
    let a = passed-test (key && not (is_key t)) fault.KeyType (Ok (plain t)) h e in
    head-same ns key (plain t) h a.1 (key-fits ns key t a.0 (f t refl))

no_plain-by : (p q r : Bool) (t : m.Ty) → (if p then Some list_head else (if q then Some set_head else (if r then Some map_head else None))) ≡ Some (plain t) → ⊥
no_plain-by true q r t e = let x : list_head ≡ plain t = cc in cc
no_plain-by false true r t e = let x : set_head ≡ plain t = cc in cc
no_plain-by false false true t e = let x : map_head ≡ plain t = cc in cc
no_plain-by false false false t e = cc

no_plain : (w : List ℕ) (t : m.Ty) → container_of w ≡ Some (plain t) → ⊥
unfolding container_of
no_plain w t e = no_plain-by (bytes_eq w (codes "list")) (bytes_eq w (codes "set")) (bytes_eq w (codes "map")) t e

container-fits : (ns : List m.MeantNamed) (es : List m.Entry) (key room : Bool) (w : List ℕ) (o : Option Head) (h : Head) → container_of w ≡ o → EntriesFit ns es → a_container es key room w o ≡ Ok h → HeadFits ns key h
container-fits ns es key room w None h c f e =
    let a = held-test (is_name w) fault.Syntax (a_known_type key (m.find w es)) h e in
    known-fits ns key (m.find w es) h (λ t k. find-fits ns es w t f k) a.1
container-fits ns es key room w (Some g) h c f e =
    let a = passed-test key fault.KeyType (if room then Ok g else Err fault.TooDeep) h e in
    let b = held-test room fault.TooDeep (Ok g) h a.1 in
    head-same ns key g h b.1 (of_container g c a.0)
  where
    of_container : (g : Head) → container_of w ≡ Some g → key ≡ false → HeadFits ns key g
    of_container (plain t) c n = absurd (no_plain w t c)
    of_container list_head c n = n
    of_container set_head c n = n
    of_container map_head c n = n

scalar-fits : (ns : List m.MeantNamed) (es : List m.Entry) (key room : Bool) (w : List ℕ) (o : Option BaseType) (h : Head) → EntriesFit ns es → a_scalar es key room w o ≡ Ok h → HeadFits ns key h
scalar-fits ns es key room w (Some s) h f e = head-same ns key (plain (m.scalar s)) h e tt
scalar-fits ns es key room w None h f e = container-fits ns es key room w (container_of w) h refl f e

head-fits : (ns : List m.MeantNamed) (es : List m.Entry) (key room : Bool) (t : Tok) (h : Head) → EntriesFit ns es → a_type es key room t ≡ Ok h → HeadFits ns key h
head-fits ns es key room (word w) h f e =
    let a = passed-test (bytes_eq w (codes "float") || bytes_eq w (codes "double")) fault.Unsupported (a_scalar es key room w (scalar_of w)) h e in
    scalar-fits ns es key room w (scalar_of w) h f a.1
head-fits ns es key room (number o) h f e = absurd cc
head-fits ns es key room (literal x) h f e = absurd cc
head-fits ns es key room (mark c) h f e = absurd cc
head-fits ns es key room finish h f e = absurd cc
head-fits ns es key room bad h f e = absurd cc

-- the parts of a type behind its first word
rest-fits : (ns : List m.MeantNamed) (inside : Bool → Grammar m.Ty) → ((key : Bool) (t : m.Ty) (ts rest : Toks) → Spells (inside key) t ts rest → Fits ts → TypeFits ns key t)
    → (key : Bool) (h : Head) (t : m.Ty) (ts rest : Toks) → HeadFits ns key h → Spells (after_head inside h) t ts rest → Fits ts → TypeFits ns key t
rest-fits ns inside ih key (plain x) t ts rest hf s f = subst (TypeFits ns key) s.0 hf
rest-fits ns inside ih key list_head t ts rest hf s f =
    let f1 = left-fits (token an_open) s.0 ts s.1 s.2 f in
    let x = ih false s.3.0 s.1 s.3.1 s.3.2 f1 in
    subst (TypeFits ns key) s.3.3.3.0 (hf, x)
rest-fits ns inside ih key set_head t ts rest hf s f =
    let f1 = left-fits (token an_open) s.0 ts s.1 s.2 f in
    let x = ih true s.3.0 s.1 s.3.1 s.3.2 f1 in
    subst (TypeFits ns key) s.3.3.3.0 (hf, x)
rest-fits ns inside ih key map_head t ts rest hf s f =
    let f1 = left-fits (token an_open) s.0 ts s.1 s.2 f in
    let x = ih true s.3.0 s.1 s.3.1 s.3.2 f1 in
    let f2 = left-fits (inside true) s.3.0 s.1 s.3.1 s.3.2 f1 in
    let f3 = left-fits (token (a_mark 44)) s.3.3.0 s.3.1 s.3.3.1 s.3.3.2 f2 in
    let y = ih false s.3.3.3.0 s.3.3.1 s.3.3.3.1 s.3.3.3.2 f3 in
    subst (TypeFits ns key) s.3.3.3.3.3.0 (hf, x, y)

pub type-fits : (ns : List m.MeantNamed) (es : List m.Entry) → EntriesFit ns es → (depth : ℕ) (key : Bool) (t : m.Ty) (ts rest : Toks) → Spells (inner es depth key) t ts rest → Fits ts → TypeFits ns key t
unfolding inner
type-fits ns es ef zero key t ts rest s f = let a = one-token (λ x. Err fault.TooDeep) t ts rest s f in absurd cc
type-fits ns es ef (suc depth) key t ts rest s f =
    let w = s.2 in
    let a = one-token (a_type es key (nat_lt 0 depth)) w.0 ts w.1 w.2 f in
    let f1 = left-fits (token (a_type es key (nat_lt 0 depth))) w.0 ts w.1 w.2 f in
    let y = rest-fits ns (inner es depth) (λ k x us r. type-fits ns es ef depth k x us r) key w.0 s.0 w.1 s.1 (head-fits ns es key (nat_lt 0 depth) a.0 w.0 ef a.2) w.3 f1 in
    subst (TypeFits ns key) s.3.3.0 y

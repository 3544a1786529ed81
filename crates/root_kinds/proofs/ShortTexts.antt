-- The texts that are written as defaults are no longer than the text of the definition.
use Rattle.std.proofs.Common.{◌≡◌, ℕ, zero, suc, ◌<◌, Bool, true, false, ◌==◌, ◌&&◌, ◌||◌, if◌then◌else◌, List, [], ◌∷◌, ◌++◌, length, Option, Some, None, Ok, Err, refl, sym, subst, arith}
use Rattle.std.specs.Prelude.{ℤ, pos, negsuc, int_le, codes, slice_get, string_bytes}
use Rattle.std.specs.List.{fold}
use Rattle.std.specs.Ordering.{int_eq}
use Rattle.std.specs.Str.{bytes_eq}
use Rattle.std.proofs.Math.Logic.{∥∥₁_map}
use Rattle.std.proofs.lemmas.Str.{IsUtf8-string_bytes}
use Rattle.idl_grammar.specs.declared.fault.Fault.TheVariants as fault
use Rattle.idl_tokens.specs.Tokens.{Tok, word, number, literal, mark, finish, bad, Toks, tokens}
use Rattle.idl_grammar.specs.Grammar.{give, token, next, Spells}
use Rattle.idl_profile.specs.declared.kinds.BaseType.TheVariants as k
use Rattle.idl_profile.specs.Meaning as m
use Rattle.idl_profile.specs.Types as types
use Rattle.idl_profile.specs.Types.{TypeTree, root_of}
use Rattle.idl_profile.specs.Judged.{a_mark, taken, is_mark, has_backslash, new_name, a_field, Start, complete, closed_by, an_int, number_default, literal_default, member_number, enum_members, word_default, bracket_default, brace_default, a_default, Begin, a_namespace, an_include, a_typedef, an_enum, a_struct, a_definition, entry_names}
use Rattle.idl_profile.specs.Text.{pick, start, default, typed, field, one_field, fields, by_id, struct_body, struct_parts, Parts, Item, with_item, item, definition, whole}
use Rattle.idl_profile.specs.Measures.{scalar_tree, at, tree, fields as tree_fields, named_tree, trees}
use Rattle.idl_parse.specs.declared.definition.Definition.{Definition}
use Rattle.idl_parse.specs.Parsed.{DefText, definition_of, meant_of}
use Rattle.idl_profile.proofs.Each.{Each}
use Rattle.idl_proper.proofs.Proper.{each-append}
use Rattle.idl_proper.proofs.Rising.{each-by_id}
use Rattle.idl_proper.proofs.Meant.{passed-test, held-test, ok, ok-same}
use Rattle.type_kinds.specs.Accepted.{IsShort, HasShortTexts, HaveShortTexts}
use Rattle.root_kinds.proofs.Proper.{root_has}
use Rattle.root_kinds.proofs.ShortTokens.{IsShortToken, AreShort, tokens_short, left_short, turns_hold, token_short}

-- ---- defaults

abbrev StartsShort : Start → Type 0
StartsShort (complete d) = IsShort d
StartsShort (closed_by c) = Unit {0}

start_same : (a b : Start) → ok a ≡ ok b → StartsShort a → StartsShort b
start_same a b e f = subst StartsShort (ok-same a b e) f

int_short : (low high z : ℤ) (s : Start) → an_int low high z ≡ Ok s → StartsShort s
int_short low high z s e = start_same (complete (types.int_default z)) s (held-test (int_le low z && int_le z high) fault.BadDefault (Ok (complete (types.int_default z))) s e).1 tt

flag_tests : (p q x y : Bool) (s : Start) → (if p then Ok (complete (types.flag_default x)) else (if q then Ok (complete (types.flag_default y)) else Err fault.BadDefault)) ≡ Ok s → StartsShort s
flag_tests true q x y s h = start_same (complete (types.flag_default x)) s h tt
flag_tests false true x y s h = start_same (complete (types.flag_default y)) s h tt
flag_tests false false x y s h = absurd cc

number_short : (t : m.Ty) (z : ℤ) (s : Start) → number_default t z ≡ Ok s → StartsShort s
number_short (m.scalar k.Flag) z s e = flag_tests (int_eq z (pos 0)) (int_eq z (pos 1)) false true s e
number_short (m.scalar k.I8) z s e = int_short (negsuc 127) (pos 127) z s e
number_short (m.scalar k.I16) z s e = int_short (negsuc 32767) (pos 32767) z s e
number_short (m.scalar k.I32) z s e = int_short (negsuc 2147483647) (pos 2147483647) z s e
number_short (m.scalar k.I64) z s e = start_same (complete (types.int_default z)) s e tt
number_short (m.scalar k.Text) z s e = absurd cc
number_short (m.scalar k.Bytes) z s e = absurd cc
number_short (m.enum n) z s e = int_short (negsuc 2147483647) (pos 2147483647) z s e
number_short (m.struct n) z s e = absurd cc
number_short (m.list x) z s e = absurd cc
number_short (m.set x) z s e = absurd cc
number_short (m.map x y) z s e = absurd cc

literal_short : (t : m.Ty) (x : List ℕ) (s : Start) → length x < 2147483648 → literal_default t x ≡ Ok s → StartsShort s
literal_short (m.scalar k.Flag) x s h e = absurd cc
literal_short (m.scalar k.I8) x s h e = absurd cc
literal_short (m.scalar k.I16) x s h e = absurd cc
literal_short (m.scalar k.I32) x s h e = absurd cc
literal_short (m.scalar k.I64) x s h e = absurd cc
literal_short (m.scalar k.Text) x s h e = start_same (complete (types.text_default x)) s e h
literal_short (m.scalar k.Bytes) x s h e = start_same (complete (types.text_default x)) s e h
literal_short (m.enum n) x s h e = absurd cc
literal_short (m.struct n) x s h e = absurd cc
literal_short (m.list y) x s h e = absurd cc
literal_short (m.set y) x s h e = absurd cc
literal_short (m.map y z) x s h e = absurd cc

member_short : (name : List ℕ) (xs : List types.Member) (w : List ℕ) (s : Start) → member_number name xs w ≡ Ok s → StartsShort s
member_short name [] w s e = absurd cc
member_short name (x ∷ xs) w s e = by_test (λ h. member_short name xs w s h) (bytes_eq x.name w || bytes_eq (name ++ 46 ∷ x.name) w) e
  where
    by_test : (member_number name xs w ≡ Ok s → StartsShort s) → (b : Bool) → (if b then Ok (complete (types.int_default x.number)) else member_number name xs w) ≡ Ok s → StartsShort s
    by_test ih true h = start_same (complete (types.int_default x.number)) s h tt
    by_test ih false h = ih h

enum_short : (o : Option m.MeantNamed) (w : List ℕ) (s : Start) → enum_members o w ≡ Ok s → StartsShort s
enum_short None w s e = absurd cc
enum_short (Some (m.enum_of v xs)) w s e = member_short v xs w s e
enum_short (Some (m.struct_of v fs)) w s e = absurd cc

word_short : (ns : List m.MeantNamed) (t : m.Ty) (w : List ℕ) (s : Start) → word_default ns t w ≡ Ok s → StartsShort s
word_short ns (m.scalar k.Flag) w s e = flag_tests (bytes_eq w (codes "true")) (bytes_eq w (codes "false")) true false s e
word_short ns (m.scalar k.I8) w s e = absurd cc
word_short ns (m.scalar k.I16) w s e = absurd cc
word_short ns (m.scalar k.I32) w s e = absurd cc
word_short ns (m.scalar k.I64) w s e = absurd cc
word_short ns (m.scalar k.Text) w s e = absurd cc
word_short ns (m.scalar k.Bytes) w s e = absurd cc
word_short ns (m.enum n) w s e = enum_short (slice_get ns n) w s e
word_short ns (m.struct n) w s e = absurd cc
word_short ns (m.list x) w s e = absurd cc
word_short ns (m.set x) w s e = absurd cc
word_short ns (m.map x y) w s e = absurd cc

bracket_short : (t : m.Ty) (s : Start) → bracket_default t ≡ Ok s → StartsShort s
bracket_short (m.scalar x) s e = absurd cc
bracket_short (m.enum n) s e = absurd cc
bracket_short (m.struct n) s e = absurd cc
bracket_short (m.list x) s e = start_same (closed_by 93) s e tt
bracket_short (m.set x) s e = start_same (closed_by 93) s e tt
bracket_short (m.map x y) s e = absurd cc

brace_short : (t : m.Ty) (s : Start) → brace_default t ≡ Ok s → StartsShort s
brace_short (m.scalar x) s e = absurd cc
brace_short (m.enum n) s e = absurd cc
brace_short (m.struct n) s e = start_same (closed_by 125) s e tt
brace_short (m.list x) s e = absurd cc
brace_short (m.set x) s e = start_same (closed_by 125) s e tt
brace_short (m.map x y) s e = start_same (closed_by 125) s e tt

mark_short : (t : m.Ty) (p q : Bool) (s : Start) → (if p then bracket_default t else (if q then brace_default t else Err fault.Syntax)) ≡ Ok s → StartsShort s
mark_short t true q s e = bracket_short t s e
mark_short t false true s e = brace_short t s e
mark_short t false false s e = absurd cc

started : (s : Start) (d : types.Default) (ts rest : Toks) → Spells (start s) d ts rest → StartsShort s → IsShort d
started (complete x) d ts rest h f = subst IsShort h.0 f
started (closed_by c) d ts rest h f = subst IsShort h.3.0 tt

-- ---- structs

abbrev IsShortField : m.MeantField → Type 0
IsShortField f = IsShort f.default

abbrev IsShortNamed : m.MeantNamed → Type 0
IsShortNamed (m.enum_of w xs) = Unit {0}
IsShortNamed (m.struct_of w fs) = Each IsShortField fs

abbrev IsShortScope : m.Scope → Type 0
IsShortScope s = Each IsShortNamed s.named

module _ (most : ℕ) (small : most < 2147483648) where
  start_short : (ns : List m.MeantNamed) (t : m.Ty) (x : Tok) (s : Start) → IsShortToken most x → a_default ns t x ≡ Ok s → StartsShort s
  start_short ns t (word w) s f e = word_short ns t w s e
  start_short ns t (number None) s f e = absurd cc
  start_short ns t (number (Some z)) s f e = number_short t z s e
  start_short ns t (literal x) s f e = literal_short t x s (omega arith) (passed-test (has_backslash x) fault.Unsupported (literal_default t x) s e).1
  start_short ns t (mark c) s f e = mark_short t (c == 91) (c == 123) s e
  start_short ns t finish s f e = absurd cc
  start_short ns t bad s f e = absurd cc

  default_short : (ns : List m.MeantNamed) (t : m.Ty) (d : types.Default) (ts rest : Toks) → Spells (default ns t) d ts rest → AreShort most ts → IsShort d
  default_short ns t d [] rest h f = absurd h
  default_short ns t d (x ∷ ts) rest h f = by_test (is_mark 61 x.token) h
    where
      by_test : (b : Bool) → Spells (pick b (next (token taken) (λ _. next (token (a_default ns t)) start)) (give types.without)) d (x ∷ ts) rest → IsShort d
      by_test false g = subst IsShort g.0 tt
      by_test true g =
          let f1 = left_short most (token taken) g.0 (x ∷ ts) g.1 g.2 f in
          let a = token_short most (a_default ns t) g.3.0 g.1 g.3.1 g.3.2 f1 in
          started g.3.0 d g.3.1 rest g.3.3 (start_short ns t a.0 g.3.0 a.1 a.2)

  field_step : (scope : m.Scope) (fs : List m.MeantField) (i : ℤ) (gs : List m.MeantField) (ts mid : Toks) → AreShort most ts → Spells (one_field scope fs i) gs ts mid → Each IsShortField fs → Each IsShortField gs
  unfolding field
  field_step scope fs i gs ts mid f h holds =
      let x = h.2 in
      let f1 = left_short most (typed scope.entries fs) x.0 ts x.1 x.2 f in
      let d = x.3 in
      let df : IsShort d.0 = default_short scope.named x.0.type d.0 x.1 d.1 d.2 f1 in
      let one : IsShortField h.0 = subst IsShortField d.3.3.0 df in
      subst (Each IsShortField) h.3.0 (each-append IsShortField fs (h.0 ∷ []) holds (one, tt))

  fields_short : (scope : m.Scope) (fs : List m.MeantField) (ts rest : Toks) → Spells (fields scope []) fs ts rest → AreShort most ts → Each IsShortField fs
  fields_short scope fs ts rest h f = turns_hold most a_field (one_field scope) (Each IsShortField) (λ gs i hs us mid uf s holds. field_step scope gs i hs us mid uf s holds) [] fs ts rest h f tt

  body_short : (scope : m.Scope) (fs : List m.MeantField) (ts rest : Toks) → Spells (struct_body scope) fs ts rest → AreShort most ts → Each IsShortField fs
  unfolding struct_body
  body_short scope fs ts rest h f =
      let f1 = left_short most (token (a_mark 123)) h.0 ts h.1 h.2 f in
      let b = h.3 in
      subst (Each IsShortField) b.3.3.0 (fields_short scope b.0 h.1 b.1 b.2 f1)

  parts_short : (scope : m.Scope) (p : Parts) (ts rest : Toks) → Spells (struct_parts scope) p ts rest → AreShort most ts → Each IsShortField p.fields
  unfolding struct_parts
  parts_short scope p ts rest h f =
      let f1 = left_short most (token (new_name (entry_names scope.entries))) h.0 ts h.1 h.2 f in
      let b = h.3 in
      subst (λ (q : Parts). Each IsShortField q.fields) b.3.3.0 (body_short scope b.0 h.1 b.1 b.2 f1)

  item_step : (scope : m.Scope) (b : Begin) (i : Item) (ts mid : Toks) → AreShort most ts → Spells (item scope b) i ts mid → IsShortScope scope → IsShortScope (with_item scope i)
  unfolding item
  item_step scope a_namespace i ts mid f h holds = subst (λ (z : Item). IsShortScope (with_item scope z)) h.3.0 holds
  item_step scope an_include i ts mid f h holds = subst (λ (z : Item). IsShortScope (with_item scope z)) h.3.0 holds
  item_step scope a_typedef i ts mid f h holds = subst (λ (z : Item). IsShortScope (with_item scope z)) h.3.0 holds
  item_step scope an_enum i ts mid f h holds =
      subst (λ (z : Item). IsShortScope (with_item scope z)) h.3.0 (each-append IsShortNamed scope.named (m.enum_of h.0.name h.0.members ∷ []) holds (tt, tt))
  item_step scope a_struct i ts mid f h holds =
      let fields_are = each-by_id IsShortField h.0.fields (parts_short scope h.0 ts h.1 h.2 f) in
      subst (λ (z : Item). IsShortScope (with_item scope z)) h.3.0 (each-append IsShortNamed scope.named (m.struct_of h.0.name (by_id h.0.fields) ∷ []) holds (fields_are, tt))

  definition_step : (s : m.Scope) (b : Begin) (e : m.Scope) (ts mid : Toks) → AreShort most ts → Spells (definition s b) e ts mid → IsShortScope s → IsShortScope e
  definition_step s b e ts mid f h holds = subst IsShortScope h.3.0 (item_step s b h.0 ts h.1 f h.2 holds)

  meant_short : (s : m.Scope) (ts rest : Toks) → Spells whole s ts rest → AreShort most ts → IsShortScope s
  meant_short s ts rest h f = turns_hold most a_definition definition IsShortScope (λ a b e us mid uf g holds. definition_step a b e us mid uf g holds) m.nothing_yet s ts rest h f tt

-- ---- trees

base_short : (s : _) → HasShortTexts (scalar_tree s)
base_short k.Flag = tt
base_short k.I8 = tt
base_short k.I16 = tt
base_short k.I32 = tt
base_short k.I64 = tt
base_short k.Text = tt
base_short k.Bytes = tt

type_short : (ts : List TypeTree) → ((i : ℕ) → HasShortTexts (at ts i)) → (t : m.Ty) → HasShortTexts (tree ts t)
type_short ts h (m.scalar s) = base_short s
type_short ts h (m.enum n) = h n
type_short ts h (m.struct n) = h n
type_short ts h (m.list x) = type_short ts h x
type_short ts h (m.set x) = type_short ts h x
type_short ts h (m.map x y) = (type_short ts h x, type_short ts h y)

tree_fields_short : (ts : List TypeTree) → ((i : ℕ) → HasShortTexts (at ts i)) → (fs : List m.MeantField) → Each IsShortField fs → HaveShortTexts (tree_fields ts fs)
tree_fields_short ts h [] f = tt
tree_fields_short ts h (g ∷ fs) f = (type_short ts h g.type, f.0, tree_fields_short ts h fs f.1)

named_short : (ts : List TypeTree) → ((i : ℕ) → HasShortTexts (at ts i)) → (n : m.MeantNamed) → IsShortNamed n → HasShortTexts (named_tree ts n)
named_short ts h (m.enum_of w xs) f = tt
named_short ts h (m.struct_of w fs) f = tree_fields_short ts h fs f

at_pushed : (ts : List TypeTree) (t : TypeTree) → ((i : ℕ) → HasShortTexts (at ts i)) → HasShortTexts t → (i : ℕ) → HasShortTexts (at (ts ++ t ∷ []) i)
at_pushed [] t h k zero = k
at_pushed [] t h k (suc i) = tt
at_pushed (u ∷ ts) t h k zero = h 0
at_pushed (u ∷ ts) t h k (suc i) = at_pushed ts t (λ j. h (suc j)) k i

grown_short : (ts : List TypeTree) (ns : List m.MeantNamed) → ((i : ℕ) → HasShortTexts (at ts i)) → Each IsShortNamed ns → (i : ℕ) → HasShortTexts (at (fold (λ us n. us ++ named_tree us n ∷ []) ts ns) i)
grown_short ts [] h f = h
grown_short ts (n ∷ ns) h f = grown_short (ts ++ named_tree ts n ∷ []) ns (at_pushed ts (named_tree ts n) h (named_short ts h n f.0)) f.1

-- the texts in the root of a definition
pub root_is_short : (text : List ℕ) (d : List types.Named) → DefText text d → length text < 2147483648 → HasShortTexts (root_of d)
root_is_short text d h small =
    let s = h.means.scope in
    let scope_short = meant_short (length text) small s (tokens text) h.means.rest h.means.spells (tokens_short (length text) text (omega arith)) in
    let all : Each IsShortNamed h.read = subst (Each IsShortNamed) (sym h.means.means) scope_short in
    subst (λ z. HasShortTexts (root_of z)) (sym h.is) (root_has HasShortTexts (trees h.read) (types.scalar types.flag) (grown_short [] h.read (λ i. tt) all) tt)

-- those in the root of a definition that was read
pub definition_is_short : (d : Definition) → ∥ HasShortTexts (root_of (definition_of d)) ∥₁
definition_is_short d = ∥∥₁_map d.meant (λ means. root_is_short (string_bytes d.text) (definition_of d)
    (record { utf8 = IsUtf8-string_bytes d.text; read = meant_of d; is = refl; means = means }) d.limited)

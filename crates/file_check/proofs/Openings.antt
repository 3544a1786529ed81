-- What bytes are opened as is one answer, and what each answer says.
use Rattle.std.proofs.Common.{◌≡◌, ◌⊎◌, inl, inr, ℕ, ◌-◌, List, Bool, true, false, ◌&&◌, length, refl, ap}
use Rattle.std.proofs.Common.{sym, ◌∙◌, subst, nat_le, Result, Ok, Err}
use Rattle.std.proofs.lemmas.Bool.{and_parts, and_left}
use Rattle.frozen_model.specs.BitLaws.{IsBytes}
use Rattle.frozen_model.specs.Values.{Value}
use Rattle.frozen_model.specs.Layouts.{Described, IsDescribed}
use Rattle.frozen_model.specs.Walk.{Fault, Short, open_content}
use Rattle.frozen_model.specs.Files.{FileFault, NotFrozen, BadSchema, BadContent, File, schema_length}
use Rattle.frozen_model.specs.Files.{schema_bytes, content_of, demand, answered, open_file}
use Rattle.frozen_laws.specs.Laws.{IsContent, PackingIsInjective}
use Rattle.content_check.specs.Opened.{IsOpened}
use Rattle.frozen_laws.proofs.Opening.{content_complete}
use Rattle.compact_wire.specs.declared.fault.WireFault.{WireFault}
use Rattle.compact_wire.specs.declared.fault.WireFault.TheVariants as wire
use Rattle.compact_wire.proofs.WireLaws.{one_node}
use Rattle.wire_scan.specs.Scanned.{IsScanned}
use Rattle.wire_scan.proofs.ScanLaws.{scanned_only}
use Rattle.layout_schema.specs.declared.fault.SchemaFault.{SchemaFault}
use Rattle.layout_schema.specs.declared.fault.SchemaFault.TheVariants as schemas
use Rattle.layout_schema.specs.Answers.{SchemaBytes, schema_in, IsSaid, IsSchemaFault}
use Rattle.layout_schema.specs.Laws.{SchemasAreExact, SchemaIsOfOne}
use Rattle.file_check.specs.declared.fault.OpenFault.{OpenFault}
use Rattle.file_check.specs.declared.fault.OpenFault.TheVariants as fault
use Rattle.file_check.specs.declared.opened.Opened.{Opened}
use Rattle.file_check.specs.Parts.{has_header, has_schema, IsParted}
use Rattle.file_check.specs.Opening.{IsRead, IsOpening, IsFirstFault, fault_in, fault_of, fault_with}
use Rattle.file_check.proofs.FileParts.{IsFile, file_is, is_file, content_bytes}

-- ---- a schema is read as one answer

abbrev pub an_ok : (X E : Type 0) → X → Result X E
an_ok X E x = Ok x

abbrev an_err : (X E : Type 0) → E → Result X E
an_err X E e = Err e

pub same_ok : {X E : Type 0} (x y : X) → an_ok X E x ≡ an_ok X E y → x ≡ y
same_ok x y e = cc

same_err : {X E : Type 0} (x y : E) → an_err X E x ≡ an_err X E y → x ≡ y
same_err x y e = cc

said_once : (s : List ℕ) (q r : Result Described SchemaFault) → IsSaid s q → IsSaid s r → q ≡ r
said_once s q r x y = sym x.2 ∙ ap schema_in (one_node x.0 y.0 s x.1 y.1) ∙ y.2

-- what is said is spelled
not_scanned : (s : List ℕ) (q : Result Described SchemaFault) (f : WireFault) → IsSaid s q
    → IsScanned s (Err f) → ⊥
not_scanned s q f x y = let e : Err f ≡ Ok tt = (scanned_only s (Err f) y).spelled x.0 x.1 in absurd cc

scanned_once : (s : List ℕ) (f g : WireFault) → IsScanned s (Err f) → IsScanned s (Err g) → f ≡ g
scanned_once s f wire.Truncated x y = same_err f wire.Truncated ((scanned_only s (Err f) x).truncated y)
scanned_once s f (wire.Malformed p) x y =
    same_err f (wire.Malformed p) ((scanned_only s (Err f) x).malformed p y)
scanned_once s f (wire.Trailing p) x y =
    same_err f (wire.Trailing p) ((scanned_only s (Err f) x).trailing p y)
scanned_once s f wire.NoMemory x y = absurd y

-- a fault of the spelling, or one that is said
data Cause (s : List ℕ) : SchemaFault → Type 0 where
  by_spelling : (f : WireFault) → IsScanned s (Err f) → Cause s (schemas.Spelling f)
  by_saying : (f : SchemaFault) → IsSaid s (Err f) → Cause s f

cause : (s : List ℕ) (f : SchemaFault) → IsSchemaFault s f → Cause s f
cause s (schemas.Spelling f) x = by_spelling f x
cause s (schemas.Fields n) x = by_saying (schemas.Fields n) x
cause s (schemas.Version v) x = by_saying (schemas.Version v) x
cause s (schemas.Shape n) x = by_saying (schemas.Shape n) x
cause s schemas.NoMemory x = absurd x

said_no_fault : (s : List ℕ) (d : Described) (f : SchemaFault) → IsSaid s (Ok d) → Cause s f → ⊥
said_no_fault s d (schemas.Spelling f) x (by_spelling _ y) = not_scanned s (Ok d) f x y
said_no_fault s d f x (by_saying _ y) = let e : Ok d ≡ Err f = said_once s (Ok d) (Err f) x y in absurd cc

one_fault : (s : List ℕ) (f g : SchemaFault) → Cause s f → Cause s g → f ≡ g
one_fault s _ _ (by_spelling f x) (by_spelling g y) = ap (λ h. schemas.Spelling h) (scanned_once s f g x y)
one_fault s _ _ (by_spelling f x) (by_saying g y) = absurd (not_scanned s (Err g) f y x)
one_fault s _ _ (by_saying f x) (by_spelling g y) = absurd (not_scanned s (Err f) g x y)
one_fault s _ _ (by_saying f x) (by_saying g y) = same_err f g (said_once s (Err f) (Err g) x y)

read_once : (s : List ℕ) (q r : Result Described SchemaFault) → IsRead s q → IsRead s r → q ≡ r
read_once s (Ok d) (Ok e) x y = said_once s (Ok d) (Ok e) x y
read_once s (Ok d) (Err g) x y = absurd (said_no_fault s d g x (cause s g y))
read_once s (Err f) (Ok e) x y = absurd (said_no_fault s e f y (cause s f x))
read_once s (Err f) (Err g) x y = ap (λ h. Err h) (one_fault s f g (cause s f x) (cause s g y))

-- ---- the steps of opening

abbrev pub answer : Result Described SchemaFault → List ℕ → Result (Described × Value) (FileFault SchemaFault)
answer r b = open_file (λ s. r) b

-- of the content, under a layout
abbrev content_answer : List ℕ → Described → Result (Described × Value) (FileFault SchemaFault)
content_answer b d = answered (open_content (content_of b) d.tree) BadContent (λ v. Ok (d, v))

passes : {F X : Type 0} (t : Bool) (e : FileFault F) (r : Result X (FileFault F)) → t ≡ true
    → demand t e r ≡ r
passes true e r h = refl
passes false e r h = absurd cc

fails : {F X : Type 0} (t : Bool) (e : FileFault F) (r : Result X (FileFault F)) → t ≡ false
    → demand t e r ≡ Err e
fails true e r h = absurd cc
fails false e r h = refl

second_false : (x y : Bool) → x ≡ true → (x && y) ≡ false → y ≡ false
second_false true y h k = k
second_false false y h k = absurd cc

pub no_header : (r : Result Described SchemaFault) (b : List ℕ) → has_header b ≡ false
    → answer r b ≡ Err NotFrozen
no_header r b h = fails (has_header b) NotFrozen _ h

pub no_schema : (r : Result Described SchemaFault) (b : List ℕ) → has_header b ≡ true → has_schema b ≡ false
    → answer r b ≡ Err (BadContent Short)
no_schema r b h k =
    passes (has_header b) NotFrozen _ h
    ∙ fails (nat_le (schema_length b) (length b - 8)) (BadContent Short) _
    (second_false (has_header b) (nat_le (schema_length b) (length b - 8)) h k)

pub with_schema : (r : Result Described SchemaFault) (b : List ℕ) → has_schema b ≡ true
    → answer r b ≡ answered r BadSchema (content_answer b)
with_schema r b h =
    let p = and_parts (has_header b) (nat_le (schema_length b) (length b - 8)) h in
    passes (has_header b) NotFrozen _ p.0
    ∙ passes (nat_le (schema_length b) (length b - 8)) (BadContent Short) _ p.1

-- without a schema the answer does not turn on it
schema_unread : (q r : Result Described SchemaFault) (b : List ℕ) → has_schema b ≡ false
    → answer q b ≡ answer r b
schema_unread q r b h = go (has_header b) refl
  where
    go : (t : Bool) → has_header b ≡ t → answer q b ≡ answer r b
    go true e = no_schema q b e h ∙ sym (no_schema r b e h)
    go false e = no_header q b e ∙ sym (no_header r b e)

-- ---- the bytes are opened as one answer

pub opened_once : (b : List ℕ) (q r : Result (Described × Value) (FileFault SchemaFault)) → IsOpening b q
    → IsOpening b r → q ≡ r
opened_once b q r x y = go (has_schema b) refl
  where
    go : (t : Bool) → has_schema b ≡ t → q ≡ r
    go true e = sym x.opened
        ∙ ap (λ s. answer s b) (read_once (schema_bytes b) x.schema y.schema (x.read e) (y.read e)) ∙ y.opened
    go false e = sym x.opened ∙ schema_unread x.schema y.schema b e ∙ y.opened

first_once : (b : List ℕ) (f g : OpenFault) → IsFirstFault b f → IsFirstFault b g → f ≡ g
first_once b f g x y = x.2 ∙ ap fault_of (same_err x.0 y.0 (opened_once b (Err x.0) (Err y.0) x.1 y.1))
    ∙ sym y.2

-- ---- what is known after each answer

-- the bytes are a file of the value in the layout, by what the schema says
abbrev pub SaidFile : List ℕ → Described → Value → Type 0
SaidFile b d v = IsFile (λ s e. IsSaid s (Ok e)) b d v

pub said_file : SchemasAreExact → (b : List ℕ) (d : Described) (v : Value) → File SchemaBytes b d v
    → SaidFile b d v
said_file exact b d v h =
    let p = file_is b d v h in
    record { schema = p.schema; spelled = (exact (schema_bytes b) d).0 p.spelled; content = p.content }

pub file_said : SchemasAreExact → (b : List ℕ) (d : Described) (v : Value) → SaidFile b d v
    → File SchemaBytes b d v
file_said exact b d v h =
    is_file b d v
    (record { schema = h.schema; spelled = (exact (schema_bytes b) d).1 h.spelled; content = h.content })

-- what is known where a fault is answered
pub record Refuses (b : List ℕ) (f : OpenFault) : Type 0 where
  pub every : (d : Described) (v : Value) → File SchemaBytes b d v → f ≡ fault.NoMemory
  pub first : IsFirstFault b f ⊎ (f ≡ fault.NoMemory)
  pub only : (g : OpenFault) → IsFirstFault b g
      → (an_err Opened OpenFault f ≡ Err g) ⊎ (an_err Opened OpenFault f ≡ Err fault.NoMemory)

no_memory : (b : List ℕ) → Refuses b fault.NoMemory
no_memory b = record { every = λ d v h. refl; first = inr refl; only = λ f x. inr refl }

found_fault : SchemasAreExact → (b : List ℕ) (f : OpenFault) → IsFirstFault b f
    → ((d : Described) (v : Value) → SaidFile b d v → ⊥) → Refuses b f
found_fault exact b f x none = record {
  every = λ d v h. absurd (none d v (said_file exact b d v h));
  first = inl x;
  only = λ g y. inl (ap (λ e. Err e) (first_once b f g x y));
}

-- a file has a schema
not_without : (b : List ℕ) → has_schema b ≡ false → (d : Described) (v : Value) → SaidFile b d v → ⊥
not_without b h d v k = let e : has_schema b ≡ true = k.schema in absurd cc

unread : (b : List ℕ) (e : FileFault SchemaFault) → has_schema b ≡ false
    → answer (Err schemas.NoMemory) b ≡ Err e → IsOpening b (Err e)
unread b e h k = record { schema = Err schemas.NoMemory; read = λ t. absurd cc; opened = k }

not_frozen : SchemasAreExact → (b : List ℕ) → has_header b ≡ false → Refuses b fault.NotFrozen
not_frozen exact b h =
    let k = and_left (has_header b) (nat_le (schema_length b) (length b - 8)) h in
    found_fault exact b fault.NotFrozen
    (NotFrozen, unread b NotFrozen k (no_header (Err schemas.NoMemory) b h), refl) (not_without b k)

too_short : SchemasAreExact → (b : List ℕ) → has_header b ≡ true → has_schema b ≡ false
    → Refuses b fault.Short
too_short exact b h k =
    found_fault exact b fault.Short
    (BadContent Short, unread b (BadContent Short) k (no_schema (Err schemas.NoMemory) b h k), refl)
    (not_without b k)

bad_schema : SchemasAreExact → (b : List ℕ) (f : SchemaFault) → has_schema b ≡ true
    → IsSchemaFault (schema_bytes b) f → Refuses b (fault.Schema f)
bad_schema exact b f h x =
    found_fault exact b (fault.Schema f)
    (BadSchema f, record { schema = Err f; read = λ t. x; opened = with_schema (Err f) b h }, refl)
    (λ d v k. said_no_fault (schema_bytes b) d f k.spelled (cause (schema_bytes b) f x))

bad_content : SchemasAreExact → (b : List ℕ) (e : Described) (f : Fault) → has_schema b ≡ true
    → IsSaid (schema_bytes b) (Ok e) → IsDescribed e → IsBytes (content_of b)
    → open_content (content_of b) e.tree ≡ Err f → Refuses b (fault_in f)
bad_content exact b e f h x is small k =
    found_fault exact b (fault_in f)
    (BadContent f, record { schema = Ok e; read = λ t. x; opened = opened }, refl)
    none
  where
    opened : answer (Ok e) b ≡ Err (BadContent f)
    opened = with_schema (Ok e) b h ∙ ap (λ r. answered r BadContent (λ v. Ok (e, v))) k

    none : (d : Described) (v : Value) → SaidFile b d v → ⊥
    none d v p =
        let same : d ≡ e = same_ok d e (said_once (schema_bytes b) (Ok d) (Ok e) p.spelled x) in
        let content : IsContent e.tree v (content_of b) =
        subst (λ (c : Described). IsContent c.tree v (content_of b)) same p.content in
        let q : Err f ≡ Ok v = sym k
        ∙ content_complete e.version e.tree v (content_of b) is.layout small content in
        absurd cc

-- what is known where the file is opened
pub record Opens (b : List ℕ) (e : Described) : Type 0 where
  pub value : Value
  pub file : File SchemaBytes b e value
  pub opening : IsOpening b (Ok (e, value))
  pub every : (d : Described) (v : Value) → File SchemaBytes b d v → e ≡ d
  pub never : (f : OpenFault) → IsFirstFault b f → ⊥

found_file : SchemasAreExact → (b : List ℕ) (e : Described) (v : Value) → has_schema b ≡ true
    → IsSaid (schema_bytes b) (Ok e)
    → IsContent e.tree v (content_of b) → open_content (content_of b) e.tree ≡ Ok v → Opens b e
found_file exact b e v h x content k =
    let opening : IsOpening b (Ok (e, v)) = record {
      schema = Ok e;
      read = λ t. x;
      opened = with_schema (Ok e) b h ∙ ap (λ r. answered r BadContent (λ u. Ok (e, u))) k;
    } in
    record {
      value = v;
      file = file_said exact b e v (record { schema = h; spelled = x; content = content });
      opening = opening;
      every = λ d u file.
          same_ok e d (said_once (schema_bytes b) (Ok e) (Ok d) x (said_file exact b d u file).spelled);
      never = λ f y. let q : Ok (e, v)
          ≡ Err y.0 = opened_once b (Ok (e, v)) (Err y.0) opening y.1 in absurd cc;
    }

-- ---- the answers of the code

-- where there is no schema
pub unparted : SchemasAreExact → (b : List ℕ) (f : OpenFault) → IsParted b (Err f) → Refuses b f
unparted exact b fault.NotFrozen h = not_frozen exact b h
unparted exact b fault.Short h = too_short exact b h.0 h.1
unparted exact b (fault.Schema f) h = absurd h
unparted exact b (fault.Long n) h = absurd h
unparted exact b (fault.Distance t f w) h = absurd h
unparted exact b (fault.Dirty n) h = absurd h
unparted exact b (fault.BadText n) h = absurd h
unparted exact b (fault.KeyOrder n) h = absurd h
unparted exact b fault.TooManyCells h = absurd h
unparted exact b (fault.Range n) h = absurd h
unparted exact b fault.NoMemory h = absurd h

-- where the schema is refused
pub refused : SchemasAreExact → (b s : List ℕ) (f : SchemaFault) → has_schema b ≡ true → s ≡ schema_bytes b
    → IsSchemaFault s f ⊎ (f ≡ schemas.NoMemory) → Refuses b (fault_with f)
refused exact b s f h e (inr k) = subst (λ g. Refuses b (fault_with g)) (sym k) (no_memory b)
refused exact b s f h e (inl x) = go f (subst (λ t. IsSchemaFault t f) e x)
  where
    go : (g : SchemaFault) → IsSchemaFault (schema_bytes b) g → Refuses b (fault_with g)
    go (schemas.Spelling g) y = bad_schema exact b (schemas.Spelling g) h y
    go (schemas.Fields n) y = bad_schema exact b (schemas.Fields n) h y
    go (schemas.Version v) y = bad_schema exact b (schemas.Version v) h y
    go (schemas.Shape n) y = bad_schema exact b (schemas.Shape n) h y
    go schemas.NoMemory y = absurd y

-- where the content is refused
pub refused_content : SchemasAreExact → (b s cs : List ℕ) (e : Described) (f : Fault) → has_schema b ≡ true
    → s ≡ schema_bytes b → cs ≡ content_of b → IsSaid s (Ok e)
    → IsDescribed e → IsBytes b → open_content cs e.tree ≡ Err f → Refuses b (fault_in f)
refused_content exact b s cs e f h es ec x is small k =
    bad_content exact b e f h (subst (λ t. IsSaid t (Ok e)) es x) is (content_bytes b small)
    (subst (λ t. open_content t e.tree ≡ Err f) ec k)

-- where the file is opened
pub opens : SchemasAreExact → (b s cs : List ℕ) (e : Described) (n : ℕ) → has_schema b ≡ true
    → s ≡ schema_bytes b → cs ≡ content_of b → IsSaid s (Ok e)
    → IsOpened cs e.tree n → Opens b e
opens exact b s cs e n h es ec x i =
    found_file exact b e i.value h (subst (λ t. IsSaid t (Ok e)) es x)
    (subst (λ t. IsContent e.tree i.value t) ec i.content)
    (subst (λ t. open_content t e.tree ≡ Ok i.value) ec i.opened)

-- ---- a file is that of one value in one layout

pub one_file : SchemaIsOfOne → PackingIsInjective → (b : List ℕ) (d e : Described) (v u : Value)
    → File SchemaBytes b d v → File SchemaBytes b e u → (d ≡ e) × (v ≡ u)
one_file one injective b d e v u h k =
    let p = file_is b d v h in
    let q = file_is b e u k in
    let same : d ≡ e = one (schema_bytes b) d e p.spelled q.spelled in
    let content : IsContent d.tree u (content_of b) =
    subst (λ (c : Described). IsContent c.tree u (content_of b)) (sym same) q.content in (
      same,
      injective d.version d.tree v u p.spelled.within.layout.coded p.content.holds content.holds
          (sym p.content.packed ∙ content.packed),
    )

-- Each list of bytes is opened as one answer, and as a layout and a value exactly where it is their file.
use Rattle.std.proofs.Common.{◌≡◌, ℕ, ℤ, List, [], ◌∷◌, Bool, true, false, length, refl, arith, ap}
use Rattle.std.proofs.Common.{sym, ◌∙◌, Option, Some, None, Result, Ok, Err, ◌-◌, if◌then◌else◌, pos, subst}
use Rattle.std.specs.Ordering.{int_eq}
use Rattle.frozen_model.specs.BitLaws.{IsBytes}
use Rattle.frozen_model.specs.Values.{Value}
use Rattle.frozen_model.specs.Layouts.{Version, Version1, Version2, Described}
use Rattle.frozen_model.specs.Walk.{Fault, Short, open_content}
use Rattle.frozen_model.specs.Files.{FileFault, NotFrozen, BadSchema, BadContent, File, schema_bytes, content_of}
use Rattle.frozen_model.specs.Files.{answered}
use Rattle.frozen_laws.specs.Laws.{IsContent}
use Rattle.frozen_laws.proofs.Opening.{where_ok, content_sound, content_complete}
use Rattle.exact_reading.specs.declared.stop.Stop.{Stop}
use Rattle.exact_reading.specs.declared.stop.Stop.TheVariants.{Ended, Refused}
use Rattle.exact_reading.proofs.CauseLaws.{ended_is, refused_is, whole_is, rest_is}
use Rattle.compact_wire.specs.declared.fault.WireFault.{WireFault}
use Rattle.compact_wire.specs.declared.fault.WireFault.TheVariants as wires
use Rattle.compact_wire.specs.Bytes.{IsByte, AreBytes}
use Rattle.compact_wire.specs.Node.{Node}
use Rattle.compact_wire.specs.Spells.{SpellsWire}
use Rattle.compact_wire.proofs.ReadSteps.{AreBytes-from}
use Rattle.compact_wire.proofs.WireLaws.{wire, wire_exact}
use Rattle.typed_reading.specs.declared.fault.Found.{Found}
use Rattle.typed_reading.specs.Faults.{faults, least}
use Rattle.typed_reading.specs.Meaning.{meaning}
use Rattle.wire_scan.specs.Scanned.{IsScanned}
use Rattle.layout_tree.specs.declared.node.NodeSpec.{NodeSpec}
use Rattle.layout_schema.specs.declared.fault.SchemaFault.{SchemaFault}
use Rattle.layout_schema.specs.declared.fault.SchemaFault.TheVariants as schemas
use Rattle.layout_schema.specs.Answers.{SchemaBytes, schema_in, with_fields, with_shape, with_version}
use Rattle.layout_schema.specs.Laws.{SchemasAreExact}
use Rattle.layout_schema.specs.Schemas.{schema_type}
use Rattle.layout_schema.specs.Shapes.{relaxes_in, version_in, shape_in}
use Rattle.file_check.specs.Laws.{OpeningHasOneAnswer, OpeningIsExact}
use Rattle.file_check.specs.Opening.{IsRead, IsOpening}
use Rattle.file_check.specs.Parts.{has_header, has_schema}
use Rattle.file_check.proofs.FileParts.{content_bytes, schema_is_bytes}
use Rattle.file_check.proofs.Openings.{answer, opened_once, with_schema, no_schema, no_header, said_file, file_said}
use Rattle.file_check.proofs.Openings.{an_ok, same_ok}

-- ---- each list of bytes is scanned as one answer

abbrev Scans : List ℕ → Type 0
Scans b = (r : Result (Unit {0}) WireFault) × IsScanned b r

behind : (b : List ℕ) → AreBytes b → (w : Node) (rest : List ℕ) → wire b ≡ Ok (w, rest) → Scans b
behind b h w [] e = (Ok tt, (w, whole_is IsByte SpellsWire wire wire_exact b [] w h e refl))
behind b h w (c ∷ rest) e = (
  Err (wires.Trailing (length b - length (c ∷ rest))),
  rest_is IsByte SpellsWire wire wire_exact b (c ∷ rest) w h e (λ z. absurd (omega (arith, z))),
)

scans : (b : List ℕ) → AreBytes b → Scans b
scans b h = go (wire b) refl
  where
    go : (r : Result (Node × List ℕ) Stop) → wire b ≡ r → Scans b
    go (Ok p) e = behind b h p.0 p.1 e
    go (Err Ended) e = (Err wires.Truncated, ended_is IsByte SpellsWire wire wire_exact b h e)
    go (Err (Refused left)) e = (
      Err (wires.Malformed (length b - left)),
      refused_is IsByte SpellsWire wire wire_exact b left h e,
    )

-- ---- and its schema is read as one

-- the answers that a wire tree says
abbrev IsSayable : Result Described SchemaFault → Type 0
IsSayable (Ok d) = Unit {0}
IsSayable (Err (schemas.Fields n)) = Unit {0}
IsSayable (Err (schemas.Version v)) = Unit {0}
IsSayable (Err (schemas.Shape n)) = Unit {0}
IsSayable (Err (schemas.Spelling f)) = ⊥
IsSayable (Err schemas.NoMemory) = ⊥

fields_say : (o : Option Found) (r : Result Described SchemaFault) → IsSayable r → IsSayable (with_fields o r)
fields_say (Some f) r h = tt
fields_say None r h = h

shape_says : (v : Version) (relaxed : Bool) (r : Result (List NodeSpec) ℤ) → IsSayable (with_shape v relaxed r)
shape_says v relaxed (Ok ns) = tt
shape_says v relaxed (Err z) = tt

choice_says : (t : Bool) (q r : Result Described SchemaFault) → IsSayable q → IsSayable r
    → IsSayable (if t then q else r)
choice_says true q r h k = h
choice_says false q r h k = k

says : (w : Node) → IsSayable (schema_in w)
says w =
    let s = meaning w (schema_type Version1) in
    let u = meaning w (schema_type Version2) in
    let v = version_in s in
    fields_say (least (faults w (schema_type Version1) 0)) (with_version w s)
    (choice_says (int_eq v (pos 1)) _ _ (shape_says Version1 false (shape_in s))
    (choice_says (int_eq v (pos 2)) _ _ (fields_say (least (faults w (schema_type Version2) 0)) _
    (shape_says Version2 (relaxes_in s) (shape_in u))) tt))

said_is_read : (s : List ℕ) (w : Node) → SpellsWire w s → (r : Result Described SchemaFault)
    → schema_in w ≡ r → IsSayable r → IsRead s r
said_is_read s w p (Ok d) e h = (w, p, e)
said_is_read s w p (Err (schemas.Fields n)) e h = (w, p, e)
said_is_read s w p (Err (schemas.Version v)) e h = (w, p, e)
said_is_read s w p (Err (schemas.Shape n)) e h = (w, p, e)
said_is_read s w p (Err (schemas.Spelling f)) e h = absurd h
said_is_read s w p (Err schemas.NoMemory) e h = absurd h

abbrev Reads : List ℕ → Type 0
Reads s = (r : Result Described SchemaFault) × IsRead s r

scanned_reads : (s : List ℕ) (r : Result (Unit {0}) WireFault) → IsScanned s r → Reads s
scanned_reads s (Ok u) x = (schema_in x.0, said_is_read s x.0 x.1 (schema_in x.0) refl (says x.0))
scanned_reads s (Err f) x = (Err (schemas.Spelling f), x)

reads : (s : List ℕ) → IsBytes s → Reads s
reads s small = let x = scans s (AreBytes-from s small) in scanned_reads s x.0 x.1

-- ---- so the bytes are opened as one

pub one_answer : OpeningHasOneAnswer
one_answer b small =
    let q = reads (schema_bytes b) (schema_is_bytes b small) in
    let x : IsOpening b (answer q.0 b) = record { schema = q.0; read = λ h. q.1; opened = refl } in
    (answer q.0 b, x, λ p y. opened_once b p (answer q.0 b) y x)

-- ---- as a layout and a value exactly where they are their file

said_content : SchemasAreExact → (b : List ℕ) → IsBytes b → has_schema b ≡ true → (e : Described)
    → IsRead (schema_bytes b) (Ok e) → (r : Result Value Fault) → open_content (content_of b) e.tree ≡ r
    → (d : Described) (v : Value) → answered r BadContent (λ u. Ok (e, u)) ≡ an_ok (Described × Value)
    (FileFault SchemaFault) (d, v) → File SchemaBytes b d v
said_content exact b small h e x (Err f) k d v q = absurd cc
said_content exact b small h e x (Ok u) k d v q =
    let whole : (e, u) ≡ (d, v) = same_ok {E = FileFault SchemaFault} (e, u) (d, v) q in
    let is = ((exact (schema_bytes b) e).1 x).within.layout in
    let content : IsContent e.tree u (content_of b) =
    where_ok (open_content (content_of b) e.tree) u
    (content_sound e.version e.tree (content_of b) is (content_bytes b small)) k in
    subst (λ (y : Described × Value). File SchemaBytes b y.0 y.1) whole
    (file_said exact b e u (record { schema = h; spelled = x; content = content }))

said_schema : SchemasAreExact → (b : List ℕ) → IsBytes b → has_schema b ≡ true
    → (r : Result Described SchemaFault) → IsRead (schema_bytes b) r → (d : Described) (v : Value)
    → answer r b ≡ Ok (d, v) → File SchemaBytes b d v
said_schema exact b small h (Err f) x d v q =
    let no : Err (BadSchema f) ≡ an_ok (Described × Value) (FileFault SchemaFault) (d, v)
    = sym (with_schema (Err f) b h) ∙ q in
    absurd cc
said_schema exact b small h (Ok e) x d v q =
    said_content exact b small h e x (open_content (content_of b) e.tree) refl d v
    (sym (with_schema (Ok e) b h) ∙ q)

opened_file : SchemasAreExact → (b : List ℕ) (d : Described) (v : Value) → IsBytes b
    → IsOpening b (Ok (d, v)) → File SchemaBytes b d v
opened_file exact b d v small x = go (has_schema b) refl
  where
    headed : (t : Bool) → has_header b ≡ t → has_schema b ≡ false → File SchemaBytes b d v
    headed true e k =
        let no : Err (BadContent Short) ≡ an_ok (Described × Value) (FileFault SchemaFault) (d, v)
        = sym (no_schema x.schema b e k) ∙ x.opened in
        absurd cc
    headed false e k =
        let no : Err NotFrozen ≡ an_ok (Described × Value) (FileFault SchemaFault) (d, v)
        = sym (no_header x.schema b e) ∙ x.opened in
        absurd cc

    go : (t : Bool) → has_schema b ≡ t → File SchemaBytes b d v
    go true e = said_schema exact b small e x.schema (x.read e) d v x.opened
    go false e = headed (has_header b) refl e

file_opened : SchemasAreExact → (b : List ℕ) (d : Described) (v : Value) → IsBytes b
    → File SchemaBytes b d v → IsOpening b (Ok (d, v))
file_opened exact b d v small h =
    let p = said_file exact b d v h in
    let is = ((exact (schema_bytes b) d).1 p.spelled).within.layout in
    let k = content_complete d.version d.tree v (content_of b) is (content_bytes b small) p.content in
    record {
      schema = Ok d;
      read = λ t. p.spelled;
      opened = with_schema (Ok d) b p.schema ∙ ap (λ r. answered r BadContent (λ u. Ok (d, u))) k;
    }

pub exact_opening : SchemasAreExact → OpeningIsExact
exact_opening exact b d v small = (opened_file exact b d v small, file_opened exact b d v small)

-- The parts of a value from a place on: what is written of them, and one part more.
use Rattle.std.proofs.Common.{◌≡◌, ℕ, suc, ◌+◌, ◌*◌, ◌<◌, List, [], ◌∷◌, ◌++◌, length, Some, refl, sym, ap, ◌∙◌, arith, append_assoc, append-nil}
use Rattle.std.specs.List.{slice_get}
use Rattle.std.specs.Prelude.{ℤ, pos, ◌≢◌}
use Rattle.idl_profile.specs.declared.kinds.TypeKind.TheVariants as kinds
use Rattle.idl_profile.specs.Types as types
use Rattle.idl_profile.specs.Types.{TypeTree, scalar, text, bytes, list_of, set_of, map_of, named, enum_of, struct_of, DefField, field_list, kind_of, flag, i8, i16, i32, i64}
use Rattle.frozen_model.specs.Values.{Value, Values, NoValue, And, count, nth}
use Rattle.compact_wire.specs.Node as node
use Rattle.compact_wire.specs.Node.{Node, Pairs, no_pairs, pair, Fields}
use Rattle.compact_wire.specs.Number.{shortest}
use Rattle.compact_wire.specs.Canon.{nodes_count, pairs_count, sequence_header, field_header, canon, canon_items, canon_pairs, canon_fields}
use Rattle.compact_wire.specs.Writes.{canon_field}
use Rattle.compact_wire.proofs.WriteSteps.{canon-fields}
use Rattle.typed_tree.specs.Spots as spots
use Rattle.typed_tree.specs.Parts.{items_of}
use Rattle.typed_tree.proofs.Rest.{from, from-next, from-end, fields_from, fields-next, fields-end}
use Rattle.typed_reading.specs.Codes.{code}
use Rattle.compact_codec.specs.Wire.{wire, each, each_pair, map_with, with_field, wire_of_fields}

-- ---- items

-- what the items from a place on are written as
abbrev pub items_from : (Value → Node) → Values → ℕ → List ℕ
items_from f vs i = canon_items (each f (from vs i))

pub item-more : (f : Value → Node) (vs : Values) (i : ℕ) (out new all : List ℕ) → i < count vs → new ≡ out ++ canon (f (nth vs i)) → out ++ items_from f vs i ≡ all → new ++ items_from f vs (i + 1) ≡ all
item-more f vs i out new all lt written so_far =
    let next : items_from f vs i ≡ canon (f (nth vs i)) ++ items_from f vs (suc i) = ap (λ us. canon_items (each f us)) (from-next vs i lt) in
    let one : i + 1 ≡ suc i = omega arith in
    let same : items_from f vs (i + 1) ≡ items_from f vs (suc i) = ap (items_from f vs) one in
    ap (λ r. new ++ r) same ∙ ap (λ r. r ++ items_from f vs (suc i)) written ∙ append_assoc out (canon (f (nth vs i))) (items_from f vs (suc i)) ∙ ap (λ r. out ++ r) (sym next) ∙ so_far

count-each : (f : Value → Node) (vs : Values) → nodes_count (each f vs) ≡ count vs
count-each f NoValue = refl
count-each f (And v vs) = ap suc (count-each f vs)

pub row-done : (c : ℕ) (f : Value → Node) (vs : Values) (i : ℕ) (old start new : List ℕ) → i ≡ count vs → start ≡ old ++ sequence_header c (count vs) → new ++ items_from f vs i ≡ start ++ canon_items (each f vs) → new ≡ old ++ canon (node.list c (each f vs))
row-done c f vs i old start new all header written =
    let items = canon_items (each f vs) in
    sym (append-nil new) ∙ ap (λ us. new ++ canon_items (each f us)) (sym (from-end vs i all)) ∙ written ∙ ap (λ r. r ++ items) header
    ∙ append_assoc old (sequence_header c (count vs)) items ∙ ap (λ n. old ++ (sequence_header c n ++ items)) (sym (count-each f vs))

-- ---- pairs

abbrev pub pairs_from : (Value → Node) → (Value → Node) → Values → ℕ → List ℕ
pairs_from f g vs i = canon_pairs (each_pair f g (from vs i))

pub pair-more : (f g : Value → Node) (vs : Values) (i : ℕ) (k v : Value) (out mid new all : List ℕ) → i < count vs → nth vs i ≡ spots.pair k v → mid ≡ out ++ canon (f k) → new ≡ mid ++ canon (g v) → out ++ pairs_from f g vs i ≡ all → new ++ pairs_from f g vs (i + 1) ≡ all
pair-more f g vs i k v out mid new all lt at first second so_far =
    let rest = pairs_from f g vs (suc i) in
    let next : pairs_from f g vs i ≡ canon (f k) ++ (canon (g v) ++ rest) = ap (λ us. canon_pairs (each_pair f g us)) (from-next vs i lt ∙ ap (λ p. And p (from vs (suc i))) at) in
    let one : i + 1 ≡ suc i = omega arith in
    let same : pairs_from f g vs (i + 1) ≡ rest = ap (pairs_from f g vs) one in
    ap (λ r. new ++ r) same ∙ ap (λ r. r ++ rest) (second ∙ ap (λ r. r ++ canon (g v)) first) ∙ append_assoc (out ++ canon (f k)) (canon (g v)) rest
    ∙ append_assoc out (canon (f k)) (canon (g v) ++ rest) ∙ ap (λ r. out ++ r) (sym next) ∙ so_far

count-pairs : (f g : Value → Node) (vs : Values) → pairs_count (each_pair f g vs) ≡ count vs
count-pairs f g NoValue = refl
count-pairs f g (And v vs) = ap suc (count-pairs f g vs)

canon-map : (a b : ℕ) (f g : Value → Node) (vs : Values) → (count vs ≡ 0 → ⊥) → canon (map_with a b (each_pair f g vs)) ≡ shortest (count vs) ++ (16 * a + b) ∷ canon_pairs (each_pair f g vs)
canon-map a b f g NoValue some = absurd (some refl)
canon-map a b f g (And v vs) some = ap (λ n. shortest (suc n) ++ (16 * a + b) ∷ canon_pairs (each_pair f g (And v vs))) (count-pairs f g vs)

pub no-map : (a b : ℕ) (f g : Value → Node) (vs : Values) → count vs ≡ 0 → canon (map_with a b (each_pair f g vs)) ≡ 0 ∷ []
no-map a b f g NoValue e = refl
no-map a b f g (And v vs) e = absurd (omega (arith, e))

pub map-done : (a b : ℕ) (f g : Value → Node) (vs : Values) (i : ℕ) (old mid start new : List ℕ) → (count vs ≡ 0 → ⊥) → i ≡ count vs → mid ≡ old ++ shortest (count vs) → start ≡ mid ++ (16 * a + b) ∷ [] → new ++ pairs_from f g vs i ≡ start ++ canon_pairs (each_pair f g vs)
    → new ≡ old ++ canon (map_with a b (each_pair f g vs))
map-done a b f g vs i old mid start new some all size codes written =
    let entries = canon_pairs (each_pair f g vs) in
    sym (append-nil new) ∙ ap (λ us. new ++ canon_pairs (each_pair f g us)) (sym (from-end vs i all)) ∙ written
    ∙ ap (λ r. r ++ entries) (codes ∙ ap (λ r. r ++ (16 * a + b) ∷ []) size) ∙ append_assoc (old ++ shortest (count vs)) ((16 * a + b) ∷ []) entries
    ∙ append_assoc old (shortest (count vs)) ((16 * a + b) ∷ entries) ∙ ap (λ r. old ++ r) (sym (canon-map a b f g vs some))

-- ---- fields

-- what the fields from a place on are written as, behind the field of that id
abbrev pub written_from : ℤ → types.Fields → Values → ℕ → List ℕ
written_from before fs vs i = canon_fields before (wire_of_fields (fields_from fs i) (from vs i))

pub field-more : (fs : types.Fields) (vs : Values) (i : ℕ) (f : DefField) (before last : ℤ) (out new all : List ℕ) → slice_get (field_list fs) i ≡ Some f → i < count vs
    → ((xs : Fields) → new ++ canon_fields last xs ≡ out ++ canon_fields before (with_field f.need f.id (wire f.type) (nth vs i) xs)) → out ++ written_from before fs vs i ≡ all → new ++ written_from last fs vs (i + 1) ≡ all
field-more fs vs i f before last out new all at lt written so_far =
    let rest = wire_of_fields (fields_from fs (suc i)) (from vs (suc i)) in
    let next : wire_of_fields (fields_from fs i) (from vs i) ≡ with_field f.need f.id (wire f.type) (nth vs i) rest =
    ap (λ gs. wire_of_fields gs (from vs i)) (fields-next fs i f at) ∙ ap (wire_of_fields (types.field f.id f.name f.need f.type f.default (fields_from fs (suc i)))) (from-next vs i lt) in
    let one : i + 1 ≡ suc i = omega arith in
    let same : written_from last fs vs (i + 1) ≡ canon_fields last rest = ap (written_from last fs vs) one in
    ap (λ r. new ++ r) same ∙ written rest ∙ ap (λ x. out ++ canon_fields before x) (sym next) ∙ so_far

pub fields-done : (fs : types.Fields) (vs : Values) (i : ℕ) (last : ℤ) (old out new : List ℕ) → i ≡ length (field_list fs) → new ≡ out ++ 0 ∷ [] → out ++ written_from last fs vs i ≡ old ++ canon_fields (pos 0) (wire_of_fields fs vs) → new ≡ old ++ canon (node.structure (wire_of_fields fs vs))
fields-done fs vs i last old out new all ended written =
    ended ∙ ap (λ gs. out ++ canon_fields last (wire_of_fields gs (from vs i))) (sym (fields-end fs i all)) ∙ written

-- ---- one field

pub given-more : (before last id : ℤ) (x : Node) (out new : List ℕ) → last ≡ id → new ≡ out ++ canon_field before id x → (xs : Fields) → new ++ canon_fields last xs ≡ out ++ canon_fields before (node.field id x xs)
given-more before last id x out new same written xs =
    ap (λ i. new ++ canon_fields i xs) same ∙ ap (λ r. r ++ canon_fields id xs) written ∙ append_assoc out (canon_field before id x) (canon_fields id xs) ∙ ap (λ r. out ++ r) (sym (canon-fields before id x xs))

-- a field whose value is no flag: its header has its type's code, and the value stands behind it
abbrev IsBehind : TypeTree → ℤ → ℤ → Node → Type 0
IsBehind t before id x = canon_field before id x ≡ field_header before id (code t) ++ canon x

map-behind : (x y : TypeTree) (before id : ℤ) (a b : ℕ) (ps : Pairs) → IsBehind (map_of x y) before id (map_with a b ps)
map-behind x y before id a b no_pairs = refl
map-behind x y before id a b (pair k v ps) = refl

pub value-behind : (t : TypeTree) (v : Value) (before id : ℤ) → kind_of t ≢ kinds.Flag → canon_field before id (wire t v) ≡ field_header before id (code t) ++ canon (wire t v)
value-behind (scalar flag) v before id no_flag = absurd (no_flag refl)
value-behind (scalar i8) v before id no_flag = refl
value-behind (scalar i16) v before id no_flag = refl
value-behind (scalar i32) v before id no_flag = refl
value-behind (scalar i64) v before id no_flag = refl
value-behind text v before id no_flag = refl
value-behind bytes v before id no_flag = refl
value-behind (list_of x) v before id no_flag = refl
value-behind (set_of x) v before id no_flag = refl
value-behind (map_of x y) v before id no_flag = map-behind x y before id (code x) (code y) (each_pair (wire x) (wire y) (items_of v))
value-behind (named (enum_of w ms)) v before id no_flag = refl
value-behind (named (struct_of w fs)) v before id no_flag = refl

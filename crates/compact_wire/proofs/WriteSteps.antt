-- The steps of writing, as the code takes them.
use Rattle.std.proofs.Common.{◌≡◌, ℕ, zero, suc, ◌+◌, ◌*◌, ◌<◌, ◌≤◌, List, [], ◌∷◌, ◌++◌, length, get_or}
use Rattle.std.proofs.Common.{drop, refl, sym, ap, subst, ◌∙◌, append_assoc, arith, rules, add-one}
use Rattle.std.specs.Prelude.{ℤ, pos, negsuc, ◌-ℤ◌, ◌≤ℤ◌, OnOk, Result, Ok, Err}
use Rattle.std.proofs.Math.Seq.{drop-cons}
use Rattle.std.proofs.lemmas.Int.{ints}
use Rattle.compact_wire.specs.declared.wire.Wire.{Wire, the_lemmas}
use Rattle.compact_wire.specs.declared.wire.Wire as Wire
use Rattle.compact_wire.specs.Number.{shortest}
use Rattle.compact_wire.specs.Node.{Node, flag, i8, i16, i32, i64, double, binary, list, set, map, structure}
use Rattle.compact_wire.specs.Node.{no_nodes, node, no_pairs, pair, Fields, no_fields, field}
use Rattle.compact_wire.specs.View.{view, nodes_view, pairs_view, fields_view}
use Rattle.compact_wire.specs.Canon.{nodes_count, pairs_count, sequence_header, id_step, field_header, canon}
use Rattle.compact_wire.specs.Canon.{canon_items, canon_pairs, canon_fields}
use Rattle.compact_wire.specs.Writes.{canon_field, CodesFit, CodesFitAll, CodesFitPairs, CodesFitFields}

-- ---- counts

pub nodes_count-view : (ws : List Wire) → nodes_count (nodes_view ws) ≡ length ws
nodes_count-view [] = refl
nodes_count-view (w ∷ ws) = ap suc (nodes_count-view ws)

pub pairs_count-view : (ps : List (Wire × Wire)) → pairs_count (pairs_view ps) ≡ length ps
pairs_count-view [] = refl
pairs_count-view (p ∷ ps) = ap suc (pairs_count-view ps)

-- ---- the values from one on

pub from_item : (ws : List Wire) (i : ℕ) (w : Wire) → i < length ws → w ≡ get_or ws i w
    → nodes_view (drop i ws) ≡ node (view w) (nodes_view (drop (i + 1) ws))
from_item ws i w lt is =
    rw add-one
    (ap nodes_view (drop-cons ws i w lt)
    ∙ ap (λ (z : Wire). node (view z) (nodes_view (drop (suc i) ws))) (sym is))

pub from_pair : (ps : List (Wire × Wire)) (i : ℕ) (p : Wire × Wire) → i < length ps → p ≡ get_or ps i p
    → pairs_view (drop i ps) ≡ pair (view p.0) (view p.1) (pairs_view (drop (i + 1) ps))
from_pair ps i p lt is =
    rw add-one
    (ap pairs_view (drop-cons ps i p lt)
    ∙ ap (λ (z : Wire × Wire). pair (view z.0) (view z.1) (pairs_view (drop (suc i) ps))) (sym is))

pub from_field : (fs : List (ℤ × Wire)) (i : ℕ) (f : ℤ × Wire) → i < length fs → f ≡ get_or fs i f
    → fields_view (drop i fs) ≡ field f.0 (view f.1) (fields_view (drop (i + 1) fs))
from_field fs i f lt is =
    rw add-one
    (ap fields_view (drop-cons fs i f lt)
    ∙ ap (λ (z : ℤ × Wire). field z.0 (view z.1) (fields_view (drop (suc i) fs))) (sym is))

-- ---- the end

pub no_items_left : (ws : List Wire) (i : ℕ) → length ws ≤ i → nodes_view (drop i ws) ≡ no_nodes
no_items_left [] zero h = refl
no_items_left [] (suc i) h = refl
no_items_left (w ∷ ws) zero h = absurd (omega arith)
no_items_left (w ∷ ws) (suc i) h = no_items_left ws i (omega arith)

pub no_pairs_left : (ps : List (Wire × Wire)) (i : ℕ) → length ps ≤ i → pairs_view (drop i ps) ≡ no_pairs
no_pairs_left [] zero h = refl
no_pairs_left [] (suc i) h = refl
no_pairs_left (p ∷ ps) zero h = absurd (omega arith)
no_pairs_left (p ∷ ps) (suc i) h = no_pairs_left ps i (omega arith)

pub no_fields_left : (fs : List (ℤ × Wire)) (i : ℕ) → length fs ≤ i → fields_view (drop i fs) ≡ no_fields
no_fields_left [] zero h = refl
no_fields_left [] (suc i) h = refl
no_fields_left (f ∷ fs) zero h = absurd (omega arith)
no_fields_left (f ∷ fs) (suc i) h = no_fields_left fs i (omega arith)

-- ---- views

pub view-list : (wire : Wire) (code : ℕ) (ws : List Wire) → wire ≡ Wire.List code ws
    → view wire ≡ list code (nodes_view ws)
view-list wire code ws e = ap view e ∙ here
  where
    here : view (Wire.List code ws) ≡ list code (nodes_view ws)
    here = search (rules, the_lemmas)

pub view-set : (wire : Wire) (code : ℕ) (ws : List Wire) → wire ≡ Wire.Set code ws
    → view wire ≡ set code (nodes_view ws)
view-set wire code ws e = ap view e ∙ here
  where
    here : view (Wire.Set code ws) ≡ set code (nodes_view ws)
    here = search (rules, the_lemmas)

pub view-map : (wire : Wire) (key value : ℕ) (ps : List (Wire × Wire)) → wire ≡ Wire.Map key value ps
    → view wire ≡ map key value (pairs_view ps)
view-map wire key value ps e = ap view e ∙ here
  where
    here : view (Wire.Map key value ps) ≡ map key value (pairs_view ps)
    here = search (rules, the_lemmas)

pub view-struct : (wire : Wire) (fs : List (ℤ × Wire)) → wire ≡ Wire.Struct fs
    → view wire ≡ structure (fields_view fs)
view-struct wire fs e = ap view e ∙ here
  where
    here : view (Wire.Struct fs) ≡ structure (fields_view fs)
    here = search (rules, the_lemmas)

-- ---- values

pub canon-map : (key value : ℕ) (ps : List (Wire × Wire)) → (length ps ≡ 0 → ⊥)
    → canon (map key value (pairs_view ps)) ≡ shortest (length ps) ++ (16 * key + value)
    ∷ canon_pairs (pairs_view ps)
canon-map key value [] some = absurd (some refl)
canon-map key value (p ∷ ps) some =
    ap (λ (n : ℕ). shortest (suc n) ++ (16 * key + value) ∷ canon_pairs (pairs_view (p ∷ ps)))
    (pairs_count-view ps)

pub canon-fields : (before id : ℤ) (x : Node) (xs : Fields)
    → canon_fields before (field id x xs) ≡ canon_field before id x ++ canon_fields id xs
canon-fields before id (flag b) xs = refl
canon-fields before id (i8 z) xs =
    sym (append_assoc (field_header before id 3) (canon (i8 z)) (canon_fields id xs))
canon-fields before id (i16 z) xs =
    sym (append_assoc (field_header before id 4) (canon (i16 z)) (canon_fields id xs))
canon-fields before id (i32 z) xs =
    sym (append_assoc (field_header before id 5) (canon (i32 z)) (canon_fields id xs))
canon-fields before id (i64 z) xs =
    sym (append_assoc (field_header before id 6) (canon (i64 z)) (canon_fields id xs))
canon-fields before id (double b) xs = sym (append_assoc (field_header before id 7) b (canon_fields id xs))
canon-fields before id (binary b) xs =
    sym (append_assoc (field_header before id 8) (canon (binary b)) (canon_fields id xs))
canon-fields before id (list c ys) xs =
    sym (append_assoc (field_header before id 9) (canon (list c ys)) (canon_fields id xs))
canon-fields before id (set c ys) xs =
    sym (append_assoc (field_header before id 10) (canon (set c ys)) (canon_fields id xs))
canon-fields before id (map a b ys) xs =
    sym (append_assoc (field_header before id 11) (canon (map a b ys)) (canon_fields id xs))
canon-fields before id (structure ys) xs =
    sym (append_assoc (field_header before id 12) (canon (structure ys)) (canon_fields id xs))

-- ---- the step from one id to the next

pub id_step_none : (before id : ℤ) → (id -ℤ before) ≤ℤ pos 0 → id_step before id ≡ 0
id_step_none (pos a) (pos b) h = omega (arith, ints)
id_step_none (pos a) (negsuc b) h = refl
id_step_none (negsuc a) (pos b) h = omega (arith, ints)
id_step_none (negsuc a) (negsuc b) h = omega (arith, ints)

pub id_step_large : (before id : ℤ) → pos 16 ≤ℤ (id -ℤ before) → 16 ≤ id_step before id
id_step_large (pos a) (pos b) h = omega (arith, ints)
id_step_large (pos a) (negsuc b) h = absurd (omega (arith, ints))
id_step_large (negsuc a) (pos b) h = omega (arith, ints)
id_step_large (negsuc a) (negsuc b) h = omega (arith, ints)

pub on_ok : {A E P Q : Type 0} (r : Result A E) → (P → Q) → OnOk r P → OnOk r Q
on_ok (Ok x) f h = f h
on_ok (Err e) f h = h

-- ---- the loops and the parts

pub item_fits : (ws : List Wire) (i : ℕ) (w : Wire) → CodesFitAll (nodes_view (drop i ws)) → i < length ws
    → w ≡ get_or ws i w → CodesFit (view w)
item_fits ws i w h lt is = (subst CodesFitAll (from_item ws i w lt is) h).0

pub first_fits : (ps : List (Wire × Wire)) (i : ℕ) (p : Wire × Wire) → CodesFitPairs (pairs_view (drop i ps))
    → i < length ps → p ≡ get_or ps i p → CodesFit (view p.0)
first_fits ps i p h lt is = (subst CodesFitPairs (from_pair ps i p lt is) h).0

pub second_fits : (ps : List (Wire × Wire)) (i : ℕ) (p : Wire × Wire) → CodesFitPairs (pairs_view (drop i ps))
    → i < length ps → p ≡ get_or ps i p → CodesFit (view p.1)
second_fits ps i p h lt is = (subst CodesFitPairs (from_pair ps i p lt is) h).1

pub field_fits : (fs : List (ℤ × Wire)) (i : ℕ) (f : ℤ × Wire) → CodesFitFields (fields_view (drop i fs))
    → i < length fs → f ≡ get_or fs i f → CodesFit (view f.1)
field_fits fs i f h lt is = (subst CodesFitFields (from_field fs i f lt is) h).0

pub field_done : (fs : List (ℤ × Wire)) (i : ℕ) (f : ℤ × Wire) (before : ℤ) (out new all : List ℕ)
    → i < length fs → f ≡ get_or fs i f → new ≡ out ++ canon_field before f.0 (view f.1)
    → out ++ canon_fields before (fields_view (drop i fs)) ≡ all → CodesFitFields (fields_view (drop i fs))
    → (new ++ canon_fields f.0 (fields_view (drop (i + 1) fs)) ≡ all)
    × CodesFitFields (fields_view (drop (i + 1) fs))
field_done fs i f before out new all lt is written so_far fit =
    let parts = from_field fs i f lt is in
    let rest : Fields = fields_view (drop (i + 1) fs) in
    let one_more : canon_fields before (fields_view (drop i fs)) ≡ canon_field before f.0 (view f.1)
    ++ canon_fields f.0 rest =
    ap (canon_fields before) parts ∙ canon-fields before f.0 (view f.1) rest in (
      ap (λ (z : List ℕ). z ++ canon_fields f.0 rest) written
          ∙ append_assoc out (canon_field before f.0 (view f.1)) (canon_fields f.0 rest)
          ∙ ap (λ (z : List ℕ). out ++ z) (sym one_more) ∙ so_far,
      (subst CodesFitFields parts fit).1,
    )

pub sequence_done : (code : ℕ) (ws : List Wire) (old mid new : List ℕ)
    → mid ≡ old ++ sequence_header code (length ws) → new ≡ mid ++ canon_items (nodes_view ws)
    → new ≡ old ++ canon (list code (nodes_view ws))
sequence_done code ws old mid new header written =
    written ∙ ap (λ (z : List ℕ). z ++ canon_items (nodes_view ws)) header
    ∙ append_assoc old (sequence_header code (length ws)) (canon_items (nodes_view ws))
    ∙ ap (λ (n : ℕ). old ++ (sequence_header code n ++ canon_items (nodes_view ws)))
    (sym (nodes_count-view ws))

pub map_done : (key value : ℕ) (ps : List (Wire × Wire)) (old mid last new : List ℕ) → (length ps ≡ 0 → ⊥)
    → mid ≡ old ++ shortest (length ps) → last ≡ mid ++ (16 * key + value) ∷ []
    → new ≡ last ++ canon_pairs (pairs_view ps)
    → new ≡ old ++ canon (map key value (pairs_view ps))
map_done key value ps old mid last new some count codes written =
    let entries : List ℕ = canon_pairs (pairs_view ps) in
    let codes_behind : mid ++ (16 * key + value) ∷ entries ≡ old
    ++ (shortest (length ps) ++ (16 * key + value) ∷ entries) =
    ap (λ (z : List ℕ). z ++ (16 * key + value) ∷ entries) count
    ∙ append_assoc old (shortest (length ps)) ((16 * key + value) ∷ entries) in
    written ∙ ap (λ (z : List ℕ). z ++ entries) codes ∙ append_assoc mid ((16 * key + value) ∷ []) entries
    ∙ codes_behind ∙ ap (λ (z : List ℕ). old ++ z) (sym (canon-map key value ps some))

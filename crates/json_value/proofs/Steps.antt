-- What is known behind parts of a JSON value, one after the other.
use Rattle.std.proofs.Common.{◌≡◌, ℕ, suc, ◌+◌, ◌<◌, ◌≤◌, List, [], ◌∷◌, ◌++◌, length, drop, get_or, Bor, Bool, ◌&&◌, true, false, cond, Option, Some, None, option_map, refl, sym, ap, ◌∙◌, arith}
use Rattle.std.specs.Prelude.{find, not, is_some}
use Rattle.std.proofs.Math.Seq.{drop-cons}
use Rattle.std.specs.List.{slice_get}
use Rattle.serde_json.specs.Data.{Data, array, object, Items, no_items, item, Members, no_members, member}
use Rattle.serde_json.specs.Find.{get_member}
use Rattle.serde_json.specs.View.{view, items_view}
use Rattle.serde_json.specs.declared.value.Value.{Value}
use Rattle.idl_profile.specs.declared.kinds.TypeKind.TheVariants as kinds
use Rattle.idl_profile.specs.Types.{TypeTree, DefField, fields_of, kind_of, scalar, text, bytes, list_of, set_of, map_of, named, enum_of, struct_of, flag, i8, i16, i32, i64}
use Rattle.typed_tree.proofs.Typed.{size}
use Rattle.frozen_model.specs.Values.{Value as V}
use Rattle.idl_parse.specs.Refs.{element_of, key_of, value_of}
use Rattle.typed_reading.specs.declared.fault.Found.{Found}
use Rattle.typed_reading.specs.declared.fault.NodeFault.TheVariants.{MissingRequired}
use Rattle.typed_reading.specs.Faults.{lesser, least, all_here, type_of_field, is_required, repeats}
use Rattle.typed_reading.proofs.FieldLaws.{drop_get, drop_all}
use Rattle.typed_reading.proofs.Order.{lesser_three, lesser_none, least_append}
use Rattle.json_value.specs.declared.progress.Progress.{Progress}
use Rattle.json_value.specs.Nodes.{nodes, nodes_in, nodes_of_members}
use Rattle.json_value.specs.Faults.{faults, faults_in, faults_in_pairs, faults_of_entry, keys_in, keys_in_pairs, faults_in_members, missing, of_member, type_named, has_name, wrong}
use Rattle.json_value.specs.Reading.{on, inside, after, after_items, after_pairs, after_entry, after_members, after_member, with_repeats}

abbrev pub progress : Option Found → ℕ → Progress
progress f n = record { found = f; next = n }

pub progress_is : (f g : Option Found) (m n : ℕ) → f ≡ g → m ≡ n → progress f m ≡ progress g n
progress_is f g m n e h = ap (λ (x : Option Found). progress x m) e ∙ ap (progress g) h

-- faults of two parts, one after the other
pub on_more : (s : Progress) (fs gs : List Found) (m n : ℕ) → on s (fs ++ gs) (m + n) ≡ on (on s fs m) gs n
on_more s fs gs m n = progress_is _ _ _ _ (ap (lesser s.found) (least_append fs gs) ∙ sym (lesser_three s.found (least fs) (least gs))) (omega arith)

pub no_more : (t : TypeTree) (s : Progress) → after_items t s no_items ≡ s
no_more t s = progress_is _ s.found _ s.next (lesser_none s.found) (omega arith)

pub one_more : (t : TypeTree) (s : Progress) (d : Data) (ds : Items) → after_items t s (item d ds) ≡ after_items t (after t s d) ds
one_more t s d ds = on_more s (faults d t s.next) (faults_in ds t (s.next + nodes d)) (nodes d) (nodes_in ds)

pub no_more_members : (fs : List DefField) (s : Progress) → after_members fs s no_members ≡ s
no_more_members fs s = progress_is _ s.found _ s.next (lesser_none s.found) (omega arith)

pub one_more_member : (fs : List DefField) (s : Progress) (name : List ℕ) (d : Data) (ms : Members) → after_members fs s (member name d ms) ≡ after_members fs (after_member (type_named fs name) s d) ms
one_more_member fs s name d ms = on_more s (of_member (type_named fs name) (λ t. faults d t s.next)) (faults_in_members ms fs (s.next + nodes d)) (nodes d) (nodes_of_members ms)

-- ---- containers

pub list_is : (t : TypeTree) (s : Progress) (ds : Items) → kind_of t ≡ kinds.List → after t s (array ds) ≡ after_items (element_of t) (inside s) ds
list_is t s ds e =
    progress_is _ _ _ _
    (rw e (ap (λ (n : ℕ). lesser s.found (least (faults_in ds (element_of t) n))) (let one : suc s.next ≡ s.next + 1 = omega arith in one)))
    (omega arith)

abbrev pub noted : TypeTree → Progress → Members → Progress
noted t s ms = progress (lesser s.found (least (all_here s.next (missing (fields_of t) ms)))) (s.next + 1)

pub struct_is : (t : TypeTree) (s : Progress) (ms : Members) → kind_of t ≡ kinds.Struct → after t s (object ms) ≡ after_members (fields_of t) (noted t s ms) ms
struct_is t s ms e =
    let own = all_here s.next (missing (fields_of t) ms) in
    let below = λ (n : ℕ). faults_in_members ms (fields_of t) n in
    progress_is _ _ _ _
    (rw e (ap (λ (n : ℕ). lesser s.found (least (own ++ below n))) (let one : suc s.next ≡ s.next + 1 = omega arith in one)
    ∙ ap (lesser s.found) (least_append own (below (s.next + 1))) ∙ sym (lesser_three s.found (least own) (least (below (s.next + 1))))))
    (omega arith)

-- ---- fields by their names

-- what is found stands at a place
pub found_at : (p : DefField → Bool) (fs : List DefField) (f : DefField) → find p fs ≡ Some f → (i : ℕ) × (slice_get fs i ≡ Some f)
found_at p [] f e = absurd cc
found_at p (g ∷ gs) f e = by (found_at p gs f) (p g) e
  where
    by : (find p gs ≡ Some f → (i : ℕ) × (slice_get gs i ≡ Some f)) → (b : Bool) → cond b (Some g) (find p gs) ≡ Some f → (i : ℕ) × (slice_get (g ∷ gs) i ≡ Some f)
    by rest true h = (0, h)
    by rest false h = let r = rest h in (suc r.0, r.1)

pub known_type : (fs : List DefField) (name : List ℕ) (f : DefField) → find (has_name name) fs ≡ Some f → type_named fs name ≡ Some f.type
known_type fs name f e = ap (option_map type_of_field) e

pub unknown_type : (fs : List DefField) (name : List ℕ) → find (has_name name) fs ≡ None → type_named fs name ≡ None
unknown_type fs name e = ap (option_map type_of_field) e

-- ---- missing fields

pub missing_step : (fs : List DefField) (ms : Members) (i : ℕ) (f : DefField) (b : Bool) → slice_get fs i ≡ Some f → (is_required f.need && not (is_some (get_member f.name ms))) ≡ b
    → missing (drop i fs) ms ≡ cond b (MissingRequired f.id ∷ []) (missing (drop (i + 1) fs) ms)
missing_step fs ms i f b e h = ap (λ (gs : List DefField). missing gs ms) (drop_get fs i f e) ∙ ap (λ (c : Bool). cond c (MissingRequired f.id ∷ []) (missing (drop (i + 1) fs) ms)) h

pub missing_done : (fs : List DefField) (ms : Members) (i : ℕ) → length fs ≤ i → missing (drop i fs) ms ≡ []
missing_done fs ms i h = ap (λ (gs : List DefField). missing gs ms) (drop_all fs i h)

-- ---- a member that is not there

pub none_there : (r : Option (Bor Value)) (d : Option Data) → option_map (λ (x : Bor Value). view x.now) r ≡ d → is_some r ≡ is_some d
none_there None d e = ap is_some e
none_there (Some x) d e = ap is_some e

-- ---- the item at a place

pub item_at : (vs : List Value) (i : ℕ) (v : Value) → i < length vs → v ≡ get_or vs i v → items_view (drop i vs) ≡ item (view v) (items_view (drop (i + 1) vs))
item_at vs i v lt e =
    let one : suc i ≡ i + 1 = omega arith in
    ap items_view (drop-cons vs i v lt) ∙ ap (λ (u : Value). item (view u) (items_view (drop (suc i) vs))) (sym e) ∙ ap (λ (n : ℕ). item (view v) (items_view (drop n vs))) one

-- ---- sets and maps

no_more_pairs : (k v : TypeTree) (s : Progress) → after_pairs k v s no_items ≡ s
no_more_pairs k v s = progress_is _ s.found _ s.next (lesser_none s.found) (omega arith)

pub one_more_pair : (k v : TypeTree) (s : Progress) (d : Data) (ds : Items) → after_pairs k v s (item d ds) ≡ after_pairs k v (after_entry k v s d) ds
one_more_pair k v s d ds = on_more s (faults_of_entry d k v s.next) (faults_in_pairs ds k v (s.next + nodes d)) (nodes d) (nodes_in ds)

-- with the repeats behind
pub repeats_behind : (s : Progress) (fs : List Found) (n : ℕ) (ks : List (ℕ × V)) → on s (fs ++ repeats ks []) n ≡ with_repeats (on s fs n) ks
repeats_behind s fs n ks = progress_is _ _ _ _ (ap (lesser s.found) (least_append fs (repeats ks [])) ∙ sym (lesser_three s.found (least fs) (least (repeats ks [])))) refl

pub set_is : (t : TypeTree) (s : Progress) (ds : Items) → kind_of t ≡ kinds.Set
    → after t s (array ds) ≡ with_repeats (after_items (element_of t) (inside s) ds) (keys_in ds (kind_of (element_of t)) (s.next + 1))
set_is t s ds e =
    let u = element_of t in
    let one : suc s.next ≡ s.next + 1 = omega arith in
    progress_is _ _ _ _
    (rw e (ap (λ (n : ℕ). lesser s.found (least (faults_in ds u n ++ repeats (keys_in ds (kind_of u) n) []))) one
    ∙ ap (λ (p : Progress). p.found) (repeats_behind s (faults_in ds u (s.next + 1)) (1 + nodes_in ds) (keys_in ds (kind_of u) (s.next + 1)))))
    (omega arith)

pub map_is : (t : TypeTree) (s : Progress) (ds : Items) → kind_of t ≡ kinds.Map
    → after t s (array ds) ≡ with_repeats (after_pairs (key_of t) (value_of t) (inside s) ds) (keys_in_pairs ds (kind_of (key_of t)) (s.next + 1))
map_is t s ds e =
    let k = key_of t in
    let v = value_of t in
    let one : suc s.next ≡ s.next + 1 = omega arith in
    progress_is _ _ _ _
    (rw e (ap (λ (n : ℕ). lesser s.found (least (faults_in_pairs ds k v n ++ repeats (keys_in_pairs ds (kind_of k) n) []))) one
    ∙ ap (λ (p : Progress). p.found) (repeats_behind s (faults_in_pairs ds k v (s.next + 1)) (1 + nodes_in ds) (keys_in_pairs ds (kind_of k) (s.next + 1)))))
    (omega arith)

none_behind : (fs : List Found) → fs ++ [] ≡ fs
none_behind [] = refl
none_behind (f ∷ fs) = ap (λ (gs : List Found). f ∷ gs) (none_behind fs)

-- an entry of two
pub two_is : (k v : TypeTree) (s : Progress) (x y : Data) → after_entry k v s (array (item x (item y no_items))) ≡ after v (after k (inside s) x) y
two_is k v s x y =
    let one : suc s.next ≡ s.next + 1 = omega arith in
    let all = ap (λ (n : ℕ). on s (faults x k n ++ (faults y v (n + nodes x) ++ [])) (suc (nodes x + (nodes y + 0)))) one in
    let count : suc (nodes x + (nodes y + 0)) ≡ 1 + (nodes x + nodes y) = omega arith in
    all
    ∙ ap (λ (gs : List Found). on s (faults x k (s.next + 1) ++ gs) (suc (nodes x + (nodes y + 0)))) (none_behind (faults y v (s.next + 1 + nodes x)))
    ∙ ap (λ (n : ℕ). on s (faults x k (s.next + 1) ++ faults y v (s.next + 1 + nodes x)) n) count
    ∙ (on_more s [] (faults x k (s.next + 1) ++ faults y v (s.next + 1 + nodes x)) 1 (nodes x + nodes y))
    ∙ ap (λ (p : Progress). on p (faults x k (s.next + 1) ++ faults y v (s.next + 1 + nodes x)) (nodes x + nodes y)) (progress_is _ s.found _ (s.next + 1) (lesser_none s.found) refl)
    ∙ on_more (inside s) (faults x k (s.next + 1)) (faults y v (s.next + 1 + nodes x)) (nodes x) (nodes y)

-- any other array is no entry
pub other_is : (k v : TypeTree) (s : Progress) (vs : List Value) → (length vs ≡ 2 → ⊥) → faults_of_entry (array (items_view vs)) k v s.next ≡ wrong s.next
other_is k v s [] n = refl
other_is k v s (x ∷ []) n = refl
other_is k v s (x ∷ y ∷ []) n = absurd (n (omega arith))
other_is k v s (x ∷ y ∷ z ∷ vs) n = refl

pub two_view : (vs : List Value) (x y : Value) → length vs ≡ 2 → x ≡ get_or vs 0 x → y ≡ get_or vs 1 y → items_view vs ≡ item (view x) (item (view y) no_items)
two_view [] x y n e f = absurd (omega (arith, n))
two_view (a ∷ []) x y n e f = absurd (omega (arith, n))
two_view (a ∷ b ∷ []) x y n e f = ap (λ (u : Value). item (view u) (item (view b) no_items)) (sym e) ∙ ap (λ (u : Value). item (view x) (item (view u) no_items)) (sym f)
two_view (a ∷ b ∷ c ∷ vs) x y n e f = absurd (omega (arith, n))

-- ---- sizes of types

pub map_smaller : (t : TypeTree) → kind_of t ≡ kinds.Map → size t ≡ suc (size (key_of t) + size (value_of t))
map_smaller (map_of x y) e = refl
map_smaller (scalar flag) e = absurd cc
map_smaller (scalar i8) e = absurd cc
map_smaller (scalar i16) e = absurd cc
map_smaller (scalar i32) e = absurd cc
map_smaller (scalar i64) e = absurd cc
map_smaller text e = absurd cc
map_smaller bytes e = absurd cc
map_smaller (list_of x) e = absurd cc
map_smaller (set_of x) e = absurd cc
map_smaller (named (enum_of w ms)) e = absurd cc
map_smaller (named (struct_of w fs)) e = absurd cc

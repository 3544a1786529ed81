-- The keys of a set or a map stand at nodes that rise.
use Rattle.std.proofs.Common.{◌≡◌, ℕ, zero, suc, ◌+◌, ◌<◌, ◌≤◌, List, [], ◌∷◌, ◌++◌, get_or, cond, Option, Some, None, refl, sym, ap, subst, ◌∙◌, arith, length, drop}
use Rattle.serde_json.specs.Data.{Data, null, boolean, number, string, array, object, Items, no_items, item}
use Rattle.serde_json.specs.View.{view, items_view}
use Rattle.serde_json.specs.declared.value.Value as json
use Rattle.idl_profile.specs.declared.kinds.TypeKind.{TypeKind}
use Rattle.frozen_model.specs.Values.{Value}
use Rattle.typed_reading.specs.Marks.{Climbs}
use Rattle.json_value.specs.Nodes.{nodes, nodes_in}
use Rattle.json_value.specs.Leaves.{leaf}
use Rattle.json_value.specs.Faults.{keys_in, keys_in_pairs, key_in_front, key_of_entry, is_two}

pub nodes_some : (d : Data) → 1 ≤ nodes d
nodes_some null = omega arith
nodes_some (boolean b) = omega arith
nodes_some (number n) = omega arith
nodes_some (string s) = omega arith
nodes_some (array ds) = omega arith
nodes_some (object ms) = omega arith

lower : (lo low hi : ℕ) (ks : List (ℕ × Value)) → low ≤ lo → Climbs lo hi ks → Climbs low hi ks
lower lo low hi [] le h = omega (arith, le, h)
lower lo low hi (k ∷ ks) le h = (omega (arith, le, h.0), h.1)

in_front : (at next hi : ℕ) (o : Option Value) (ks : List (ℕ × Value)) → at < next → Climbs next hi ks → Climbs at hi (key_in_front at o ks)
in_front at next hi None ks lt h = lower next at hi ks (omega (arith, lt)) h
in_front at next hi (Some v) ks lt h = (omega arith, lower next (suc at) hi ks (omega (arith, lt)) h)

pub keys_climb : (ds : Items) (k : TypeKind) (at : ℕ) → Climbs at (at + nodes_in ds) (keys_in ds k at)
keys_climb no_items k at = omega arith
keys_climb (item d ds) k at =
    let hi : at + nodes d + nodes_in ds ≡ at + (nodes d + nodes_in ds) = omega arith in
    in_front at (at + nodes d) (at + (nodes d + nodes_in ds)) (leaf k d) (keys_in ds k (at + nodes d)) (omega (arith, nodes_some d))
    (subst (λ (n : ℕ). Climbs (at + nodes d) n (keys_in ds k (at + nodes d))) hi (keys_climb ds k (at + nodes d)))

-- an entry that has a key has nodes below it
entry_front : (at : ℕ) (hi : ℕ) (k : TypeKind) (d : Data) (ks : List (ℕ × Value)) → Climbs (at + nodes d) hi ks → Climbs at hi (key_in_front (suc at) (key_of_entry k d) ks)
entry_front at hi k null ks h = lower (at + 1) at hi ks (omega arith) h
entry_front at hi k (boolean b) ks h = lower (at + 1) at hi ks (omega arith) h
entry_front at hi k (number n) ks h = lower (at + 1) at hi ks (omega arith) h
entry_front at hi k (string s) ks h = lower (at + 1) at hi ks (omega arith) h
entry_front at hi k (object ms) ks h = lower (at + nodes (object ms)) at hi ks (omega arith) h
entry_front at hi k (array no_items) ks h = lower (at + 1) at hi ks (omega arith) h
entry_front at hi k (array (item x xs)) ks h =
    by (cond (is_two (item x xs)) (leaf k x) None)
  where
    by : (o : Option Value) → Climbs at hi (key_in_front (suc at) o ks)
    by o = lower (suc at) at hi _ (omega arith) (in_front (suc at) (at + nodes (array (item x xs))) hi o ks (omega (arith, nodes_some x)) h)

pub pair_keys_climb : (ds : Items) (k : TypeKind) (at : ℕ) → Climbs at (at + nodes_in ds) (keys_in_pairs ds k at)
pair_keys_climb no_items k at = omega arith
pair_keys_climb (item d ds) k at =
    let hi : at + nodes d + nodes_in ds ≡ at + (nodes d + nodes_in ds) = omega arith in
    entry_front at (at + (nodes d + nodes_in ds)) k d (keys_in_pairs ds k (at + nodes d))
    (subst (λ (n : ℕ). Climbs (at + nodes d) n (keys_in_pairs ds k (at + nodes d))) hi (pair_keys_climb ds k (at + nodes d)))

-- what is noted of all keys
pub all_climb : (ds : Items) (k : TypeKind) (at next : ℕ) (ks : List (ℕ × Value)) → ks ≡ keys_in ds k at → next ≡ at + nodes_in ds → Climbs 0 next ks
all_climb ds k at next ks e f = subst (Climbs 0 next) (sym e) (subst (λ (n : ℕ). Climbs 0 n (keys_in ds k at)) (sym f) (lower at 0 (at + nodes_in ds) (keys_in ds k at) (omega arith) (keys_climb ds k at)))

pub all_pairs_climb : (ds : Items) (k : TypeKind) (at next : ℕ) (ks : List (ℕ × Value)) → ks ≡ keys_in_pairs ds k at → next ≡ at + nodes_in ds → Climbs 0 next ks
all_pairs_climb ds k at next ks e f = subst (Climbs 0 next) (sym e) (subst (λ (n : ℕ). Climbs 0 n (keys_in_pairs ds k at)) (sym f) (lower at 0 (at + nodes_in ds) (keys_in_pairs ds k at) (omega arith) (pair_keys_climb ds k at)))

-- ---- behind the last item

pub drop_past : {A : Type 0} → (xs : List A) (i : ℕ) → length xs ≤ i → drop i xs ≡ []
drop_past [] zero le = refl
drop_past [] (suc i) le = refl
drop_past (x ∷ xs) zero le = absurd (omega (arith, le))
drop_past (x ∷ xs) (suc i) le = drop_past xs i (omega (arith, le))

nothing_more : (ks : List (ℕ × Value)) → ks ++ [] ≡ ks
nothing_more [] = refl
nothing_more (k ∷ ks) = ap (λ (ls : List (ℕ × Value)). k ∷ ls) (nothing_more ks)

pub all_in : (vs : List json.Value) (i a : ℕ) (k : TypeKind) (at next : ℕ) (ks : List (ℕ × Value)) → length vs ≤ i → ks ++ keys_in (items_view (drop i vs)) k a ≡ keys_in (items_view vs) k at
    → next ≡ at + nodes_in (items_view vs) → Climbs 0 next ks
all_in vs i a k at next ks le e f =
    all_climb (items_view vs) k at next ks (sym (nothing_more ks) ∙ sym (ap (λ (us : List json.Value). ks ++ keys_in (items_view us) k a) (drop_past vs i le)) ∙ e) f

pub all_pairs_in : (vs : List json.Value) (i a : ℕ) (k : TypeKind) (at next : ℕ) (ks : List (ℕ × Value)) → length vs ≤ i → ks ++ keys_in_pairs (items_view (drop i vs)) k a ≡ keys_in_pairs (items_view vs) k at
    → next ≡ at + nodes_in (items_view vs) → Climbs 0 next ks
all_pairs_in vs i a k at next ks le e f =
    all_pairs_climb (items_view vs) k at next ks (sym (nothing_more ks) ∙ sym (ap (λ (us : List json.Value). ks ++ keys_in_pairs (items_view us) k a) (drop_past vs i le)) ∙ e) f

-- ---- the key of an entry

pub two_key : (k : TypeKind) (vs : List json.Value) (v : json.Value) → length vs ≡ 2 → v ≡ get_or vs 0 v → key_of_entry k (array (items_view vs)) ≡ leaf k (view v)
two_key k [] v n e = absurd (omega (arith, n))
two_key k (x ∷ []) v n e = absurd (omega (arith, n))
two_key k (x ∷ y ∷ []) v n e = ap (λ (u : json.Value). leaf k (view u)) (sym e)
two_key k (x ∷ y ∷ z ∷ vs) v n e = absurd (omega (arith, n))

pub other_key : (k : TypeKind) (vs : List json.Value) → (length vs ≡ 2 → ⊥) → key_of_entry k (array (items_view vs)) ≡ None
other_key k [] n = refl
other_key k (x ∷ []) n = refl
other_key k (x ∷ y ∷ []) n = absurd (n (omega arith))
other_key k (x ∷ y ∷ z ∷ vs) n = refl

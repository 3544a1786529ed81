-- What is known behind parts, one after the other.
use Rattle.std.proofs.Common.{◌||◌, ◌≡◌, ◌≢◌, ℕ, ◌+◌, ◌<◌, nat_eq, ◌&&◌, List, [], ◌∷◌, ◌++◌, Bool, true, false, Option, Some, refl, sym, ap, ◌∙◌, arith}
use Rattle.std.specs.Prelude.{ℤ}
use Rattle.std.proofs.lemmas.Bool.Decides.{nat_tests}
use Rattle.frozen_model.specs.Values.{Value}
use Rattle.compact_wire.specs.Node.{Node, flag, i8, i16, i32, i64, double, binary, list, set, map, structure, Nodes, no_nodes, node, Pairs, no_pairs, pair, Fields, no_fields, field}
use Rattle.wire_scan.specs.Sizes.{size, sizes, sizes_of_pairs, sizes_of_fields}
use Rattle.idl_profile.specs.Types.{TypeTree, DefField}
use Rattle.typed_reading.specs.declared.fault.NodeFault.TheVariants.{WrongType}
use Rattle.typed_reading.specs.declared.fault.Found.{Found}
use Rattle.typed_reading.specs.declared.progress.Progress.{Progress}
use Rattle.typed_reading.specs.Codes.{code, code_of_node, parts_fit, meets}
use Rattle.typed_reading.specs.Keys.{key_value, keys_in, keys_in_pairs}
use Rattle.typed_reading.specs.Faults.{inner, with_below, here, faults, faults_in, faults_in_pairs, faults_in_fields, of_field, type_in, is_among, ids_after, repeats, lesser, least}
use Rattle.typed_reading.specs.Progress.{on, after, after_items, Keying, after_key, after_keys, after_value, after_pairs, Fielding, after_field, after_fields}
use Rattle.typed_reading.proofs.Order.{lesser_three, lesser_none, least_append}

abbrev pub progress : Option Found → ℕ → Progress
progress f n = record { found = f; next = n }

pub progress_is : (f g : Option Found) (m n : ℕ) → f ≡ g → m ≡ n → progress f m ≡ progress g n
progress_is f g m n e h = ap (λ (x : Option Found). progress x m) e ∙ ap (progress g) h

pub on_none : (s : Progress) (fs : List Found) (n : ℕ) → fs ≡ [] → on s fs n ≡ progress s.found (s.next + n)
on_none s fs n e = progress_is _ s.found _ (s.next + n) (ap (λ (gs : List Found). lesser s.found (least gs)) e ∙ lesser_none s.found) refl

pub on_one : (s : Progress) (fs : List Found) (n : ℕ) (f : Found) → fs ≡ f ∷ [] → on s fs n ≡ progress (lesser s.found (Some f)) (s.next + n)
on_one s fs n f e = progress_is _ (lesser s.found (Some f)) _ (s.next + n) (ap (λ (gs : List Found). lesser s.found (least gs)) e) refl

-- faults of two parts, one after the other
pub on_more : (s : Progress) (fs gs : List Found) (m n : ℕ) → on s (fs ++ gs) (m + n) ≡ on (on s fs m) gs n
on_more s fs gs m n = progress_is _ _ _ _ (ap (lesser s.found) (least_append fs gs) ∙ sym (lesser_three s.found (least fs) (least gs))) (omega arith)

-- where nothing is found below a node, or what is found there is all
pub fine_below : (t : TypeTree) (w : Node) (at : ℕ) (below : List Found) → meets t w ≡ true → inner t w ≡ [] → least (with_below t w at below) ≡ least below
fine_below t w at below m none = rw (m, none) (least_append below [] ∙ lesser_none (least below))

pub no_more : (t : TypeTree) (s : Progress) → after_items t s no_nodes ≡ s
no_more t s = progress_is _ s.found _ s.next (lesser_none s.found) (omega arith)

pub one_more : (t : TypeTree) (s : Progress) (x : Node) (xs : Nodes) → after_items t s (node x xs) ≡ after_items t (after t s x) xs
one_more t s x xs = on_more s (faults x t s.next) (faults_in xs t (s.next + size x)) (size x) (sizes xs)

pub no_more_fields : (fs : List DefField) (s : Fielding) → after_fields fs s no_fields ≡ s
no_more_fields fs s = ap (λ (p : Progress). (p, s.1)) (progress_is _ s.0.found _ s.0.next (lesser_none s.0.found) (omega arith))

pub one_more_field : (fs : List DefField) (s : Fielding) (id : ℤ) (x : Node) (xs : Fields) → after_fields fs s (field id x xs) ≡ after_fields fs (after_field fs s id x) xs
one_more_field fs s id x xs =
    ap (λ (p : Progress). (p, ids_after xs (id ∷ s.1)))
    (on_more s.0 (of_field (type_in fs id) (is_among id s.1) x (λ t. faults x t s.0.next) s.0.next) (faults_in_fields xs fs (id ∷ s.1) (s.0.next + size x)) (size x) (sizes_of_fields xs))

-- ---- the items of a set, and the pairs of a map

join : (xs ys zs : List (ℕ × Value)) → xs ++ (ys ++ zs) ≡ (xs ++ ys) ++ zs
join [] ys zs = refl
join (x ∷ xs) ys zs = ap (λ (ks : List (ℕ × Value)). x ∷ ks) (join xs ys zs)

none_more : (xs : List (ℕ × Value)) → xs ++ [] ≡ xs
none_more [] = refl
none_more (x ∷ xs) = ap (λ (ks : List (ℕ × Value)). x ∷ ks) (none_more xs)

keying_is : (p q : Progress) (ks ls : List (ℕ × Value)) → p ≡ q → ks ≡ ls → ◌≡◌ {A = Keying} (p, ks) (q, ls)
keying_is p q ks ls e f = ap (λ (x : Progress). (x, ks)) e ∙ ap (λ (zs : List (ℕ × Value)). (q, zs)) f

pub no_more_keys : (t : TypeTree) (s : Keying) → after_keys t s no_nodes ≡ s
no_more_keys t s = keying_is (after_items t s.0 no_nodes) s.0 (s.1 ++ []) s.1 (no_more t s.0) (none_more s.1)

pub one_more_key : (t : TypeTree) (s : Keying) (x : Node) (xs : Nodes) → after_keys t s (node x xs) ≡ after_keys t (after_key t s x) xs
one_more_key t s x xs =
    keying_is (after_items t s.0 (node x xs)) (after_items t (after t s.0 x) xs) (s.1 ++ keys_in (node x xs) s.0.next) _
    (one_more t s.0 x xs) (join s.1 ((s.0.next, key_value x) ∷ []) (keys_in xs (s.0.next + size x)))

pub no_more_pairs : (k v : TypeTree) (s : Keying) → after_pairs k v s no_pairs ≡ s
no_more_pairs k v s = keying_is (on s.0 [] 0) s.0 (s.1 ++ []) s.1 (progress_is _ s.0.found _ s.0.next (lesser_none s.0.found) (omega arith)) (none_more s.1)

pub one_more_pair : (k v : TypeTree) (s : Keying) (x y : Node) (xs : Pairs) → after_pairs k v s (pair x y xs) ≡ after_pairs k v (after_value v (after_key k s x) y) xs
one_more_pair k v s x y xs =
    keying_is (on s.0 (faults_in_pairs (pair x y xs) k v s.0.next) (sizes_of_pairs (pair x y xs))) _ (s.1 ++ keys_in_pairs (pair x y xs) s.0.next) _
    (on_more s.0 (faults x k s.0.next) (faults y v (s.0.next + size x) ++ faults_in_pairs xs k v (s.0.next + size x + size y)) (size x) (size y + sizes_of_pairs xs)
    ∙ on_more (after k s.0 x) (faults y v (s.0.next + size x)) (faults_in_pairs xs k v (s.0.next + size x + size y)) (size y) (sizes_of_pairs xs))
    (join s.1 ((s.0.next, key_value x) ∷ []) (keys_in_pairs xs (s.0.next + size x + size y)))

-- what is known behind all items, with the repeats among the keys
pub with_repeats : (s : Progress) (fs : List Found) (n : ℕ) (ks : List (ℕ × Value)) → on s (fs ++ repeats ks []) n ≡ progress (lesser (on s fs n).found (least (repeats ks []))) (on s fs n).next
with_repeats s fs n ks = progress_is _ _ _ _ (ap (lesser s.found) (least_append fs (repeats ks [])) ∙ sym (lesser_three s.found (least fs) (least (repeats ks [])))) refl

-- ---- nodes that do not meet their type

pub unmet : (w : Node) (t : TypeTree) (at : ℕ) → meets t w ≡ false → faults w t at ≡ here at WrongType ∷ []
unmet (list c xs) t at e = rw e refl
unmet (set c xs) t at e = rw e refl
unmet (map a b xs) t at e = rw e refl
unmet (structure xs) t at e = rw e refl
unmet (flag b) t at e = rw e refl
unmet (i8 z) t at e = rw e refl
unmet (i16 z) t at e = rw e refl
unmet (i32 z) t at e = rw e refl
unmet (i64 z) t at e = rw e refl
unmet (double b) t at e = rw e refl
unmet (binary b) t at e = rw e refl

pub unfit : (a b : Bool) → b ≡ false → (a && b) ≡ false
unfit true b e = e
unfit false b e = refl

pub other_code : (w : Node) (t : TypeTree) → code_of_node w ≢ code t → meets t w ≡ false
other_code w t ne = let e : nat_eq (code_of_node w) (code t) ≡ false = grind (arith, nat_tests) in ap (λ (b : Bool). b && parts_fit t w) e

pub same_code : (w : Node) (t : TypeTree) → code_of_node w ≡ code t → nat_eq (code_of_node w) (code t) ≡ true
same_code w t e = grind (arith, nat_tests)

pub codes_same : (m n : ℕ) (b : Bool) → (nat_eq m n && b) ≡ true → m ≡ n
codes_same m n b e = by (nat_eq m n) refl e
  where
    by : (a : Bool) → nat_eq m n ≡ a → (a && b) ≡ true → m ≡ n
    by true p h = grind (arith, nat_tests)
    by false p h = absurd cc

pub some_same : (n a b : ℕ) → 0 < n → (nat_eq n 0 || nat_eq a b) ≡ true → a ≡ b
some_same n a b lt e = by (nat_eq a b) refl
  where
    by : (c : Bool) → nat_eq a b ≡ c → a ≡ b
    by true p = grind (arith, nat_tests)
    by false p = absurd (let z : nat_eq n 0 ≡ false = grind (arith, nat_tests) in let f : (false || false) ≡ true = sym (ap (λ (x : Bool). x || nat_eq a b) z ∙ ap (λ (x : Bool). false || x) p) ∙ e in cc)

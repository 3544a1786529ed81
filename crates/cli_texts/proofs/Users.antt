-- Trees that are joined, and users by their numbers.
use Rattle.std.proofs.Common.{◌≡◌, ℕ, zero, suc, ◌+◌, ◌*◌, ◌<◌, List, [], ◌∷◌, ◌++◌, arith, refl, ap, sym}
use Rattle.std.proofs.Common.{◌∙◌, subst, length}
use Rattle.std.proofs.Common.{append_assoc, append-nil, pos, map, false, int_lt, ◌-◌, ◌≤◌, ◌≢◌}
use Rattle.std.specs.Prelude.{AllPairs, slice_index_or}
use Rattle.std.specs.Prelude.{nat_abs}
use Rattle.frozen_model.specs.Trees.{AMap}
use Rattle.frozen_model.specs.Values.{Value, One, Number, Items, key_of}
use Rattle.key_order.specs.InOrder.{row, in_order}
use Rattle.key_order.specs.Keys.{IsOneKind, AreOneKind}
use Rattle.typed_tree.specs.Fields.{record_of, id_numbers}
use Rattle.typed_tree.specs.Parts.{pairs}
use Rattle.typed_tree.specs.Trees.{last, but_last}
use Rattle.compact_codec.proofs.Joins.{last_is, front_is}
use Rattle.cli_texts.specs.Demos.{number, user, users, demo}

-- the last n trees, joined into one
pub joined_last : (n : ℕ) (f : List Value → Value) (old us mid new : List Value) → mid ≡ old ++ us
    → length us ≡ n → new ≡ but_last n mid ++ f (last n mid) ∷ [] → new ≡ old ++ f us ∷ []
joined_last n f old us mid new em len e =
    e ∙ ap (λ r. but_last n r ++ f (last n r) ∷ []) em
    ∙ ap (λ r. r ++ f (last n (old ++ us)) ∷ []) (front_is n old us len)
    ∙ ap (λ r. old ++ f r ∷ []) (last_is n old us len)

-- numbers and their users by turns, so many from the number i on
abbrev pub turns : ℕ → ℕ → List Value
turns i zero = []
turns i (suc k) = number i ∷ user i ∷ turns (suc i) k

pub turns_length : (i k : ℕ) → length (turns i k) ≡ 2 * k
turns_length i zero = refl
turns_length i (suc k) = omega (arith, turns_length (suc i) k)

pub turns_pairs : (i k : ℕ) → pairs (turns i k) ≡ users i k
turns_pairs i zero = refl
turns_pairs i (suc k) = let e = turns_pairs (suc i) k in rw e refl

int_above : (i : ℕ) → int_lt (pos (suc i)) (pos i) ≡ false
int_above i = grind arith

pub users_in_order : (i k : ℕ) → in_order (users i k) ≡ users i k
users_in_order i zero = refl
users_in_order i (suc zero) = refl
users_in_order i (suc (suc k)) =
    let e = users_in_order (suc i) (suc k) in
    let t = int_above i in
    rw e (rw t refl)

-- five trees more
pub five_on : (o : List Value) (a b c d e : Value) {o1 o2 o3 o4 o5 : List Value} → o1 ≡ o ++ a ∷ []
    → o2 ≡ o1 ++ b ∷ [] → o3 ≡ o2 ++ c ∷ []
    → o4 ≡ o3 ++ d ∷ [] → o5 ≡ o4 ++ e ∷ [] → o5 ≡ o ++ (a ∷ b ∷ c ∷ d ∷ e ∷ [])
five_on o a b c d e e1 e2 e3 e4 e5 =
    e5 ∙ ap (λ r. r ++ e ∷ []) (e4 ∙ ap (λ r. r ++ d ∷ []) (e3 ∙ ap (λ r. r ++ c ∷ [])
    (e2 ∙ ap (λ r. r ++ b ∷ []) e1))) ∙ simp append_assoc refl

pub four_on : (o : List Value) (a b c d : Value) {o1 o2 o3 o4 : List Value} → o1 ≡ o ++ a ∷ []
    → o2 ≡ o1 ++ b ∷ [] → o3 ≡ o2 ++ c ∷ [] → o4 ≡ o3 ++ d ∷ [] → o4 ≡ o ++ (a ∷ b ∷ c ∷ d ∷ [])
four_on o a b c d e1 e2 e3 e4 =
    e4 ∙ ap (λ r. r ++ d ∷ []) (e3 ∙ ap (λ r. r ++ c ∷ []) (e2 ∙ ap (λ r. r ++ b ∷ []) e1))
    ∙ simp append_assoc refl

-- ---- the loop over users

pub next_turn : (n i : ℕ) (old new : List Value) → i ≤ n → new ≡ old ++ number i ∷ user i ∷ []
    → new ++ turns (i + 1) (n + 1 - (i + 1)) ≡ old ++ turns i (n + 1 - i)
next_turn n i old new le e =
    let k : n + 1 - i ≡ suc (n + 1 - (i + 1)) = omega arith in
    let j : i + 1 ≡ suc i = omega arith in
    let r = n + 1 - (i + 1) in
    ap (λ z. z ++ turns (i + 1) r) e ∙ append_assoc old (number i ∷ user i ∷ []) (turns (i + 1) r)
    ∙ ap (λ z. old ++ (number i ∷ user i ∷ turns z r)) j ∙ ap (λ z. old ++ turns i z) (sym k)

pub all_turns : (n i : ℕ) (old : List Value) → n + 1 ≤ i
    → old ++ turns i (n + 1 - i) ≡ turns 1 n → old ≡ turns 1 n
all_turns n i old le e =
    let k : n + 1 - i ≡ 0 = omega arith in
    sym (append-nil old) ∙ ap (λ z. old ++ turns i z) (sym k) ∙ e

-- ---- the keys

abbrev keys : ℕ → ℕ → List Value
keys i k = map key_of (users i k)

keys_length : (i k : ℕ) → length (keys i k) ≡ k
keys_length i zero = refl
keys_length i (suc k) = ap suc (keys_length (suc i) k)

key_at : (i k j : ℕ) (d : Value) → j < k → slice_index_or (keys i k) j d ≡ number (i + j)
key_at i zero j d lt = absurd (omega arith)
key_at i (suc k) zero d lt = ap number (omega arith)
key_at i (suc k) (suc j) d lt =
    let e : suc i + j ≡ i + suc j = omega arith in key_at (suc i) k j d (omega arith) ∙ ap number e

abbrev number_in : Value → ℕ
number_in (One (Number z)) = nat_abs z
number_in _ = 0

keys_one_kind : (i k : ℕ) → AreOneKind (keys i k)
keys_one_kind i k x y a b =
    let ex : x ≡ number (i + a.0) = sym a.2 ∙ key_at i k a.0 x (omega (arith, a.1, keys_length i k)) in
    let ey : y ≡ number (i + b.0) = sym b.2 ∙ key_at i k b.0 y (omega (arith, b.1, keys_length i k)) in
    let h : IsOneKind (number (i + a.0)) (number (i + b.0)) = tt in
    subst (λ r. IsOneKind r y) (sym ex) (subst (λ r. IsOneKind (number (i + a.0)) r) (sym ey) h)

keys_differ : (i k : ℕ) → AllPairs (λ x y. x ≢ y) (keys i k)
keys_differ i k a b d lt below e =
    let inside : b < k = omega (arith, below, keys_length i k) in
    let ea = key_at i k a d (omega (arith, lt, inside)) in
    let eb = key_at i k b d inside in
    let same : i + a ≡ i + b = ap number_in (sym ea ∙ e ∙ eb) in
    omega (arith, same, lt)

-- the trees are numbers and users by turns, and so the last of them
abbrev pub last_keys : ℕ → List Value → List Value
last_keys n ts = map key_of (pairs (last (2 * n) ts))

last_keys_are : (n : ℕ) (ts : List Value) → ts ≡ turns 1 n → last_keys n ts ≡ keys 1 n
last_keys_are n ts e =
    ap (last_keys n) e ∙ ap (λ r. map key_of (pairs r)) (last_is (2 * n) [] (turns 1 n) (turns_length 1 n))
    ∙ ap (map key_of) (turns_pairs 1 n)

pub made_one_kind : (n : ℕ) (ts : List Value) → ts ≡ turns 1 n → AreOneKind (last_keys n ts)
made_one_kind n ts e = subst AreOneKind (sym (last_keys_are n ts e)) (keys_one_kind 1 n)

pub made_differ : (n : ℕ) (ts : List Value) → ts ≡ turns 1 n → AllPairs (λ x y. x ≢ y) (last_keys n ts)
made_differ n ts e = subst (AllPairs (λ x y. x ≢ y)) (sym (last_keys_are n ts e)) (keys_differ 1 n)

-- ---- the map and the struct

-- the last keys and values by turns, joined into a map
abbrev pub with_map : ℕ → List Value → List Value
with_map n ts = but_last (2 * n) ts ++ Items AMap (row (in_order (pairs (last (2 * n) ts)))) ∷ []

pub made_map : (n : ℕ) (ts new : List Value) → ts ≡ turns 1 n → new ≡ with_map n ts
    → new ≡ Items AMap (row (users 1 n)) ∷ []
made_map n ts new e h =
    joined_last (2 * n) (λ r. Items AMap (row (in_order (pairs r)))) [] (turns 1 n) ts new e
    (turns_length 1 n) h
    ∙ ap (λ r. Items AMap (row (in_order r)) ∷ []) (turns_pairs 1 n)
    ∙ ap (λ r. Items AMap (row r) ∷ []) (users_in_order 1 n)

pub made_demo : (n : ℕ) (ts new : List Value) → ts ≡ Items AMap (row (users 1 n)) ∷ []
    → new ≡ but_last 1 ts ++ record_of (id_numbers (pos 1 ∷ [])) (last 1 ts) ∷ [] → new ≡ demo n ∷ []
made_demo n ts new e h =
    joined_last 1 (record_of (id_numbers (pos 1 ∷ []))) [] (Items AMap (row (users 1 n)) ∷ []) ts new e refl h

pub only_one : (x y : Value) (ts : List Value) → ts ≡ x ∷ [] → ts ≡ y ∷ [] → x ≡ y
only_one x y ts e f = let g : x ∷ [] ≡ y ∷ [] = sym e ∙ f in cc

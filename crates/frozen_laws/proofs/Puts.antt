-- The numbers that packing puts.
use Rattle.std.proofs.Common.{◌≡◌, ℕ, zero, suc, ◌+◌, ◌*◌, ◌≤◌, List, [], ◌∷◌, ◌++◌, length, arith, refl, ◌∙◌, ℤ}
use Rattle.frozen_model.specs.Trees.{LeafKind, Tree, Trees, Leafwise, AllLeafwise, leaf, byte_range, item_range, optional, struct, no_field, field}
use Rattle.frozen_model.specs.Values.{Value, Values, count, Of, one, bytes, items, absent, present, record_of, OfEach, none, more, OfAll, no_part, part}
use Rattle.frozen_model.specs.Layouts.{Layout, Layouts, Coded, Narrower, AllNarrower, stride}
use Rattle.frozen_model.specs.Packing.{extent, bytes_for, distance}
use Rattle.frozen_model.specs.Holding.{Puts, AllPuts, puts, puts_each, puts_all, no_puts}
use Rattle.frozen_laws.specs.Laws.{NoGreater, ends, then}
use Rattle.frozen_laws.proofs.Growth.{stride_le, extent_le, bytes_for_le}
use Rattle.frozen_laws.proofs.Leafwise.{leafwise_chain, leafwise_flip, no_puts_right, no_puts_both, both_right, both_both, ids_same}
use Rattle.frozen_laws.proofs.Leaves.{no_greater_join}

-- the form of a value does not turn on what stands at the leaves
mutual
  pub of_leafwise : {A B C D : Type 0} {R : LeafKind → A → C → Type 0} {S T : B → D → Type 0} {l : Tree A B} {m : Tree C D} {v : Value} → Of l v → Leafwise R S T l m → Of m v
  of_leafwise (one o) (leaf h) = one o
  of_leafwise (bytes o p u) (byte_range h i) = bytes o p u
  of_leafwise (items o ri hs) (item_range h i x) = items o ri (of_each_leafwise hs x)
  of_leafwise absent (optional h x) = absent
  of_leafwise (present k) (optional h x) = present (of_leafwise k x)
  of_leafwise (record_of e hs) (struct xs) = record_of (e ∙ ids_same xs) (of_all_leafwise hs xs)

  pub of_each_leafwise : {A B C D : Type 0} {R : LeafKind → A → C → Type 0} {S T : B → D → Type 0} {l : Tree A B} {m : Tree C D} {vs : Values} → OfEach l vs → Leafwise R S T l m → OfEach m vs
  of_each_leafwise none x = none
  of_each_leafwise (more h hs) x = more (of_leafwise h x) (of_each_leafwise hs x)

  pub of_all_leafwise : {A B C D : Type 0} {R : LeafKind → A → C → Type 0} {S T : B → D → Type 0} {ls : Trees A B} {ms : Trees C D} {vs : Values} → OfAll ls vs → AllLeafwise R S T ls ms → OfAll ms vs
  of_all_leafwise no_part no_field = no_part
  of_all_leafwise (part h hs) (field x xs) = part (of_leafwise h x) (of_all_leafwise hs xs)

-- the numbers stand in a tree of the layout's kinds
abbrev pub Beside : Layout → Puts → Type 0
Beside l p = Leafwise (λ (k : LeafKind) (c : Coded) (xs : List ℤ). Unit {0}) (λ (w : ℕ) (ns : List ℕ). Unit {0}) (λ (w : ℕ) (ns : List ℕ). Unit {0}) l p

abbrev pub AllBeside : Layouts → AllPuts → Type 0
AllBeside l p = AllLeafwise (λ (k : LeafKind) (c : Coded) (xs : List ℤ). Unit {0}) (λ (w : ℕ) (ns : List ℕ). Unit {0}) (λ (w : ℕ) (ns : List ℕ). Unit {0}) l p

pub no_puts_beside : (l : Layout) → Beside l (no_puts l)
no_puts_beside l = no_puts_right (λ k c. tt) (λ w. tt) (λ w. tt) l

mutual
  pub puts_beside : {l : Layout} {v : Value} → Of l v → (at : ℕ) → Beside l (puts l v at)
  puts_beside (one o) at = leaf tt
  puts_beside (bytes o p u) at = byte_range tt tt
  puts_beside (items {l = l} {vs = vs} o ri hs) at = item_range tt tt (puts_each_beside hs (bytes_for (count vs * stride l)))
  puts_beside (absent {l = l}) at = optional tt (no_puts_beside l)
  puts_beside (present h) at = optional tt (puts_beside h at)
  puts_beside (record_of e hs) at = struct (puts_all_beside hs at)

  pub puts_each_beside : {l : Layout} {vs : Values} → OfEach l vs → (at : ℕ) → Beside l (puts_each l vs at)
  puts_each_beside (none {l = l}) at = no_puts_beside l
  puts_each_beside (more {l = l} {v = v} h hs) at = both_right (λ k c xs ys x y. tt) (λ w ms ns x y. tt) (λ w ms ns x y. tt) (puts_beside h at) (puts_each_beside hs (at + extent l v))

  pub puts_all_beside : {ls : Layouts} {vs : Values} → OfAll ls vs → (at : ℕ) → AllBeside ls (puts_all ls vs at)
  puts_all_beside no_part at = no_field
  puts_all_beside (part {l = l} {v = v} h hs) at = field (puts_beside h at) (puts_all_beside hs (at + extent l v))

-- numbers of two trees beside one layout
pub two_beside : {l : Layout} {p q : Puts} → Beside l p → Beside l q → Leafwise (λ (k : LeafKind) (xs : List ℤ) (ys : List ℤ). Unit {0}) (λ (ms : List ℕ) (ns : List ℕ). Unit {0}) (λ (ms : List ℕ) (ns : List ℕ). Unit {0}) p q
two_beside x y = leafwise_chain (λ k a c e h i. tt) (λ b d f h i. tt) (λ b d f h i. tt) (leafwise_flip x) y

-- none greater at distances, and the same numbers elsewhere
abbrev pub AtMost : Puts → Puts → Type 0
AtMost p q = Leafwise (λ (k : LeafKind) (xs : List ℤ) (ys : List ℤ). xs ≡ ys) (λ (ms : List ℕ) (ns : List ℕ). NoGreater ms ns) (λ (ms : List ℕ) (ns : List ℕ). ms ≡ ns) p q

abbrev pub AllAtMost : AllPuts → AllPuts → Type 0
AllAtMost p q = AllLeafwise (λ (k : LeafKind) (xs : List ℤ) (ys : List ℤ). xs ≡ ys) (λ (ms : List ℕ) (ns : List ℕ). NoGreater ms ns) (λ (ms : List ℕ) (ns : List ℕ). ms ≡ ns) p q

single : {m n : ℕ} → m ≤ n → NoGreater (m ∷ []) (n ∷ [])
single h = then h ends

distance_mono : (n a b : ℕ) → a ≤ b → distance n a ≤ distance n b
distance_mono zero a b h = omega arith
distance_mono (suc n) a b h = h

same_join : (xs ys xs' ys' : List ℤ) → xs ≡ ys → xs' ≡ ys' → xs ++ xs' ≡ ys ++ ys'
same_join xs ys xs' ys' e f = cc

same_counts : (ms ns ms' ns' : List ℕ) → ms ≡ ns → ms' ≡ ns' → ms ++ ms' ≡ ns ++ ns'
same_counts ms ns ms' ns' e f = cc

none_at_most : {l m : Layout} → Narrower l m → AtMost (no_puts l) (no_puts m)
none_at_most x = no_puts_both (λ k. refl) ends refl x

mutual
  pub puts_grow : {l m : Layout} {v : Value} → Of l v → Narrower l m → (a b : ℕ) → a ≤ b → AtMost (puts l v a) (puts m v b)
  puts_grow (one o) (leaf h) a b le = leaf refl
  puts_grow (bytes {bs = bs} o p u) (byte_range h i) a b le = byte_range (single (distance_mono (length bs) a b le)) refl
  puts_grow (items {vs = vs} o ri hs) (item_range {l = l} {m = m} h i x) a b le =
      item_range (single (distance_mono (count vs) a b le)) refl
      (puts_each_grow hs x (bytes_for (count vs * stride l)) (bytes_for (count vs * stride m)) (bytes_for_le (count vs) (stride l) (stride m) (stride_le x)))
  puts_grow absent (optional h x) a b le = optional refl (none_at_most x)
  puts_grow (present k) (optional h x) a b le = optional refl (puts_grow k x a b le)
  puts_grow (record_of e hs) (struct xs) a b le = struct (puts_all_grow hs xs a b le)

  pub puts_each_grow : {l m : Layout} {vs : Values} → OfEach l vs → Narrower l m → (a b : ℕ) → a ≤ b → AtMost (puts_each l vs a) (puts_each m vs b)
  puts_each_grow none x a b le = none_at_most x
  puts_each_grow {m = m} (more {l = l} {v = v} {vs = vs} h hs) x a b le =
      let a' = a + extent l v in
      let b' = b + extent m v in
      let le' : a' ≤ b' = omega (arith, extent_le h x) in
      both_both (λ k xs ys xs' ys' e f. same_join xs ys xs' ys' e f) (λ ms ns ms' ns' e f. no_greater_join e f) (λ ms ns ms' ns' e f. same_counts ms ns ms' ns' e f)
      (two_beside (puts_beside h a) (puts_each_beside hs a')) (puts_grow h x a b le) (puts_each_grow hs x a' b' le')

  pub puts_all_grow : {ls ms : Layouts} {vs : Values} → OfAll ls vs → AllNarrower ls ms → (a b : ℕ) → a ≤ b → AllAtMost (puts_all ls vs a) (puts_all ms vs b)
  puts_all_grow no_part no_field a b le = no_field
  puts_all_grow (part {l = l} {v = v} h hs) (field {m = m} x xs) a b le =
      field (puts_grow h x a b le) (puts_all_grow hs xs (a + extent l v) (b + extent m v) (omega (arith, extent_le h x)))

-- Builders whose pool grew, and whose stack stayed or lost its last numbers.
use Rattle.std.proofs.Common.{◌≡◌, ℕ, ◌+◌, ◌-◌, ◌≤◌, max, List, [], ◌∷◌, ◌++◌, true, vec_len, length, take, drop, map, get_or, refl, sym, ap, ◌∙◌, arith}
use Rattle.std.specs.Prelude.{Result, Ok, Err, OnErr, OnOk}
use Rattle.std.proofs.lemmas.List.{length-map, length-append, take-map, drop-map}
use Rattle.std.proofs.Math.Seq.{take-append_seam, drop-append_seam}
use Rattle.std.proofs.lemmas.List.{length-take-le}
use Rattle.frozen_model.specs.Trees.{AList, ASet, AMap}
use Rattle.frozen_model.specs.Values.{Value, Absent, Items, And}
use Rattle.key_order.specs.InOrder.{row}
use Rattle.typed_tree.specs.declared.builder.Builder.{Builder}
use Rattle.block_region.specs.Space.{in_use}
use Rattle.typed_tree.specs.declared.pool.Pool.{Pool}
use Rattle.typed_tree.specs.declared.joined.Joined.{Joined}
use Rattle.typed_tree.specs.declared.joined.Joined.TheVariants as j
use Rattle.typed_tree.specs.declared.room.Room.{Room}
use Rattle.typed_tree.specs.declared.spot.Run.{Run}
use Rattle.typed_tree.specs.declared.spot.Spot.{Spot}
use Rattle.typed_tree.specs.declared.spot.Spot.TheVariants as s
use Rattle.typed_tree.specs.declared.tree.TreeKind.{TreeKind}
use Rattle.typed_tree.specs.Parts.{pairs}
use Rattle.typed_tree.specs.Pools.{store_of, values_of, Grows}
use Rattle.typed_tree.specs.References.{spot_kind}
use Rattle.typed_tree.specs.Rooms.{room_of, without, greater}
use Rattle.typed_tree.specs.Spots.{Store, store, linked, all_linked, item_link, pick, pair, by_twos, value_of, values, fits_at}
use Rattle.typed_tree.specs.Trees.{trees_in, kinds_in, trees, kinds, room, last, but_last, Pushes, Joins, IsAsBefore, joined, joined_spot, joined_kind}
use Rattle.typed_tree.proofs.Grow.{known-stays}
use Rattle.typed_tree.proofs.Growing.{grows-same}
use Rattle.typed_tree.proofs.Stack.{below, below-rest-is, rest-is, pick-items, trees-front}

-- ---- room

pub without-greater : (r u : Room) → without (greater r u) u ≡ without r u
without-greater r u =
    let nodes : max r.nodes u.nodes - u.nodes ≡ r.nodes - u.nodes = omega arith in
    let bytes : max r.bytes u.bytes - u.bytes ≡ r.bytes - u.bytes = omega arith in
    ap (λ n. room_of n (max r.bytes u.bytes - u.bytes)) nodes ∙ ap (room_of (r.nodes - u.nodes)) bytes

-- one node less
pub one-less : (n b : ℕ) → room_of (n - 1) b ≡ without (room_of n b) (room_of 1 0)
one-less n b = let e : b ≡ b - 0 = omega arith in ap (room_of (n - 1)) e

pub left-from : (r s u : Room) → s ≡ greater r u → without s u ≡ without r u
left-from r s u e = ap (λ t. without t u) e ∙ without-greater r u

-- once its bytes were taken, a node less
pub bytes-left : (r s : Room) (n : ℕ) → s ≡ room_of r.nodes (r.bytes - n) → without s (room_of 1 0) ≡ without r (room_of 1 n)
bytes-left r s n e = let none : r.bytes - n - 0 ≡ r.bytes - n = omega arith in ap (λ t. without t (room_of 1 0)) e ∙ ap (room_of (r.nodes - 1)) none

-- ---- pools

pub same-store : (p q : Pool) → q.links ≡ p.links → q.bytes ≡ p.bytes → store_of q ≡ store_of p
same-store p q links bytes = ap (λ ls. store ls (in_use q.bytes)) (ap (λ v. v.items) links) ∙ ap (λ s. store p.links.items (in_use s)) bytes

-- the trees from a place on, as `&stack[base..]` gives them
pub trees-from : (p : Pool) (stack : List ℕ) (base : ℕ) (ks : List ℕ) → ks ≡ stack → trees_in (values_of p) (take (length ks - base) (drop base ks)) ≡ drop base (trees_in (values_of p) stack)
trees-from p stack base ks e = ap (trees_in (values_of p)) (rest-is base ks ∙ ap (drop base) e) ∙ sym (drop-map (λ k. get_or (values_of p) k Absent) base stack)

-- ---- the trees of builders

module _ (b d : Builder) (grows : Grows (store_of b.pool) (store_of d.pool)) (nodes : d.pool.nodes.items ≡ b.pool.nodes.items) where
  pub grown-values : values_of d.pool ≡ values_of b.pool
  grown-values = ap (values (store_of d.pool)) nodes ∙ known-stays (store_of b.pool) (store_of d.pool) grows [] 0 b.pool.nodes.items b.pool.ordered

  pub grown-trees : d.stack.items ≡ b.stack.items → trees d ≡ trees b
  grown-trees same = ap (λ (vs : List Value). trees_in vs d.stack.items) grown-values ∙ ap (trees_in (values_of b.pool)) same

  pub grown-kinds : d.stack.items ≡ b.stack.items → kinds d ≡ kinds b
  grown-kinds same = ap (λ (xs : List Spot). map (λ k. spot_kind (get_or xs k s.Absent)) d.stack.items) nodes ∙ ap (kinds_in b.pool) same

-- the first trees of a builder whose pool grew
module _ (b : Builder) (q : Pool) (grows : Grows (store_of b.pool) (store_of q)) (nodes : q.nodes.items ≡ b.pool.nodes.items) (base n : ℕ) (stack : List ℕ) (cut : stack ≡ take base b.stack.items) (place : base + n ≡ length b.stack.items) where
  pub values-kept : values_of q ≡ values_of b.pool
  values-kept = ap (values (store_of q)) nodes ∙ known-stays (store_of b.pool) (store_of q) grows [] 0 b.pool.nodes.items b.pool.ordered

  pub cut-trees : trees_in (values_of q) stack ≡ but_last n (trees b)
  cut-trees = trees-front (values_of q) (values_of b.pool) values-kept b.stack.items stack (drop base b.stack.items) base n cut refl place

  pub cut-kinds : kinds_in q stack ≡ but_last n (kinds b)
  cut-kinds =
      let f = λ (k : ℕ). spot_kind (get_or b.pool.nodes.items k s.Absent) in
      let here : base ≡ length (kinds b) - n = omega (arith, place, length-map b.stack.items f) in
      ap (λ (xs : List Spot). map (λ k. spot_kind (get_or xs k s.Absent)) stack) nodes ∙ ap (kinds_in b.pool) cut ∙ sym (take-map f base b.stack.items) ∙ ap (λ i. take i (kinds b)) here

pub same-trees : (b d : Builder) → store_of d.pool ≡ store_of b.pool → d.pool.nodes.items ≡ b.pool.nodes.items → d.stack.items ≡ b.stack.items → trees d ≡ trees b
same-trees b d store nodes = grown-trees b d (grows-same (store_of b.pool) (store_of d.pool) store) nodes

pub same-kinds : (b d : Builder) → store_of d.pool ≡ store_of b.pool → d.pool.nodes.items ≡ b.pool.nodes.items → d.stack.items ≡ b.stack.items → kinds d ≡ kinds b
same-kinds b d store nodes = grown-kinds b d (grows-same (store_of b.pool) (store_of d.pool) store) nodes

-- a builder of which nothing changed but the memory that it has
pub as-before : (b d : Builder) → store_of d.pool ≡ store_of b.pool → d.pool.nodes.items ≡ b.pool.nodes.items → d.stack.items ≡ b.stack.items → d.room ≡ b.room → IsAsBefore b d
as-before b d store nodes stack room = record { trees = same-trees b d store nodes stack; kinds = same-kinds b d store nodes stack; room = room }

pub on-failure : {T E : Type 0} (r : Result T E) (b d : Builder) → store_of d.pool ≡ store_of b.pool → d.pool.nodes.items ≡ b.pool.nodes.items → d.stack.items ≡ b.stack.items → OnErr r (d.room ≡ b.room) → OnErr r (IsAsBefore b d)
on-failure (Ok x) b d store nodes stack h = tt
on-failure (Err e) b d store nodes stack h = as-before b d store nodes stack h

pub on-success : {T E : Type 0} (r : Result T E) (b d : Builder) → store_of d.pool ≡ store_of b.pool → d.pool.nodes.items ≡ b.pool.nodes.items → d.stack.items ≡ b.stack.items → OnOk r ((trees d ≡ trees b) × (kinds d ≡ kinds b))
on-success (Ok x) b d store nodes stack = (same-trees b d store nodes stack, same-kinds b d store nodes stack)
on-success (Err e) b d store nodes stack = tt

-- one tree more, once there was room for it
pub pushes-after : (b d e : Builder) (v w : Value) (k : TreeKind) (used last : Room) → Pushes d e v k last → trees d ≡ trees b → kinds d ≡ kinds b → v ≡ w → without d.room last ≡ without b.room used → Pushes b e w k used
pushes-after b d e v w k used last p same kind is room = record {
  trees = p.trees ∙ ap (λ ts. ts ++ v ∷ []) same ∙ ap (λ u. trees b ++ u ∷ []) is;
  kinds = p.kinds ∙ ap (λ ks. ks ++ k ∷ []) kind;
  room = p.room ∙ room;
}

-- one tree instead of the last ones
pub joins-after : (b d e : Builder) (n : ℕ) (v w : Value) (k l : TreeKind) (used last : Room) → Pushes d e v k last → trees d ≡ but_last n (trees b) → kinds d ≡ but_last n (kinds b) → v ≡ w → k ≡ l → without d.room last ≡ without b.room used → Joins b e n w l used
joins-after b d e n v w k l used last p same kind is made room = record {
  trees = p.trees ∙ ap (λ ts. ts ++ v ∷ []) same ∙ ap (λ u. but_last n (trees b) ++ u ∷ []) is;
  kinds = p.kinds ∙ ap (λ ks. ks ++ k ∷ []) kind ∙ ap (λ u. but_last n (kinds b) ++ u ∷ []) made;
  room = p.room ∙ room;
}

-- a join of a builder that has the same trees below
pub joins-of : (b d e : Builder) (n m : ℕ) (v w : Value) (k l : TreeKind) (used last : Room) → Joins d e m v k last → but_last m (trees d) ≡ but_last n (trees b) → but_last m (kinds d) ≡ but_last n (kinds b) → v ≡ w → k ≡ l → without d.room last ≡ without b.room used → Joins b e n w l used
joins-of b d e n m v w k l used last p same kind is made room = record {
  trees = p.trees ∙ ap (λ ts. ts ++ v ∷ []) same ∙ ap (λ u. but_last n (trees b) ++ u ∷ []) is;
  kinds = p.kinds ∙ ap (λ ks. ks ++ k ∷ []) kind ∙ ap (λ u. but_last n (kinds b) ++ u ∷ []) made;
  room = p.room ∙ room;
}

-- other numbers from a place on
module _ {B : Type 0} (f : ℕ → B) (base : ℕ) (st ks : List ℕ) (there : base ≤ length st) where
  first-many : length (take base st) ≡ base
  first-many = length-take-le base st there

  first-are : take base (take base st ++ ks) ≡ take base st
  first-are = ap (λ n. take n (take base st ++ ks)) (sym first-many) ∙ take-append_seam (take base st) ks

  pub replaced-first : (xs : List ℕ) → xs ≡ take base st ++ ks → but_last (length xs - base) (map f xs) ≡ but_last (length st - base) (map f st)
  replaced-first xs e =
      let many = ap (λ zs. length zs) e in
      let a : length (map f xs) - (length xs - base) ≡ base = omega (arith, length-map xs f, many, length-append (take base st) ks, first-many) in
      let b : length (map f st) - (length st - base) ≡ base = omega (arith, length-map st f, there) in
      ap (λ i. take i (map f xs)) a ∙ take-map f base xs ∙ ap (λ zs. map f (take base zs)) e ∙ ap (map f) first-are ∙ sym (take-map f base st) ∙ ap (λ i. take i (map f st)) (sym b)

  pub replaced-last : (xs : List ℕ) → xs ≡ take base st ++ ks → drop base (map f xs) ≡ map f ks
  replaced-last xs e = drop-map f base xs ∙ ap (λ zs. map f (drop base zs)) e ∙ ap (λ n. map f (drop n (take base st ++ ks))) (sym first-many) ∙ ap (map f) (drop-append_seam (take base st) ks)

-- ---- trees that are joined as they stand

by_twos-row : (ts : List Value) → by_twos (row ts) ≡ row (pairs ts)
by_twos-row [] = refl
by_twos-row (t ∷ []) = refl
by_twos-row (k ∷ v ∷ ts) = ap (And (pair k v)) (by_twos-row ts)

pub joined-value : (to : Joined) (st : Store) (vs : List Value) (r : Run) (ks : List ℕ) → linked st r ≡ map item_link ks → value_of st vs (joined_spot to r) ≡ joined to (trees_in vs ks)
joined-value j.List st vs r ks e = ap (λ ls. Items AList (pick vs ls)) e ∙ ap (Items AList) (pick-items vs ks)
joined-value j.Set st vs r ks e = ap (λ ls. Items ASet (pick vs ls)) e ∙ ap (Items ASet) (pick-items vs ks)
joined-value j.Map st vs r ks e = ap (λ ls. Items AMap (by_twos (pick vs ls))) e ∙ ap (λ ws. Items AMap (by_twos ws)) (pick-items vs ks) ∙ ap (Items AMap) (by_twos-row (trees_in vs ks))

pub joined-fits : (to : Joined) (st : Store) (n : ℕ) (r : Run) → all_linked st n r ≡ true → fits_at st n (joined_spot to r) ≡ true
joined-fits j.List st n r h = h
joined-fits j.Set st n r h = h
joined-fits j.Map st n r h = h

pub joined-kind : (to : Joined) (r : Run) → spot_kind (joined_spot to r) ≡ joined_kind to
joined-kind j.List r = refl
joined-kind j.Set r = refl
joined-kind j.Map r = refl

-- ---- the last trees

-- as `&stack[base..]` gives them
pub stack-trees : (a : Builder) (base n : ℕ) (ks : List ℕ) → ks ≡ a.stack.items → base ≡ length (trees a) - n → trees_in (values_of a.pool) (take (length ks - base) (drop base ks)) ≡ last n (trees a)
stack-trees a base n ks e at = trees-from a.pool a.stack.items base ks e ∙ ap (λ i. drop i (trees a)) at

pub stack-below : (a : Builder) (base : ℕ) (ks : List ℕ) → ks ≡ a.stack.items → below (length a.pool.nodes.items) (take (length ks - base) (drop base ks))
stack-below a base ks e = below-rest-is a.pool.nodes.items a.pool.nodes.items a.stack.items _ base a.placed refl (rest-is base ks ∙ ap (drop base) e)

-- the last trees of a builder are joined as they stand once there was room
pub joins-last : (a d e : Builder) (n base : ℕ) (to : Joined) (w : Value) → Joins d e (length d.stack.items - base) (joined to (drop base (trees d))) (joined_kind to) (room_of 1 0) → trees d ≡ trees a → kinds d ≡ kinds a → length d.stack.items ≡ length a.stack.items
    → base ≡ length (trees a) - n → n ≤ length (trees a) → joined to (last n (trees a)) ≡ w → d.room ≡ greater a.room (room_of 1 0) → Joins a e n w (joined_kind to) (room_of 1 0)
joins-last a d e n base to w p same kind many at some is room =
    let all = length-map a.stack.items (λ k. get_or (values_of a.pool) k Absent) in
    let m : length d.stack.items - base ≡ n = omega (arith, many, at, some, all) in
    joins-of a d e n (length d.stack.items - base) _ w _ _ (room_of 1 0) _ p
    (ap (but_last (length d.stack.items - base)) same ∙ ap (λ i. but_last i (trees a)) m)
    (ap (but_last (length d.stack.items - base)) kind ∙ ap (λ i. but_last i (kinds a)) m)
    (ap (λ ts. joined to (drop base ts)) same ∙ ap (λ i. joined to (drop i (trees a))) at ∙ is) refl (left-from a.room d.room (room_of 1 0) room)

-- and so are other nodes in their place
pub joins-nodes : (a d e : Builder) (n base : ℕ) (to : Joined) (v w : Value) → Joins d e (length a.stack.items - base) v (joined_kind to) (room_of 1 0) → trees d ≡ trees a → kinds d ≡ kinds a → d.room ≡ a.room → base ≡ length (trees a) - n → n ≤ length (trees a) → v ≡ w → Joins a e n w (joined_kind to) (room_of 1 0)
joins-nodes a d e n base to v w p same kind room at some is =
    let all = length-map a.stack.items (λ k. get_or (values_of a.pool) k Absent) in
    let m : length a.stack.items - base ≡ n = omega (arith, at, some, all) in
    joins-of a d e n (length a.stack.items - base) v w _ _ (room_of 1 0) (room_of 1 0) p
    (ap (but_last (length a.stack.items - base)) same ∙ ap (λ i. but_last i (trees a)) m) (ap (but_last (length a.stack.items - base)) kind ∙ ap (λ i. but_last i (kinds a)) m)
    is refl (ap (λ r. without r (room_of 1 0)) room)

-- where the last trees begin
pub base-at : (a : Builder) (len n : ℕ) → len ≡ vec_len a.stack → len - n ≡ length (trees a) - n
base-at a len n e = omega (arith, e, a.stack.ok.0, length-map a.stack.items (λ k. get_or (values_of a.pool) k Absent))

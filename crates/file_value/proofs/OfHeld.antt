-- That a value is of a kind tree is one fact, so what is known of it in part is known whole.
use Rattle.std.proofs.Common.{◌≡◌, ℕ, ◌≤◌, ◌<◌, ◌^◌, List, [], ◌∷◌, pos, negsuc, length, None, sym, subst}
use Rattle.std.specs.List.{AllByRecursion}
use Rattle.std.proofs.Props.{props}
use Rattle.std.proofs.Math.Logic.{∥∥₁_elim, ∥∥₁_map}
use Rattle.std.proofs.Math.Bridge.{le_prop}
use Rattle.std.proofs.lemmas.Str.{IsUtf8-from_is_utf8, is_utf8-from_IsUtf8}
use Rattle.frozen_model.specs.Trees.{LeafKind, Flag, Integer, ByteKind, Text, Binary, Holder, AList, ASet}
use Rattle.frozen_model.specs.Trees.{AMap, Tree, Trees, Leaf, ByteRange, ItemRange, Optional, Struct, NoField}
use Rattle.frozen_model.specs.Trees.{Field, ids_of}
use Rattle.frozen_model.specs.Values as is
use Rattle.frozen_model.specs.Values.{Atom, Truth, Number, Value, Values, One, Bytes, Items, Absent, Present}
use Rattle.frozen_model.specs.Values.{Record, NoValue, And, InBits, IsOf, IsSpelled, Rises, Of, OfEach, OfAll}
use Rattle.frozen_model.specs.Values.{one, absent, present, record_of, none, more, no_part, part, count}
use Rattle.frozen_model.specs.Values.{cells, cell_limit}
use Rattle.frozen_model.specs.Layouts.{Layout}
use Rattle.frozen_laws.specs.Laws.{IsContent}
use Rattle.layout_tree.proofs.Held.{never}
use Rattle.file_check.specs.Held.{HoldsValue}
use Rattle.file_value.proofs.Rows.{rises_prop}

le_held : {m n : ℕ} → ∥ m ≤ n ∥₁ → m ≤ n
le_held h = ∥∥₁_elim h le_prop (λ x. x)

is_of_held : (k : LeafKind) (x : Atom) → ∥ IsOf k x ∥₁ → IsOf k x
is_of_held Flag (Truth b) h = tt
is_of_held Flag (Number z) h = never h
is_of_held (Integer k) (Truth b) h = never h
is_of_held (Integer k) (Number (pos n)) h = le_held h
is_of_held (Integer k) (Number (negsuc n)) h = le_held h

all_held : (bs : List ℕ) → ∥ AllByRecursion (λ b. b < 256) bs ∥₁ → AllByRecursion (λ b. b < 256) bs
all_held [] h = tt
all_held (b ∷ bs) h = (le_held (∥∥₁_map h (λ x. x.0)), all_held bs (∥∥₁_map h (λ x. x.1)))

spelled_held : (t : ByteKind) (bs : List ℕ) → ∥ IsSpelled t bs ∥₁ → IsSpelled t bs
spelled_held Binary bs h = tt
spelled_held Text bs h =
    IsUtf8-from_is_utf8 bs (∥∥₁_elim h (hlevel props) (λ u. is_utf8-from_IsUtf8 bs u))

rises_held : (h : Holder) (vs : Values) → ∥ Rises h None vs ∥₁ → Rises h None vs
rises_held h vs r = ∥∥₁_elim r (rises_prop h None vs) (λ x. x)

ids_held : (xs ys : List ℕ) → ∥ xs ≡ ys ∥₁ → xs ≡ ys
ids_held xs ys h = ∥∥₁_elim h (hlevel props) (λ x. x)

abbrev IsSameHolder : Holder → Holder → Type 0
IsSameHolder AList AList = Unit {0}
IsSameHolder ASet ASet = Unit {0}
IsSameHolder AMap AMap = Unit {0}
IsSameHolder h g = ⊥

same_holder : (h : Holder) → IsSameHolder h h
same_holder AList = tt
same_holder ASet = tt
same_holder AMap = tt

items_held : {A B : Type 0} (h g : Holder) (d c : B) (l : Tree A B) (vs : Values) → ∥ IsSameHolder h g ∥₁
    → count vs < 2 ^ 31 → Rises h None vs → OfEach l vs → Of (ItemRange h d c l) (Items g vs)
items_held AList AList d c l vs s few r o = is.items few r o
items_held ASet ASet d c l vs s few r o = is.items few r o
items_held AMap AMap d c l vs s few r o = is.items few r o
items_held h g d c l vs s few r o = absurd (never s)

-- what it is to be of a tree, by recursion
abbrev mutual
  IsOfTree : {A B : Type 0} → Tree A B → Value → Type 0
  IsOfTree (Leaf k a) (One x) = IsOf k x
  IsOfTree (ByteRange t d c) (Bytes bs) =
      (length bs < 2 ^ 31) × AllByRecursion (λ b. b < 256) bs × IsSpelled t bs
  IsOfTree (ItemRange h d c l) (Items g vs) =
      IsSameHolder h g × (count vs < 2 ^ 31) × Rises h None vs × AreOfTree l vs
  IsOfTree (Optional w l) Absent = Unit {0}
  IsOfTree (Optional w l) (Present v) = IsOfTree l v
  IsOfTree (Struct ls) (Record ids vs) = (ids ≡ ids_of ls) × AreOfTrees ls vs
  IsOfTree _ _ = ⊥

  AreOfTree : {A B : Type 0} → Tree A B → Values → Type 0
  AreOfTree l NoValue = Unit {0}
  AreOfTree l (And v vs) = IsOfTree l v × AreOfTree l vs

  AreOfTrees : {A B : Type 0} → Trees A B → Values → Type 0
  AreOfTrees NoField NoValue = Unit {0}
  AreOfTrees (Field i l ls) (And v vs) = IsOfTree l v × AreOfTrees ls vs
  AreOfTrees _ _ = ⊥

mutual
  of_tree : {A B : Type 0} {l : Tree A B} {v : Value} → Of l v → IsOfTree l v
  of_tree (one o) = o
  of_tree (is.bytes a b c) = (a, b, c)
  of_tree (is.items {h = h} few r hs) = (same_holder h, few, r, each_of_tree hs)
  of_tree absent = tt
  of_tree (present h) = of_tree h
  of_tree (record_of e hs) = (e, all_of_trees hs)

  each_of_tree : {A B : Type 0} {l : Tree A B} {vs : Values} → OfEach l vs → AreOfTree l vs
  each_of_tree none = tt
  each_of_tree (more h hs) = (of_tree h, each_of_tree hs)

  all_of_trees : {A B : Type 0} {ls : Trees A B} {vs : Values} → OfAll ls vs → AreOfTrees ls vs
  all_of_trees no_part = tt
  all_of_trees (part h hs) = (of_tree h, all_of_trees hs)

mutual
  tree_held : {A B : Type 0} (l : Tree A B) (v : Value) → ∥ IsOfTree l v ∥₁ → Of l v
  tree_held (Leaf k a) (One x) h = one (is_of_held k x h)
  tree_held (ByteRange t d c) (Bytes bs) h =
      is.bytes (le_held (∥∥₁_map h (λ x. x.0))) (all_held bs (∥∥₁_map h (λ x. x.1)))
      (spelled_held t bs (∥∥₁_map h (λ x. x.2)))
  tree_held (ItemRange g d c l) (Items f vs) h =
      items_held g f d c l vs (∥∥₁_map h (λ x. x.0)) (le_held (∥∥₁_map h (λ x. x.1)))
      (rises_held g vs (∥∥₁_map h (λ x. x.2))) (each_held l vs (∥∥₁_map h (λ x. x.3)))
  tree_held (Optional w l) Absent h = absent
  tree_held (Optional w l) (Present v) h = present (tree_held l v h)
  tree_held (Struct ls) (Record ids vs) h =
      record_of (ids_held ids (ids_of ls) (∥∥₁_map h (λ x. x.0))) (trees_held ls vs (∥∥₁_map h (λ x. x.1)))
  tree_held l v h = absurd (never h)

  each_held : {A B : Type 0} (l : Tree A B) (vs : Values) → ∥ AreOfTree l vs ∥₁ → OfEach l vs
  each_held l NoValue h = none
  each_held l (And v vs) h =
      more (tree_held l v (∥∥₁_map h (λ x. x.0))) (each_held l vs (∥∥₁_map h (λ x. x.1)))

  trees_held : {A B : Type 0} (ls : Trees A B) (vs : Values) → ∥ AreOfTrees ls vs ∥₁ → OfAll ls vs
  trees_held NoField NoValue h = no_part
  trees_held (Field i l ls) (And v vs) h =
      part (tree_held l v (∥∥₁_map h (λ x. x.0))) (trees_held ls vs (∥∥₁_map h (λ x. x.1)))
  trees_held NoField (And v vs) h = absurd (never h)
  trees_held (Field i l ls) NoValue h = absurd (never h)

-- a value that is known to be of a tree is of it
pub of_held : {A B : Type 0} (l : Tree A B) (v : Value) → ∥ Of l v ∥₁ → Of l v
of_held l v h = tree_held l v (∥∥₁_map h (λ o. of_tree o))

-- the value of a content is within the limit of cells
pub few_held : (l : Layout) (bs : List ℕ) (v : Value) → ∥ HoldsValue l bs ∥₁
    → ((u : Value) → IsContent l u bs → v ≡ u) → cells l v ≤ cell_limit
few_held l bs v h is = ∥∥₁_elim h le_prop (λ held.
    subst (λ u. cells l u ≤ cell_limit) (sym (is held.0 held.1)) held.1.within)

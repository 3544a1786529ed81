-- Each number below the count is that of a part, or of a distance, a count or an isset.
use Rattle.std.proofs.Common.{[], ◌∷◌, length, map, slice_get, Some, None, ℤ, ◌≡◌, ◌⊎◌, inl, inr, ℕ, zero}
use Rattle.std.proofs.Common.{suc, ◌+◌, ◌-◌, ◌<◌, ◌≤◌, List, ◌++◌, arith, refl, ap, sym, ◌∙◌, subst, get_or}
use Rattle.std.proofs.lemmas.List.{get_or_append_left, get_or-append_right}
use Rattle.frozen_model.specs.Layouts.{Version, Layout, stride}
use Rattle.frozen_model.specs.Trees.{Text, Binary, AList, ASet, AMap, Leaf, ByteRange, ItemRange, Optional}
use Rattle.frozen_model.specs.Trees.{Struct, NoField, Field, nodes, nodes_all, Part, itself, in_item}
use Rattle.frozen_model.specs.Trees.{in_optional, in_struct, PartAll, in_first, in_later}
use Rattle.layout_tree.specs.declared.node.NodeSpec.{NodeSpec}
use Rattle.layout_tree.specs.declared.node.Kind.{Kind}
use Rattle.layout_tree.specs.declared.node.Kind.TheVariants as kinds
use Rattle.layout_tree.specs.Listing.{Noted, AllNoted, inline, item_struct, nodes_of, nodes_of_all, tree_of}
use Rattle.layout_tree.specs.Listing.{IsListing, sub, layout_in, all_nodes}
use Rattle.layout_tree.specs.Reading.{plain, kind_at, child_of, IsRange, IsHolder, item_of, item_stride}
use Rattle.layout_tree.specs.Given.{shown}
use Rattle.layout_tree.proofs.Readings.{kind_read, read_first, length_listing}
use Rattle.layout_tree.proofs.Place.{At, at_part, length_nodes, some_nodes}
use Rattle.layout_tree.proofs.Subs.{sub_is, part_high}

-- a part of the tree whose own node is i
pub record SomePart (t : Noted) (i n : ℕ) : Type 0 where
  pub here : Noted
  pub part : Part t i here n

pub record SomePartAll (ls : AllNoted) (i n : ℕ) : Type 0 where
  pub here : Noted
  pub part : PartAll ls i here n

-- below or not
pub below_or : (m n : ℕ) → (m < n) ⊎ (n ≤ m)
below_or zero zero = inr (omega arith)
below_or zero (suc n) = inl (omega arith)
below_or (suc m) zero = inr (omega arith)
below_or (suc m) (suc n) = elim (below_or m n) [ inl h ↦ inl (omega arith) | inr h ↦ inr (omega arith) ]

-- the kinds of distances, counts and issets
abbrev pub IsLone : Kind → Type 0
IsLone kinds.Size = Unit {0}
IsLone kinds.Flag = Unit {0}
IsLone _ = ⊥

-- what stands at the k-th node of a tree
abbrev Stands : Noted → Kind → ℕ → ℕ → ℕ → ℕ → NodeSpec → ℕ → Type 0
Stands t sk i p f o x k = SomePart t i (i + k) ⊎ IsLone (get_or (nodes_of t sk i p f o) k x).kind

mutual
  stands : (t : Noted) (sk : Kind) (i p f o : ℕ) (x : NodeSpec) (k : ℕ) → k < nodes t
      → Stands t sk i p f o x k
  stands t sk i p f o x zero h = let e : i ≡ i + 0 = omega arith in inl (record {
    here = t;
    part = subst (λ n. Part t i t n) e itself;
  })
  stands (Leaf j c) sk i p f o x (suc k) h = absurd (omega arith)
  stands (ByteRange t d c) sk i p f o x (suc zero) h = inr tt
  stands (ByteRange t d c) sk i p f o x (suc (suc zero)) h = inr tt
  stands (ByteRange t d c) sk i p f o x (suc (suc (suc k))) h = absurd (omega arith)
  stands (ItemRange g d c l) sk i p f o x (suc zero) h = inr tt
  stands (ItemRange g d c l) sk i p f o x (suc (suc zero)) h = inr tt
  stands (ItemRange g d c l) sk i p f o x (suc (suc (suc k))) h =
      elim (stands l (item_struct g) (suc (suc (suc i))) i 3 0 x k (omega arith)) [
        | inl q ↦ let e : suc (suc (suc i)) + k ≡ i + suc (suc (suc k)) = omega arith in
            inl (record {
              here = q.here;
              part = subst (λ n. Part (ItemRange g d c l) i q.here n) e (in_item q.part);
            })
        | inr q ↦ inr q
      ]
  stands (Optional w l) sk i p f o x (suc zero) h = inr tt
  stands (Optional w l) sk i p f o x (suc (suc k)) h =
      elim (stands l kinds.Struct (suc (suc i)) i 2 w.bits x k (omega arith)) [
        | inl q ↦ let e : suc (suc i) + k ≡ i + suc (suc k) = omega arith in
            inl (record {
              here = q.here;
              part = subst (λ n. Part (Optional w l) i q.here n) e (in_optional q.part);
            })
        | inr q ↦ inr q
      ]
  stands (Struct ls) sk i p f o x (suc k) h =
      elim (stands_all ls (suc i) i 0 x k (omega arith)) [
        | inl q ↦ let e : suc i + k ≡ i + suc k = omega arith in
            inl (record {
              here = q.here;
              part = subst (λ n. Part (Struct ls) i q.here n) e (in_struct q.part);
            })
        | inr q ↦ inr q
      ]

  stands_all : (ls : AllNoted) (i p o : ℕ) (x : NodeSpec) (k : ℕ) → k < nodes_all ls
      → SomePartAll ls i (i + k) ⊎ IsLone (get_or (nodes_of_all ls i p o) k x).kind
  stands_all NoField i p o x k h = absurd (omega arith)
  stands_all (Field id l ls) i p o x k h =
      let mine = nodes_of l kinds.Struct i p id o in
      let more = nodes_of_all ls (i + nodes l) p (o + inline l) in
      let long = length_nodes l kinds.Struct i p id o in
      elim (below_or k (nodes l)) [
        | inl lt ↦
            let here : get_or (mine ++ more) k x
            ≡ get_or mine k x = get_or_append_left mine more x k (omega (arith, long, lt)) in
            elim (stands l kinds.Struct i p id o x k lt) [
              | inl q ↦ inl (record { here = q.here; part = in_first q.part })
              | inr q ↦ inr (subst (λ (y : NodeSpec). IsLone y.kind) (sym here) q)
            ]
        | inr le ↦
            let here : get_or (mine ++ more) k x
            ≡ get_or more (k - nodes l) x = get_or-append_right mine more (nodes l) k x long le in
            elim (stands_all ls (i + nodes l) p (o + inline l) x (k - nodes l) (omega (arith, le, h))) [
              | inl q ↦ let e : i + nodes l + (k - nodes l) ≡ i + k = omega (arith, le) in
                  inl (record {
                    here = q.here;
                    part = subst (λ n. PartAll (Field id l ls) i q.here n) e (in_later q.part);
                  })
              | inr q ↦ inr (subst (λ (y : NodeSpec). IsLone y.kind) (sym here) q)
            ]
      ]

-- each number below the count is that of a part, or what stands there is a distance, a count or an isset
pub part_or_lone : (ns : List NodeSpec) (n : ℕ) (x : NodeSpec) → IsListing ns → n < nodes (tree_of ns)
    → Part (tree_of ns) 0 (sub (tree_of ns) n) n ⊎ IsLone (get_or ns n x).kind
part_or_lone ns n x li h =
    let t = tree_of ns in
    elim (stands t kinds.Struct 0 0 0 0 x n h) [
      | inl q ↦ let p : Part t 0 q.here n = subst (λ m. Part t 0 q.here m) (omega arith) q.part in
          inl (subst (λ (s : Noted). Part t 0 s n) (sym (sub_is p)) p)
      | inr q ↦ inr (subst (λ (r : List NodeSpec). IsLone (get_or r n x).kind) (sym li) q)
    ]

-- a part has some nodes, so its number is below the count
pub number_of_part : (t : Noted) (n : ℕ) → Part t 0 (sub t n) n → n < nodes t
number_of_part t n p = omega (arith, part_high p, some_nodes (sub t n))

pub in_list : (ns : List NodeSpec) (n : ℕ) → IsListing ns → n < nodes (tree_of ns) → n < length ns
in_list ns n li h = omega (arith, h, length_listing ns li)

not_lone : (k : Kind) → IsLone k → (k ≡ kinds.Flag → ⊥) → (k ≡ kinds.Size → ⊥) → ⊥
not_lone kinds.Flag h f g = f refl
not_lone kinds.Size h f g = g refl
not_lone kinds.I8 h f g = absurd h
not_lone kinds.I16 h f g = absurd h
not_lone kinds.I32 h f g = absurd h
not_lone kinds.I64 h f g = absurd h
not_lone kinds.Text h f g = absurd h
not_lone kinds.Bytes h f g = absurd h
not_lone kinds.List h f g = absurd h
not_lone kinds.Set h f g = absurd h
not_lone kinds.Map h f g = absurd h
not_lone kinds.Pair h f g = absurd h
not_lone kinds.Struct h f g = absurd h
not_lone kinds.Optional h f g = absurd h

-- what stands there is of another kind, so it is the node of a part
pub part_here : (ns : List NodeSpec) (n : ℕ) (x : NodeSpec) → IsListing ns → n < nodes (tree_of ns) → x
    ≡ get_or ns n x
    → (x.kind ≡ kinds.Flag → ⊥) → (x.kind ≡ kinds.Size → ⊥) → Part (tree_of ns) 0 (sub (tree_of ns) n) n
part_here ns n x li h e f g =
    elim (part_or_lone ns n x li h) [
      | inl p ↦ p
      | inr q ↦ absurd (not_lone x.kind (subst (λ (y : NodeSpec). IsLone y.kind) (sym e) q) f g)
    ]

-- a part that is of one of these kinds has no children
lone_child : (v : Version) (s : Noted) (k : Kind) → plain k ≡ kind_at (layout_in v s) → (k ≡ kinds.Flag)
    ⊎ (k ≡ kinds.Size) → (n : ℕ) (f : ℤ) → None ≡ child_of (layout_in v s) n f
lone_child v (Leaf j c) k e o n f = refl
lone_child v (ByteRange Text d c) k e (inl h) n f = let x : kinds.Flag ≡ kinds.Text = sym (ap plain h)
    ∙ e in absurd cc
lone_child v (ByteRange Text d c) k e (inr h) n f = let x : kinds.Size ≡ kinds.Text = sym (ap plain h)
    ∙ e in absurd cc
lone_child v (ByteRange Binary d c) k e (inl h) n f = let x : kinds.Flag ≡ kinds.Bytes = sym (ap plain h)
    ∙ e in absurd cc
lone_child v (ByteRange Binary d c) k e (inr h) n f = let x : kinds.Size ≡ kinds.Bytes = sym (ap plain h)
    ∙ e in absurd cc
lone_child v (ItemRange AList d c l) k e (inl h) n f = let x : kinds.Flag ≡ kinds.List = sym (ap plain h)
    ∙ e in absurd cc
lone_child v (ItemRange AList d c l) k e (inr h) n f = let x : kinds.Size ≡ kinds.List = sym (ap plain h)
    ∙ e in absurd cc
lone_child v (ItemRange ASet d c l) k e (inl h) n f = let x : kinds.Flag ≡ kinds.Set = sym (ap plain h)
    ∙ e in absurd cc
lone_child v (ItemRange ASet d c l) k e (inr h) n f = let x : kinds.Size ≡ kinds.Set = sym (ap plain h)
    ∙ e in absurd cc
lone_child v (ItemRange AMap d c l) k e (inl h) n f = let x : kinds.Flag ≡ kinds.Map = sym (ap plain h)
    ∙ e in absurd cc
lone_child v (ItemRange AMap d c l) k e (inr h) n f = let x : kinds.Size ≡ kinds.Map = sym (ap plain h)
    ∙ e in absurd cc
lone_child v (Optional w l) k e (inl h) n f = let x : kinds.Flag ≡ kinds.Optional = sym (ap plain h)
    ∙ e in absurd cc
lone_child v (Optional w l) k e (inr h) n f = let x : kinds.Size ≡ kinds.Optional = sym (ap plain h)
    ∙ e in absurd cc
lone_child v (Struct ls) k e (inl h) n f = let x : kinds.Flag ≡ kinds.Struct = sym (ap plain h)
    ∙ e in absurd cc
lone_child v (Struct ls) k e (inr h) n f = let x : kinds.Size ≡ kinds.Struct = sym (ap plain h)
    ∙ e in absurd cc

pub no_child : (v : Version) (ns : List NodeSpec) (n : ℕ) (x : NodeSpec) → IsListing ns → x ≡ get_or ns n x
    → (x.kind ≡ kinds.Flag) ⊎ (x.kind ≡ kinds.Size)
    → Part (tree_of ns) 0 (sub (tree_of ns) n) n → (f : ℤ) → None
    ≡ child_of (layout_in v (sub (tree_of ns) n)) n f
no_child v ns n x li e o p f =
    let s = sub (tree_of ns) n in
    lone_child v s x.kind (ap (λ (y : NodeSpec). plain y.kind) e ∙ kind_read v (at_part ns s n li p) x) o n f

-- ---- nodes as they are shown

pub get_shown : (xs : List NodeSpec) (i : ℕ) (x : NodeSpec) → i < length xs → x ≡ get_or xs i x
    → slice_get (map shown xs) i ≡ Some (shown x)
get_shown [] i x h e = absurd (omega arith)
get_shown (y ∷ ys) zero x h e = ap (λ z. Some (shown z)) (sym e)
get_shown (y ∷ ys) (suc i) x h e = get_shown ys i x (omega arith) e

pub get_listed : (ns : List NodeSpec) (n : ℕ) (x : NodeSpec) → IsListing ns → n < length ns
    → x ≡ get_or ns n x → slice_get (map shown (all_nodes (tree_of ns))) n ≡ Some (shown x)
get_listed ns n x li lt e = ap (λ r. slice_get (map shown r) n) (sym li) ∙ get_shown ns n x lt e

-- ---- ranges by their kind

abbrev pub RangeKind : Version → Noted → Kind → Type 0
RangeKind v s k = (((k ≡ kinds.Text) ⊎ (k ≡ kinds.Bytes)) × (8 ≡ item_stride (layout_in v s)))
    ⊎ (IsHolder (layout_in v s) × (k ≡ kinds.Text → ⊥) × (k ≡ kinds.Bytes → ⊥))

range_kind : (v : Version) (s : Noted) (sk : Kind) (i p f o : ℕ) (rest : List NodeSpec) (d : NodeSpec)
    → IsRange (layout_in v s)
    → RangeKind v s (get_or (nodes_of s sk i p f o ++ rest) 0 d).kind
range_kind v (ByteRange Text x c) sk i p f o rest d h = inl (inl refl, refl)
range_kind v (ByteRange Binary x c) sk i p f o rest d h = inl (inr refl, refl)
range_kind v (ItemRange AList x c l) sk i p f o rest d h = inr (tt, (λ e. absurd cc), (λ e. absurd cc))
range_kind v (ItemRange ASet x c l) sk i p f o rest d h = inr (tt, (λ e. absurd cc), (λ e. absurd cc))
range_kind v (ItemRange AMap x c l) sk i p f o rest d h = inr (tt, (λ e. absurd cc), (λ e. absurd cc))
range_kind v (Leaf k c) sk i p f o rest d h = absurd h
range_kind v (Optional w l) sk i p f o rest d h = absurd h
range_kind v (Struct ls) sk i p f o rest d h = absurd h

pub kind_of_range : (v : Version) (ns : List NodeSpec) (s : Noted) (n : ℕ) (x : NodeSpec) → At ns s n → x
    ≡ get_or ns n x → IsRange (layout_in v s) → RangeKind v s x.kind
kind_of_range v ns s n x a e h =
    subst (λ (y : NodeSpec). RangeKind v s y.kind) (sym (e ∙ read_first a x))
    (range_kind v s a.kind n a.parent a.field a.offset a.post x h)

pub byte_item : (v : Version) (s : Noted) (k : Kind) → RangeKind v s k → (k ≡ kinds.Text) ⊎ (k ≡ kinds.Bytes)
    → 8 ≡ item_stride (layout_in v s)
byte_item v s k (inl h) o = h.1
byte_item v s k (inr h) (inl e) = absurd (h.1 e)
byte_item v s k (inr h) (inr e) = absurd (h.2 e)

pub holds_items : (v : Version) (s : Noted) (k : Kind) → RangeKind v s k → (k ≡ kinds.Text → ⊥)
    → (k ≡ kinds.Bytes → ⊥) → IsHolder (layout_in v s)
holds_items v s k (inl (inl e, h)) f g = absurd (f e)
holds_items v s k (inl (inr e, h)) f g = absurd (g e)
holds_items v s k (inr h) f g = h.0

pub item_is : (l : Layout) → IsHolder l → stride (item_of l) ≡ item_stride l
item_is (ItemRange g d c l) h = refl
item_is (ByteRange t d c) h = absurd h
item_is (Leaf k c) h = absurd h
item_is (Optional w l) h = absurd h
item_is (Struct ls) h = absurd h

-- What is gathered, and what is left to gather as the loops over items and over fields go on.
use Rattle.std.proofs.Common.{◌≡◌, ◌⊎◌, inl, inr, ℕ, suc, ◌+◌, ◌*◌, List, [], ◌∷◌, ◌++◌, length}
use Rattle.std.proofs.Common.{length-append, map, append_assoc, arith, refl, ap, sym, ◌∙◌, subst}
use Rattle.std.proofs.lemmas.List.{append-nil}
use Rattle.frozen_model.specs.Trees.{LeafKind, Holder, Leaf, ByteRange, ItemRange, Optional, Struct, NoField}
use Rattle.frozen_model.specs.Trees.{Field, nodes, Part, Alike, AllLeafwise}
use Rattle.frozen_model.specs.Values.{Value, Values, One, Bytes, Items, Absent, Present, Record, NoValue, And}
use Rattle.frozen_model.specs.Values.{count, Of}
use Rattle.frozen_model.specs.Layouts.{Version, Coded, Layout, Layouts, stride}
use Rattle.frozen_model.specs.Packing.{extent, bytes_for}
use Rattle.frozen_laws.proofs.Leafwise.{leafwise_same, all_leafwise_same}
use Rattle.layout_tree.specs.Listing.{Noted, layout_in, sub}
use Rattle.layout_tree.specs.Reading.{IsLeaf, item_of}
use Rattle.layout_tree.proofs.Left.{FieldsLeft, fields_start}
use Rattle.typed_tree.specs.Parts.{fields_of, IsRecord, IsFlag, IsInt}
use Rattle.typed_tree.specs.References.{HasForm}
use Rattle.typed_tree.specs.declared.tree.TreeKind.{TreeKind}
use Rattle.typed_tree.specs.declared.tree.TreeKind.TheVariants as tree_kinds
use Rattle.typed_tree.proofs.Forms.{AreItems}
use Rattle.value_bounds.proofs.Forms.{record_form}
use Rattle.measure_pass.specs.Spots.{Spot, spot, root, spots_of, with_spot, spots, spots_each, spots_all}
use Rattle.measure_pass.specs.Spots.{unplaced, Gathers, EachGathers}
use Rattle.measure_pass.proofs.Gathering.{map_join, map_long, spots_same, each_same, all_same}

alike : (l : Layout) → Alike l l
alike l = leafwise_same (λ k c. tt) (λ w. tt) (λ w. tt) l

alike_all : (ls : Layouts) → AllLeafwise (λ (k : LeafKind) (c : Coded) (d : Coded). Unit {0})
    (λ (b : ℕ) (d : ℕ). Unit {0}) (λ (b : ℕ) (d : ℕ). Unit {0}) ls ls
alike_all ls = all_leafwise_same (λ k c. tt) (λ w. tt) (λ w. tt) ls

-- ---- one after another

long : (now next : List Spot) (xs : List Spot) → next ≡ now ++ map unplaced xs → length next ≡ length now
    + length xs
long now next xs e = ap (λ r. length r) e ∙ length-append now (map unplaced xs)
    ∙ ap (λ k. length now + k) (map_long xs)

joined : (now next xs ys zs : List Spot) → next ≡ now ++ map unplaced xs → map unplaced zs ≡ map unplaced ys
    → next ++ map unplaced zs ≡ now ++ map unplaced (xs ++ ys)
joined now next xs ys zs e f = ap (λ r. r ++ map unplaced zs) e
    ∙ append_assoc now (map unplaced xs) (map unplaced zs) ∙ ap (λ r. now ++ (map unplaced xs ++ r)) f
    ∙ ap (λ r. now ++ r) (sym (map_join xs ys))

each_more : (m : Layout) (x : Value) (vs : Values) (i p : ℕ) (now next : List Spot) → Gathers m x i p now next
    → next ++ map unplaced (spots_each m vs i p (length next) 0) ≡ now
    ++ map unplaced (spots_each m (And x vs) i p (length now) 0)
each_more m x vs i p now next g =
    let n = length now in
    let xs = spots m x i p n 0 in
    let e : length next ≡ n + length xs = long now next xs g in
    joined now next xs (spots_each m vs i p (n + length xs) (0 + extent m x))
    (spots_each m vs i p (length next) 0) g
    (ap (λ k. map unplaced (spots_each m vs i p k 0)) e
    ∙ each_same (alike m) vs i p (n + length xs) 0 (0 + extent m x))

field_more : (id : ℕ) (m : Layout) (ms : Layouts) (x : Value) (vs : Values) (i j p : ℕ) (now next : List Spot)
    → j ≡ i + nodes m → Gathers m x i p now next
    → next ++ map unplaced (spots_all ms vs j p (length next) 0) ≡ now
    ++ map unplaced (spots_all (Field id m ms) (And x vs) i p (length now) 0)
field_more id m ms x vs i j p now next ej g =
    let n = length now in
    let xs = spots m x i p n 0 in
    let e : length next ≡ n + length xs = long now next xs g in
    joined now next xs (spots_all ms vs (i + nodes m) p (n + length xs) (0 + extent m x))
    (spots_all ms vs j p (length next) 0) g
    (ap (λ k. map unplaced (spots_all ms vs k p (length next) 0)) ej
    ∙ ap (λ k. map unplaced (spots_all ms vs (i + nodes m) p k 0)) e
    ∙ all_same (alike_all ms) vs (i + nodes m) p (n + length xs) 0 (0 + extent m x))

-- ---- items

-- the ranges of the items that are left, behind those that are gathered, are those of all
pub record ItemsRest (m : Layout) (all : Values) (n p : ℕ) (old now : List Spot) (vs : Values) : Type 0 where
  pub rest : now ++ map unplaced (spots_each m vs n p (length now) 0) ≡ old
      ++ map unplaced (spots_each m all n p (length old) 0)

pub item_gathered : {m : Layout} {all : Values} {n p : ℕ} {old now new : List Spot} {x : Value} {vs : Values}
    → Gathers m x n p now new → ItemsRest m all n p old now (And x vs) → ItemsRest m all n p old new vs
item_gathered {m} {all} {n} {p} {old} {now} {new} {x} {vs} g
    r = record { rest = each_more m x vs n p now new g ∙ r.rest }

pub items_gathered : {m : Layout} {all : Values} {n p : ℕ} {old now : List Spot}
    → ItemsRest m all n p old now NoValue → EachGathers m all n p old now
items_gathered {m} {all} {n} {p} {old} {now} r = sym (append-nil now) ∙ r.rest

-- flags and numbers have none
leaf_spots : (m : Layout) (vs : Values) (i p n at : ℕ) → IsLeaf m → spots_each m vs i p n at ≡ []
leaf_spots m NoValue i p n at h = refl
leaf_spots (Leaf k c) (And x vs) i p n at h = leaf_spots (Leaf k c) vs i p (n + 0) (at + extent (Leaf k c) x)
    h
leaf_spots (ByteRange t d c) (And x vs) i p n at h = absurd h
leaf_spots (ItemRange g d c l) (And x vs) i p n at h = absurd h
leaf_spots (Optional w l) (And x vs) i p n at h = absurd h
leaf_spots (Struct ls) (And x vs) i p n at h = absurd h

pub leaves_gathered : (m : Layout) (vs : Values) (i p : ℕ) (s : List Spot) → IsLeaf m
    → EachGathers m vs i p s s
leaves_gathered m vs i p s h = sym (append-nil s)
    ∙ ap (λ r. s ++ map unplaced r) (sym (leaf_spots m vs i p (length s) 0 h))

-- ---- fields

-- the ranges of the fields that are left, behind those that are gathered, are those of the struct
pub record FieldsRest (l : Layout) (u : Value) (n p : ℕ) (old now : List Spot) (child : ℕ) (ls : Layouts)
    (vs : Values) : Type 0 where
  pub rest : now ++ map unplaced (spots_all ls vs child p (length now) 0) ≡ old
      ++ map unplaced (spots l u n p (length old) 0)

pub fields_ungathered : (t : Noted) (v : Version) (n child end p : ℕ) (u : Value) (s : List Spot) → IsRecord u
    → Part t 0 (sub t n) n → Of (layout_in v (sub t n)) u → end ≡ n + nodes (layout_in v (sub t n)) → child
    ≡ n + 1
    → FieldsLeft t v (nodes (layout_in v (sub t n))) (fields_of u) child end 0
    (FieldsRest (layout_in v (sub t n)) u n p s s child)
fields_ungathered t v n child end p u s h q o e ec =
    let l = layout_in v (sub t n) in
    let vs = fields_of u in
    let f = record_form l u h o in
    fields_start t v n child end f.layouts vs q f.layout e ec f.form
    (record {
      rest = ap (λ k. s ++ map unplaced (spots_all f.layouts vs k p (length s) 0)) ec
          ∙ sym (ap (λ (m : Layout). s ++ map unplaced (spots m u n p (length s) 0)) f.layout
          ∙ ap (λ (y : Value). s ++ map unplaced (spots (Struct f.layouts) y n p (length s) 0)) f.value);
    })

pub field_gathered : {l : Layout} {u : Value} {n p : ℕ} {old now new : List Spot} {child child2 id : ℕ}
    {m : Layout} {ms : Layouts} {x : Value} {vs : Values} → child2 ≡ child + nodes m
    → Gathers m x child p now new
    → FieldsRest l u n p old now child (Field id m ms) (And x vs) → FieldsRest l u n p old new child2 ms vs
field_gathered {l} {u} {n} {p} {old} {now} {new} {child} {child2} {id} {m} {ms} {x} {vs} e g
    r = record { rest = field_more id m ms x vs child child2 p now new e g ∙ r.rest }

pub fields_gathered : {l : Layout} {u : Value} {n p : ℕ} {old now : List Spot} {child : ℕ}
    → FieldsRest l u n p old now child NoField NoValue → Gathers l u n p old now
fields_gathered {l} {u} {n} {p} {old} {now} {child} r = sym (append-nil now) ∙ r.rest

-- ---- parts

pub one_gathered : (l : Layout) (u : Value) (i p : ℕ) (s : List Spot) → ((k : ℕ) → spots l u i p k 0 ≡ [])
    → Gathers l u i p s s
one_gathered l u i p s e = sym (append-nil s) ∙ ap (λ r. s ++ map unplaced r) (sym (e (length s)))

-- a flag, a number and what is absent have no ranges
pub alone_gathered : (l : Layout) (u : Value) (i p : ℕ) (s : List Spot) → (IsFlag u)
    ⊎ ((IsInt u) ⊎ (u ≡ Absent)) → Gathers l u i p s s
alone_gathered l u i p s h = one_gathered l u i p s (λ k. none_in l u k h)
  where
    none_in : (l : Layout) (u : Value) (k : ℕ) → (IsFlag u) ⊎ ((IsInt u) ⊎ (u ≡ Absent)) → spots l u i p k 0
        ≡ []
    none_in (Leaf _ _) (One x) k h = refl
    none_in (ByteRange _ _ _) (One x) k h = refl
    none_in (ItemRange _ _ _ _) (One x) k h = refl
    none_in (Optional _ _) (One x) k h = refl
    none_in (Struct _) (One x) k h = refl
    none_in (Leaf _ _) Absent k h = refl
    none_in (ByteRange _ _ _) Absent k h = refl
    none_in (ItemRange _ _ _ _) Absent k h = refl
    none_in (Optional _ _) Absent k h = refl
    none_in (Struct _) Absent k h = refl
    none_in l (Bytes x) k (inl h) = absurd h
    none_in l (Bytes x) k (inr (inl h)) = absurd h
    none_in l (Bytes x) k (inr (inr h)) = absurd cc
    none_in l (Items g x) k (inl h) = absurd h
    none_in l (Items g x) k (inr (inl h)) = absurd h
    none_in l (Items g x) k (inr (inr h)) = absurd cc
    none_in l (Present x) k (inl h) = absurd h
    none_in l (Present x) k (inr (inl h)) = absurd h
    none_in l (Present x) k (inr (inr h)) = absurd cc
    none_in l (Record ids x) k (inl h) = absurd h
    none_in l (Record ids x) k (inr (inl h)) = absurd h
    none_in l (Record ids x) k (inr (inr h)) = absurd cc

pub alone_kind : (k : TreeKind) (u : Value) → HasForm k u → (k ≡ tree_kinds.Flag)
    ⊎ ((k ≡ tree_kinds.Int) ⊎ (k ≡ tree_kinds.Absent)) → (IsFlag u) ⊎ ((IsInt u) ⊎ (u ≡ Absent))
alone_kind k u h (inl e) = inl (subst (λ z. HasForm z u) e h)
alone_kind k u h (inr (inl e)) = inr (inl (subst (λ z. HasForm z u) e h))
alone_kind k u h (inr (inr e)) = inr (inr (subst (λ z. HasForm z u) e h))

pub bytes_gathered : (l : Layout) (u : Value) (bs : List ℕ) (i p : ℕ) (old new : List Spot) → u ≡ Bytes bs
    → Of l u → new ≡ old ++ map unplaced (with_spot i (length bs) p 0 []) → Gathers l u i p old new
bytes_gathered l u bs i p old new e o h = subst (λ (y : Value). Gathers l y i p old new) (sym e)
    (go l (subst (Of l) e o))
  where
    go : (l : Layout) → Of l (Bytes bs) → Gathers l (Bytes bs) i p old new
    go (ByteRange t d c) o = h
    go (Leaf k c) o = elim o [ ]
    go (ItemRange g d c l) o = elim o [ ]
    go (Optional w l) o = elim o [ ]
    go (Struct ls) o = elim o [ ]

-- a range, and then those of its items
pub range_gathered : (l : Layout) (u : Value) (vs : Values) (k i p : ℕ) (old mid new : List Spot)
    → AreItems u vs → Of l u → k ≡ count vs → mid ≡ old ++ map unplaced (with_spot i k p 0 [])
    → EachGathers (item_of l) vs (i + 3) (length old) mid new → Gathers l u i p old new
range_gathered l u vs k i p old mid new e o ek em g = subst (λ (y : Value). Gathers l y i p old new)
    (sym e.is) (go l e.holder (subst (Of l) e.is o) g)
  where
    n : ℕ
    n = length old

    step : (h : Holder) (d c : ℕ) (m : Layout) (f : Holder) (vs : Values) → mid ≡ old
        ++ map unplaced (with_spot i (count vs) p 0 []) → EachGathers m vs (i + 3) n mid new
        → Gathers (ItemRange h d c m) (Items f vs) i p old new
    step h d c m f NoValue em g = g ∙ append-nil mid ∙ em
    step h d c m f (And x xs) em g =
        let vs = And x xs in
        let ex : length mid ≡ n + length (spot i (count vs) p 0 ∷ []) = long old mid
        (spot i (count vs) p 0 ∷ []) em in
        let e2 : length mid ≡ suc n = omega (arith, ex) in
        let at = 0 + bytes_for (count vs * stride m) in
        g ∙ ap (λ j. mid ++ map unplaced (spots_each m vs (i + 3) n j 0)) e2
        ∙ ap (λ r. mid ++ r) (each_same (alike m) vs (i + 3) n (suc n) 0 at)
        ∙ ap (λ r. r ++ map unplaced (spots_each m vs (i + 3) n (suc n) at)) em
        ∙ append_assoc old (spot i (count vs) p 0 ∷ []) (map unplaced (spots_each m vs (i + 3) n (suc n) at))

    go : (l : Layout) (f : Holder) → Of l (Items f vs) → EachGathers (item_of l) vs (i + 3) n mid new
        → Gathers l (Items f vs) i p old new
    go (ItemRange h d c m) f o g = step h d c m f vs
        (em ∙ ap (λ z. old ++ map unplaced (with_spot i z p 0 [])) ek) g
    go (Leaf k c) f o g = elim o [ ]
    go (ByteRange t d c) f o g = elim o [ ]
    go (Optional w l) f o g = elim o [ ]
    go (Struct ls) f o g = elim o [ ]

pub present_gathered : (l : Layout) (u x : Value) (w : ℕ) (m : Layout) (i p : ℕ) (old new : List Spot) → l
    ≡ Optional w m → u ≡ Present x → Gathers m x (i + 2) p old new → Gathers l u i p old new
present_gathered l u x w m i p old new el eu g = subst (λ (y : Layout). Gathers y u i p old new) (sym el)
    (subst (λ (y : Value). Gathers (Optional w m) y i p old new) (sym eu) g)

-- the ranges of a whole value
pub whole_gathered : (l m : Layout) (u : Value) (old new : List Spot) → m ≡ l → old ≡ root ∷ []
    → Gathers m u 0 0 old new → new ≡ map unplaced (spots_of l u)
whole_gathered l m u old new em eo g =
    subst (λ (x : Layout). Gathers x u 0 0 old new) em g
    ∙ ap (λ r. r ++ map unplaced (spots l u 0 0 (length r) 0)) eo
    ∙ ap (λ r. root ∷ r) (spots_same (alike l) u 0 0 1 0 (bytes_for (stride l)))

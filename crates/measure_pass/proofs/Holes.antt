-- Holes, and how growing goes together.
use Rattle.std.proofs.Common.{◌≡◌, inl, inr, ℕ, suc, ◌+◌, ◌-◌, ◌<◌, List, max, arith, refl, ap, sym, ◌∙◌}
use Rattle.std.proofs.Common.{subst}
use Rattle.frozen_model.specs.Trees.{Holder, Leaf, ByteRange, ItemRange, Optional, Struct, NoField, Field}
use Rattle.frozen_model.specs.Trees.{nodes}
use Rattle.frozen_model.specs.Layouts.{Version, Layout, Layouts}
use Rattle.frozen_model.specs.Holding.{Puts, AllPuts, both, no_puts, greatest_digits}
use Rattle.frozen_laws.proofs.Puts.{Beside}
use Rattle.layout_tree.specs.Listing.{Noted, AllNoted, Width, layout_in, layouts_in}
use Rattle.layout_tree.specs.Noting.{noted_at, all_noted_at, LeafAmong, wide_at, wide_among, noting}
use Rattle.layout_tree.proofs.Subs.{below_test, above_test}
use Rattle.layout_tree.proofs.Noted.{tip_below}
use Rattle.layout_tree.proofs.Readings.{same_nodes}
use Rattle.measure_pass.specs.Growing.{grown, grown_all, Hole, FieldsHole, Grew, FieldsGrew}
use Rattle.measure_pass.proofs.Grown.{grown_none, grown_layout, grown_both}

shift : (n k j : ℕ) → n + j + k ≡ n + (j + k)
shift n k j = omega arith

pub no_hole : Hole (λ s. s) 0
no_hole = record {
  note = λ s k w u h. let e : 0 + k ≡ k = omega arith in ap (λ i. noted_at s i w) e;
  wide = λ s k u h. let e : 0 + k ≡ k = omega arith in ap (λ i. wide_at s i) e;
}

pub item_hole : (whole : Noted → Noted) (n : ℕ) (h : Holder) (d c : Width) → Hole whole n
    → Hole (λ s. whole (ItemRange h d c s)) (n + 3)
item_hole whole n h d c o = record {
  note = λ s k w u t. let e : n + 3 + k ≡ n
      + suc (suc (suc k)) = omega arith in ap (λ i. noted_at (whole (ItemRange h d c s)) i w) e
      ∙ o.note (ItemRange h d c s) (suc (suc (suc k))) w u t;
  wide = λ s k u t. let e : n + 3 + k ≡ n
      + suc (suc (suc k)) = omega arith in ap (λ i. wide_at (whole (ItemRange h d c s)) i) e
      ∙ o.wide (ItemRange h d c s) (suc (suc (suc k))) u t;
}

pub inner_hole : (whole : Noted → Noted) (n : ℕ) (x : Width) → Hole whole n
    → Hole (λ s. whole (Optional x s)) (n + 2)
inner_hole whole n x o = record {
  note = λ s k w u t. let e : n + 2 + k ≡ n
      + suc (suc k) = omega arith in ap (λ i. noted_at (whole (Optional x s)) i w) e
      ∙ o.note (Optional x s) (suc (suc k)) w u t;
  wide = λ s k u t. let e : n + 2 + k ≡ n
      + suc (suc k) = omega arith in ap (λ i. wide_at (whole (Optional x s)) i) e
      ∙ o.wide (Optional x s) (suc (suc k)) u t;
}

pub fields_hole : (whole : Noted → Noted) (n : ℕ) → Hole whole n
    → FieldsHole (λ ls. whole (Struct ls)) (n + 1)
fields_hole whole n o = record {
  note = λ s k w u t. let e : n + 1 + k ≡ n
      + suc k = omega arith in ap (λ i. noted_at (whole (Struct s)) i w) e ∙ o.note (Struct s) (suc k) w u t;
  wide = λ s k u t. let e : n + 1 + k ≡ n + suc k = omega arith in ap (λ i. wide_at (whole (Struct s)) i) e
      ∙ o.wide (Struct s) (suc k) u t;
}

first_note : (id : ℕ) (s : Noted) (ls : AllNoted) (k w : ℕ) → k < nodes s → all_noted_at (Field id s ls) k w
    ≡ Field id (noted_at s k w) ls
first_note id s ls k w h = let t = below_test k (nodes s) h in rw t refl

first_wide : (id : ℕ) (s : Noted) (ls : AllNoted) (k : ℕ) → k < nodes s → wide_among (Field id s ls) k
    ≡ wide_at s k
first_wide id s ls k h = let t = below_test k (nodes s) h in rw t refl

later_note : (id : ℕ) (l : Noted) (s : AllNoted) (k w : ℕ) → all_noted_at (Field id l s) (nodes l + k) w
    ≡ Field id l (all_noted_at s k w)
later_note id l s k w =
    let t = above_test (nodes l + k) (nodes l) (omega arith) in
    let e : nodes l + k - nodes l ≡ k = omega arith in
    rw t (ap (λ i. Field id l (all_noted_at s i w)) e)

later_wide : (id : ℕ) (l : Noted) (s : AllNoted) (k : ℕ) → wide_among (Field id l s) (nodes l + k)
    ≡ wide_among s k
later_wide id l s k =
    let t = above_test (nodes l + k) (nodes l) (omega arith) in
    let e : nodes l + k - nodes l ≡ k = omega arith in
    rw t (ap (λ i. wide_among s i) e)

later_tip : (id : ℕ) (l : Noted) (s : AllNoted) (k u : ℕ) → LeafAmong s k u
    → LeafAmong (Field id l s) (nodes l + k) u
later_tip id l s k u h = let e : k ≡ nodes l
    + k - nodes l = omega arith in inr (omega arith, subst (λ i. LeafAmong s i u) e h)

pub first_hole : (whole : AllNoted → Noted) (n id : ℕ) (ls : AllNoted) → FieldsHole whole n
    → Hole (λ s. whole (Field id s ls)) n
first_hole whole n id ls o = record {
  note = λ s k w u t. o.note (Field id s ls) k w u (inl (tip_below s k u t, t))
      ∙ ap whole (first_note id s ls k w (tip_below s k u t));
  wide = λ s k u t. o.wide (Field id s ls) k u (inl (tip_below s k u t, t))
      ∙ first_wide id s ls k (tip_below s k u t);
}

pub later_hole : (whole : AllNoted → Noted) (n id : ℕ) (l : Noted) → FieldsHole whole n
    → FieldsHole (λ s. whole (Field id l s)) (n + nodes l)
later_hole whole n id l o = record {
  note = λ s k w u t. ap (λ i. noted_at (whole (Field id l s)) i w) (shift n k (nodes l))
      ∙ o.note (Field id l s) (nodes l + k) w u (later_tip id l s k u t) ∙ ap whole (later_note id l s k w);
  wide = λ s k u t. ap (λ i. wide_at (whole (Field id l s)) i) (shift n k (nodes l))
      ∙ o.wide (Field id l s) (nodes l + k) u (later_tip id l s k u t) ∙ later_wide id l s k;
}

-- ---- growing goes together

pub grew_more : (v : Version) (l : Layout) (p q : Puts) (old mid new : Noted) (n : ℕ) → Beside l p
    → Beside l q → Grew v l p old mid n → Grew v l q mid new n → Grew v l (both p q) old new n
grew_more v l p q old mid new n bp bq f g = λ whole o s e eo.
    let m = f whole o s e eo in
    let r = g whole o (grown v s p) (grown_layout v s p ∙ e) m in
    r ∙ ap whole (grown_both v s (subst (λ (x : Layout). Beside x p) (sym e) bp)
    (subst (λ (x : Layout). Beside x q) (sym e) bq))

pub grew_none : (v : Version) (l : Layout) (t : Noted) (n : ℕ) → Grew v l (no_puts l) t t n
grew_none v l t n = λ whole o s e eo. eo ∙ ap whole (sym (grown_none v s l e))

pub grew_range : (v : Version) (h : Holder) (d c : ℕ) (m : Layout) (ds cs : List ℕ) (p : Puts)
    (old mid new : Noted) (n : ℕ)
    → Grew v (ItemRange h d c m) (ItemRange h ds cs (no_puts m)) old mid n → Grew v m p mid new (n + 3)
    → Grew v (ItemRange h d c m) (ItemRange h ds cs p) old new n
grew_range v h d c m ds cs p old mid new n f g = λ whole o s e eo. go whole o s e eo (f whole o s e eo)
  where
    go : (whole : Noted → Noted) → Hole whole n → (s : Noted) → layout_in v s ≡ ItemRange h d c m → old
        ≡ whole s → mid ≡ whole (grown v s (ItemRange h ds cs (no_puts m))) → new
        ≡ whole (grown v s (ItemRange h ds cs p))
    go whole o (ItemRange k a b l) e eo em =
        let i : layout_in v l ≡ m = cc in
        let a2 = noting a (max a.wide (greatest_digits ds)) in
        let b2 = noting b (max b.wide (greatest_digits cs)) in
        g (λ s. whole (ItemRange k a2 b2 s)) (item_hole whole n k a2 b2 o) l i
        (em ∙ ap (λ (x : Noted). whole (ItemRange k a2 b2 x)) (grown_none v l m i))
    go whole o (Leaf _ _) e eo em = absurd cc
    go whole o (ByteRange _ _ _) e eo em = absurd cc
    go whole o (Optional _ _) e eo em = absurd cc
    go whole o (Struct _) e eo em = absurd cc

pub grew_optional : (v : Version) (w : ℕ) (m : Layout) (ds : List ℕ) (p : Puts) (old mid new : Noted) (n : ℕ)
    → Grew v (Optional w m) (Optional ds (no_puts m)) old mid n → Grew v m p mid new (n + 2)
    → Grew v (Optional w m) (Optional ds p) old new n
grew_optional v w m ds p old mid new n f g = λ whole o s e eo. go whole o s e eo (f whole o s e eo)
  where
    go : (whole : Noted → Noted) → Hole whole n → (s : Noted) → layout_in v s ≡ Optional w m → old ≡ whole s
        → mid ≡ whole (grown v s (Optional ds (no_puts m))) → new ≡ whole (grown v s (Optional ds p))
    go whole o (Optional a l) e eo em =
        let i : layout_in v l ≡ m = cc in
        let a2 = noting a (max a.wide (greatest_digits ds)) in
        g (λ s. whole (Optional a2 s)) (inner_hole whole n a2 o) l i
        (em ∙ ap (λ (x : Noted). whole (Optional a2 x)) (grown_none v l m i))
    go whole o (Leaf _ _) e eo em = absurd cc
    go whole o (ByteRange _ _ _) e eo em = absurd cc
    go whole o (ItemRange _ _ _ _) e eo em = absurd cc
    go whole o (Struct _) e eo em = absurd cc

pub grew_struct : (v : Version) (ls : Layouts) (ps : AllPuts) (old new : Noted) (n : ℕ)
    → FieldsGrew v ls ps old new (n + 1) → Grew v (Struct ls) (Struct ps) old new n
grew_struct v ls ps old new n f = λ whole o s e eo. go whole o s e eo
  where
    go : (whole : Noted → Noted) → Hole whole n → (s : Noted) → layout_in v s ≡ Struct ls → old ≡ whole s
        → new ≡ whole (grown v s (Struct ps))
    go whole o (Struct fs) e eo = let i : layouts_in v fs
        ≡ ls = cc in f (λ s. whole (Struct s)) (fields_hole whole n o) fs i eo
    go whole o (Leaf _ _) e eo = absurd cc
    go whole o (ByteRange _ _ _) e eo = absurd cc
    go whole o (ItemRange _ _ _ _) e eo = absurd cc
    go whole o (Optional _ _) e eo = absurd cc

pub fields_grew_none : (v : Version) (t : Noted) (n : ℕ) → FieldsGrew v NoField NoField t t n
fields_grew_none v t n = λ whole o s e eo. go whole s e eo
  where
    go : (whole : AllNoted → Noted) (s : AllNoted) → layouts_in v s ≡ NoField → t ≡ whole s → t
        ≡ whole (grown_all v s NoField)
    go whole NoField e eo = eo
    go whole (Field _ _ _) e eo = absurd cc

pub grew_field : (v : Version) (id : ℕ) (m : Layout) (ms : Layouts) (p : Puts) (ps : AllPuts)
    (old mid new : Noted) (n : ℕ)
    → Grew v m p old mid n → FieldsGrew v ms ps mid new (n + nodes m)
    → FieldsGrew v (Field id m ms) (Field id p ps) old new n
grew_field v id m ms p ps old mid new n f g = λ whole o s e eo. go whole o s e eo
  where
    go : (whole : AllNoted → Noted) → FieldsHole whole n → (s : AllNoted) → layouts_in v s ≡ Field id m ms
        → old ≡ whole s → new ≡ whole (grown_all v s (Field id p ps))
    go whole o (Field i l ls) e eo =
        let a : layout_in v l ≡ m = cc in
        let b : layouts_in v ls ≡ ms = cc in
        let em = f (λ s. whole (Field i s ls)) (first_hole whole n i ls o) l a eo in
        let l2 = grown v l p in
        let en : n + nodes l2 ≡ n + nodes m = omega (
          arith,
          same_nodes v l2,
          same_nodes v l,
          ap (λ (x : Layout). nodes x) (grown_layout v l p),
          ap
              (λ (x : Layout). nodes x) a,
        ) in
        g (λ s. whole (Field i l2 s)) (subst (FieldsHole (λ s. whole (Field i l2 s))) en
        (later_hole whole n i l2 o)) ls b em
    go whole o NoField e eo = absurd cc

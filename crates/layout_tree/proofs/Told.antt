-- The parts of a tree and those of its layout.
use Rattle.std.proofs.Common.{◌≡◌, ℕ, ◌+◌, refl, ap, sym, ◌∙◌, subst}
use Rattle.frozen_model.specs.Trees.{Leaf, ByteRange, ItemRange, Optional, Struct, NoField, Field, nodes}
use Rattle.frozen_model.specs.Trees.{Part, itself, in_item, in_optional, in_struct, PartAll, in_first}
use Rattle.frozen_model.specs.Trees.{in_later}
use Rattle.frozen_model.specs.Layouts.{Version, Layout, Layouts as LayoutsOf}
use Rattle.layout_tree.specs.Listing.{Noted, AllNoted, layout_in, layouts_in}
use Rattle.layout_tree.proofs.Subs.{sub_is}
use Rattle.layout_tree.proofs.Readings.{same_nodes}
use Rattle.layout_tree.proofs.Children.{Child}

-- a part's layout is a part of the layout
mutual
  pub part_told : (v : Version) {t s : Noted} {i n : ℕ} → Part t i s n
      → Part (layout_in v t) i (layout_in v s) n
  part_told v itself = itself
  part_told v (in_item p) = in_item (part_told v p)
  part_told v (in_optional p) = in_optional (part_told v p)
  part_told v (in_struct p) = in_struct (parts_told v p)

  parts_told : (v : Version) {ts : AllNoted} {s : Noted} {i n : ℕ} → PartAll ts i s n
      → PartAll (layouts_in v ts) i (layout_in v s) n
  parts_told v (in_first p) = in_first (part_told v p)
  parts_told v (in_later {l = l} {ls = ls} {s = s} {i = i} {n = n} p) =
      in_later (subst (λ k. PartAll (layouts_in v ls) k (layout_in v s) n)
      (ap (λ m. i + m) (sym (same_nodes v l))) (parts_told v p))

-- the part of a tree at a node, whose layout this is
record Told (v : Version) (u : Noted) (i n : ℕ) (l : Layout) : Type 0 where
  part_is : Noted
  there : Part u i part_is n
  is : layout_in v part_is ≡ l

record AllTold (v : Version) (u : AllNoted) (i n : ℕ) (l : Layout) : Type 0 where
  part_is : Noted
  there : PartAll u i part_is n
  is : layout_in v part_is ≡ l

-- a part of the layout of a tree is that of a part of the tree
mutual
  told_part : (v : Version) {w s : Layout} {i n : ℕ} → Part w i s n → (u : Noted) → layout_in v u ≡ w
      → Told v u i n s
  told_part v itself u e = record { part_is = u; there = itself; is = e }
  told_part v (in_item {l = l} p) (ItemRange g d c m) e = let h : layout_in v m
      ≡ l = cc in let r = told_part v p m h in record {
        part_is = r.part_is;
        there = in_item r.there;
        is = r.is;
      }
  told_part v (in_optional {l = l} p) (Optional w m) e = let h : layout_in v m
      ≡ l = cc in let r = told_part v p m h in record {
        part_is = r.part_is;
        there = in_optional r.there;
        is = r.is;
      }
  told_part v (in_struct {ls = ls} p) (Struct ms) e = let h : layouts_in v ms
      ≡ ls = cc in let r = told_parts v p ms h in record {
        part_is = r.part_is;
        there = in_struct r.there;
        is = r.is;
      }
  told_part v (in_item p) (Leaf _ _) e = absurd cc
  told_part v (in_item p) (ByteRange _ _ _) e = absurd cc
  told_part v (in_item p) (Optional _ _) e = absurd cc
  told_part v (in_item p) (Struct _) e = absurd cc
  told_part v (in_optional p) (Leaf _ _) e = absurd cc
  told_part v (in_optional p) (ByteRange _ _ _) e = absurd cc
  told_part v (in_optional p) (ItemRange _ _ _ _) e = absurd cc
  told_part v (in_optional p) (Struct _) e = absurd cc
  told_part v (in_struct p) (Leaf _ _) e = absurd cc
  told_part v (in_struct p) (ByteRange _ _ _) e = absurd cc
  told_part v (in_struct p) (ItemRange _ _ _ _) e = absurd cc
  told_part v (in_struct p) (Optional _ _) e = absurd cc

  told_parts : (v : Version) {w : LayoutsOf} {s : Layout} {i n : ℕ} → PartAll w i s n → (u : AllNoted)
      → layouts_in v u ≡ w → AllTold v u i n s
  told_parts v (in_first {l = l} p) (Field f m ms) e = let h : layout_in v m
      ≡ l = cc in let r = told_part v p m h in record {
        part_is = r.part_is;
        there = in_first r.there;
        is = r.is;
      }
  told_parts v (in_later {l = l} {ls = ls} {i = i} {n = n} p) (Field f m ms) e =
      let a : layout_in v m ≡ l = cc in
      let h : layouts_in v ms ≡ ls = cc in
      let r = told_parts v p ms h in
      let en : i + nodes l ≡ i + nodes m = ap (λ k. i + k)
      (ap (λ (x : Layout). nodes x) (sym a) ∙ same_nodes v m) in
      record {
        part_is = r.part_is;
        there = in_later (subst (λ k. PartAll ms k r.part_is n) en r.there);
        is = r.is;
      }
  told_parts v (in_first p) NoField e = absurd cc
  told_parts v (in_later p) NoField e = absurd cc

pub told_child : (v : Version) (t : Noted) (m : ℕ) (x : Layout) → Part (layout_in v t) 0 x m → Child t v m x
told_child v t m x p =
    let r = told_part v p t refl in
    let is = sub_is r.there in
    record { node = subst (λ (y : Noted). Part t 0 y m) (sym is) r.there; is = ap (layout_in v) is ∙ r.is }

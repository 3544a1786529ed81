-- The nodes of a part's children.
use Rattle.std.proofs.Common.{◌≡◌, ℕ, suc, ◌+◌, ◌≤◌, List, arith, refl, ap, sym, subst}
use Rattle.frozen_model.specs.Trees.{Leaf, ByteRange, ItemRange, Optional, Struct, Field, nodes, Part, itself}
use Rattle.frozen_model.specs.Trees.{in_item, in_optional, in_struct, PartAll, in_first, in_later}
use Rattle.frozen_model.specs.Layouts.{Version, Layout, Layouts}
use Rattle.layout_tree.specs.declared.node.NodeSpec.{NodeSpec}
use Rattle.layout_tree.specs.declared.node.FormVersion.{FormVersion}
use Rattle.layout_tree.specs.Listing.{Noted, AllNoted, layout_in, layouts_in, sub, tree_of, IsListing}
use Rattle.layout_tree.specs.Listing.{IsNotedLayout}
use Rattle.layout_tree.specs.Reading.{IsHolder, item_of}
use Rattle.layout_tree.proofs.Subs.{part_of_part, sub_is}
use Rattle.layout_tree.proofs.Place.{at_part}
use Rattle.layout_tree.proofs.Readings.{few_listed}

-- the node m is that of a part, which is the layout x
pub record Child (t : Noted) (v : Version) (m : ℕ) (x : Layout) : Type 0 where
  pub node : Part t 0 (sub t m) m
  pub is : layout_in v (sub t m) ≡ x

child_at : (t : Noted) (v : Version) (m k : ℕ) (s : Noted) → Part t 0 s k → k ≡ m
    → Child t v m (layout_in v s)
child_at t v m k s p e =
    let q = subst (Part t 0 s) e p in
    let is = sub_is q in
    record { node = subst (λ (x : Noted). Part t 0 x m) (sym is) q; is = ap (layout_in v) is }

pub item_child : (t : Noted) (v : Version) (n : ℕ) → Part t 0 (sub t n) n → IsHolder (layout_in v (sub t n))
    → Child t v (n + 3) (item_of (layout_in v (sub t n)))
item_child t v n p h = go (sub t n) p h
  where
    go : (s : Noted) → Part t 0 s n → IsHolder (layout_in v s) → Child t v (n + 3) (item_of (layout_in v s))
    go (ItemRange g d c l) p h = child_at t v (n + 3) (suc (suc (suc n))) l (part_of_part p (in_item itself))
        (omega arith)
    go (Leaf k c) p h = absurd h
    go (ByteRange k d c) p h = absurd h
    go (Optional w l) p h = absurd h
    go (Struct ls) p h = absurd h

pub inner_child : (t : Noted) (v : Version) (n w : ℕ) (m : Layout) → Part t 0 (sub t n) n
    → layout_in v (sub t n) ≡ Optional w m → Child t v (n + 2) m
inner_child t v n w m p e = go (sub t n) p e
  where
    go : (s : Noted) → Part t 0 s n → layout_in v s ≡ Optional w m → Child t v (n + 2) m
    go (Optional x l) p e = let same : layout_in v l
        ≡ m = cc in subst (Child t v (n + 2)) same
        (child_at t v (n + 2) (suc (suc n)) l (part_of_part p (in_optional itself)) (omega arith))
    go (Leaf k c) p e = absurd cc
    go (ByteRange k d c) p e = absurd cc
    go (ItemRange g d c l) p e = absurd cc
    go (Struct ls) p e = absurd cc

-- fields, the first of which has the node n, are parts
pub record FieldsAt (t : Noted) (n : ℕ) (fs : AllNoted) : Type 0 where
  pub part : (x : Noted) (m : ℕ) → PartAll fs n x m → Part t 0 x m

pub record StructAt (t : Noted) (v : Version) (n : ℕ) (ls : Layouts) : Type 0 where
  pub fields : AllNoted
  pub is : layouts_in v fields ≡ ls
  pub there : FieldsAt t (suc n) fields

pub struct_at : (t : Noted) (v : Version) (n : ℕ) (ls : Layouts) → Part t 0 (sub t n) n
    → layout_in v (sub t n) ≡ Struct ls → StructAt t v n ls
struct_at t v n ls p e = go (sub t n) p e
  where
    go : (s : Noted) → Part t 0 s n → layout_in v s ≡ Struct ls → StructAt t v n ls
    go (Struct fs) p e = record {
      fields = fs;
      is = cc;
      there = record { part = λ x m q. part_of_part p (in_struct q) };
    }
    go (Leaf k c) p e = absurd cc
    go (ByteRange k d c) p e = absurd cc
    go (ItemRange g d c l) p e = absurd cc
    go (Optional w l) p e = absurd cc

pub first_child : (t : Noted) (v : Version) (n id : ℕ) (l : Noted) (fs : AllNoted)
    → FieldsAt t n (Field id l fs) → Child t v n (layout_in v l)
first_child t v n id l fs h = child_at t v n n l (h.part l n (in_first itself)) refl

pub later_children : (t : Noted) (n id : ℕ) (l : Noted) (fs : AllNoted) → FieldsAt t n (Field id l fs)
    → FieldsAt t (n + nodes l) fs
later_children t n id l fs h = record { part = λ x m q. h.part x m (in_later q) }

-- no number of a node is great
pub node_small : (e : FormVersion) (ns : List NodeSpec) (s : Noted) (n : ℕ) → IsListing ns
    → ∥ IsNotedLayout e (tree_of ns) ∥₁ → Part (tree_of ns) 0 s n → n + nodes s ≤ 4096
node_small e ns s n h p q = let a = at_part ns s n h q in omega (arith, a.within, few_listed e ns h p)

-- the root
pub root_sub : (t : Noted) → sub t 0 ≡ t
root_sub t = sub_is (itself {t = t} {i = 0})

pub root_node : (t : Noted) → Part t 0 (sub t 0) 0
root_node t = subst (λ (s : Noted). Part t 0 s 0) (sym (root_sub t)) itself

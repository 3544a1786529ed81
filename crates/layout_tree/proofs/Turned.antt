-- Another base or another noted width at one leaf: what holds of every such change.
use Rattle.std.proofs.Common.{◌≡◌, ℕ, ℤ, suc, ◌+◌, ◌-◌, ◌<◌, ◌≤◌, List, [], ◌∷◌, ◌++◌, arith, refl, ap}
use Rattle.std.proofs.Common.{sym, ◌∙◌, subst, length, get_or, slice_set, pos}
use Rattle.std.proofs.lemmas.List.{set-append_left, set-append_right, get_or_append_left, get_or-append_right}
use Rattle.std.proofs.Math.Logic.{∥∥₁_map}
use Rattle.frozen_model.specs.Trees.{LeafKind, Holder, ByteKind, Leaf, ByteRange, ItemRange, Optional, Struct}
use Rattle.frozen_model.specs.Trees.{Field, nodes, nodes_all, kinds as kinds_of, kinds_all, KindTree}
use Rattle.frozen_model.specs.Trees.{IsStruct, IsKindTree, greatest}
use Rattle.frozen_model.specs.Layouts.{Version, OfVersion, AllOfVersion, Legal, AllLegal, width}
use Rattle.layout_tree.specs.declared.node.FormVersion.{FormVersion}
use Rattle.layout_tree.specs.declared.node.NodeSpec.{NodeSpec}
use Rattle.layout_tree.specs.declared.node.Kind.{Kind}
use Rattle.layout_tree.specs.declared.node.Kind.TheVariants as kinds
use Rattle.layout_tree.specs.Listing.{Width, LeafWidths, Noted, AllNoted, coded, layout_in, layouts_in}
use Rattle.layout_tree.specs.Listing.{settled, settled_all, inline, inline_all, kind_of_holder, item_struct}
use Rattle.layout_tree.specs.Listing.{spec, size, kind_of_bytes, nodes_of, nodes_of_all, tree_of, all_nodes}
use Rattle.layout_tree.specs.Listing.{IsListing, version_of, IsNotedLayout, BaseStands, BasesStand}
use Rattle.layout_tree.specs.Listing.{AllBasesStand}
use Rattle.layout_tree.proofs.Decode.{tree_again}
use Rattle.layout_tree.proofs.Place.{length_nodes}

-- a node with its base turned by B and its noted width by W
abbrev pub turned_node : (ℤ → ℤ) → (ℕ → ℕ) → NodeSpec → NodeSpec
turned_node B W x = record {
  kind = x.kind;
  field = x.field;
  parent = x.parent;
  bits = x.bits;
  wide = W x.wide;
  offset = x.offset;
  base = B x.base;
}

abbrev pub turned_leaf : (ℤ → ℤ) → (ℕ → ℕ) → LeafWidths → LeafWidths
turned_leaf B W c = record { base = B c.base; bits = c.bits; wide = W c.wide }

abbrev pub turned_width : (ℕ → ℕ) → Width → Width
turned_width W d = record { bits = d.bits; wide = W d.wide }

-- a scalar of that kind may be turned in a layout of that version
pub record TurnsLeaf (v : Version) (B : ℤ → ℤ) (W : ℕ → ℕ) (j : LeafKind) (c : LeafWidths) : Type 0 where
  pub version : OfVersion v (Leaf j (coded v j c.base c.bits))
      → OfVersion v (Leaf j (coded v j (B c.base) c.bits))
  pub legal : width (coded v j c.base c.bits) ≤ greatest j → width (coded v j (B c.base) c.bits) ≤ greatest j
  pub noted : width (coded v j c.base c.wide) ≤ greatest j
      → width (coded v j (B c.base) (W c.wide)) ≤ greatest j
  pub based : BaseStands v j c.base → BaseStands v j (B c.base)

-- a distance, a count or a flag of that greatest width may be turned: it has no base
pub record TurnsWidth (B : ℤ → ℤ) (W : ℕ → ℕ) (most : ℕ) (d : Width) : Type 0 where
  pub base : B (pos 0) ≡ pos 0
  pub noted : W d.wide ≤ most

-- the second tree is the first one with the leaf turned that is its node of this number
mutual
  pub data Turned (v : Version) (B : ℤ → ℤ) (W : ℕ → ℕ) : Noted → Noted → ℕ → Type 0 where
    leaf : {j : LeafKind} {c : LeafWidths} → TurnsLeaf v B W j c
        → Turned v B W (Leaf j c) (Leaf j (turned_leaf B W c)) 0
    bytes_distance : {t : ByteKind} {d c : Width} → TurnsWidth B W 32 d
        → Turned v B W (ByteRange t d c) (ByteRange t (turned_width W d) c) 1
    bytes_count : {t : ByteKind} {d c : Width} → TurnsWidth B W 32 c
        → Turned v B W (ByteRange t d c) (ByteRange t d (turned_width W c)) 2
    distance : {g : Holder} {d c : Width} {l : Noted} → TurnsWidth B W 32 d
        → Turned v B W (ItemRange g d c l) (ItemRange g (turned_width W d) c l) 1
    count : {g : Holder} {d c : Width} {l : Noted} → TurnsWidth B W 32 c
        → Turned v B W (ItemRange g d c l) (ItemRange g d (turned_width W c) l) 2
    in_item : {g : Holder} {d c : Width} {l m : Noted} {k : ℕ} → Turned v B W l m k
        → Turned v B W (ItemRange g d c l) (ItemRange g d c m) (suc (suc (suc k)))
    flag : {y : Width} {l : Noted} → TurnsWidth B W 1 y
        → Turned v B W (Optional y l) (Optional (turned_width W y) l) 1
    in_optional : {y : Width} {l m : Noted} {k : ℕ} → Turned v B W l m k
        → Turned v B W (Optional y l) (Optional y m) (suc (suc k))
    in_struct : {ls ms : AllNoted} {k : ℕ} → TurnedAll v B W ls ms k
        → Turned v B W (Struct ls) (Struct ms) (suc k)

  pub data TurnedAll (v : Version) (B : ℤ → ℤ) (W : ℕ → ℕ) : AllNoted → AllNoted → ℕ → Type 0 where
    in_first : {id : ℕ} {l m : Noted} {ls : AllNoted} {k : ℕ} → k < nodes l → Turned v B W l m k
        → TurnedAll v B W (Field id l ls) (Field id m ls) k
    in_later : {id : ℕ} {l : Noted} {ls ms : AllNoted} {k : ℕ} → nodes l ≤ k
        → TurnedAll v B W ls ms (k - nodes l)
        → TurnedAll v B W (Field id l ls) (Field id l ms) k

-- what it keeps
pub record Kept (t u : Noted) : Type 0 where
  pub nodes : nodes u ≡ nodes t
  pub bits : inline u ≡ inline t
  pub kinds : kinds_of u ≡ kinds_of t

pub record AllKept (ts us : AllNoted) : Type 0 where
  pub nodes : nodes_all us ≡ nodes_all ts
  pub bits : inline_all us ≡ inline_all ts
  pub kinds : kinds_all us ≡ kinds_all ts

mutual
  pub turned_keeps : {v : Version} {B : ℤ → ℤ} {W : ℕ → ℕ} {t u : Noted} {k : ℕ} → Turned v B W t u k
      → Kept t u
  turned_keeps (leaf h) = record { nodes = refl; bits = refl; kinds = refl }
  turned_keeps (bytes_distance h) = record { nodes = refl; bits = refl; kinds = refl }
  turned_keeps (bytes_count h) = record { nodes = refl; bits = refl; kinds = refl }
  turned_keeps (distance h) = record { nodes = refl; bits = refl; kinds = refl }
  turned_keeps (count h) = record { nodes = refl; bits = refl; kinds = refl }
  turned_keeps (in_item {g = g} p) = let i = turned_keeps p in record {
    nodes = ap (λ n. 3 + n) i.nodes;
    bits = refl;
    kinds = ap (λ m. ItemRange g tt tt m) i.kinds;
  }
  turned_keeps (flag h) = record { nodes = refl; bits = refl; kinds = refl }
  turned_keeps (in_optional {y = y} p) = let i = turned_keeps p in record {
    nodes = ap (λ n. 2 + n) i.nodes;
    bits = ap (λ n. y.bits + n) i.bits;
    kinds = ap (λ m. Optional tt m) i.kinds;
  }
  turned_keeps (in_struct p) = let i = turned_keeps_all p in record {
    nodes = ap (λ n. 1 + n) i.nodes;
    bits = i.bits;
    kinds = ap (λ m. Struct m) i.kinds;
  }

  pub turned_keeps_all : {v : Version} {B : ℤ → ℤ} {W : ℕ → ℕ} {ts us : AllNoted} {k : ℕ}
      → TurnedAll v B W ts us k → AllKept ts us
  turned_keeps_all (in_first {id = id} {ls = ls} low p) = let i = turned_keeps p in record {
    nodes = ap (λ n. n + nodes_all ls) i.nodes;
    bits = ap (λ n. n + inline_all ls) i.bits;
    kinds = ap (λ m. Field id m (kinds_all ls)) i.kinds;
  }
  turned_keeps_all (in_later {id = id} {l = l} high p) = let i = turned_keeps_all p in record {
    nodes = ap (λ n. nodes l + n) i.nodes;
    bits = ap (λ n. inline l + n) i.bits;
    kinds = ap (λ m. Field id (kinds_of l) m) i.kinds;
  }

mutual
  pub turned_below : {v : Version} {B : ℤ → ℤ} {W : ℕ → ℕ} {t u : Noted} {k : ℕ} → Turned v B W t u k
      → k < nodes t
  turned_below (leaf h) = omega arith
  turned_below (bytes_distance h) = omega arith
  turned_below (bytes_count h) = omega arith
  turned_below (distance h) = omega arith
  turned_below (count h) = omega arith
  turned_below (in_item p) = omega (arith, turned_below p)
  turned_below (flag h) = omega arith
  turned_below (in_optional p) = omega (arith, turned_below p)
  turned_below (in_struct p) = omega (arith, turned_below_all p)

  pub turned_below_all : {v : Version} {B : ℤ → ℤ} {W : ℕ → ℕ} {ts us : AllNoted} {k : ℕ}
      → TurnedAll v B W ts us k → k < nodes_all ts
  turned_below_all (in_first low p) = omega (arith, low)
  turned_below_all (in_later high p) = omega (arith, high, turned_below_all p)

mutual
  pub turned_nodes : {v : Version} {B : ℤ → ℤ} {W : ℕ → ℕ} {t u : Noted} {k : ℕ} → Turned v B W t u k
      → (sk : Kind) (i p f o : ℕ) (x : NodeSpec)
      → nodes_of u sk i p f o
      ≡ slice_set (nodes_of t sk i p f o) k (turned_node B W (get_or (nodes_of t sk i p f o) k x))
  turned_nodes (leaf h) sk i p f o x = refl
  turned_nodes {W = W} (bytes_distance {t = t} {d = d} {c = c} h) sk i p f o x =
      let n0 = spec (kind_of_bytes t) f p (d.bits + c.bits) (suc (suc (suc i))) o (pos 0) in
      ap (λ z. n0 ∷ spec kinds.Size 1 i d.bits (W d.wide) 0 z ∷ size 2 i c d.bits ∷ []) (sym h.base)
  turned_nodes {W = W} (bytes_count {t = t} {d = d} {c = c} h) sk i p f o x =
      let n0 = spec (kind_of_bytes t) f p (d.bits + c.bits) (suc (suc (suc i))) o (pos 0) in
      ap (λ z. n0 ∷ size 1 i d 0 ∷ spec kinds.Size 2 i c.bits (W c.wide) d.bits z ∷ []) (sym h.base)
  turned_nodes {W = W} (distance {g = g} {d = d} {c = c} {l = l} h) sk i p f o x =
      let n0 = spec (kind_of_holder g) f p (d.bits + c.bits) (suc (suc (suc i)) + nodes l) o (pos 0) in
      let below = nodes_of l (item_struct g) (suc (suc (suc i))) i 3 0 in
      ap (λ z. n0 ∷ spec kinds.Size 1 i d.bits (W d.wide) 0 z ∷ size 2 i c d.bits ∷ below) (sym h.base)
  turned_nodes {W = W} (count {g = g} {d = d} {c = c} {l = l} h) sk i p f o x =
      let n0 = spec (kind_of_holder g) f p (d.bits + c.bits) (suc (suc (suc i)) + nodes l) o (pos 0) in
      let below = nodes_of l (item_struct g) (suc (suc (suc i))) i 3 0 in
      ap (λ z. n0 ∷ size 1 i d 0 ∷ spec kinds.Size 2 i c.bits (W c.wide) d.bits z ∷ below) (sym h.base)
  turned_nodes (in_item {g = g} {d = d} {c = c} {l = l} {m = m} q) sk i p f o x =
      let n0 = λ (n : ℕ). spec (kind_of_holder g) f p (d.bits + c.bits) (suc (suc (suc i)) + n) o (pos 0) in
      let below = nodes_of m (item_struct g) (suc (suc (suc i))) i 3 0 in
      ap (λ n. n0 n ∷ size 1 i d 0 ∷ size 2 i c d.bits ∷ below) (turned_keeps q).nodes
      ∙ ap (λ r. n0 (nodes l) ∷ size 1 i d 0 ∷ size 2 i c d.bits ∷ r)
      (turned_nodes q (item_struct g) (suc (suc (suc i))) i 3 0 x)
  turned_nodes {W = W} (flag {y = y} {l = l} h) sk i p f o x =
      let n0 = spec kinds.Optional f p (y.bits + inline l) (suc (suc i) + nodes l) o (pos 0) in
      let below = nodes_of l kinds.Struct (suc (suc i)) i 2 y.bits in
      ap (λ z. n0 ∷ spec kinds.Flag 1 i y.bits (W y.wide) 0 z ∷ below) (sym h.base)
  turned_nodes (in_optional {y = y} {l = l} {m = m} q) sk i p f o x =
      let n0 = λ (b n : ℕ). spec kinds.Optional f p (y.bits + b) (suc (suc i) + n) o (pos 0) in
      let n1 = spec kinds.Flag 1 i y.bits y.wide 0 (pos 0) in
      let below = nodes_of m kinds.Struct (suc (suc i)) i 2 y.bits in
      let e = turned_keeps q in
      ap (λ n. n0 (inline m) n ∷ n1 ∷ below) e.nodes ∙ ap (λ b. n0 b (nodes l) ∷ n1 ∷ below) e.bits
      ∙ ap (λ r. n0 (inline l) (nodes l) ∷ n1 ∷ r)
      (turned_nodes q kinds.Struct (suc (suc i)) i 2 y.bits x)
  turned_nodes (in_struct {ls = ls} {ms = ms} q) sk i p f o x =
      let n0 = λ (b n : ℕ). spec sk f p b (suc i + n) o (pos 0) in
      let below = nodes_of_all ms (suc i) i 0 in
      let e = turned_keeps_all q in
      ap (λ n. n0 (inline_all ms) n ∷ below) e.nodes ∙ ap (λ b. n0 b (nodes_all ls) ∷ below) e.bits
      ∙ ap (λ r. n0 (inline_all ls) (nodes_all ls) ∷ r) (turned_nodes_all q (suc i) i 0 x)

  pub turned_nodes_all : {v : Version} {B : ℤ → ℤ} {W : ℕ → ℕ} {ts us : AllNoted} {k : ℕ}
      → TurnedAll v B W ts us k → (i p o : ℕ) (x : NodeSpec)
      → nodes_of_all us i p o
      ≡ slice_set (nodes_of_all ts i p o) k (turned_node B W (get_or (nodes_of_all ts i p o) k x))
  turned_nodes_all {B = B} {W = W} (in_first {id = id} {l = l} {m = m} {ls = ls} {k = k} low q) i p o x =
      let mine = nodes_of l kinds.Struct i p id o in
      let others = λ (n b : ℕ). nodes_of_all ls (i + n) p (o + b) in
      let rest = others (nodes l) (inline l) in
      let len : k < length mine = omega (arith, low, length_nodes l kinds.Struct i p id o) in
      let e = turned_keeps q in
      ap (λ n. nodes_of m kinds.Struct i p id o ++ others n (inline m)) e.nodes
      ∙ ap (λ b. nodes_of m kinds.Struct i p id o ++ others (nodes l) b) e.bits
      ∙ ap (λ r. r ++ rest) (turned_nodes q kinds.Struct i p id o x)
      ∙ sym (ap (λ y. slice_set (mine ++ rest) k (turned_node B W y)) (get_or_append_left mine rest x k len)
      ∙ set-append_left mine rest k (turned_node B W (get_or mine k x)) len)
  turned_nodes_all {B = B} {W = W} (in_later {id = id} {l = l} {ls = ls} {k = k} high q) i p o x =
      let mine = nodes_of l kinds.Struct i p id o in
      let rest = nodes_of_all ls (i + nodes l) p (o + inline l) in
      let len = length_nodes l kinds.Struct i p id o in
      ap (λ r. mine ++ r) (turned_nodes_all q (i + nodes l) p (o + inline l) x)
      ∙ sym (ap (λ y. slice_set (mine ++ rest) k (turned_node B W y))
      (get_or-append_right mine rest (nodes l) k x len high)
      ∙ set-append_right mine rest (nodes l) k (turned_node B W (get_or rest (k - nodes l) x)) len high)

-- ---- what it means for the layout

-- the layout stays where all bases do
mutual
  pub turned_layout : {v : Version} {W : ℕ → ℕ} {t u : Noted} {k : ℕ} → Turned v (λ b. b) W t u k
      → layout_in v u ≡ layout_in v t
  turned_layout (leaf h) = refl
  turned_layout (bytes_distance h) = refl
  turned_layout (bytes_count h) = refl
  turned_layout (distance h) = refl
  turned_layout (count h) = refl
  turned_layout (in_item {g = g} {d = d} {c = c} q) = ap (λ m. ItemRange g d.bits c.bits m) (turned_layout q)
  turned_layout (flag h) = refl
  turned_layout (in_optional {y = y} q) = ap (λ m. Optional y.bits m) (turned_layout q)
  turned_layout (in_struct q) = ap (λ m. Struct m) (turned_layouts q)

  turned_layouts : {v : Version} {W : ℕ → ℕ} {ts us : AllNoted} {k : ℕ} → TurnedAll v (λ b. b) W ts us k
      → layouts_in v us ≡ layouts_in v ts
  turned_layouts {v = v} (in_first {id = id} {ls = ls} low q) = ap (λ m. Field id m (layouts_in v ls))
      (turned_layout q)
  turned_layouts {v = v} (in_later {id = id} {l = l} high q) = ap (λ m. Field id (layout_in v l) m)
      (turned_layouts q)

-- the second is a layout of the version within the limits where the first is
record Stands (v : Version) (t u : Noted) : Type 0 where
  pub version : OfVersion v (layout_in v t) → OfVersion v (layout_in v u)
  pub legal : Legal (layout_in v t) → Legal (layout_in v u)
  pub noted : Legal (layout_in v (settled t)) → Legal (layout_in v (settled u))
  pub based : BasesStand v t → BasesStand v u

record AllStand (v : Version) (ts us : AllNoted) : Type 0 where
  pub version : AllOfVersion v (layouts_in v ts) → AllOfVersion v (layouts_in v us)
  pub legal : AllLegal (layouts_in v ts) → AllLegal (layouts_in v us)
  pub noted : AllLegal (layouts_in v (settled_all ts)) → AllLegal (layouts_in v (settled_all us))
  pub based : AllBasesStand v ts → AllBasesStand v us

mutual
  turned_stands : {v : Version} {B : ℤ → ℤ} {W : ℕ → ℕ} {t u : Noted} {k : ℕ} → Turned v B W t u k
      → Stands v t u
  turned_stands (leaf h) = record { version = h.version; legal = h.legal; noted = h.noted; based = h.based }
  turned_stands (bytes_distance h) = record {
    version = λ o. o;
    legal = λ o. o;
    noted = λ o. (h.noted, o.1);
    based = λ o. o;
  }
  turned_stands (bytes_count h) = record { version = λ o. o; legal = λ o. o; noted = λ o. (o.0, h.noted); based = λ o. o }
  turned_stands (distance h) = record { version = λ o. o; legal = λ o. o; noted = λ o. (h.noted, o.1, o.2); based = λ o. o }
  turned_stands (count h) = record { version = λ o. o; legal = λ o. o; noted = λ o. (o.0, h.noted, o.2); based = λ o. o }
  turned_stands (in_item q) = let i = turned_stands q in record {
    version = i.version;
    legal = λ o. (o.0, o.1, i.legal o.2);
    noted = λ o. (o.0, o.1, i.noted o.2);
    based = i.based;
  }
  turned_stands (flag h) = record { version = λ o. o; legal = λ o. o; noted = λ o. (h.noted, o.1); based = λ o. o }
  turned_stands (in_optional q) = let i = turned_stands q in record {
    version = i.version;
    legal = λ o. (o.0, i.legal o.1);
    noted = λ o. (o.0, i.noted o.1);
    based = i.based;
  }
  turned_stands (in_struct q) = let i = turned_stand q in record {
    version = i.version;
    legal = i.legal;
    noted = i.noted;
    based = i.based;
  }

  turned_stand : {v : Version} {B : ℤ → ℤ} {W : ℕ → ℕ} {ts us : AllNoted} {k : ℕ} → TurnedAll v B W ts us k
      → AllStand v ts us
  turned_stand (in_first low q) = let i = turned_stands q in record {
    version = λ o. (i.version o.0, o.1);
    legal = λ o. (i.legal o.0, o.1);
    noted = λ o. (i.noted o.0, o.1);
    based = λ o. (i.based o.0, o.1);
  }
  turned_stand (in_later high q) = let i = turned_stand q in record {
    version = λ o. (o.0, i.version o.1);
    legal = λ o. (o.0, i.legal o.1);
    noted = λ o. (o.0, i.noted o.1);
    based = λ o. (o.0, i.based o.1);
  }

turned_sound : (e : FormVersion) {B : ℤ → ℤ} {W : ℕ → ℕ} {t u : Noted} {k : ℕ}
    → Turned (version_of e) B W t u k → IsNotedLayout e t → IsNotedLayout e u
turned_sound e q o =
    let same = sym (turned_keeps q).kinds in
    let stands = turned_stands q in
    record {
      root = subst (λ (m : KindTree). IsStruct m) same o.root;
      kind_tree = subst (λ (m : KindTree). IsKindTree m) same o.kind_tree;
      coded = stands.version o.coded;
      legal = stands.legal o.legal;
      noted = stands.noted o.noted;
      based = stands.based o.based;
    }

-- the nodes list the tree u, which is sound
pub record Turns (e : FormVersion) (ms : List NodeSpec) (u : Noted) : Type 0 where
  pub tells : tree_of ms ≡ u
  pub listing : IsListing ms
  pub sound : ∥ IsNotedLayout e (tree_of ms) ∥₁

pub turns : (e : FormVersion) (B : ℤ → ℤ) (W : ℕ → ℕ) (ns : List NodeSpec) (u : Noted) (k : ℕ) (x : NodeSpec)
    → IsListing ns → ∥ IsNotedLayout e (tree_of ns) ∥₁ → Turned (version_of e) B W (tree_of ns) u k
    → x ≡ get_or ns k x → Turns e (slice_set ns k (turned_node B W x)) u
turns e B W ns u k x h p q ex =
    let ms = slice_set ns k (turned_node B W x) in
    let is : ms ≡ all_nodes u =
    ap (λ y. slice_set ns k (turned_node B W y)) ex
    ∙ ap (λ r. slice_set r k (turned_node B W (get_or r k x))) h
    ∙ sym (turned_nodes q kinds.Struct 0 0 0 0 x) in
    let tells : tree_of ms ≡ u = ap tree_of is ∙ tree_again u in
    record {
      tells = tells;
      listing = is ∙ ap all_nodes (sym tells);
      sound = subst (λ (m : Noted). ∥ IsNotedLayout e m ∥₁) (sym tells) (∥∥₁_map p (turned_sound e q));
    }

-- A layout that is kept is one of its version within the limits.
use Rattle.std.proofs.Common.{ℕ, Bool}
use Rattle.std.proofs.Math.Logic.{∥∥₁_elim, ∥∥₁_map, ∥∥₁_prop}
use Rattle.frozen_model.specs.Trees.{LeafKind, AllLeafwise, leaf, byte_range, item_range, optional, struct}
use Rattle.frozen_model.specs.Trees.{no_field, field, Alike, Leaf, ByteRange, ItemRange, Optional, Struct}
use Rattle.frozen_model.specs.Trees.{NoField, Field, kinds, kinds_all}
use Rattle.frozen_model.specs.Layouts.{Version, Coded, MayRelax, IsLayout, IsDescribed, described}
use Rattle.frozen_laws.proofs.SameKinds.{struct_along, kind_tree_along}
use Rattle.layout_tree.specs.declared.layouts.Layouts.{Layouts}
use Rattle.layout_tree.specs.declared.node.FormVersion.{FormVersion}
use Rattle.layout_tree.specs.Listing.{Noted, AllNoted, layout_in, layouts_in, settled, version_of}
use Rattle.layout_tree.specs.Listing.{IsNotedLayout, tree_of, BasesStand}
use Rattle.layout_tree.specs.Nodes.{layout_of, settled_of}
use Rattle.layout_tree.proofs.Held.{described_held, bases_held}
use Rattle.layout_tree.proofs.Settled.{settled_sound}

mutual
  pub alike_in : (v : Version) (t : Noted) → Alike (kinds t) (layout_in v t)
  alike_in v (Leaf k c) = leaf tt
  alike_in v (ByteRange t d c) = byte_range tt tt
  alike_in v (ItemRange h d c l) = item_range tt tt (alike_in v l)
  alike_in v (Optional w l) = optional tt (alike_in v l)
  alike_in v (Struct ls) = struct (all_alike_in v ls)

  pub all_alike_in : (v : Version) (ls : AllNoted)
      → AllLeafwise (λ (k : LeafKind) (a : Unit {0}) (c : Coded). Unit {0})
      (λ (b : Unit {0}) (d : ℕ). Unit {0}) (λ (b : Unit {0}) (d : ℕ). Unit {0}) (kinds_all ls)
      (layouts_in v ls)
  all_alike_in v NoField = no_field
  all_alike_in v (Field i l ls) = field (alike_in v l) (all_alike_in v ls)

layout_is : (e : FormVersion) (t : Noted) → IsNotedLayout e t
    → IsLayout (version_of e) (layout_in (version_of e) t)
layout_is e t h =
    let same = alike_in (version_of e) t in
    record {
      root = struct_along same h.root;
      kind_tree = kind_tree_along same h.kind_tree;
      coded = h.coded;
      legal = h.legal;
    }

described_is : (e : FormVersion) (r : Bool) (t : Noted) → ∥ MayRelax (version_of e) r ∥₁
    → ∥ IsNotedLayout e t ∥₁
    → ∥ IsDescribed (described (version_of e) r (layout_in (version_of e) t)) ∥₁
described_is e r t p h =
    ∥∥₁_elim p ∥∥₁_prop (λ x. ∥∥₁_map h (λ y. record { relaxing = x; layout = layout_is e t y }))

settled_is : (e : FormVersion) (r : Bool) (t : Noted) → ∥ MayRelax (version_of e) r ∥₁
    → ∥ IsNotedLayout e t ∥₁
    → ∥ IsDescribed (described (version_of e) r (layout_in (version_of e) (settled t))) ∥₁
settled_is e r t p h = described_is e r (settled t) p (∥∥₁_map h (settled_sound e t))

pub kept_described : (l : Layouts) → IsDescribed (layout_of l)
kept_described l =
    described_held (layout_of l) (described_is l.version l.relaxed (tree_of l.nodes.items) l.relaxing l.sound)

pub settled_described : (l : Layouts) → IsDescribed (settled_of l)
settled_described l =
    described_held (settled_of l) (settled_is l.version l.relaxed (tree_of l.nodes.items) l.relaxing l.sound)

pub kept_bases : (l : Layouts) → BasesStand (version_of l.version) (tree_of l.nodes.items)
kept_bases l = bases_held (version_of l.version) (tree_of l.nodes.items) (∥∥₁_map l.sound (λ x. x.based))

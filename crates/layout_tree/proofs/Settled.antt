-- Settling a whole layout.
use Rattle.std.proofs.Common.{◌≡◌, ℕ, ◌*◌, ◌<◌, ◌≤◌, ◌^◌, List, [], ◌++◌, arith, refl, ap, sym, ◌∙◌, length}
use Rattle.std.proofs.Common.{subst, take, drop}
use Rattle.std.proofs.Math.Logic.{∥∥₁_elim, ∥∥₁_map}
use Rattle.std.proofs.Math.Bridge.{le_prop}
use Rattle.std.proofs.lemmas.List.{append-nil, drop_all, take_all}
use Rattle.frozen_model.specs.Trees.{LeafKind, Flag, Integer, Leaf, ByteRange, ItemRange, Optional, Struct}
use Rattle.frozen_model.specs.Trees.{NoField, Field, nodes, nodes_all, kinds as kinds_of, kinds_all, IsStruct}
use Rattle.frozen_model.specs.Trees.{IsKindTree, Tree}
use Rattle.frozen_model.specs.Layouts.{Version, Version1, Version2, IsCoded, flag_coded, signed_coded}
use Rattle.frozen_model.specs.Layouts.{based_coded, OfVersion, AllOfVersion, Legal, AllLegal}
use Rattle.frozen_laws.proofs.Limits.{greatest_small}
use Rattle.layout_tree.specs.declared.node.NodeSpec.{NodeSpec}
use Rattle.layout_tree.specs.declared.node.FormVersion.{FormVersion}
use Rattle.layout_tree.specs.declared.node.Kind.TheVariants as kinds
use Rattle.layout_tree.specs.Listing.{LeafWidths, Noted, AllNoted, coded, layout_in, layouts_in, settled}
use Rattle.layout_tree.specs.Listing.{settled_all, nodes_of, tree_of, all_nodes, IsListing, version_of}
use Rattle.layout_tree.specs.Listing.{IsNotedLayout, BasesStand, AllBasesStand}
use Rattle.layout_tree.specs.Segments.{total, total_all, Segment, PartSettled}
use Rattle.layout_tree.proofs.Decode.{tree_again}
use Rattle.layout_tree.proofs.Readings.{coded_width, few_nodes}

mutual
  settled_kinds : (t : Noted) → kinds_of (settled t) ≡ kinds_of t
  settled_kinds (Leaf k c) = refl
  settled_kinds (ByteRange t d c) = refl
  settled_kinds (ItemRange h d c l) = ap (λ m. ItemRange h tt tt m) (settled_kinds l)
  settled_kinds (Optional w l) = ap (λ m. Optional tt m) (settled_kinds l)
  settled_kinds (Struct ls) = ap (λ m. Struct m) (settled_kinds_all ls)

  settled_kinds_all : (ls : AllNoted) → kinds_all (settled_all ls) ≡ kinds_all ls
  settled_kinds_all NoField = refl
  settled_kinds_all (Field i l ls) = let e = settled_kinds l in let f = settled_kinds_all ls in cc

mutual
  pub settled_twice : (t : Noted) → settled (settled t) ≡ settled t
  settled_twice (Leaf k c) = refl
  settled_twice (ByteRange t d c) = refl
  settled_twice (ItemRange h d c l) = ap (λ m. ItemRange h (record {
    bits = d.wide;
    wide = d.wide;
  }) (record { bits = c.wide; wide = c.wide }) m) (settled_twice l)
  settled_twice (Optional w l) = ap (λ m. Optional (record {
    bits = w.wide;
    wide = w.wide;
  }) m) (settled_twice l)
  settled_twice (Struct ls) = ap (λ m. Struct m) (settled_twice_all ls)

  settled_twice_all : (ls : AllNoted) → settled_all (settled_all ls) ≡ settled_all ls
  settled_twice_all NoField = refl
  settled_twice_all (Field i l ls) = let e = settled_twice l in let f = settled_twice_all ls in cc

recoded : (v : Version) (k : LeafKind) (c : LeafWidths) → IsCoded v k (coded v k c.base c.bits)
    → IsCoded v k (coded v k c.base c.wide)
recoded v Flag c h = flag_coded
recoded Version1 (Integer k) c h = signed_coded
recoded Version2 (Integer k) c (based_coded b) = based_coded b

mutual
  settled_version : (v : Version) (t : Noted) → OfVersion v (layout_in v t)
      → OfVersion v (layout_in v (settled t))
  settled_version v (Leaf k c) h = recoded v k c h
  settled_version v (ByteRange t d c) h = h
  settled_version v (ItemRange g d c l) h = settled_version v l h
  settled_version v (Optional w l) h = settled_version v l h
  settled_version v (Struct ls) h = settled_version_all v ls h

  settled_version_all : (v : Version) (ls : AllNoted) → AllOfVersion v (layouts_in v ls)
      → AllOfVersion v (layouts_in v (settled_all ls))
  settled_version_all v NoField h = h
  settled_version_all v (Field i l ls) h = (settled_version v l h.0, settled_version_all v ls h.1)

mutual
  settled_bases : (v : Version) (t : Noted) → BasesStand v t → BasesStand v (settled t)
  settled_bases v (Leaf k c) h = h
  settled_bases v (ByteRange t d c) h = h
  settled_bases v (ItemRange g d c l) h = settled_bases v l h
  settled_bases v (Optional w l) h = settled_bases v l h
  settled_bases v (Struct ls) h = settled_bases_all v ls h

  settled_bases_all : (v : Version) (ls : AllNoted) → AllBasesStand v ls → AllBasesStand v (settled_all ls)
  settled_bases_all v NoField h = h
  settled_bases_all v (Field i l ls) h = (settled_bases v l h.0, settled_bases_all v ls h.1)

pub settled_sound : (e : FormVersion) (t : Noted) → IsNotedLayout e t → IsNotedLayout e (settled t)
settled_sound e t h = record {
  root = subst (λ (m : Tree (Unit {0}) (Unit {0})). IsStruct m) (sym (settled_kinds t)) h.root;
  kind_tree = subst (λ (m : Tree (Unit {0}) (Unit {0})). IsKindTree m) (sym (settled_kinds t)) h.kind_tree;
  coded = settled_version (version_of e) t h.coded;
  legal = h.noted;
  noted = subst (λ (m : Noted). Legal (layout_in (version_of e) m)) (sym (settled_twice t)) h.noted;
  based = settled_bases (version_of e) t h.based;
}

-- ---- the noted widths together

mutual
  total_small : (v : Version) (t : Noted) → Legal (layout_in v (settled t)) → total t ≤ 64 * nodes t
  total_small v (Leaf k c) h = omega (arith, h, coded_width v k c.base c.wide, greatest_small k)
  total_small v (ByteRange t d c) h = omega (arith, h.0, h.1)
  total_small v (ItemRange g d c l) h = omega (arith, h.0, h.1, total_small v l h.2)
  total_small v (Optional w l) h = omega (arith, h.0, total_small v l h.1)
  total_small v (Struct ls) h = omega (arith, total_small_all v ls h)

  total_small_all : (v : Version) (ls : AllNoted) → AllLegal (layouts_in v (settled_all ls)) → total_all ls
      ≤ 64 * nodes_all ls
  total_small_all v NoField h = omega arith
  total_small_all v (Field i l ls) h = omega (arith, total_small v l h.0, total_small_all v ls h.1)

light : (e : FormVersion) (t : Noted) → ∥ IsNotedLayout e t ∥₁ → total t ≤ 262144
light e t h = ∥∥₁_elim h le_prop (λ x. omega (arith, total_small (version_of e) t x.noted, few_nodes e t h))

-- ---- the whole list

pub whole_is : (ns xs : List NodeSpec) → xs ≡ ns → IsListing ns → xs ≡ []
    ++ (nodes_of (tree_of ns) kinds.Struct 0 0 0 0 ++ [])
whole_is ns xs x h = x ∙ h ∙ sym (append-nil (all_nodes (tree_of ns)))

pub whole_light : (e : FormVersion) (ns : List NodeSpec) → ∥ IsNotedLayout e (tree_of ns) ∥₁
    → total (tree_of ns) < 2 ^ 32
whole_light e ns p = omega (arith, light e (tree_of ns) p)

-- the whole list, lent as xs
abbrev pub whole_segment : (e : FormVersion) (ns xs : List NodeSpec) → xs ≡ ns → IsListing ns
    → ∥ IsNotedLayout e (tree_of ns) ∥₁ → Segment xs 0
whole_segment e ns xs x h p = record {
  tree = tree_of ns;
  kind = kinds.Struct;
  struct = tt;
  number = 0;
  parent = 0;
  field = 0;
  offset = 0;
  pre = [];
  post = [];
  is = refl;
  long = refl;
  whole = whole_is ns xs x h;
  light = whole_light e ns p;
}

pub record Settles (e : FormVersion) (ns ms : List NodeSpec) : Type 0 where
  pub tells : tree_of ms ≡ settled (tree_of ns)
  pub listing : IsListing ms
  pub sound : ∥ IsNotedLayout e (tree_of ms) ∥₁

-- what a loan gives back
pub returned : {A : Type 0} (old new : List A) (n : ℕ) → n ≡ length old → length new ≡ length old
    → take n (new ++ drop (length new) old) ≡ new
returned old new n e f =
    ap (λ r. take n (new ++ r)) (drop_all (length new) old (omega arith)) ∙ ap (take n) (append-nil new)
    ∙ take_all n new (omega arith)

pub settles : (e : FormVersion) (ns xs ms : List NodeSpec) (n b : ℕ) (x : xs ≡ ns) (h : IsListing ns)
    (p : ∥ IsNotedLayout e (tree_of ns) ∥₁) → n ≡ length ns → length ms ≡ length ns
    → PartSettled (whole_segment e ns xs x h p) 0 ms b → Settles e ns (take n (ms ++ drop (length ms) ns))
settles e ns xs ms n b x h p ee ff done =
    let t = settled (tree_of ns) in
    let now = take n (ms ++ drop (length ms) ns) in
    let is : now ≡ all_nodes t = returned ns ms n ee ff ∙ done.0 ∙ append-nil (all_nodes t) in
    let tells : tree_of now ≡ t = ap tree_of is ∙ tree_again t in
    record {
      tells = tells;
      listing = is ∙ ap all_nodes (sym tells);
      sound = subst (λ (m : Noted). ∥ IsNotedLayout e m ∥₁) (sym tells)
          (∥∥₁_map p (settled_sound e (tree_of ns)));
    }

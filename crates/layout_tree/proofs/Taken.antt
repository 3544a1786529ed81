-- A layout from the list of its nodes.
use Rattle.std.proofs.Common.{◌≡◌, ℕ, ℤ, Bool, true, false, nat_eq, ◌+◌, ◌≤◌, List, [], ◌++◌, arith, refl, ap}
use Rattle.std.proofs.Common.{sym, ◌∙◌, subst, length, map, take, drop, w32}
use Rattle.std.proofs.lemmas.List.{append-nil}
use mir.Val.{of_z}
use Rattle.frozen_model.specs.Trees.{Flag, Integer, KindTree, LeafKind, Leaf, ByteRange, ItemRange, Optional, Struct}
use Rattle.frozen_model.specs.Trees.{NoField, Field, nodes, nodes_all, kinds as kinds_of, kinds_all, IsStruct}
use Rattle.frozen_model.specs.Trees.{IsKindTree}
use Rattle.frozen_model.specs.Layouts.{Version, Version1, Version2, Coded, width, IsCoded, flag_coded}
use Rattle.frozen_model.specs.Layouts.{signed_coded, based_coded, Layout, Layouts, OfVersion, AllOfVersion}
use Rattle.frozen_model.specs.Layouts.{Legal, Described, described, MayRelax}
use Rattle.frozen_laws.proofs.SameKinds.{struct_along, kind_tree_along, kinds_alike}
use Rattle.layout_tree.specs.declared.node.NodeSpec.{NodeSpec}
use Rattle.layout_tree.specs.declared.node.FormVersion.{FormVersion}
use Rattle.layout_tree.specs.declared.node.Kind.TheVariants as kinds
use Rattle.layout_tree.specs.Listing.{Noted, AllNoted, coded, layout_in, layouts_in, settled, settled_all}
use Rattle.layout_tree.specs.Listing.{tree_of, all_nodes, IsListing, version_of, version_number}
use Rattle.layout_tree.specs.Listing.{IsNotedLayout, BaseStands, BasesStand, AllBasesStand}
use Rattle.layout_tree.specs.Reading.{base_of}
use Rattle.layout_tree.specs.Given.{shown, resting, noted_from, all_noted_from, IsListOf}
use Rattle.layout_tree.specs.Marking.{Unmarked, Marked}
use Rattle.layout_tree.proofs.Decode.{tree_again}
use Rattle.layout_tree.proofs.Place.{length_nodes}
use Rattle.layout_tree.proofs.Settled.{returned}
use Rattle.layout_tree.proofs.Marks.{shown_length}

coded_from : (v : Version) (k : LeafKind) (c : Coded) → IsCoded v k c → coded v k (base_of c) (width c) ≡ c
coded_from v k c flag_coded = refl
coded_from v k c signed_coded = refl
coded_from v k c (based_coded b) = refl

mutual
  pub layout_from : (v : Version) (l : Layout) → OfVersion v l → layout_in v (noted_from l) ≡ l
  layout_from v (Leaf k c) h = ap (Leaf k) (coded_from v k c h)
  layout_from v (ByteRange t d c) h = refl
  layout_from v (ItemRange g d c l) h = ap (ItemRange g d c) (layout_from v l h)
  layout_from v (Optional w l) h = ap (Optional w) (layout_from v l h)
  layout_from v (Struct ls) h = ap (λ (ms : Layouts). Struct ms) (layouts_from v ls h)

  layouts_from : (v : Version) (ls : Layouts) → AllOfVersion v ls → layouts_in v (all_noted_from ls) ≡ ls
  layouts_from v NoField h = refl
  layouts_from v (Field i l ls) h = let e = layout_from v l h.0 in let f = layouts_from v ls h.1 in cc

mutual
  kinds_from : (l : Layout) → kinds_of (noted_from l) ≡ kinds_of l
  kinds_from (Leaf k c) = refl
  kinds_from (ByteRange t d c) = refl
  kinds_from (ItemRange g d c l) = ap (λ (m : KindTree). ItemRange g tt tt m) (kinds_from l)
  kinds_from (Optional w l) = ap (λ (m : KindTree). Optional tt m) (kinds_from l)
  kinds_from (Struct ls) = ap (λ m. Struct m) (all_kinds_from ls)

  all_kinds_from : (ls : Layouts) → kinds_all (all_noted_from ls) ≡ kinds_all ls
  all_kinds_from NoField = refl
  all_kinds_from (Field i l ls) = let e = kinds_from l in let f = all_kinds_from ls in cc

mutual
  settled_from : (l : Layout) → settled (noted_from l) ≡ noted_from l
  settled_from (Leaf k c) = refl
  settled_from (ByteRange t d c) = refl
  settled_from (ItemRange g d c l) = ap (λ (m : Noted). ItemRange g (resting d) (resting c) m)
      (settled_from l)
  settled_from (Optional w l) = ap (λ (m : Noted). Optional (resting w) m) (settled_from l)
  settled_from (Struct ls) = ap (λ (m : AllNoted). Struct m) (all_settled_from ls)

  all_settled_from : (ls : Layouts) → settled_all (all_noted_from ls) ≡ all_noted_from ls
  all_settled_from NoField = refl
  all_settled_from (Field i l ls) = let e = settled_from l in let f = all_settled_from ls in cc

mutual
  pub nodes_from : (l : Layout) → nodes (noted_from l) ≡ nodes l
  nodes_from (Leaf k c) = refl
  nodes_from (ByteRange t d c) = refl
  nodes_from (ItemRange g d c l) = ap (λ n. 3 + n) (nodes_from l)
  nodes_from (Optional w l) = ap (λ n. 2 + n) (nodes_from l)
  nodes_from (Struct ls) = ap (λ n. 1 + n) (all_nodes_from ls)

  all_nodes_from : (ls : Layouts) → nodes_all (all_noted_from ls) ≡ nodes_all ls
  all_nodes_from NoField = refl
  all_nodes_from (Field i l ls) = let e = nodes_from l in let f = all_nodes_from ls in cc

-- what stands for a base is the base of the leaf's code
base_from : (v : Version) (k : LeafKind) (c : Coded) → IsCoded v k c → BaseStands v k (base_of c)
base_from v Flag c flag_coded = refl
base_from v (Integer k) c signed_coded = refl
base_from v (Integer k) c (based_coded b) = tt

mutual
  bases_from : (v : Version) (l : Layout) → OfVersion v l → BasesStand v (noted_from l)
  bases_from v (Leaf k c) h = base_from v k c h
  bases_from v (ByteRange t d c) h = tt
  bases_from v (ItemRange g d c l) h = bases_from v l h
  bases_from v (Optional w l) h = bases_from v l h
  bases_from v (Struct ls) h = all_bases_from v ls h

  all_bases_from : (v : Version) (ls : Layouts) → AllOfVersion v ls → AllBasesStand v (all_noted_from ls)
  all_bases_from v NoField h = tt
  all_bases_from v (Field i l ls) h = (bases_from v l h.0, all_bases_from v ls h.1)

sound_from : (e : FormVersion) (d : Described) (ns : List NodeSpec) (z : ℤ) (r : Bool) → IsListOf d ns z r
    → version_of e ≡ d.version → IsNotedLayout e (noted_from d.tree)
sound_from e d ns z r h ev =
    let l = d.tree in
    let k : kinds_of l ≡ kinds_of (noted_from l) = sym (kinds_from l) in
    let of : OfVersion (version_of e) l = subst (λ (v : Version). OfVersion v l) (sym ev)
    h.described.layout.coded in
    let same : l ≡ layout_in (version_of e) (noted_from l) = sym (layout_from (version_of e) l of) in
    let legal : Legal (layout_in (version_of e) (noted_from l)) = subst (λ (m : Layout). Legal m) same
    h.described.layout.legal in
    record {
      root = subst (λ (m : KindTree). IsStruct m) k (struct_along (kinds_alike l) h.described.layout.root);
      kind_tree = subst (λ (m : KindTree). IsKindTree m) k
          (kind_tree_along (kinds_alike l) h.described.layout.kind_tree);
      coded = subst (λ (m : Layout). OfVersion (version_of e) m) same of;
      legal = legal;
      noted = subst (λ (t : Noted). Legal (layout_in (version_of e) t)) (sym (settled_from l)) legal;
      based = bases_from (version_of e) l of;
    }

pub few_given : {d : Described} {ns : List NodeSpec} {z : ℤ} {r : Bool} (xs : List NodeSpec) → xs ≡ ns
    → IsListOf d ns z r → length xs ≤ 4096
few_given {d} xs x h =
    omega (
      arith,
      ap length (x ∙ h.nodes),
      shown_length (all_nodes (noted_from d.tree)),
      length_nodes
          (noted_from d.tree) kinds.Struct 0 0 0 0,
      nodes_from d.tree,
      h.described.layout.kind_tree.few,
    )

-- the whole list, lent as xs
abbrev pub whole_given : {d : Described} {ns : List NodeSpec} {z : ℤ} {r : Bool} (xs : List NodeSpec) → xs
    ≡ ns → IsListOf d ns z r → Unmarked xs 0
whole_given {d} {ns} {z} {r} xs x h = record {
  tree = noted_from d.tree;
  kind = kinds.Struct;
  struct = tt;
  number = 0;
  parent = 0;
  field = 0;
  offset = 0;
  pre = [];
  post = [];
  is = refl;
  long = refl;
  whole = x ∙ h.nodes ∙ sym (append-nil (map shown (all_nodes (noted_from d.tree))));
  behind = tt;
  few = few_given xs x h;
}

pub record Takes (d : Described) (e : FormVersion) (r : Bool) (ms : List NodeSpec) : Type 0 where
  pub tells : tree_of ms ≡ noted_from d.tree
  pub listing : IsListing ms
  pub sound : ∥ IsNotedLayout e (tree_of ms) ∥₁
  pub relaxing : ∥ MayRelax (version_of e) r ∥₁
  pub layout : described (version_of e) r (layout_in (version_of e) (tree_of ms)) ≡ d
  pub settled : described (version_of e) r (layout_in (version_of e) (settled (tree_of ms)))
      ≡ described (version_of e) r (layout_in (version_of e) (tree_of ms))

pub takes : (d : Described) (ns xs ms : List NodeSpec) (z : ℤ) (r : Bool) (e : FormVersion) (n b : ℕ)
    (x : xs ≡ ns) (h : IsListOf d ns z r) → version_of e ≡ d.version → n ≡ length ns → length ms ≡ length ns
    → Marked (whole_given xs x h) ms b → Takes d e r (take n (ms ++ drop (length ms) ns))
takes d ns xs ms z r e n b x h ev en el done =
    let l = d.tree in
    let t = noted_from l in
    let v = version_of e in
    let now = take n (ms ++ drop (length ms) ns) in
    let is : now ≡ all_nodes t = returned ns ms n en el ∙ done.0 ∙ append-nil (all_nodes t) in
    let tells : tree_of now ≡ t = ap tree_of is ∙ tree_again t in
    let of : OfVersion v l = subst (λ (w : Version). OfVersion w l) (sym ev) h.described.layout.coded in
    record {
      tells = tells;
      listing = is ∙ ap all_nodes (sym tells);
      sound = subst (λ (m : Noted). ∥ IsNotedLayout e m ∥₁) (sym tells) ∣ sound_from e d ns z r h ev ∣₁;
      relaxing = ∣ subst (λ (w : Version). MayRelax w r) (sym ev)
          (subst (λ (b : Bool). MayRelax d.version b) (sym h.relaxes) h.described.relaxing) ∣₁;
      layout = ap (λ (m : Layout). described v r m) (ap (layout_in v) tells ∙ layout_from v l of)
          ∙ ap (λ (w : Version). described w r l) ev ∙ ap (λ (b : Bool). described d.version b l) h.relaxes;
      settled = ap (λ (m : Noted). described v r (layout_in v m))
          (ap settled tells ∙ settled_from l ∙ sym tells);
    }

-- the version of a number
pub second_is : (v : Version) (z : ℤ) → z ≡ version_number v → of_z w32 z ≡ 2 → Version2 ≡ v
second_is Version1 z e h = let x : false ≡ true = ap (λ k. nat_eq k 2) (sym (ap (of_z w32) e))
    ∙ ap (λ k. nat_eq k 2) h in absurd cc
second_is Version2 z e h = refl

pub first_is : (v : Version) (z : ℤ) → z ≡ version_number v → (of_z w32 z ≡ 2 → ⊥) → Version1 ≡ v
first_is Version1 z e h = refl
first_is Version2 z e h = absurd (h (ap (of_z w32) e))

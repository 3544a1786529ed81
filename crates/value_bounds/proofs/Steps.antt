-- The loop over nodes that sets bases.
use Rattle.std.proofs.Common.{◌≡◌, ℕ, ℤ, suc, ◌+◌, ◌<◌, List, [], ◌∷◌, ◌++◌, map, length, get_or}
use Rattle.std.proofs.Common.{drop, true, false, pos, arith, refl, ap, sym, ◌∙◌, subst, drop-cons}
use Rattle.std.proofs.Common.{append_assoc}
use Rattle.std.proofs.lemmas.List.{append-nil, map-append}
use Rattle.std.proofs.Math.Seq.{drop-length}
use Rattle.std.specs.List.{AllByRecursion}
use Rattle.frozen_model.specs.Trees.{Tree, Trees, Whole, LeafKind, Flag, Integer, value_bits, Leaf, ByteRange}
use Rattle.frozen_model.specs.Trees.{ItemRange, Optional, Struct, NoField, Field, nodes, nodes_all, Leafwise}
use Rattle.frozen_model.specs.Trees.{AllLeafwise, leaf, byte_range, item_range, optional, struct, no_field}
use Rattle.frozen_model.specs.Trees.{field}
use Rattle.frozen_model.specs.Values.{InBits}
use Rattle.frozen_model.specs.Holding.{Puts, AllPuts}
use Rattle.layout_tree.specs.Listing.{Noted, AllNoted, LeafWidths}
use Rattle.layout_tree.specs.Basing.{based_at, BaseAt, whole_at}
use Rattle.value_bounds.specs.declared.bounds.Bounds.{Bounds}
use Rattle.value_bounds.specs.Seeing.{numbers, all_numbers, bounds_of, base_by}
use Rattle.value_bounds.specs.Basing.{least_of, based_on, all_based_on}
use Rattle.value_bounds.proofs.Least.{least_in, base_is_least}
use Rattle.value_bounds.proofs.Holes.{Hole, FieldsHole, no_hole, item_hole, inner_hole, fields_hole}
use Rattle.value_bounds.proofs.Holes.{first_hole, later_hole}

-- numbers at a leaf of whole numbers are of its kind
abbrev pub AreOfKind : LeafKind → List ℤ → Type 0
AreOfKind Flag xs = Unit {0}
AreOfKind (Integer k) xs = AllByRecursion (InBits (value_bits k)) xs

-- numbers beside a tree, of the kinds of its leaves
abbrev pub OfKinds : {A B : Type 0} → Tree A B → Puts → Type 0
OfKinds {A} {B} t p = Leafwise (λ (k : LeafKind) (a : A) (xs : List ℤ). AreOfKind k xs)
    (λ (b : B) (ns : List ℕ). Unit {0}) (λ (b : B) (ns : List ℕ). Unit {0}) t p

abbrev pub AllOfKinds : {A B : Type 0} → Trees A B → AllPuts → Type 0
AllOfKinds {A} {B} ts ps = AllLeafwise (λ (k : LeafKind) (a : A) (xs : List ℤ). AreOfKind k xs)
    (λ (b : B) (ns : List ℕ). Unit {0}) (λ (b : B) (ns : List ℕ). Unit {0}) ts ps

-- What the loop does to a tree from a node on: each leaf of whole numbers can take the base that is for its
-- node, all other nodes stay, and the loop ends with a tree.
abbrev pub BasesTo : Noted → ℕ → List Bounds → Noted → Type 0
BasesTo t k [] end = t ≡ end
BasesTo t k (b ∷ bs) end = (whole_at t k ≡ true → BaseAt t k (base_by b))
    × (whole_at t k ≡ false → based_at t k (base_by b) ≡ t)
    × BasesTo (based_at t k (base_by b)) (suc k) bs end

-- a node that is no leaf of whole numbers
stays : (whole : Noted → Noted) (n : ℕ) → Hole whole n
    → (s : Noted) (k m m2 : ℕ) (b : Bounds) (bs : List Bounds) (end : Noted) → k < nodes s → m ≡ n + k → m2
    ≡ suc m → whole_at s k ≡ false → ((z : ℤ) → based_at s k z ≡ s)
    → BasesTo (whole s) m2 bs end → BasesTo (whole s) m (b ∷ bs) end
stays whole n o s k m m2 b bs end h em e2 other same next =
    let z = base_by b in
    let is : based_at (whole s) m z ≡ whole s = ap (λ i. based_at (whole s) i z) em ∙ o.sets s k z h
    ∙ ap whole (same z) in
    let kind : whole_at (whole s) m ≡ false = ap (λ i. whole_at (whole s) i) em ∙ o.kind s k h ∙ other in (
      (λ e. let f : true ≡ false = sym e ∙ kind in absurd cc),
      (λ e. is),
      subst
          (λ (t : Noted). BasesTo t (suc m) bs end) (sym is)
          (subst (λ i. BasesTo (whole s) i bs end) e2 next),
    )

-- a leaf of whole numbers
takes : (whole : Noted → Noted) (n : ℕ) → Hole whole n
    → (j : Whole) (c : LeafWidths) (xs : List ℤ) (bs : List Bounds) (end : Noted)
    → AllByRecursion (InBits (value_bits j)) xs
    → BasesTo (whole (Leaf (Integer j) (record {
      base = least_of xs;
      bits = c.bits;
      wide = c.wide;
    }))) (n + 1) bs end → BasesTo (whole (Leaf (Integer j) c)) n (bounds_of xs ∷ bs) end
takes whole n o j c xs bs end hs next =
    let s : Noted = Leaf (Integer j) c in
    let z = base_by (bounds_of xs) in
    let ez = base_is_least j xs hs in
    let one : 0 < nodes s = omega arith in
    let e0 : n ≡ n + 0 = omega arith in
    let e1 : n + 1 ≡ suc n = omega arith in
    let is : based_at (whole s) n z ≡ whole (Leaf (Integer j) (record {
      base = least_of xs;
      bits = c.bits;
      wide = c.wide;
    })) =
    ap (λ i. based_at (whole s) i z) e0 ∙ o.sets s 0 z one ∙ ap (λ y. whole (Leaf (Integer j) (record {
      base = y;
      bits = c.bits;
      wide = c.wide;
    }))) ez in
    let kind : whole_at (whole s) n ≡ true = ap (λ i. whole_at (whole s) i) e0 ∙ o.kind s 0 one in (
      (λ e. subst (λ i. BaseAt (whole s) i z) (sym e0)
          (o.fits s 0 z one (subst (InBits (value_bits j)) (sym ez) (least_in j xs hs)))),
      (λ e. let f : true ≡ false = sym kind ∙ e in absurd cc),
      subst (λ (t : Noted). BasesTo t (suc n) bs end) (sym is)
          (subst (λ i. BasesTo (whole (Leaf (Integer j) (record {
            base = least_of xs;
            bits = c.bits;
            wide = c.wide;
          }))) i bs end) e1 next),
    )

mutual
  nodes_on : (t : Noted) (p : Puts) → nodes (based_on t p) ≡ nodes t
  nodes_on (Leaf Flag c) p = refl
  nodes_on (Leaf (Integer j) c) (Leaf k xs) = refl
  nodes_on (Leaf (Integer j) c) (ByteRange _ _ _) = refl
  nodes_on (Leaf (Integer j) c) (ItemRange _ _ _ _) = refl
  nodes_on (Leaf (Integer j) c) (Optional _ _) = refl
  nodes_on (Leaf (Integer j) c) (Struct _) = refl
  nodes_on (ByteRange t d c) p = refl
  nodes_on (ItemRange h d c l) (ItemRange g ds cs p) = ap (λ n. 3 + n) (nodes_on l p)
  nodes_on (ItemRange h d c l) (Leaf _ _) = refl
  nodes_on (ItemRange h d c l) (ByteRange _ _ _) = refl
  nodes_on (ItemRange h d c l) (Optional _ _) = refl
  nodes_on (ItemRange h d c l) (Struct _) = refl
  nodes_on (Optional x l) (Optional ws p) = ap (λ n. 2 + n) (nodes_on l p)
  nodes_on (Optional x l) (Leaf _ _) = refl
  nodes_on (Optional x l) (ByteRange _ _ _) = refl
  nodes_on (Optional x l) (ItemRange _ _ _ _) = refl
  nodes_on (Optional x l) (Struct _) = refl
  nodes_on (Struct ls) (Struct ps) = ap (λ n. 1 + n) (all_nodes_on ls ps)
  nodes_on (Struct ls) (Leaf _ _) = refl
  nodes_on (Struct ls) (ByteRange _ _ _) = refl
  nodes_on (Struct ls) (ItemRange _ _ _ _) = refl
  nodes_on (Struct ls) (Optional _ _) = refl

  all_nodes_on : (ls : AllNoted) (ps : AllPuts) → nodes_all (all_based_on ls ps) ≡ nodes_all ls
  all_nodes_on NoField ps = refl
  all_nodes_on (Field id l ls) NoField = refl
  all_nodes_on (Field id l ls) (Field i p ps) = let e = nodes_on l p in let f = all_nodes_on ls ps in cc

-- the bounds of all nodes of a part
abbrev bounds_in : Puts → List Bounds
bounds_in p = map bounds_of (numbers p)

abbrev all_bounds_in : AllPuts → List Bounds
all_bounds_in ps = map bounds_of (all_numbers ps)

mutual
  based_part : {t : Noted} {p : Puts} → OfKinds t p → (whole : Noted → Noted) (n : ℕ) → Hole whole n
      → (bs : List Bounds) (end : Noted)
      → BasesTo (whole (based_on t p)) (n + nodes t) bs end → BasesTo (whole t) n (bounds_in p ++ bs) end
  based_part (leaf {k = Flag} {a = c} {c = xs} h) whole n o bs end next = stays whole n o (Leaf Flag c) 0 n
      (n + 1) (bounds_of xs) bs end (omega arith) (omega arith) (omega arith) refl (λ z. refl) next
  based_part (leaf {k = Integer j} {a = c} {c = xs} h) whole n o bs end next = takes whole n o j c xs bs end h
      next
  based_part (byte_range {t = t} {d = d} {c = c} {c' = cs} h i) whole n o bs end next =
      let s = ByteRange t d c in
      stays whole n o s 0 n (n + 1) (bounds_of []) (bounds_of [] ∷ bounds_of (map pos cs) ∷ bs) end
      (omega arith) (omega arith) (omega arith) refl (λ z. refl)
      (stays whole n o s 1 (n + 1) (n + 2) (bounds_of []) (bounds_of (map pos cs) ∷ bs) end (omega arith)
      (omega arith) (omega arith) refl (λ z. refl)
      (stays whole n o s 2 (n + 2) (n + 3) (bounds_of (map pos cs)) bs end (omega arith) (omega arith)
      (omega arith) refl (λ z. refl) next))
  based_part (item_range {h = g} {d = d} {c = c} {c' = cs} {l = l} {m = p} h i x) whole n o bs end next =
      let s = ItemRange g d c l in
      let e : n + nodes s ≡ n + 3 + nodes l = omega arith in
      let inner = based_part x (λ (y : Noted). whole (ItemRange g d c y)) (n + 3) (item_hole whole n g d c o)
      bs end (subst (λ m. BasesTo (whole (ItemRange g d c (based_on l p))) m bs end) e next) in
      stays whole n o s 0 n (n + 1) (bounds_of [])
      (bounds_of [] ∷ bounds_of (map pos cs) ∷ (bounds_in p ++ bs)) end (omega arith) (omega arith)
      (omega arith) refl (λ z. refl)
      (stays whole n o s 1 (n + 1) (n + 2) (bounds_of []) (bounds_of (map pos cs) ∷ (bounds_in p ++ bs)) end
      (omega arith) (omega arith) (omega arith) refl (λ z. refl)
      (stays whole n o s 2 (n + 2) (n + 3) (bounds_of (map pos cs)) (bounds_in p ++ bs) end (omega arith)
      (omega arith) (omega arith) refl (λ z. refl) inner))
  based_part (optional {w = w} {w' = ws} {l = l} {m = p} h x) whole n o bs end next =
      let s = Optional w l in
      let e : n + nodes s ≡ n + 2 + nodes l = omega arith in
      let inner = based_part x (λ (y : Noted). whole (Optional w y)) (n + 2) (inner_hole whole n w o) bs end
      (subst (λ m. BasesTo (whole (Optional w (based_on l p))) m bs end) e next) in
      stays whole n o s 0 n (n + 1) (bounds_of []) (bounds_of (map pos ws) ∷ (bounds_in p ++ bs)) end
      (omega arith) (omega arith) (omega arith) refl (λ z. refl)
      (stays whole n o s 1 (n + 1) (n + 2) (bounds_of (map pos ws)) (bounds_in p ++ bs) end (omega arith)
      (omega arith) (omega arith) refl (λ z. refl) inner)
  based_part (struct {ls = ls} {ms = ps} xs) whole n o bs end next =
      let s = Struct ls in
      let e : n + nodes s ≡ n + 1 + nodes_all ls = omega arith in
      let inner = based_parts xs (λ (y : AllNoted). whole (Struct y)) (n + 1) (fields_hole whole n o) bs end
      (subst (λ m. BasesTo (whole (Struct (all_based_on ls ps))) m bs end) e next) in
      stays whole n o s 0 n (n + 1) (bounds_of []) (all_bounds_in ps ++ bs) end (omega arith) (omega arith)
      (omega arith) refl (λ z. refl) inner

  based_parts : {ts : AllNoted} {ps : AllPuts} → AllOfKinds ts ps → (whole : AllNoted → Noted) (n : ℕ)
      → FieldsHole whole n → (bs : List Bounds) (end : Noted)
      → BasesTo (whole (all_based_on ts ps)) (n + nodes_all ts) bs end
      → BasesTo (whole ts) n (all_bounds_in ps ++ bs) end
  based_parts no_field whole n o bs end next = let e : n + 0
      ≡ n = omega arith in subst (λ m. BasesTo (whole NoField) m bs end) e next
  based_parts (field {i = i} {l = l} {m = p} {ls = ls} {ms = ps} x xs) whole n o bs end next =
      let l2 = based_on l p in
      let el = nodes_on l p in
      let e : n + (nodes l + nodes_all ls) ≡ n + nodes l2 + nodes_all ls = omega (arith, el) in
      let later = based_parts xs (λ (y : AllNoted). whole (Field i l2 y)) (n + nodes l2)
      (later_hole whole n i l2 o) bs end (subst
      (λ m. BasesTo (whole (Field i l2 (all_based_on ls ps))) m bs end) e next) in
      let en : n + nodes l2 ≡ n + nodes l = omega (arith, el) in
      let first = based_part x (λ (y : Noted). whole (Field i y ls)) n (first_hole whole n i ls o)
      (all_bounds_in ps ++ bs) end (subst
      (λ m. BasesTo (whole (Field i l2 ls)) m (all_bounds_in ps ++ bs) end) en later) in
      let is : bounds_in p ++ (all_bounds_in ps ++ bs) ≡ all_bounds_in (Field i p ps)
      ++ bs = sym (append_assoc (bounds_in p) (all_bounds_in ps) bs)
      ∙ ap (λ r. r ++ bs) (sym (map-append bounds_of (numbers p) (all_numbers ps))) in
      subst (λ r. BasesTo (whole (Field i l ls)) n r end) is first

-- the loop from the first node on
pub bases_begin : (t : Noted) (p : Puts) → OfKinds t p
    → BasesTo t 0 (map bounds_of (numbers p)) (based_on t p)
bases_begin t p h =
    subst (λ r. BasesTo t 0 r (based_on t p)) (append-nil (bounds_in p))
    (based_part h (λ (s : Noted). s) 0 no_hole [] (based_on t p) refl)

-- one step of it
pub bases_step : (t : Noted) (k k2 : ℕ) (bs : List Bounds) (end : Noted) (d b : Bounds) → k < length bs → k2
    ≡ suc k → b ≡ get_or bs k d → BasesTo t k (drop k bs) end
    → (whole_at t k ≡ true → BaseAt t k (base_by b)) × (whole_at t k ≡ false → based_at t k (base_by b) ≡ t)
    × BasesTo (based_at t k (base_by b)) k2 (drop k2 bs) end
bases_step t k k2 bs end d b h e2 eb to =
    let e : drop k bs ≡ b ∷ drop (suc k) bs = drop-cons bs k d h ∙ ap (λ x. x ∷ drop (suc k) bs) (sym eb) in
    let at = subst (λ r. BasesTo t k r end) e to in
    (at.0, at.1, subst (λ i. BasesTo (based_at t k (base_by b)) i (drop i bs) end) (sym e2) at.2)

pub bases_end : (t : Noted) (k : ℕ) (bs : List Bounds) (end : Noted) → k ≡ length bs
    → BasesTo t k (drop k bs) end → t ≡ end
bases_end t k bs end e to = subst (λ r. BasesTo t k r end) (ap (λ i. drop i bs) e ∙ drop-length bs) to

-- A pass from any layout below one that holds the value stays below it.
use Rattle.std.proofs.Common.{◌≡◌, ℕ, ◌≤◌, max, List, ℤ, arith, refl, ap, subst}
use Rattle.std.specs.List.{AllByRecursion}
use Rattle.frozen_model.specs.Trees.{LeafKind, Leafwise, AllLeafwise, leaf, byte_range, item_range, optional, struct, no_field, field}
use Rattle.frozen_model.specs.Values.{Value, Of}
use Rattle.frozen_model.specs.Layouts.{Version, IsCoded, Coded, Layout, Layouts, OfVersion, Narrower, AllNarrower, width, Fits}
use Rattle.frozen_model.specs.Holding.{Puts, AllPuts, puts_of, Holds, IsBasedOn, Based, greatest_need, greatest_digits, widened, widened_all, pass}
use Rattle.frozen_laws.proofs.Leafwise.{leafwise_flip, leafwise_chain, with_version}
use Rattle.frozen_laws.proofs.Leaves.{width_with, need_le, digits_le_mono, digits_fit}
use Rattle.frozen_laws.proofs.Puts.{of_leafwise}
use Rattle.frozen_laws.proofs.Passes.{Held, held, puts_of_grow}

abbrev AtBases : Version → Puts → Layout → Type 0
AtBases n p l = Leafwise (λ (k : LeafKind) (xs : List ℤ) (c : Coded). IsBasedOn c xs × IsCoded n k c) (λ (ns : List ℕ) (w : ℕ). Unit {0}) (λ (ns : List ℕ) (w : ℕ). Unit {0}) p l

abbrev AllAtBases : Version → AllPuts → Layouts → Type 0
AllAtBases n p l = AllLeafwise (λ (k : LeafKind) (xs : List ℤ) (c : Coded). IsBasedOn c xs × IsCoded n k c) (λ (ns : List ℕ) (w : ℕ). Unit {0}) (λ (ns : List ℕ) (w : ℕ). Unit {0}) p l

abbrev IsWide : Version → Layout → Puts → Type 0
IsWide n m p = Leafwise (λ (k : LeafKind) (d : Coded) (xs : List ℤ). Held n k xs d) (λ (w : ℕ) (ns : List ℕ). greatest_digits ns ≤ w) (λ (w : ℕ) (ns : List ℕ). greatest_digits ns ≤ w) m p

abbrev AllWide : Version → Layouts → AllPuts → Type 0
AllWide n m p = AllLeafwise (λ (k : LeafKind) (d : Coded) (xs : List ℤ). Held n k xs d) (λ (w : ℕ) (ns : List ℕ). greatest_digits ns ≤ w) (λ (w : ℕ) (ns : List ℕ). greatest_digits ns ≤ w) m p

module _ (n : Version) where
  mutual
    widened_below : {p q : Puts} {l m : Layout} → AtBases n p l → Narrower l m → IsWide n m q → p ≡ q → Narrower (widened l p) m
    widened_below (leaf {a = xs} {c = c} h) (leaf {c = d} le) (leaf {c = ys} f) e =
        let same : ys ≡ xs = cc in
        leaf (omega (arith, width_with c (max (width c) (greatest_need c xs)), need_le xs h.1 f.coded h.0 (subst (λ zs. AllByRecursion (Fits d) zs) same f.fits)))
    widened_below (byte_range {d = ds} {c = cs} h i) (byte_range hd hc) (byte_range {d' = es} {c' = gs} f g) e =
        let e1 : ds ≡ es = cc in let e2 : cs ≡ gs = cc in byte_range (omega (arith, ap greatest_digits e1)) (omega (arith, ap greatest_digits e2))
    widened_below (item_range {d = ds} {c = cs} {l = p} h i x) (item_range hd hc y) (item_range {d' = es} {c' = gs} {m = q} f g z) e =
        let e1 : ds ≡ es = cc in let e2 : cs ≡ gs = cc in let e3 : p ≡ q = cc in
        item_range (omega (arith, ap greatest_digits e1)) (omega (arith, ap greatest_digits e2)) (widened_below x y z e3)
    widened_below (optional {w = ws} {l = p} h x) (optional hw y) (optional {w' = vs} {m = q} f z) e =
        let e1 : ws ≡ vs = cc in let e3 : p ≡ q = cc in optional (omega (arith, ap greatest_digits e1)) (widened_below x y z e3)
    widened_below (struct {ls = p} xs) (struct ys) (struct {ms = q} zs) e = let e1 : p ≡ q = cc in struct (all_widened_below xs ys zs e1)

    all_widened_below : {p q : AllPuts} {l m : Layouts} → AllAtBases n p l → AllNarrower l m → AllWide n m q → p ≡ q → AllNarrower (widened_all l p) m
    all_widened_below no_field no_field no_field e = no_field
    all_widened_below (field {l = p} {ls = ps} x xs) (field y ys) (field {m = q} {ms = qs} z zs) e =
        let e1 : p ≡ q = cc in let e2 : ps ≡ qs = cc in field (widened_below x y z e1) (all_widened_below xs ys zs e2)

pub pass_stays : (n : Version) (l m : Layout) (v : Value) → OfVersion n l → Based l (puts_of l v) → Narrower l m → OfVersion n m → Holds m v → Narrower (pass l v) m
pass_stays n l m v coded based x o h =
    let of_l : Of l v = of_leafwise h.of_kind (leafwise_flip x) in
    let fit = leafwise_flip (with_version n h.fits o) in
    let down = leafwise_chain {R'' = λ (k : LeafKind) (xs : List ℤ) (d : Coded). Held n k xs d} {S'' = λ (ns : List ℕ) (w : ℕ). greatest_digits ns ≤ w} {T'' = λ (ns : List ℕ) (w : ℕ). greatest_digits ns ≤ w}
    (held n) (λ ms ns w le f. omega (arith, digits_le_mono le, digits_fit ns w f)) (λ ms ns w e f. omega (arith, ap greatest_digits e, digits_fit ns w f)) (puts_of_grow of_l x) fit in
    widened_below n (leafwise_flip (with_version n based coded)) x (leafwise_flip down) refl

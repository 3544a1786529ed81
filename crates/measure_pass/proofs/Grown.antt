-- Laws of growing.
use Rattle.std.proofs.Common.{◌≡◌, ℕ, ℤ, List, [], ◌∷◌, ◌++◌, max, arith, refl, ap, sym, ◌∙◌}
use Rattle.frozen_model.specs.Trees.{LeafKind, Flag, Integer, Leaf, ByteRange, ItemRange, Optional, Struct}
use Rattle.frozen_model.specs.Trees.{NoField, Field, leaf, byte_range, item_range, optional, struct, no_field}
use Rattle.frozen_model.specs.Trees.{field}
use Rattle.frozen_model.specs.Layouts.{Version, Version1, Version2, Coded, Unsigned, TwosComplement, FromBase}
use Rattle.frozen_model.specs.Layouts.{Layout, Layouts, width, with_width, Legal, AllLegal}
use Rattle.frozen_model.specs.Holding.{Puts, AllPuts, no_puts, no_puts_all, both, both_all, widened}
use Rattle.frozen_model.specs.Holding.{widened_all, greatest_need, greatest_digits}
use Rattle.frozen_laws.proofs.Leaves.{need_with}
use Rattle.frozen_laws.proofs.Puts.{Beside, AllBeside}
use Rattle.layout_tree.specs.Listing.{Noted, AllNoted, coded, layout_in, layouts_in, settled, settled_all}
use Rattle.layout_tree.specs.Noting.{noting}
use Rattle.measure_pass.specs.Growing.{grown, grown_all}

pub need_join : (c : Coded) (xs ys : List ℤ) → greatest_need c (xs ++ ys)
    ≡ max (greatest_need c xs) (greatest_need c ys)
need_join c [] ys = omega arith
need_join c (x ∷ xs) ys = omega (arith, need_join c xs ys)

pub digits_join : (xs ys : List ℕ) → greatest_digits (xs ++ ys)
    ≡ max (greatest_digits xs) (greatest_digits ys)
digits_join [] ys = omega arith
digits_join (x ∷ xs) ys = omega (arith, digits_join xs ys)

-- no numbers
mutual
  pub grown_none : (v : Version) (t : Noted) (l : Layout) → layout_in v t ≡ l → grown v t (no_puts l) ≡ t
  grown_none v (Leaf k c) (Leaf j b) e = let m : max c.wide 0
      ≡ c.wide = omega arith in ap (λ w. Leaf k (record {
        base = c.base;
        bits = c.bits;
        wide = w;
      })) m
  grown_none v (ByteRange t d c) (ByteRange u e f) h =
      let m : max d.wide 0 ≡ d.wide = omega arith in
      let n : max c.wide 0 ≡ c.wide = omega arith in
      ap (λ w. ByteRange t (noting d w) (noting c (max c.wide 0))) m ∙ ap (λ w. ByteRange t d (noting c w)) n
  grown_none v (ItemRange g d c l) (ItemRange k e f m) h =
      let i : layout_in v l ≡ m = cc in
      let a : max d.wide 0 ≡ d.wide = omega arith in
      let b : max c.wide 0 ≡ c.wide = omega arith in
      ap (λ w. ItemRange g (noting d w) (noting c (max c.wide 0)) (grown v l (no_puts m))) a
      ∙ ap (λ w. ItemRange g d (noting c w) (grown v l (no_puts m))) b
      ∙ ap (λ (x : Noted). ItemRange g d c x) (grown_none v l m i)
  grown_none v (Optional w l) (Optional u m) h =
      let i : layout_in v l ≡ m = cc in
      let a : max w.wide 0 ≡ w.wide = omega arith in
      ap (λ z. Optional (noting w z) (grown v l (no_puts m))) a
      ∙ ap (λ (x : Noted). Optional w x) (grown_none v l m i)
  grown_none v (Struct ls) (Struct ms) h = let i : layouts_in v ls
      ≡ ms = cc in ap (λ (x : AllNoted). Struct x) (grown_none_all v ls ms i)
  grown_none v (Leaf k c) (ByteRange _ _ _) e = absurd cc
  grown_none v (Leaf k c) (ItemRange _ _ _ _) e = absurd cc
  grown_none v (Leaf k c) (Optional _ _) e = absurd cc
  grown_none v (Leaf k c) (Struct _) e = absurd cc
  grown_none v (ByteRange _ _ _) (Leaf _ _) e = absurd cc
  grown_none v (ByteRange _ _ _) (ItemRange _ _ _ _) e = absurd cc
  grown_none v (ByteRange _ _ _) (Optional _ _) e = absurd cc
  grown_none v (ByteRange _ _ _) (Struct _) e = absurd cc
  grown_none v (ItemRange _ _ _ _) (Leaf _ _) e = absurd cc
  grown_none v (ItemRange _ _ _ _) (ByteRange _ _ _) e = absurd cc
  grown_none v (ItemRange _ _ _ _) (Optional _ _) e = absurd cc
  grown_none v (ItemRange _ _ _ _) (Struct _) e = absurd cc
  grown_none v (Optional _ _) (Leaf _ _) e = absurd cc
  grown_none v (Optional _ _) (ByteRange _ _ _) e = absurd cc
  grown_none v (Optional _ _) (ItemRange _ _ _ _) e = absurd cc
  grown_none v (Optional _ _) (Struct _) e = absurd cc
  grown_none v (Struct _) (Leaf _ _) e = absurd cc
  grown_none v (Struct _) (ByteRange _ _ _) e = absurd cc
  grown_none v (Struct _) (ItemRange _ _ _ _) e = absurd cc
  grown_none v (Struct _) (Optional _ _) e = absurd cc

  pub grown_none_all : (v : Version) (t : AllNoted) (l : Layouts) → layouts_in v t ≡ l
      → grown_all v t (no_puts_all l) ≡ t
  grown_none_all v NoField NoField e = refl
  grown_none_all v (Field i l ls) (Field j m ms) e =
      let a : layout_in v l ≡ m = cc in
      let b : layouts_in v ls ≡ ms = cc in
      ap (λ (x : Noted). Field i x (grown_all v ls (no_puts_all ms))) (grown_none v l m a)
      ∙ ap (λ (x : AllNoted). Field i l x) (grown_none_all v ls ms b)
  grown_none_all v NoField (Field _ _ _) e = absurd cc
  grown_none_all v (Field _ _ _) NoField e = absurd cc

-- the bits stay
mutual
  pub grown_layout : (v : Version) (t : Noted) (p : Puts) → layout_in v (grown v t p) ≡ layout_in v t
  grown_layout v (Leaf k c) (Leaf j xs) = refl
  grown_layout v (ByteRange t d c) (ByteRange u ds cs) = refl
  grown_layout v (ItemRange h d c l) (ItemRange g ds cs p) = ap (λ (m : Layout). ItemRange h d.bits c.bits m)
      (grown_layout v l p)
  grown_layout v (Optional w l) (Optional ws p) = ap (λ (m : Layout). Optional w.bits m) (grown_layout v l p)
  grown_layout v (Struct ls) (Struct ps) = ap (λ (m : Layouts). Struct m) (grown_layout_all v ls ps)
  grown_layout v t _ = refl

  pub grown_layout_all : (v : Version) (t : AllNoted) (p : AllPuts) → layouts_in v (grown_all v t p)
      ≡ layouts_in v t
  grown_layout_all v (Field i l ls) (Field j p ps) =
      ap (λ (m : Layout). Field i m (layouts_in v (grown_all v ls ps))) (grown_layout v l p)
      ∙ ap (λ (m : Layouts). Field i (layout_in v l) m) (grown_layout_all v ls ps)
  grown_layout_all v ls _ = refl

-- growing by the numbers of two is growing by those of one and then of the other
mutual
  pub grown_both : (v : Version) (t : Noted) {p q : Puts} → Beside (layout_in v t) p
      → Beside (layout_in v t) q → grown v (grown v t p) q ≡ grown v t (both p q)
  grown_both v (Leaf k c) (leaf {c = xs} h) (leaf {c = ys} g) =
      let cd = coded v k c.base c.bits in
      let e : max (max c.wide (greatest_need cd xs)) (greatest_need cd ys)
      ≡ max c.wide (greatest_need cd (xs ++ ys)) = omega (arith, need_join cd xs ys) in
      ap (λ w. Leaf k (record { base = c.base; bits = c.bits; wide = w })) e
  grown_both v (ByteRange t d c) (byte_range {d' = ds} {c' = cs} h i) (byte_range {d' = es} {c' = fs} f g) =
      let e : max (max d.wide (greatest_digits ds)) (greatest_digits es)
      ≡ max d.wide (greatest_digits (ds ++ es)) = omega (arith, digits_join ds es) in
      let o : max (max c.wide (greatest_digits cs)) (greatest_digits fs)
      ≡ max c.wide (greatest_digits (cs ++ fs)) = omega (arith, digits_join cs fs) in
      ap (λ w. ByteRange t (noting d w) (noting c
      (max (max c.wide (greatest_digits cs)) (greatest_digits fs)))) e
      ∙ ap (λ w. ByteRange t (noting d (max d.wide (greatest_digits (ds ++ es)))) (noting c w)) o
  grown_both v (ItemRange a d c l) (item_range {d' = ds} {c' = cs} {m = p} h i x)
      (item_range {d' = es} {c' = fs} {m = q} f g z) =
      let e : max (max d.wide (greatest_digits ds)) (greatest_digits es)
      ≡ max d.wide (greatest_digits (ds ++ es)) = omega (arith, digits_join ds es) in
      let o : max (max c.wide (greatest_digits cs)) (greatest_digits fs)
      ≡ max c.wide (greatest_digits (cs ++ fs)) = omega (arith, digits_join cs fs) in
      let r = grown v (grown v l p) q in
      ap (λ w. ItemRange a (noting d w) (noting c
      (max (max c.wide (greatest_digits cs)) (greatest_digits fs))) r) e
      ∙ ap (λ w. ItemRange a (noting d (max d.wide (greatest_digits (ds ++ es)))) (noting c w) r) o
      ∙ ap (λ (w : Noted). ItemRange a (noting d (max d.wide (greatest_digits (ds ++ es))))
      (noting c (max c.wide (greatest_digits (cs ++ fs)))) w) (grown_both v l x z)
  grown_both v (Optional a l) (optional {w' = ds} {m = p} h x) (optional {w' = es} {m = q} f z) =
      let e : max (max a.wide (greatest_digits ds)) (greatest_digits es)
      ≡ max a.wide (greatest_digits (ds ++ es)) = omega (arith, digits_join ds es) in
      ap (λ w. Optional (noting a w) (grown v (grown v l p) q)) e
      ∙ ap (λ (w : Noted). Optional (noting a (max a.wide (greatest_digits (ds ++ es)))) w)
      (grown_both v l x z)
  grown_both v (Struct ls) (struct {ms = ps} x) (struct {ms = qs} z) = ap (λ (w : AllNoted). Struct w)
      (grown_both_all v ls x z)

  pub grown_both_all : (v : Version) (t : AllNoted) {p q : AllPuts} → AllBeside (layouts_in v t) p
      → AllBeside (layouts_in v t) q → grown_all v (grown_all v t p) q ≡ grown_all v t (both_all p q)
  grown_both_all v NoField no_field no_field = refl
  grown_both_all v (Field i l ls) (field {m = p} {ms = ps} x xs) (field {m = q} {ms = qs} z zs) =
      ap (λ (w : Noted). Field i w (grown_all v (grown_all v ls ps) qs)) (grown_both v l x z)
      ∙ ap (λ (w : AllNoted). Field i (grown v l (both p q)) w) (grown_both_all v ls xs zs)

-- once it is settled it is the widened layout
coded_with : (v : Version) (k : LeafKind) (b : ℤ) (w u : ℕ) → with_width (coded v k b w) u ≡ coded v k b u
coded_with v Flag b w u = refl
coded_with Version1 (Integer k) b w u = refl
coded_with Version2 (Integer k) b w u = refl

pub with_is : (c : Coded) (w : ℕ) → width (with_width c w) ≡ w
with_is (Unsigned u) w = refl
with_is (TwosComplement u) w = refl
with_is (FromBase b u) w = refl

coded_wide : (v : Version) (k : LeafKind) (b : ℤ) (w : ℕ) → width (coded v k b w) ≡ w
coded_wide v Flag b w = refl
coded_wide Version1 (Integer k) b w = refl
coded_wide Version2 (Integer k) b w = refl

need_coded : (v : Version) (k : LeafKind) (b : ℤ) (w u : ℕ) (xs : List ℤ) → greatest_need (coded v k b w) xs
    ≡ greatest_need (coded v k b u) xs
need_coded v k b w u xs = sym (need_with (coded v k b w) u xs)
    ∙ ap (λ c. greatest_need c xs) (coded_with v k b w u)

mutual
  pub grown_settled : (v : Version) (t : Noted) (p : Puts) → layout_in v (settled (grown v t p))
      ≡ widened (layout_in v (settled t)) p
  grown_settled v (Leaf k c) (Leaf j xs) =
      let wide = coded v k c.base c.wide in
      let e : max c.wide (greatest_need (coded v k c.base c.bits) xs)
      ≡ max (width wide) (greatest_need wide xs) = omega
      (arith, coded_wide v k c.base c.wide, need_coded v k c.base c.bits c.wide xs) in
      ap (λ w. Leaf k (coded v k c.base w)) e
      ∙ ap (λ (m : Coded). Leaf k m) (sym
      (coded_with v k c.base c.wide (max (width wide) (greatest_need wide xs))))
  grown_settled v (ByteRange t d c) (ByteRange u ds cs) = refl
  grown_settled v (ItemRange h d c l) (ItemRange g ds cs p) = ap
      (λ (m : Layout). ItemRange h (max d.wide (greatest_digits ds)) (max c.wide (greatest_digits cs)) m)
      (grown_settled v l p)
  grown_settled v (Optional w l) (Optional ws p) = ap
      (λ (m : Layout). Optional (max w.wide (greatest_digits ws)) m) (grown_settled v l p)
  grown_settled v (Struct ls) (Struct ps) = ap (λ (m : Layouts). Struct m) (grown_settled_all v ls ps)
  grown_settled v (Leaf k c) (ByteRange _ _ _) = refl
  grown_settled v (Leaf k c) (ItemRange _ _ _ _) = refl
  grown_settled v (Leaf k c) (Optional _ _) = refl
  grown_settled v (Leaf k c) (Struct _) = refl
  grown_settled v (ByteRange _ _ _) (Leaf _ _) = refl
  grown_settled v (ByteRange _ _ _) (ItemRange _ _ _ _) = refl
  grown_settled v (ByteRange _ _ _) (Optional _ _) = refl
  grown_settled v (ByteRange _ _ _) (Struct _) = refl
  grown_settled v (ItemRange _ _ _ _) (Leaf _ _) = refl
  grown_settled v (ItemRange _ _ _ _) (ByteRange _ _ _) = refl
  grown_settled v (ItemRange _ _ _ _) (Optional _ _) = refl
  grown_settled v (ItemRange _ _ _ _) (Struct _) = refl
  grown_settled v (Optional _ _) (Leaf _ _) = refl
  grown_settled v (Optional _ _) (ByteRange _ _ _) = refl
  grown_settled v (Optional _ _) (ItemRange _ _ _ _) = refl
  grown_settled v (Optional _ _) (Struct _) = refl
  grown_settled v (Struct _) (Leaf _ _) = refl
  grown_settled v (Struct _) (ByteRange _ _ _) = refl
  grown_settled v (Struct _) (ItemRange _ _ _ _) = refl
  grown_settled v (Struct _) (Optional _ _) = refl

  pub grown_settled_all : (v : Version) (t : AllNoted) (p : AllPuts)
      → layouts_in v (settled_all (grown_all v t p)) ≡ widened_all (layouts_in v (settled_all t)) p
  grown_settled_all v (Field i l ls) (Field j p ps) =
      ap (λ (m : Layout). Field i m (layouts_in v (settled_all (grown_all v ls ps)))) (grown_settled v l p)
      ∙ ap (λ (m : Layouts). Field i (widened (layout_in v (settled l)) p) m) (grown_settled_all v ls ps)
  grown_settled_all v NoField NoField = refl
  grown_settled_all v NoField (Field _ _ _) = refl
  grown_settled_all v (Field _ _ _) NoField = refl

-- the needs of the numbers of two are legal where those of each are
mutual
  pub legal_both : (m : Layout) {p q : Puts} → Beside m p → Beside m q → Legal (widened m (both p q))
      → Legal (widened m p) × Legal (widened m q)
  legal_both (Leaf k c) (leaf {c = xs} h) (leaf {c = ys} g) o = (
    omega (
      arith,
      o,
      with_is c (max (width c) (greatest_need c (xs ++ ys))),
      with_is c
          (max (width c) (greatest_need c xs)),
      need_join c xs ys,
    ),
    omega (
      arith,
      o,
      with_is c (max (width c) (greatest_need c (xs ++ ys))),
      with_is c
          (max (width c) (greatest_need c ys)),
      need_join c xs ys,
    ),
  )
  legal_both (ByteRange t d c) (byte_range {d' = ds} {c' = cs} h i) (byte_range {d' = es} {c' = fs} f g) o = (
    (omega (arith, o.0, digits_join ds es), omega (arith, o.1, digits_join cs fs)),
    (omega (arith, o.0, digits_join ds es), omega (arith, o.1, digits_join cs fs)),
  )
  legal_both (ItemRange a d c l) (item_range {d' = ds} {c' = cs} {m = p} h i x)
      (item_range {d' = es} {c' = fs} {m = q} f g z) o =
      let r = legal_both l x z o.2 in (
        (omega (arith, o.0, digits_join ds es), omega (arith, o.1, digits_join cs fs), r.0),
        (omega (arith, o.0, digits_join ds es), omega (arith, o.1, digits_join cs fs), r.1),
      )
  legal_both (Optional a l) (optional {w' = ds} {m = p} h x) (optional {w' = es} {m = q} f z) o =
      let r = legal_both l x z o.1 in (
        (omega (arith, o.0, digits_join ds es), r.0),
        (omega (arith, o.0, digits_join ds es), r.1),
      )
  legal_both (Struct ls) (struct {ms = ps} x) (struct {ms = qs} z) o = legal_both_all ls x z o

  pub legal_both_all : (m : Layouts) {p q : AllPuts} → AllBeside m p → AllBeside m q
      → AllLegal (widened_all m (both_all p q)) → AllLegal (widened_all m p) × AllLegal (widened_all m q)
  legal_both_all NoField no_field no_field o = (tt, tt)
  legal_both_all (Field i l ls) (field {m = p} {ms = ps} x xs) (field {m = q} {ms = qs} z zs) o =
      let a = legal_both l x z o.0 in
      let b = legal_both_all ls xs zs o.1 in
      ((a.0, b.0), (a.1, b.1))

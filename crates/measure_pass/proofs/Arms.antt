-- What each form of a value comes to.
use Rattle.std.proofs.Common.{◌≡◌, inl, inr, ℕ, zero, suc, ◌+◌, ◌-◌, ◌*◌, ◌^◌, ◌≤◌, ◌<◌, List, [], ◌∷◌, Bool}
use Rattle.std.proofs.Common.{true, false, length, ℤ, max, arith, refl, ap, sym, ◌∙◌, subst}
use mir.Val.{bool_byte}
use Rattle.frozen_model.specs.Bits.{digits, need_unsigned}
use Rattle.frozen_model.specs.Trees.{LeafKind, Flag, Integer, Whole, Leaf, ByteRange}
use Rattle.frozen_model.specs.Trees.{ItemRange, Optional, Struct, nodes, greatest, Part, itself, in_item}
use Rattle.frozen_model.specs.Trees.{in_optional, in_struct, PartAll, in_first, in_later}
use Rattle.frozen_model.specs.Values.{Atom, Truth, Number, Value, Values, One, Bytes, Items, Absent, Present}
use Rattle.frozen_model.specs.Values.{Record, count, Of, one}
use Rattle.frozen_model.specs.Layouts.{Version, Coded, Unsigned, Layout, need, number_of, width, stride}
use Rattle.frozen_model.specs.Layouts.{Legal}
use Rattle.frozen_model.specs.Packing.{extents, bytes_for, distance}
use Rattle.frozen_model.specs.Holding.{puts, puts_each, no_puts, widened}
use Rattle.frozen_laws.specs.Everywhere.{RangeFits}
use Rattle.layout_tree.specs.declared.layouts.Layouts.{Layouts}
use Rattle.layout_tree.specs.Listing.{Noted, AllNoted, coded, layout_in, sub, version_of}
use Rattle.layout_tree.specs.Nodes.{noted_in}
use Rattle.layout_tree.specs.Noting.{noted_at, LeafAt, LeafAmong, wide_at, noting}
use Rattle.layout_tree.specs.Reading.{IsRange, IsHolder, item_of, item_stride}
use Rattle.layout_tree.proofs.Numbers.{item_is}
use Rattle.layout_tree.proofs.Subs.{part_low, part_low_all, part_high}
use Rattle.layout_tree.proofs.Noted.{tip_below}
use Rattle.typed_tree.specs.Parts.{IsPresent}
use Rattle.value_bounds.proofs.Forms.{BytesAt, ItemsAt, absent_at, PresentAt, present_at}
use Rattle.measure_pass.specs.Growing.{grown, Hole, Grew, range_puts, Same, Ready, EachReady, RangeGrew}
use Rattle.measure_pass.specs.Growing.{Visited, EachVisited}
use Rattle.measure_pass.proofs.Grown.{with_is, grown_none}
use Rattle.measure_pass.proofs.Holes.{grew_none, grew_range, grew_optional}
use Rattle.measure_pass.proofs.Stays.{same_self, same_chain, same_version}
use Rattle.typed_tree.proofs.Forms.{AreItems}

-- ---- tips of parts

mutual
  tip_in : {t s : Noted} {i n : ℕ} → Part t i s n → (j k w : ℕ) → n ≡ i + j → LeafAt s k w
      → LeafAt t (j + k) w
  tip_in {s = s} itself zero k w e h = let z : k ≡ 0 + k = omega arith in subst (λ x. LeafAt s x w) z h
  tip_in itself (suc j) k w e h = absurd (omega arith)
  tip_in (in_item p) zero k w e h = absurd (omega (arith, part_low p))
  tip_in (in_item p) (suc zero) k w e h = absurd (omega (arith, part_low p))
  tip_in (in_item p) (suc (suc zero)) k w e h = absurd (omega (arith, part_low p))
  tip_in {t = ItemRange g d c l} (in_item p) (suc (suc (suc j))) k w e h =
      let z : suc (suc (suc (j + k))) ≡ suc (suc (suc j)) + k = omega arith in
      subst (λ x. LeafAt (ItemRange g d c l) x w) z (tip_in p j k w (omega arith) h)
  tip_in (in_optional p) zero k w e h = absurd (omega (arith, part_low p))
  tip_in (in_optional p) (suc zero) k w e h = absurd (omega (arith, part_low p))
  tip_in {t = Optional x l} (in_optional p) (suc (suc j)) k w e h =
      let z : suc (suc (j + k)) ≡ suc (suc j) + k = omega arith in
      subst (λ y. LeafAt (Optional x l) y w) z (tip_in p j k w (omega arith) h)
  tip_in (in_struct p) zero k w e h = absurd (omega (arith, part_low_all p))
  tip_in {t = Struct ls} (in_struct p) (suc j) k w e h =
      let z : suc (j + k) ≡ suc j + k = omega arith in
      subst (λ y. LeafAt (Struct ls) y w) z (tip_among p j k w (omega arith) h)

  tip_among : {ts : AllNoted} {s : Noted} {i n : ℕ} → PartAll ts i s n → (j k w : ℕ) → n ≡ i + j
      → LeafAt s k w → LeafAmong ts (j + k) w
  tip_among {s = s} (in_first p) j k w e h = inl
      (omega (arith, part_high p, tip_below s k w h), tip_in p j k w e h)
  tip_among (in_later {l = l} {ls = ls} p) j k w e h =
      let z : j - nodes l + k ≡ j + k - nodes l = omega (arith, part_low_all p) in
      inr (
        omega (arith, part_low_all p),
        subst (λ y. LeafAmong ls y w) z
            (tip_among p (j - nodes l) k w (omega (arith, part_low_all p)) h),
      )

tip_at : (t : Noted) (n k w m : ℕ) → m ≡ n + k → Part t 0 (sub t n) n → LeafAt (sub t n) k w → LeafAt t m w
tip_at t n k w m e p h = subst (λ x. LeafAt t x w) (sym e) (tip_in p n k w (omega arith) h)

pub leaf_tip : (v : Version) (t : Noted) (n : ℕ) (k : LeafKind) (c : Coded) (w : ℕ) → Part t 0 (sub t n) n
    → layout_in v (sub t n) ≡ Leaf k c → w ≤ greatest k → LeafAt t n w
leaf_tip v t n k c w p e h = tip_at t n 0 w n (omega arith) p (go (sub t n) e)
  where
    go : (s : Noted) → layout_in v s ≡ Leaf k c → LeafAt s 0 w
    go (Leaf j d) e = let ek : j ≡ k = cc in subst (λ z. w ≤ greatest z) (sym ek) h
    go (ByteRange _ _ _) e = absurd cc
    go (ItemRange _ _ _ _) e = absurd cc
    go (Optional _ _) e = absurd cc
    go (Struct _) e = absurd cc

pub distance_tip : (v : Version) (t : Noted) (n w : ℕ) → Part t 0 (sub t n) n
    → IsRange (layout_in v (sub t n)) → w ≤ 32 → LeafAt t (n + 1) w
distance_tip v t n w p i h = tip_at t n 1 w (n + 1) refl p (go (sub t n) i)
  where
    go : (s : Noted) → IsRange (layout_in v s) → LeafAt s 1 w
    go (ByteRange _ _ _) i = h
    go (ItemRange _ _ _ _) i = h
    go (Leaf _ _) i = absurd i
    go (Optional _ _) i = absurd i
    go (Struct _) i = absurd i

pub count_tip : (v : Version) (t : Noted) (n w : ℕ) → Part t 0 (sub t n) n → IsRange (layout_in v (sub t n))
    → w ≤ 32 → LeafAt t (n + 2) w
count_tip v t n w p i h = tip_at t n 2 w (n + 2) refl p (go (sub t n) i)
  where
    go : (s : Noted) → IsRange (layout_in v s) → LeafAt s 2 w
    go (ByteRange _ _ _) i = h
    go (ItemRange _ _ _ _) i = h
    go (Leaf _ _) i = absurd i
    go (Optional _ _) i = absurd i
    go (Struct _) i = absurd i

pub flag_tip : (v : Version) (t : Noted) (n a : ℕ) (m : Layout) → Part t 0 (sub t n) n → layout_in v (sub t n)
    ≡ Optional a m → LeafAt t (n + 1) 1
flag_tip v t n a m p e = tip_at t n 1 1 (n + 1) refl p (go (sub t n) e)
  where
    go : (s : Noted) → layout_in v s ≡ Optional a m → LeafAt s 1 1
    go (Optional _ _) e = omega arith
    go (Leaf _ _) e = absurd cc
    go (ByteRange _ _ _) e = absurd cc
    go (ItemRange _ _ _ _) e = absurd cc
    go (Struct _) e = absurd cc

-- ---- noting in a hole

pub noted_whole : (whole : Noted → Noted) (n : ℕ) → Hole whole n → (old new s : Noted) (k w u m : ℕ) → m ≡ n
    + k → LeafAt s k u → old ≡ whole s → new ≡ noted_at old m (max (wide_at old m) w)
    → new ≡ whole (noted_at s k (max (wide_at s k) w))
noted_whole whole n o old new s k w u m em h eo en =
    en ∙ ap (λ (t : Noted). noted_at t m (max (wide_at t m) w)) eo
    ∙ ap (λ i. noted_at (whole s) i (max (wide_at (whole s) i) w)) em
    ∙ ap (λ z. noted_at (whole s) (n + k) (max z w)) (o.wide s k u h) ∙ o.note s k (max (wide_at s k) w) u h

leaf_grew : (v : Version) (k : LeafKind) (c : Coded) (x : ℤ) (w : ℕ) (old new : Noted) (n : ℕ) → w ≡ need c x
    → w ≤ greatest k → new ≡ noted_at old n (max (wide_at old n) w)
    → Grew v (Leaf k c) (Leaf k (x ∷ [])) old new n
leaf_grew v k c x w old new n ew le en = λ whole o s e eo. go whole o s e eo
  where
    go : (whole : Noted → Noted) → Hole whole n → (s : Noted) → layout_in v s ≡ Leaf k c → old ≡ whole s → new
        ≡ whole (grown v s (Leaf k (x ∷ [])))
    go whole o (Leaf j d) e eo =
        let ek : j ≡ k = cc in
        let ec : coded v j d.base d.bits ≡ c = cc in
        let tip : w ≤ greatest j = subst (λ z. w ≤ greatest z) (sym ek) le in
        let en2 : w ≡ need (coded v j d.base d.bits) x = ew ∙ ap (λ q. need q x) (sym ec) in
        let ez : n ≡ n + 0 = omega arith in
        let em : max d.wide w ≡ max d.wide (max (need (coded v j d.base d.bits) x) 0) = omega (arith, en2) in
        noted_whole whole n o old new (Leaf j d) 0 w w n ez tip eo en ∙ ap (λ z. whole (Leaf j (record {
          base = d.base;
          bits = d.bits;
          wide = z;
        }))) em
    go whole o (ByteRange _ _ _) e eo = absurd cc
    go whole o (ItemRange _ _ _ _) e eo = absurd cc
    go whole o (Optional _ _) e eo = absurd cc
    go whole o (Struct _) e eo = absurd cc

pub range_grew : (v : Version) (l : Layout) (x n at w u : ℕ) (old mid new : Noted) (i : ℕ) → IsRange l → x
    ≡ distance n at → w ≡ need_unsigned x → u ≡ need_unsigned n → w ≤ 32 → u ≤ 32
    → mid ≡ noted_at old (i + 1) (max (wide_at old (i + 1)) w) → new
    ≡ noted_at mid (i + 2) (max (wide_at mid (i + 2)) u) → Grew v l (range_puts l n at) old new i
range_grew v l x n at w u old mid new i r ex ew eu lw lu em en = λ whole o s e eo. go l r whole o s e eo
  where
    a : (y : ℕ) → max y w ≡ max y (max (digits (distance n at)) 0)
    a y = let f : w ≡ digits (distance n at) = ew ∙ ap digits ex in omega (arith, f)

    b : (y : ℕ) → max y u ≡ max y (max (digits n) 0)
    b y = omega (arith, eu)

    go : (l : Layout) → IsRange l → (whole : Noted → Noted) → Hole whole i → (s : Noted) → layout_in v s ≡ l
        → old ≡ whole s → new ≡ whole (grown v s (range_puts l n at))
    go (ByteRange t d c) r whole o (ByteRange q f g) e eo =
        let m = noted_whole whole i o old mid (ByteRange q f g) 1 w w (i + 1) refl lw eo em in
        let f2 = noting f (max f.wide w) in
        let z = noted_whole whole i o mid new (ByteRange q f2 g) 2 u u (i + 2) refl lu m en in
        z ∙ ap (λ y. whole (ByteRange q (noting f y) (noting g (max g.wide u)))) (a f.wide)
        ∙ ap (λ y. whole (ByteRange q (noting f (max f.wide (max (digits (distance n at)) 0)))
        (noting g y))) (b g.wide)
    go (ItemRange h d c k) r whole o (ItemRange q f g s) e eo =
        let m = noted_whole whole i o old mid (ItemRange q f g s) 1 w w (i + 1) refl lw eo em in
        let f2 = noting f (max f.wide w) in
        let z = noted_whole whole i o mid new (ItemRange q f2 g s) 2 u u (i + 2) refl lu m en in
        let es : layout_in v s ≡ k = cc in
        z ∙ ap (λ y. whole (ItemRange q (noting f y) (noting g (max g.wide u)) s)) (a f.wide)
        ∙ ap (λ y. whole (ItemRange q (noting f (max f.wide (max (digits (distance n at)) 0)))
        (noting g y) s)) (b g.wide)
        ∙ ap (λ (y : Noted). whole (ItemRange q (noting f (max f.wide (max (digits (distance n at)) 0)))
        (noting g (max g.wide (max (digits n) 0))) y)) (sym (grown_none v s k es))
    go (ByteRange t d c) r whole o (Leaf _ _) e eo = absurd cc
    go (ByteRange t d c) r whole o (ItemRange _ _ _ _) e eo = absurd cc
    go (ByteRange t d c) r whole o (Optional _ _) e eo = absurd cc
    go (ByteRange t d c) r whole o (Struct _) e eo = absurd cc
    go (ItemRange h d c k) r whole o (Leaf _ _) e eo = absurd cc
    go (ItemRange h d c k) r whole o (ByteRange _ _ _) e eo = absurd cc
    go (ItemRange h d c k) r whole o (Optional _ _) e eo = absurd cc
    go (ItemRange h d c k) r whole o (Struct _) e eo = absurd cc
    go (Leaf _ _) r whole o s e eo = absurd r
    go (Optional _ _) r whole o s e eo = absurd r
    go (Struct _) r whole o s e eo = absurd r

digits_one : digits 1 ≡ 1
unfolding digits
digits_one = refl

flag_grew : (v : Version) (w : ℕ) (m : Layout) (old new : Noted) (n : ℕ) → new
    ≡ noted_at old (n + 1) (max (wide_at old (n + 1)) 1)
    → Grew v (Optional w m) (Optional (1 ∷ []) (no_puts m)) old new n
flag_grew v w m old new n en = λ whole o s e eo. go whole o s e eo
  where
    go : (whole : Noted → Noted) → Hole whole n → (s : Noted) → layout_in v s ≡ Optional w m → old ≡ whole s
        → new ≡ whole (grown v s (Optional (1 ∷ []) (no_puts m)))
    go whole o (Optional x s) e eo =
        let es : layout_in v s ≡ m = cc in
        let one : 1 ≤ 1 = omega arith in
        let em : max x.wide 1 ≡ max x.wide (max (digits 1) 0) = omega (arith, digits_one) in
        noted_whole whole n o old new (Optional x s) 1 1 1 (n + 1) refl one eo en
        ∙ ap (λ z. whole (Optional (noting x z) s)) em
        ∙ ap (λ (z : Noted). whole (Optional (noting x (max x.wide (max (digits 1) 0))) z))
        (sym (grown_none v s m es))
    go whole o (Leaf _ _) e eo = absurd cc
    go whole o (ByteRange _ _ _) e eo = absurd cc
    go whole o (ItemRange _ _ _ _) e eo = absurd cc
    go whole o (Struct _) e eo = absurd cc

-- ---- leaves

pub record AtomAt (l : Layout) (x : Atom) : Type 0 where
  pub kind : LeafKind
  pub code : Coded
  pub is : l ≡ Leaf kind code
  pub fits : need code (number_of x) ≤ greatest kind

pub leaf_at : (l : Layout) (u : Value) (x : Atom) (from : ℕ) → u ≡ One x → Ready l u from → AtomAt l x
leaf_at l u x from e r = go l (subst (Of l) e r.form)
    (subst (λ y. Legal (widened l (puts l y from))) e r.legal)
  where
    go : (l : Layout) → Of l (One x) → Legal (widened l (puts l (One x) from)) → AtomAt l x
    go (Leaf k c) o h = record {
      kind = k;
      code = c;
      is = refl;
      fits = omega (arith, h, with_is c (max (width c) (max (need c (number_of x)) 0)));
    }
    go (ByteRange t d c) o h = elim o [ ]
    go (ItemRange g d c l) o h = elim o [ ]
    go (Optional w l) o h = elim o [ ]
    go (Struct ls) o h = elim o [ ]

-- what the code of a flag is
pub flag_needs : (v : Version) (s : Noted) (k : LeafKind) (c : Coded) (b : Bool) → layout_in v s ≡ Leaf k c
    → Of (layout_in v s) (One (Truth b)) → need_unsigned (bool_byte b) ≡ need c (number_of (Truth b))
flag_needs v (Leaf Flag d) k c b e o = let ec : Unsigned d.bits ≡ c = cc in same b
    ∙ ap (λ q. need q (number_of (Truth b))) ec
  where
    same : (b : Bool) → need_unsigned (bool_byte b) ≡ need (Unsigned d.bits) (number_of (Truth b))
    same true = refl
    same false = refl
flag_needs v (Leaf (Integer j) d) k c b e (one o) = absurd o
flag_needs v (ByteRange _ _ _) k c b e o = absurd cc
flag_needs v (ItemRange _ _ _ _) k c b e o = absurd cc
flag_needs v (Optional _ _) k c b e o = absurd cc
flag_needs v (Struct _) k c b e o = absurd cc

pub record IntegerAt (l : Layout) (z : ℤ) : Type 0 where
  pub kind : Whole
  pub code : Coded
  pub is : l ≡ Leaf (Integer kind) code
  pub fits : need code z ≤ greatest (Integer kind)

pub integer_at : (l : Layout) (u : Value) (z : ℤ) (from : ℕ) → u ≡ One (Number z) → Ready l u from
    → IntegerAt l z
integer_at l u z from e r = go l (subst (Of l) e r.form)
    (subst (λ y. Legal (widened l (puts l y from))) e r.legal)
  where
    go : (l : Layout) → Of l (One (Number z)) → Legal (widened l (puts l (One (Number z)) from))
        → IntegerAt l z
    go (Leaf (Integer k) c) o h = record {
      kind = k;
      code = c;
      is = refl;
      fits = omega (arith, h, with_is c (max (width c) (max (need c z) 0)));
    }
    go (Leaf Flag c) (one o) h = absurd o
    go (ByteRange t d c) o h = elim o [ ]
    go (ItemRange g d c l) o h = elim o [ ]
    go (Optional w l) o h = elim o [ ]
    go (Struct ls) o h = elim o [ ]

pub visited_leaf : (l : Layout) (u : Value) (k : LeafKind) (c : Coded) (x : Atom) (w : ℕ) (old new : Layouts)
    (n from : ℕ) → l ≡ Leaf k c → u ≡ One x → w ≡ need c (number_of x) → w ≤ greatest k
    → noted_in new ≡ noted_at (noted_in old) n (max (wide_at (noted_in old) n) w) → Same old new
    → Visited l u old new n from from
visited_leaf l u k c x w old new n from el eu ew le en s =
    subst (λ (y : Layout). Visited y u old new n from from) (sym el)
    (subst (λ (y : Value). Visited (Leaf k c) y old new n from from) (sym eu)
    (record {
      same = s;
      grew = leaf_grew (version_of old.version) k c (number_of x) w (noted_in old) (noted_in new) n ew le en;
      ends = omega arith;
    }))

-- ---- optionals

pub visited_absent : (l : Layout) (u : Value) (old : Layouts) (n from : ℕ) → u ≡ Absent → Of l u
    → Visited l u old old n from from
visited_absent l u old n from e o =
    let k = absent_at l u e o in
    subst (λ (z : Layout). Visited z u old old n from from) (sym k.is)
    (subst (λ (y : Value). Visited (Optional k.width k.inner) y old old n from from) (sym e)
    (record {
      same = same_self old;
      grew = grew_none (version_of old.version) (Optional k.width k.inner) (noted_in old) n;
      ends = omega arith;
    }))

-- the layout and the value of a part, as the form that they have
ready_as : (l m : Layout) (u x : Value) (from : ℕ) → l ≡ m → u ≡ x → Ready l u from → Ready m x from
ready_as l m u x from el eu r = subst (λ y. Ready m y from) eu (subst (λ (z : Layout). Ready z u from) el r)

pub inner_ready : (l : Layout) (u x : Value) (from : ℕ) (p : PresentAt l x) → u ≡ Present x → Ready l u from
    → Ready p.inner x from
inner_ready l u x from p e r =
    let h = ready_as l (Optional p.width p.inner) u (Present x) from p.is e r in
    record { form = p.form; legal = h.legal.1; small = h.small }

pub visited_present : (l : Layout) (u x : Value) (w : ℕ) (m : Layout) (old mid new : Layouts)
    (n from next : ℕ) → l ≡ Optional w m → u ≡ Present x
    → noted_in mid ≡ noted_at (noted_in old) (n + 1) (max (wide_at (noted_in old) (n + 1)) 1) → Same old mid
    → Visited m x mid new (n + 2) from next → Visited l u old new n from next
visited_present l u x w m old mid new n from next el eu en s r =
    let ev : version_of mid.version ≡ version_of old.version = same_version s in
    let second = subst (λ v. Grew v m (puts m x from) (noted_in mid) (noted_in new) (n + 2)) ev r.grew in
    let first = flag_grew (version_of old.version) w m (noted_in old) (noted_in mid) n en in
    subst (λ (y : Layout). Visited y u old new n from next) (sym el)
    (subst (λ (y : Value). Visited (Optional w m) y old new n from next) (sym eu)
    (record {
      same = same_chain s r.same;
      grew = grew_optional (version_of old.version) w m (1 ∷ []) (puts m x from) (noted_in old) (noted_in mid)
          (noted_in new) n first second;
      ends = r.ends;
    }))

-- ---- texts and bytes

pub bytes_range : (l : Layout) (bs : List ℕ) → BytesAt l bs → IsRange l
bytes_range l bs k = subst (λ (y : Layout). IsRange y) (sym k.is) tt

pub bytes_fit : (l : Layout) (u : Value) (bs : List ℕ) (from : ℕ) → BytesAt l bs → u ≡ Bytes bs
    → Ready l u from → RangeFits 32 32 (length bs) from
bytes_fit l u bs from k e r =
    let h = ready_as l (ByteRange k.t k.d k.c) u (Bytes bs) from k.is e r in
    (omega (arith, h.legal.0), omega (arith, h.legal.1))

pub visited_bytes : (l : Layout) (u : Value) (bs : List ℕ) (old new : Layouts) (n from k : ℕ) → u ≡ Bytes bs
    → BytesAt l bs → k ≡ length bs → RangeGrew l k from old new n → Visited l u old new n from (from + k)
visited_bytes l u bs old new n from k e b ek g =
    let g2 = subst (λ z. RangeGrew l z from old new n) ek g in
    let g3 = subst (λ (y : Layout). RangeGrew y (length bs) from old new n) b.is g2 in
    subst (λ (y : Layout). Visited y u old new n from (from + k)) (sym b.is)
    (subst (λ (y : Value). Visited (ByteRange b.t b.d b.c) y old new n from (from + k)) (sym e)
    (record { same = g.same; grew = g3.grew; ends = ap (λ z. from + z) ek }))

-- ---- lists, sets and maps

pub items_range : (l : Layout) (vs : Values) → ItemsAt l vs → IsRange l × IsHolder l
items_range l vs k = subst (λ (y : Layout). IsRange y × IsHolder y) (sym k.is) (tt, tt)

pub items_fit : (l : Layout) (u : Value) (vs : Values) (from : ℕ) → ItemsAt l vs → AreItems u vs
    → Ready l u from → RangeFits 32 32 (count vs) from
items_fit l u vs from k e r =
    let h = ready_as l (ItemRange k.h k.d k.c k.item) u (Items e.holder vs) from k.is e.is r in
    (omega (arith, h.legal.0), omega (arith, h.legal.1))

pub items_small : (l : Layout) (u : Value) (vs : Values) (from : ℕ) (k : ItemsAt l vs) → AreItems u vs
    → Ready l u from → from + (bytes_for (count vs * stride k.item) + extents k.item vs) < 2 ^ 32
items_small l u vs from k e r =
    (ready_as l (ItemRange k.h k.d k.c k.item) u (Items e.holder vs) from k.is e.is r).small

pub items_ready : (l : Layout) (u : Value) (vs : Values) (from block : ℕ) → ItemsAt l vs → AreItems u vs
    → Ready l u from → block ≡ bytes_for (count vs * stride (item_of l)) → EachReady (item_of l) vs block
items_ready l u vs from block k e r eb =
    let i : item_of l ≡ k.item = ap item_of k.is in
    let h = ready_as l (ItemRange k.h k.d k.c k.item) u (Items e.holder vs) from k.is e.is r in
    let full = bytes_for (count vs * stride k.item) in
    let ready : EachReady k.item vs full = record {
      form = k.form;
      legal = h.legal.2;
      small = omega (arith, items_small l u vs from k e r);
    } in
    subst (λ z. EachReady (item_of l) vs z) (sym eb)
    (subst (λ (y : Layout). EachReady y vs (bytes_for (count vs * stride y))) (sym i) ready)

pub visited_items : (l : Layout) (u : Value) (vs : Values) (old mid new : Layouts) (n from k block next : ℕ)
    → AreItems u vs → ItemsAt l vs → k ≡ count vs → block ≡ bytes_for (count vs * stride (item_of l))
    → RangeGrew l k from old mid n → EachVisited (item_of l) vs mid new (n + 3) block next
    → Visited l u old new n from (from + next)
visited_items l u vs old mid new n from k block next e b ek eb g r =
    let i : item_of l ≡ b.item = ap item_of b.is in
    let full = bytes_for (count vs * stride b.item) in
    let eb2 : block ≡ full = eb ∙ ap (λ (y : Layout). bytes_for (count vs * stride y)) i in
    let g2 = subst (λ z. RangeGrew l z from old mid n) ek g in
    let g3 = subst (λ (y : Layout). RangeGrew y (count vs) from old mid n) b.is g2 in
    let r2 = subst (λ (y : Layout). EachVisited y vs mid new (n + 3) block next) i r in
    let r3 = subst (λ z. EachVisited b.item vs mid new (n + 3) z next) eb2 r2 in
    let ev : version_of mid.version ≡ version_of old.version = same_version g.same in
    let second = subst (λ v. Grew v b.item (puts_each b.item vs full) (noted_in mid) (noted_in new) (n + 3))
    ev r3.grew in
    subst (λ (y : Layout). Visited y u old new n from (from + next)) (sym b.is)
    (subst (λ (y : Value). Visited (ItemRange b.h b.d b.c b.item) y old new n from (from + next))
    (sym e.is)
    (record {
      same = same_chain g.same r.same;
      grew = grew_range (version_of old.version) b.h b.d b.c b.item (distance (count vs) from ∷ [])
          (count vs ∷ []) (puts_each b.item vs full) (noted_in old) (noted_in mid) (noted_in new) n g3.grew
          second;
      ends = ap (λ z. from + z) r3.ends;
    }))

pub items_end_at : (l : Layout) (u : Value) (vs : Values) (from block next : ℕ) (mid new : Layouts) (n : ℕ)
    → ItemsAt l vs → AreItems u vs → Ready l u from → block ≡ bytes_for (count vs * stride (item_of l))
    → EachVisited (item_of l) vs mid new n block next → from + next < 2 ^ 32
items_end_at l u vs from block next mid new n k e r eb v =
    let i : item_of l ≡ k.item = ap item_of k.is in
    let eb2 : block ≡ bytes_for (count vs * stride k.item) = eb
    ∙ ap (λ (y : Layout). bytes_for (count vs * stride y)) i in
    omega (arith, items_small l u vs from k e r, v.ends, eb2, ap (λ (y : Layout). extents y vs) i)

pub distance_none : (n at x : ℕ) → n ≡ 0 → x ≡ 0 → x ≡ distance n at
distance_none zero at x e h = h
distance_none (suc n) at x e h = absurd (omega arith)

pub distance_some : (n at x : ℕ) → (n ≡ 0 → ⊥) → x ≡ at → x ≡ distance n at
distance_some zero at x e h = absurd (e refl)
distance_some (suc n) at x e h = h

pub flag_here : (l : Layouts) (n : ℕ) (u : Value) (from : ℕ) → Part (noted_in l) 0 (sub (noted_in l) n) n
    → IsPresent u → Ready (layout_in (version_of l.version) (sub (noted_in l) n)) u from
    → LeafAt (noted_in l) (n + 1) 1
flag_here l n u from node h r = go u h r
  where
    v : Version
    v = version_of l.version

    go : (u : Value) → IsPresent u → Ready (layout_in v (sub (noted_in l) n)) u from
        → LeafAt (noted_in l) (n + 1) 1
    go (Present x) h r = let p = present_at (layout_in v (sub (noted_in l) n)) (Present x) x refl r.form in
        flag_tip v (noted_in l) n p.width p.inner node p.is
    go (One x) h r = absurd h
    go (Bytes x) h r = absurd h
    go (Items g x) h r = absurd h
    go Absent h r = absurd h
    go (Record ids x) h r = absurd h

-- the block of a list, set or map
pub block_is : (x a : Layout) (vs : Values) (n len : ℕ) → x ≡ a → IsHolder a → len
    ≡ bytes_for (n * item_stride x) → n ≡ count vs
    → len ≡ bytes_for (count vs * stride (item_of a))
block_is x a vs n len e h el en =
    el ∙ ap (λ z. bytes_for (z * item_stride x)) en
    ∙ ap (λ (y : Layout). bytes_for (count vs * item_stride y)) e
    ∙ ap (λ z. bytes_for (count vs * z)) (sym (item_is a h))

-- The walk over fields and items, without values.
use Rattle.std.proofs.Common.{◌≡◌, ℕ, zero, suc, ◌+◌, ◌*◌, ◌^◌, ◌≤◌, ◌<◌, List, length, true, false, cond}
use Rattle.std.proofs.Common.{nat_eq, arith, refl, ap, sym, ◌∙◌, subst, Option, Some, None, Result, Ok, Err}
use Rattle.std.proofs.lemmas.Bool.Decides.{nat_tests}
use Rattle.frozen_model.specs.Bits.{field}
use Rattle.std.proofs.Common.{ℤ}
use Rattle.frozen_model.specs.Trees.{Flag, Integer, Holder, AList, ASet, AMap, Leaf, ByteRange, ItemRange}
use Rattle.frozen_model.specs.Trees.{Optional, Struct, NoField, Field, ids_of}
use Rattle.frozen_model.specs.Values.{Value, One, Items, Present, Absent, Record, And, key_of, bound}
use Rattle.frozen_model.specs.Values.{cell_limit, inline_cells}
use Rattle.frozen_model.specs.Layouts.{Version, Layout, width, stride, strides, meaning, in_range, atom_of}
use Rattle.frozen_model.specs.Walk.{Dirty, OutOfRange, Walked, and_then, first_dirty, require_zero, range_at}
use Rattle.frozen_model.specs.Walk.{items_at, in_order, walk, walk_all, walk_each}
use Rattle.layout_tree.specs.Listing.{Noted, AllNoted, layout_in, layouts_in}
use Rattle.layout_tree.specs.Reading.{IsLeaf, distance_width, count_width, item_of}
use Rattle.content_check.specs.declared.fault.ContentFault.{ContentFault}
use Rattle.content_check.specs.declared.reach.Reach.{Reach}
use Rattle.content_check.specs.Agreeing.{fault_of, counted, without_value, IsAhead, Agrees, IsHere}
use Rattle.content_check.specs.Steps.{goes_on, IsList, BlockTaken, BlockLies, IsZeroOrDirty, IsNumberAt}
use Rattle.content_check.specs.Agreeing.{IsBlockHere}
use Rattle.content_check.proofs.Steps.{ok_step, err_step, without_value_map, pass, fail, next_of, cells_of}

-- what an Ok answer says of the walk
pub record Walks {V : Type 0} (w : Walked V) (r : Reach) : Type 0 where
  pub is : V × ℕ × ℕ
  pub ok : w ≡ Ok is
  pub next : is.1 ≡ r.next
  pub cells : is.2 ≡ r.cells

pub walks : {V : Type 0} (w : Walked V) (n c : ℕ) → without_value w ≡ Ok (n, c) → Walks w (record {
  next = n;
  cells = c;
})
walks (Ok x) n c e = record { is = x; ok = refl; next = ap next_of e; cells = ap cells_of e }
walks (Err d) n c e = absurd cc

-- ---- fields

pub record FieldsRest (bs : List ℕ) (v : Version) (l : Layout) (start bit : ℕ) (from : Reach) (place : ℕ)
    (reach : Reach) (fs : AllNoted) : Type 0 where
  pub rest : without_value (walk_all bs (layouts_in v fs) start None place reach.next reach.cells)
      ≡ without_value (walk bs l start None bit from.next from.cells)
  pub inside : place + strides (layouts_in v fs) ≤ 8 * length bs
  pub past : from.next ≤ reach.next
  pub within : reach.next ≤ length bs
  pub few : reach.cells ≤ cell_limit
  pub small : length bs < 2 ^ 56

pub fields_start : (bs : List ℕ) (v : Version) (l : Layout) (start bit : ℕ) (from : Reach) (fs : AllNoted) → l
    ≡ Struct (layouts_in v fs) → IsHere bs l start bit from → FieldsRest bs v l start bit from bit from fs
fields_start bs v l start bit from fs e h =
    let ls = layouts_in v fs in
    record {
      rest = sym (ap (λ (m : Layout). without_value (walk bs m start None bit from.next from.cells)) e
          ∙ without_value_map (walk_all bs ls start None bit from.next from.cells) (Record (ids_of ls)));
      inside = omega (arith, h.inside, ap stride e);
      past = omega arith;
      within = h.within;
      few = h.few;
      small = h.small;
    }

pub fields_ok : (bs : List ℕ) (v : Version) (l : Layout) (start bit : ℕ) (from : Reach) (place : ℕ)
    (reach after : Reach) (id : ℕ) (f : Noted) (fs : AllNoted) (place2 : ℕ)
    → FieldsRest bs v l start bit from place reach (Field id f fs)
    → Agrees bs (walk bs (layout_in v f) start None place reach.next reach.cells) reach (Ok after) → place2
    ≡ place + stride (layout_in v f)
    → FieldsRest bs v l start bit from place2 after fs
fields_ok bs v l start bit from place reach after id f fs place2 h r e =
    let m = layout_in v f in
    let ls = layouts_in v fs in
    let step = ok_step (walk bs m start None place reach.next reach.cells)
    (λ x. and_then (walk_all bs ls start None (place + stride m) x.1 x.2)
    (λ y. Ok (And x.0 y.0, y.1, y.2))) after.next after.cells
    (without_value (walk_all bs ls start None place2 after.next after.cells)) (sym r.same)
    (λ x ex en ec. without_value_map (walk_all bs ls start None (place + stride m) x.1 x.2) (And x.0)
    ∙ ap (λ p. without_value (walk_all bs ls start None p x.1 x.2)) (sym e)
    ∙ ap (λ n. without_value (walk_all bs ls start None place2 n x.2)) en
    ∙ ap (λ n. without_value (walk_all bs ls start None place2 after.next n)) ec) in
    record {
      rest = sym step ∙ h.rest;
      inside = omega (arith, h.inside, e);
      past = omega (arith, h.past, r.ahead.0);
      within = r.ahead.1;
      few = r.ahead.2;
      small = h.small;
    }

pub fields_err : (bs : List ℕ) (v : Version) (l : Layout) (start bit : ℕ) (from : Reach) (place : ℕ)
    (reach : Reach) (fault : ContentFault) (id : ℕ) (f : Noted) (fs : AllNoted)
    → FieldsRest bs v l start bit from place reach (Field id f fs)
    → Agrees bs (walk bs (layout_in v f) start None place reach.next reach.cells) reach (Err fault)
    → Agrees bs (walk bs l start None bit from.next from.cells) from (Err fault)
fields_err bs v l start bit from place reach fault id f fs h r =
    let m = layout_in v f in
    let ls = layouts_in v fs in
    record {
      same = sym (err_step (walk bs m start None place reach.next reach.cells)
          (λ x. and_then (walk_all bs ls start None (place + stride m) x.1 x.2)
          (λ y. Ok (And x.0 y.0, y.1, y.2))) (fault_of fault) (sym r.same)) ∙ h.rest;
      ahead = tt;
    }

pub fields_done : (bs : List ℕ) (v : Version) (l : Layout) (start bit : ℕ) (from : Reach) (place : ℕ)
    (reach : Reach) → FieldsRest bs v l start bit from place reach NoField
    → Agrees bs (walk bs l start None bit from.next from.cells) from (Ok reach)
fields_done bs v l start bit from place reach h = record { same = h.rest; ahead = (h.past, h.within, h.few) }

pub fields_here : (bs : List ℕ) (v : Version) (l : Layout) (start bit : ℕ) (from : Reach) (place : ℕ)
    (reach : Reach) (id : ℕ) (f : Noted) (fs : AllNoted) → start ≤ from.next
    → FieldsRest bs v l start bit from place reach (Field id f fs)
    → IsHere bs (layout_in v f) start place reach
fields_here bs v l start bit from place reach id f fs p h = record {
  inside = omega (arith, h.inside);
  past = omega (arith, h.past);
  within = h.within;
  few = h.few;
  small = h.small;
}

-- ---- items, of which k are left

pub record EachLeft (bs : List ℕ) (h : Holder) (m : Layout) (start n : ℕ) (from : Reach) (key : Option Value)
    (k bit : ℕ) (reach : Reach) : Type 0 where
  pub rest : without_value (walk_each h (walk bs m start) (stride m) key k bit reach.next reach.cells)
      ≡ without_value (walk_each h (walk bs m start) (stride m) None n (8 * start) from.next from.cells)
  pub inside : bit + k * stride m ≤ 8 * length bs
  pub past : from.next ≤ reach.next
  pub within : reach.next ≤ length bs
  pub few : reach.cells ≤ cell_limit
  pub small : length bs < 2 ^ 56
  pub before : start ≤ from.next

pub each_start : (bs : List ℕ) (h : Holder) (m : Layout) (start n : ℕ) (from : Reach) (k : ℕ) → k ≡ n
    → IsBlockHere bs m n start from → EachLeft bs h m start n from None k (8 * start) from
each_start bs h m start n from k e b = record {
  rest = ap (λ j. without_value (walk_each h (walk bs m start) (stride m) None j (8 * start) from.next
      from.cells)) e;
  inside = omega (arith, b.inside, ap (λ j. j * stride m) e);
  past = omega arith;
  within = b.within;
  few = b.few;
  small = b.small;
  before = b.past;
}

pub each_here : (bs : List ℕ) (h : Holder) (m : Layout) (start n : ℕ) (from : Reach) (key : Option Value)
    (k bit : ℕ) (reach : Reach) → 1 ≤ k → EachLeft bs h m start n from key k bit reach
    → IsHere bs m start bit reach
each_here bs h m start n from key zero bit reach p l = absurd (omega arith)
each_here bs h m start n from key (suc k) bit reach p l = record {
  inside = omega (arith, l.inside);
  past = omega (arith, l.past, l.before);
  within = l.within;
  few = l.few;
  small = l.small;
}

pub each_ok : (bs : List ℕ) (h : Holder) (m : Layout) (start n : ℕ) (from : Reach) (key : Option Value)
    (k bit : ℕ) (reach after : Reach) (j bit2 : ℕ) → EachLeft bs h m start n from key k bit reach → k ≡ suc j
    → Agrees bs (walk bs m start (bound h key) bit reach.next reach.cells) reach (Ok after)
    → (w : Walks (walk bs m start (bound h key) bit reach.next reach.cells) after) → bit2 ≡ bit + stride m
    → EachLeft bs h m start n from (Some (key_of w.is.0)) j bit2 after
each_ok bs h m start n from key k bit reach after j bit2 l ek r w e =
    let x = w.is in
    let go = λ (y : Value × ℕ × ℕ). and_then
    (walk_each h (walk bs m start) (stride m) (Some (key_of y.0)) j (bit + stride m) y.1 y.2)
    (λ z. Ok (And y.0 z.0, z.1, z.2)) in
    let whole = walk_each h (walk bs m start) (stride m) in
    let first : without_value (whole key (suc j) bit reach.next reach.cells)
    ≡ without_value (go x) = ap (λ q. without_value (and_then q go)) w.ok in
    let second : without_value (go x)
    ≡ without_value (whole (Some (key_of x.0)) j bit2 after.next after.cells) =
    without_value_map (whole (Some (key_of x.0)) j (bit + stride m) x.1 x.2) (And x.0)
    ∙ ap (λ p. without_value (whole (Some (key_of x.0)) j p x.1 x.2)) (sym e)
    ∙ ap (λ p. without_value (whole (Some (key_of x.0)) j bit2 p x.2)) w.next
    ∙ ap (λ p. without_value (whole (Some (key_of x.0)) j bit2 after.next p)) w.cells in
    record {
      rest = sym second ∙ sym first ∙ ap (λ q. without_value (whole key q bit reach.next reach.cells))
          (sym ek) ∙ l.rest;
      inside = omega (arith, l.inside, ap (λ q. q * stride m) ek, e);
      past = omega (arith, l.past, r.ahead.0);
      within = r.ahead.1;
      few = r.ahead.2;
      small = l.small;
      before = l.before;
    }

pub each_err : (bs : List ℕ) (h : Holder) (m : Layout) (start n : ℕ) (from : Reach) (key : Option Value)
    (k bit : ℕ) (reach : Reach) (fault : ContentFault) → EachLeft bs h m start n from key k bit reach → 1 ≤ k
    → Agrees bs (walk bs m start (bound h key) bit reach.next reach.cells) reach (Err fault)
    → Agrees bs (walk_each h (walk bs m start) (stride m) None n (8 * start) from.next from.cells) from
    (Err fault)
each_err bs h m start n from key zero bit reach fault l p r = absurd (omega arith)
each_err bs h m start n from key (suc j) bit reach fault l p r = record {
  same = sym (err_step (walk bs m start (bound h key) bit reach.next reach.cells)
      (λ (y : Value × ℕ × ℕ). and_then (walk_each h (walk bs m start) (stride m) (Some (key_of y.0)) j
      (bit + stride m) y.1 y.2) (λ z. Ok (And y.0 z.0, z.1, z.2))) (fault_of fault) (sym r.same)) ∙ l.rest;
  ahead = tt;
}

pub each_done : (bs : List ℕ) (h : Holder) (m : Layout) (start n : ℕ) (from : Reach) (key : Option Value)
    (k bit : ℕ) (reach : Reach) → EachLeft bs h m start n from key k bit reach → k ≡ 0
    → Agrees bs (walk_each h (walk bs m start) (stride m) None n (8 * start) from.next from.cells) from
    (Ok reach)
each_done bs h m start n from key k bit reach l e = record {
  same = ap (λ q. without_value (walk_each h (walk bs m start) (stride m) key q bit reach.next reach.cells))
      (sym e) ∙ l.rest;
  ahead = (l.past, l.within, l.few);
}

-- of a list
abbrev pub ListLeft : List ℕ → Layout → ℕ → ℕ → Reach → ℕ → ℕ → Reach → Type 0
ListLeft bs m start n from k bit reach = (key : Option Value)
    × EachLeft bs AList m start n from key k bit reach

-- ---- optionals

pub present_agrees : (bs : List ℕ) (l : Layout) (w : ℕ) (m : Layout) (start bit bit2 : ℕ) (at : Reach)
    {r : Result Reach ContentFault} → l ≡ Optional w m → field bs bit w ≡ 1 → bit2 ≡ bit + w
    → Agrees bs (walk bs m start None bit2 at.next at.cells) at r
    → Agrees bs (walk bs l start None bit at.next at.cells) at r
present_agrees bs l w m start bit bit2 at {r} e f eb h =
    let t : nat_eq (field bs bit w) 1 ≡ true = grind (arith, nat_tests) in
    let inner = and_then (walk bs m start None (bit + w) at.next at.cells)
    (λ x. Ok (Present x.0, x.1, x.2)) in
    let other = require_zero bs (stride m) (bit + w) (Ok (Absent, at.next, at.cells)) in
    let one = ap (λ b. without_value (walk bs m start None b at.next at.cells)) eb in
    let two = without_value_map (walk bs m start None (bit + w) at.next at.cells) Present in
    let three = ap (λ b. without_value (cond b inner other)) t in
    subst (λ (z : Layout). Agrees bs (walk bs z start None bit at.next at.cells) at r) (sym e) (record {
      same = h.same ∙ one ∙ sym two ∙ sym three;
      ahead = h.ahead;
    })

pub absent_agrees : (bs : List ℕ) (l : Layout) (w : ℕ) (m : Layout) (start bit bit2 n : ℕ) (at : Reach) → l
    ≡ Optional w m → (field bs bit w ≡ 1 → ⊥) → bit2 ≡ bit + w → n ≡ stride m → at.next ≤ length bs → at.cells
    ≤ cell_limit
    → field bs bit2 n ≡ 0 → Agrees bs (walk bs l start None bit at.next at.cells) at (Ok at)
absent_agrees bs l w m start bit bit2 n at e f eb en within few z =
    let t : nat_eq (field bs bit w) 1 ≡ false = grind (arith, nat_tests) in
    let z2 : field bs (bit + w) (stride m) ≡ 0 = ap (λ b. field bs b (stride m)) (sym eb)
    ∙ ap (field bs bit2) (sym en) ∙ z in
    let u : nat_eq (field bs (bit + w) (stride m)) 0 ≡ true = grind (arith, nat_tests) in
    let inner = and_then (walk bs m start None (bit + w) at.next at.cells)
    (λ x. Ok (Present x.0, x.1, x.2)) in
    let other = require_zero bs (stride m) (bit + w) (Ok (Absent, at.next, at.cells)) in
    let three = ap (λ b. without_value (cond b inner other)) t in
    let four = ap without_value (pass (nat_eq (field bs (bit + w) (stride m)) 0)
    (Dirty (first_dirty bs (stride m) (bit + w))) (Ok (Absent, at.next, at.cells)) u) in
    subst (λ (y : Layout). Agrees bs (walk bs y start None bit at.next at.cells) at (Ok at)) (sym e) (record {
      same = sym four ∙ sym three;
      ahead = (omega arith, within, few);
    })

pub dirty_agrees : (bs : List ℕ) (l : Layout) (w : ℕ) (m : Layout) (start bit bit2 n : ℕ) (at : Reach)
    (fault : ContentFault) → l ≡ Optional w m → (field bs bit w ≡ 1 → ⊥) → bit2 ≡ bit + w → n ≡ stride m
    → IsZeroOrDirty bs bit2 n (Err fault)
    → Agrees bs (walk bs l start None bit at.next at.cells) at (Err fault)
dirty_agrees bs l w m start bit bit2 n at fault e f eb en z =
    let t : nat_eq (field bs bit w) 1 ≡ false = grind (arith, nat_tests) in
    let same : field bs bit2 n ≡ field bs (bit + w) (stride m) = ap (λ b. field bs b n) eb
    ∙ ap (field bs (bit + w)) en in
    let ne = λ (q : field bs (bit + w) (stride m) ≡ 0). z.0 (same ∙ q) in
    let u : nat_eq (field bs (bit + w) (stride m)) 0 ≡ false = grind (arith, nat_tests) in
    let inner = and_then (walk bs m start None (bit + w) at.next at.cells)
    (λ x. Ok (Present x.0, x.1, x.2)) in
    let other = require_zero bs (stride m) (bit + w) (Ok (Absent, at.next, at.cells)) in
    let three = ap (λ b. without_value (cond b inner other)) t in
    let four = ap without_value (fail (nat_eq (field bs (bit + w) (stride m)) 0)
    (Dirty (first_dirty bs (stride m) (bit + w))) (Ok (Absent, at.next, at.cells)) u) in
    let what = z.1 ∙ ap (λ b. Dirty (first_dirty bs n b)) eb
    ∙ ap (λ k. Dirty (first_dirty bs k (bit + w))) en in
    subst (λ (y : Layout). Agrees bs (walk bs y start None bit at.next at.cells) at (Err fault)) (sym e)
    (record {
      same = ap (λ d. Err d) what ∙ sym four ∙ sym three;
      ahead = tt;
    })

-- ---- leaves

pub number_agrees : (bs : List ℕ) (l : Layout) (start bit : ℕ) (at : Reach) (x : ℤ) → IsLeaf l
    → IsNumberAt bs l bit (Some x) → IsHere bs l start bit at
    → Agrees bs (walk bs l start None bit at.next at.cells) at (Ok at)
number_agrees bs (Leaf Flag c) start bit at x h r i = record {
  same = refl;
  ahead = (omega arith, i.within, i.few);
}
number_agrees bs (Leaf (Integer k) c) start bit at x h r i =
    let z = meaning c (field bs bit (width c)) in
    let q = r k c refl in
    let t : in_range (Integer k) z ≡ true = ap (in_range (Integer k)) (sym q.0) ∙ q.1 in
    record {
      same = sym (ap without_value (pass (in_range (Integer k) z) (OutOfRange bit)
          (in_order None bit (One (atom_of (Integer k) z), at.next, at.cells)) t));
      ahead = (omega arith, i.within, i.few);
    }
number_agrees bs (ByteRange t d c) start bit at x h r i = absurd h
number_agrees bs (ItemRange g d c m) start bit at x h r i = absurd h
number_agrees bs (Optional w m) start bit at x h r i = absurd h
number_agrees bs (Struct ls) start bit at x h r i = absurd h

-- ---- ranges

pub record RangeAt (h : Holder) (l : Layout) : Type 0 where
  pub distance : ℕ
  pub count : ℕ
  pub is : l ≡ ItemRange h distance count (item_of l)

pub list_at : (l : Layout) → IsList l → RangeAt AList l
list_at (ItemRange AList d c m) h = record { distance = d; count = c; is = refl }
list_at (ItemRange ASet d c m) h = absurd h
list_at (ItemRange AMap d c m) h = absurd h
list_at (Leaf k c) h = absurd h
list_at (ByteRange k d c) h = absurd h
list_at (Optional w m) h = absurd h
list_at (Struct ls) h = absurd h

-- what the walk gives at a range, from its count
pub range_is : (bs : List ℕ) (h : Holder) (l : Layout) (start bit : ℕ) (at : Reach)
    (q : Result ℕ ContentFault) → RangeAt h l
    → ((go : ℕ → Walked Value) → range_at bs (distance_width l) (count_width l) start bit at.next go
    ≡ goes_on q go)
    → walk bs l start None bit at.next at.cells
    ≡ goes_on q (items_at bs h (walk bs (item_of l) at.next) (stride (item_of l))
    (suc (inline_cells (item_of l))) at.next at.cells)
range_is bs h l start bit at q r e = go l r.is e (item_of l) r.is
  where
    go : (l : Layout) → l ≡ ItemRange h r.distance r.count (item_of l)
        → ((go : ℕ → Walked Value) → range_at bs (distance_width l) (count_width l) start bit at.next go
        ≡ goes_on q go)
        → (m : Layout) → l ≡ ItemRange h r.distance r.count m → walk bs l start None bit at.next at.cells
        ≡ goes_on q (items_at bs h (walk bs m at.next) (stride m) (suc (inline_cells m)) at.next at.cells)
    go l i e m is =
        let f = items_at bs h (walk bs m at.next) (stride m) (suc (inline_cells m)) at.next at.cells in
        let e2 = subst (λ (y : Layout). (go : ℕ → Walked Value)
        → range_at bs (distance_width y) (count_width y) start bit at.next go ≡ goes_on q go) is e in
        subst (λ (y : Layout). walk bs y start None bit at.next at.cells ≡ goes_on q f) (sym is) (e2 f)

ahead_on : (bs : List ℕ) (a b : Reach) (r : Result Reach ContentFault) → a.next ≤ b.next → IsAhead bs b r
    → IsAhead bs a r
ahead_on bs a b (Ok r) h i = (omega (arith, i.0), i.1, i.2)
ahead_on bs a b (Err e) h i = tt

pub range_err : (bs : List ℕ) (h : Holder) (l : Layout) (start bit : ℕ) (at : Reach) (fault : ContentFault)
    → RangeAt h l
    → ((go : ℕ → Walked Value) → range_at bs (distance_width l) (count_width l) start bit at.next go
    ≡ goes_on (Err fault) go) → Agrees bs (walk bs l start None bit at.next at.cells) at (Err fault)
range_err bs h l start bit at fault r e = record {
  same = sym (ap without_value (range_is bs h l start bit at (Err fault) r e));
  ahead = tt;
}

pub block_err : (bs : List ℕ) (h : Holder) (l : Layout) (start bit n : ℕ) (at : Reach) (fault : ContentFault)
    → RangeAt h l
    → ((go : ℕ → Walked Value) → range_at bs (distance_width l) (count_width l) start bit at.next go
    ≡ goes_on (Ok n) go) → BlockTaken bs (item_of l) n at (Err fault)
    → Agrees bs (walk bs l start None bit at.next at.cells) at (Err fault)
block_err bs h l start bit n at fault r e t = record {
  same = sym (ap without_value (range_is bs h l start bit at (Ok n) r e ∙ t h (walk bs (item_of l) at.next)));
  ahead = tt;
}

pub block_ok : (bs : List ℕ) (h : Holder) (l : Layout) (start bit n : ℕ) (at b : Reach)
    {r : Result Reach ContentFault} → RangeAt h l
    → ((go : ℕ → Walked Value) → range_at bs (distance_width l) (count_width l) start bit at.next go
    ≡ goes_on (Ok n) go) → BlockTaken bs (item_of l) n at (Ok b) → BlockLies bs (item_of l) n at (Ok b)
    → Agrees bs (walk_each h (walk bs (item_of l) at.next) (stride (item_of l)) None n (8 * at.next) b.next
    b.cells) b r → Agrees bs (walk bs l start None bit at.next at.cells) at r
block_ok bs h l start bit n at b {r} rg e t lies s =
    let we = walk_each h (walk bs (item_of l) at.next) (stride (item_of l)) None n (8 * at.next) b.next
    b.cells in
    let whole = range_is bs h l start bit at (Ok n) rg e ∙ t h (walk bs (item_of l) at.next) in
    record {
      same = s.same ∙ sym (without_value_map we (Items h)) ∙ sym (ap without_value whole);
      ahead = ahead_on bs at b r (omega (arith, lies.0)) s.ahead;
    }

pub block_here : (bs : List ℕ) (m : Layout) (n : ℕ) (at b : Reach) → at.next ≤ length bs → length bs < 2 ^ 56
    → BlockLies bs m n at (Ok b) → IsBlockHere bs m n at.next b
block_here bs m n at b within small lies = record {
  inside = omega (arith, lies.0, lies.1);
  past = omega (arith, lies.0);
  within = lies.1;
  few = lies.2;
  small = small;
}

pub agrees_ok : {V : Type 0} (w : Walked V) (r : Reach) → Walks w r → counted (Ok r) ≡ without_value w
agrees_ok w r k = ap (λ n. Ok (n, r.cells)) (sym k.next) ∙ ap (λ n. Ok (k.is.1, n)) (sym k.cells)
    ∙ sym (ap without_value k.ok)

-- The layout of a value of each form, and the parts of both.
use Rattle.std.proofs.Common.{◌≡◌, ℕ, ◌^◌, ◌<◌, List, length, refl, sym, subst}
use Rattle.frozen_model.specs.Trees.{ByteKind, Holder, Leaf, ByteRange, ItemRange, Optional, Struct}
use Rattle.frozen_model.specs.Values.{Value, Values, One, Bytes, Items, Absent, Present, Record}
use Rattle.frozen_model.specs.Values.{count, Of, bytes, items, present, record_of, OfEach, OfAll}
use Rattle.frozen_model.specs.Layouts.{Layout, Layouts}
use Rattle.layout_tree.specs.Reading.{IsHolder, item_of}
use Rattle.typed_tree.specs.Parts.{fields_of, IsRecord}
use Rattle.typed_tree.proofs.Forms.{AreItems}

-- ---- texts and bytes

-- the layout of bytes
pub record BytesAt (l : Layout) (bs : List ℕ) : Type 0 where
  pub t : ByteKind
  pub d : ℕ
  pub c : ℕ
  pub is : l ≡ ByteRange t d c
  pub few : length bs < 2 ^ 31

pub bytes_at : (l : Layout) (u : Value) (bs : List ℕ) → u ≡ Bytes bs → Of l u → BytesAt l bs
bytes_at l u bs eu o = go l (subst (Of l) eu o)
  where
    go : (l : Layout) → Of l (Bytes bs) → BytesAt l bs
    go (ByteRange t d c) (bytes few a b) = record { t = t; d = d; c = c; is = refl; few = few }
    go (Leaf k c) o = elim o [ ]
    go (ItemRange g d c l) o = elim o [ ]
    go (Optional w l) o = elim o [ ]
    go (Struct ls) o = elim o [ ]

-- ---- lists, sets and maps

-- the layout of items, whose item has this form
pub record ItemsAt (l : Layout) (vs : Values) : Type 0 where
  pub h : Holder
  pub d : ℕ
  pub c : ℕ
  pub item : Layout
  pub is : l ≡ ItemRange h d c item
  pub few : count vs < 2 ^ 31
  pub form : OfEach item vs

pub items_at : (l : Layout) (u : Value) (vs : Values) → AreItems u vs → Of l u → ItemsAt l vs
items_at l u vs a o = go l (subst (Of l) a.is o)
  where
    go : (l : Layout) → Of l (Items a.holder vs) → ItemsAt l vs
    go (ItemRange h d c m) (items few rises each) = record {
      h = h;
      d = d;
      c = c;
      item = m;
      is = refl;
      few = few;
      form = each;
    }
    go (Leaf k c) o = elim o [ ]
    go (ByteRange t d c) o = elim o [ ]
    go (Optional w m) o = elim o [ ]
    go (Struct ls) o = elim o [ ]

pub items_held : (l : Layout) (vs : Values) → ItemsAt l vs → IsHolder l × OfEach (item_of l) vs
items_held l vs k = subst (λ (z : Layout). IsHolder z × OfEach (item_of z) vs) (sym k.is) (tt, k.form)

-- ---- optionals

-- the layout of an absent optional
pub record AbsentAt (l : Layout) : Type 0 where
  pub width : ℕ
  pub inner : Layout
  pub is : l ≡ Optional width inner

pub absent_at : (l : Layout) (u : Value) → u ≡ Absent → Of l u → AbsentAt l
absent_at l u eu o = go l (subst (Of l) eu o)
  where
    go : (l : Layout) → Of l Absent → AbsentAt l
    go (Optional w m) o = record { width = w; inner = m; is = refl }
    go (Leaf k c) o = elim o [ ]
    go (ByteRange t d c) o = elim o [ ]
    go (ItemRange g d c m) o = elim o [ ]
    go (Struct ls) o = elim o [ ]

-- the layout of a present optional, whose inner layout has this form
pub record PresentAt (l : Layout) (x : Value) : Type 0 where
  pub width : ℕ
  pub inner : Layout
  pub is : l ≡ Optional width inner
  pub form : Of inner x

pub present_at : (l : Layout) (u x : Value) → u ≡ Present x → Of l u → PresentAt l x
present_at l u x eu o = go l (subst (Of l) eu o)
  where
    go : (l : Layout) → Of l (Present x) → PresentAt l x
    go (Optional w m) (present k) = record {
      width = w;
      inner = m;
      is = refl;
      form = k;
    }
    go (Leaf k c) o = elim o [ ]
    go (ByteRange t d c) o = elim o [ ]
    go (ItemRange g d c m) o = elim o [ ]
    go (Struct ls) o = elim o [ ]

-- ---- structs

pub record RecordForm (l : Layout) (u : Value) : Type 0 where
  pub ids : List ℕ
  pub layouts : Layouts
  pub layout : l ≡ Struct layouts
  pub value : u ≡ Record ids (fields_of u)
  pub form : OfAll layouts (fields_of u)

pub record_form : (l : Layout) (u : Value) → IsRecord u → Of l u → RecordForm l u
record_form (Struct ls) (Record ids vs) h (record_of x os) = record {
  ids = ids;
  layouts = ls;
  layout = refl;
  value = refl;
  form = os;
}
record_form (Leaf k c) (Record ids vs) h o = elim o [ ]
record_form (ByteRange t d c) (Record ids vs) h o = elim o [ ]
record_form (ItemRange g d c m) (Record ids vs) h o = elim o [ ]
record_form (Optional w m) (Record ids vs) h o = elim o [ ]
record_form l (One x) h o = absurd h
record_form l (Bytes x) h o = absurd h
record_form l (Items g x) h o = absurd h
record_form l Absent h o = absurd h
record_form l (Present x) h o = absurd h

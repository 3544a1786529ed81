-- What is read where a layout has one form or another.
use Rattle.std.proofs.Common.{◌≡◌, ℕ, zero, suc, ◌+◌, ◌*◌, ◌≤◌, ◌<◌, ◌^◌, List, Bool, true, false, ℤ, pos}
use Rattle.std.proofs.Common.{negsuc}
use Rattle.std.proofs.Common.{◌+ℤ◌, arith, refl, ap, sym, ◌∙◌, subst, nat_eq, if◌then◌else◌, take, drop}
use Rattle.std.specs.Str.{is_utf8}
use Rattle.std.proofs.lemmas.Str.{IsUtf8-from_is_utf8, is_utf8-from_IsUtf8}
use Rattle.std.proofs.lemmas.Bool.Decides.{nat_tests}
use Rattle.frozen_model.specs.Bits.{field, signed}
use Rattle.frozen_model.specs.Trees.{Whole, I8, I16, I32, I64, LeafKind, Flag, Integer, Text, Binary, AList}
use Rattle.frozen_model.specs.Trees.{ASet}
use Rattle.frozen_model.specs.Trees.{AMap, Leaf, ByteRange, ItemRange, Optional, Struct, NoField, Field}
use Rattle.frozen_model.specs.Trees.{IsFormed, value_bits}
use Rattle.frozen_model.specs.Values.{Truth, Number, Value, One, Bytes, Items, Absent, Present}
use Rattle.frozen_model.specs.Values.{InBits, count, nth, Of, one, bytes, items, absent, present, record_of}
use Rattle.frozen_model.specs.Layouts.{Version, Version1, Version2, Layout, Coded, FromBase, stride, width}
use Rattle.frozen_model.specs.Layouts.{meaning, atom_of}
use Rattle.layout_tree.specs.declared.node.Kind.{Kind}
use Rattle.layout_tree.specs.declared.node.Kind.TheVariants as kinds
use Rattle.layout_tree.specs.Listing.{Noted, layout_in}
use Rattle.layout_tree.specs.Reading.{plain, kind_at, distance_width, count_width, isset_width, item_of}
use Rattle.layout_tree.specs.Reading.{item_stride, IsRange, IsHolder, IsOptional}
use Rattle.typed_tree.specs.Parts.{IsFlag, IsInt, IsBytes, IsMap, IsItems, IsPresent, items_of, fields_of}
use Rattle.bit_view.specs.InPlace.{read_value, read_items}
use Rattle.bit_view.specs.Views.{HasForm, IsOption}

-- ---- flags and numbers

no_flag : (b : Bool) (x : Value) → IsFlag (if b then Present x else Absent) → ⊥
no_flag true x h = h
no_flag false x h = h

no_int : (b : Bool) (x : Value) → IsInt (if b then Present x else Absent) → ⊥
no_int true x h = h
no_int false x h = h

no_items : (b : Bool) (x : Value) → IsItems (if b then Present x else Absent) → ⊥
no_items true x h = h
no_items false x h = h

pub flag_told : (v : Version) (s : Noted) (bs : List ℕ) (block bit n w : ℕ)
    → IsFlag (read_value bs (layout_in v s) block bit) → n ≡ field bs bit w → w ≡ stride (layout_in v s)
    → read_value bs (layout_in v s) block bit ≡ One (Truth (nat_eq n 1))
flag_told v (Leaf Flag c) bs block bit n w h e ew =
    ap (λ x. One (Truth (nat_eq x 1))) (sym (e ∙ ap (field bs bit) ew))
flag_told v (Leaf (Integer k) c) bs block bit n w h e ew = absurd h
flag_told v (ByteRange t d c) bs block bit n w h e ew = absurd h
flag_told v (ItemRange g d c l) bs block bit n w h e ew = absurd h
flag_told v (Optional x l) bs block bit n w h e ew =
    absurd (no_flag (nat_eq (field bs bit x.bits) 1) (read_value bs (layout_in v l) block (bit + x.bits)) h)
flag_told v (Struct ls) bs block bit n w h e ew = absurd h

pub first_told : (v : Version) (s : Noted) (bs : List ℕ) (block bit w : ℕ) (x : ℤ) → v ≡ Version1
    → IsInt (read_value bs (layout_in v s) block bit) → x ≡ signed w (field bs bit w)
    → w ≡ stride (layout_in v s)
    → read_value bs (layout_in v s) block bit ≡ One (Number x)
first_told Version2 s bs block bit w x ev h e ew = absurd cc
first_told Version1 (Leaf Flag c) bs block bit w x ev h e ew = absurd h
first_told Version1 (Leaf (Integer k) c) bs block bit w x ev h e ew =
    ap (λ z. One (Number z)) (sym (e ∙ ap (λ u. signed u (field bs bit u)) ew))
first_told Version1 (ByteRange t d c) bs block bit w x ev h e ew = absurd h
first_told Version1 (ItemRange g d c l) bs block bit w x ev h e ew = absurd h
first_told Version1 (Optional y l) bs block bit w x ev h e ew =
    absurd (no_int (nat_eq (field bs bit y.bits) 1) (read_value bs (layout_in Version1 l) block
    (bit + y.bits)) h)
first_told Version1 (Struct ls) bs block bit w x ev h e ew = absurd h

pub second_told : (v : Version) (s : Noted) (bs : List ℕ) (block bit w n : ℕ) (base : ℤ) → v ≡ Version2
    → IsInt (read_value bs (layout_in v s) block bit) → n ≡ field bs bit w → w ≡ stride (layout_in v s)
    → ((k : LeafKind) (b : ℤ) (u : ℕ) → layout_in v s ≡ Leaf k (FromBase b u) → base ≡ b)
    → read_value bs (layout_in v s) block bit ≡ One (Number (base +ℤ pos n))
second_told Version1 s bs block bit w n base ev h e ew eb = absurd cc
second_told Version2 (Leaf Flag c) bs block bit w n base ev h e ew eb = absurd h
second_told Version2 (Leaf (Integer k) c) bs block bit w n base ev h e ew eb =
    ap (λ z. One (Number (c.base +ℤ pos z))) (sym (e ∙ ap (field bs bit) ew))
    ∙ ap (λ z. One (Number (z +ℤ pos n))) (sym (eb (Integer k) c.base c.bits refl))
second_told Version2 (ByteRange t d c) bs block bit w n base ev h e ew eb = absurd h
second_told Version2 (ItemRange g d c l) bs block bit w n base ev h e ew eb = absurd h
second_told Version2 (Optional y l) bs block bit w n base ev h e ew eb =
    absurd (no_int (nat_eq (field bs bit y.bits) 1) (read_value bs (layout_in Version2 l) block
    (bit + y.bits)) h)
second_told Version2 (Struct ls) bs block bit w n base ev h e ew eb = absurd h

-- how far from zero the number of a value is, and 0 where there is none
abbrev pub far : Value → ℕ
far (One (Number (pos n))) = n
far (One (Number (negsuc n))) = n
far v = 0

far_in : (k : Whole) (z : ℤ) → InBits (value_bits k) z → far (One (Number z)) < 2 ^ 63
far_in I8 (pos n) h = omega (arith, h)
far_in I16 (pos n) h = omega (arith, h)
far_in I32 (pos n) h = omega (arith, h)
far_in I64 (pos n) h = omega (arith, h)
far_in I8 (negsuc n) h = omega (arith, h)
far_in I16 (negsuc n) h = omega (arith, h)
far_in I32 (negsuc n) h = omega (arith, h)
far_in I64 (negsuc n) h = omega (arith, h)

pub far_of : {m : Layout} {u : Value} → Of m u → far u < 2 ^ 63
far_of (one {k = Flag} {x = Truth b} o) = omega arith
far_of (one {k = Flag} {x = Number z} o) = absurd o
far_of (one {k = Integer k} {x = Truth b} o) = absurd o
far_of (one {k = Integer k} {x = Number z} o) = far_in k z o
far_of (bytes a b c) = omega arith
far_of (items a b c) = omega arith
far_of absent = omega arith
far_of (present a) = omega arith
far_of (record_of a b) = omega arith

-- ---- ranges

count_told : (at : ℕ → Value) (step n bit : ℕ) → n ≡ count (read_items at step n bit)
count_told at step zero bit = refl
count_told at step (suc n) bit = ap suc (count_told at step n (bit + step))

pub len_told : (m : Layout) (bs : List ℕ) (block bit n : ℕ) → IsItems (read_value bs m block bit)
    → n ≡ field bs (bit + distance_width m) (count_width m) → n ≡ count (items_of (read_value bs m block bit))
len_told (ItemRange g d c l) bs block bit n h e =
    let own = block + field bs bit d in
    e ∙ count_told (read_value bs l own) (stride l) (field bs (bit + d) c) (8 * own)
len_told (Leaf Flag c) bs block bit n h e = absurd h
len_told (Leaf (Integer k) c) bs block bit n h e = absurd h
len_told (ByteRange t d c) bs block bit n h e = absurd h
len_told (Optional w l) bs block bit n h e =
    absurd (no_items (nat_eq (field bs bit w) 1) (read_value bs l block (bit + w)) h)
len_told (Struct ls) bs block bit n h e = absurd h

nth_told : (at : ℕ → Value) (step n bit i : ℕ) → i < n
    → nth (read_items at step n bit) i ≡ at (bit + i * step)
nth_told at step zero bit i h = absurd (omega arith)
nth_told at step (suc n) bit zero h = let e : bit ≡ bit + 0 * step = omega arith in ap at e
nth_told at step (suc n) bit (suc i) h =
    let e : bit + step + i * step ≡ bit + suc i * step = omega arith in
    nth_told at step n (bit + step) i (omega arith) ∙ ap at e

pub item_told : (m : Layout) (bs : List ℕ) (block bit i own : ℕ) → IsItems (read_value bs m block bit)
    → own ≡ block + field bs bit (distance_width m)
    → i < field bs (bit + distance_width m) (count_width m)
    → read_value bs (item_of m) own (8 * own + i * item_stride m) ≡ nth (items_of
    (read_value bs m block bit)) i
item_told (ItemRange g d c l) bs block bit i own h e lt =
    ap (λ k. read_value bs l k (8 * k + i * stride l)) e
    ∙ sym (nth_told (read_value bs l (block + field bs bit d)) (stride l) (field bs (bit + d) c)
    (8 * (block + field bs bit d)) i lt)
item_told (Leaf Flag c) bs block bit i own h e lt = absurd h
item_told (Leaf (Integer k) c) bs block bit i own h e lt = absurd h
item_told (ByteRange t d c) bs block bit i own h e lt = absurd h
item_told (Optional w l) bs block bit i own h e lt =
    absurd (no_items (nat_eq (field bs bit w) 1) (read_value bs l block (bit + w)) h)
item_told (Struct ls) bs block bit i own h e lt = absurd h

no_map : (b : Bool) (x : Value) → IsMap (if b then Present x else Absent) → ⊥
no_map true x h = h
no_map false x h = h

-- an item of a map is a pair
pub pair_told : (m : Layout) (bs : List ℕ) (block bit own at : ℕ) → IsFormed m
    → IsMap (read_value bs m block bit)
    → count (fields_of (read_value bs (item_of m) own at)) ≡ 2
pair_told (ItemRange AMap d c (Struct (Field i k (Field j v NoField)))) bs block bit own at f h = refl
pair_told (ItemRange AMap d c (Struct NoField)) bs block bit own at f h = absurd f.0
pair_told (ItemRange AMap d c (Struct (Field i k NoField))) bs block bit own at f h = absurd f.0
pair_told (ItemRange AMap d c (Struct (Field i k (Field j v
    (Field n x xs))))) bs block bit own at f h = absurd f.0
pair_told (ItemRange AMap d c (Leaf k a)) bs block bit own at f h = absurd f.0
pair_told (ItemRange AMap d c (ByteRange k x y)) bs block bit own at f h = absurd f.0
pair_told (ItemRange AMap d c (ItemRange g x y l)) bs block bit own at f h = absurd f.0
pair_told (ItemRange AMap d c (Optional w l)) bs block bit own at f h = absurd f.0
pair_told (ItemRange AList d c l) bs block bit own at f h = absurd h
pair_told (ItemRange ASet d c l) bs block bit own at f h = absurd h
pair_told (Leaf Flag c) bs block bit own at f h = absurd h
pair_told (Leaf (Integer k) c) bs block bit own at f h = absurd h
pair_told (ByteRange t d c) bs block bit own at f h = absurd h
pair_told (Optional w l) bs block bit own at f h =
    absurd (no_map (nat_eq (field bs bit w) 1) (read_value bs l block (bit + w)) h)
pair_told (Struct ls) bs block bit own at f h = absurd h

-- what has an item has items
pub counted_items : (v : Value) (i : ℕ) → i < count (items_of v) → IsItems v
counted_items (Items h vs) i lt = tt
counted_items v i lt = absurd (omega arith)

pub items_holder : (m : Layout) (bs : List ℕ) (block bit : ℕ) → IsItems (read_value bs m block bit)
    → IsHolder m
items_holder (ItemRange g d c l) bs block bit h = tt
items_holder (Leaf Flag c) bs block bit h = absurd h
items_holder (Leaf (Integer k) c) bs block bit h = absurd h
items_holder (ByteRange t d c) bs block bit h = absurd h
items_holder (Optional w l) bs block bit h =
    absurd (no_items (nat_eq (field bs bit w) 1) (read_value bs l block (bit + w)) h)
items_holder (Struct ls) bs block bit h = absurd h

pub holder_count : (m : Layout) (bs : List ℕ) (block bit i : ℕ) → IsItems (read_value bs m block bit)
    → i < count (items_of (read_value bs m block bit)) → i < field bs (bit + distance_width m) (count_width m)
holder_count m bs block bit i h lt =
    subst (λ n. i < n) (sym (len_told m bs block bit (field bs (bit + distance_width m)
    (count_width m)) h refl)) lt

pub holder_range : (m : Layout) → IsHolder m → IsRange m
holder_range (ItemRange g d c l) h = tt
holder_range (Leaf k c) h = absurd h
holder_range (ByteRange t d c) h = absurd h
holder_range (Optional w l) h = absurd h
holder_range (Struct ls) h = absurd h

pub record BytesAt (m : Layout) : Type 0 where
  pub range : IsRange m
  pub step : item_stride m ≡ 8

no_bytes : (b : Bool) (x : Value) → IsBytes (if b then Present x else Absent) → ⊥
no_bytes true x h = h
no_bytes false x h = h

pub bytes_at : (m : Layout) (bs : List ℕ) (block bit : ℕ) → IsBytes (read_value bs m block bit) → BytesAt m
bytes_at (ByteRange t d c) bs block bit h = record { range = tt; step = refl }
bytes_at (Leaf Flag c) bs block bit h = absurd h
bytes_at (Leaf (Integer k) c) bs block bit h = absurd h
bytes_at (ItemRange g d c l) bs block bit h = absurd h
bytes_at (Optional w l) bs block bit h =
    absurd (no_bytes (nat_eq (field bs bit w) 1) (read_value bs l block (bit + w)) h)
bytes_at (Struct ls) bs block bit h = absurd h

-- ---- optionals

pub optional_at : (m : Layout) (bs : List ℕ) (block bit : ℕ) → IsOption (read_value bs m block bit)
    → IsOptional m
optional_at (Optional w l) bs block bit h = tt
optional_at (Leaf Flag c) bs block bit h = absurd h
optional_at (Leaf (Integer k) c) bs block bit h = absurd h
optional_at (ByteRange t d c) bs block bit h = absurd h
optional_at (ItemRange g d c l) bs block bit h = absurd h
optional_at (Struct ls) bs block bit h = absurd h

pub record PresentAt (m : Layout) (bs : List ℕ) (block bit : ℕ) : Type 0 where
  pub inner : Layout
  pub form : IsOptional m
  pub is : m ≡ Optional (isset_width m) inner
  pub set : field bs bit (isset_width m) ≡ 1
  pub value : read_value bs m block bit ≡ Present (read_value bs inner block (bit + isset_width m))

present_if : (w : ℕ) (l : Layout) (bs : List ℕ) (block bit : ℕ) (b : Bool) → nat_eq (field bs bit w) 1 ≡ b
    → IsPresent (if b then Present (read_value bs l block (bit + w)) else Absent)
    → PresentAt (Optional w l) bs block bit
present_if w l bs block bit true e h = record {
  inner = l;
  form = tt;
  is = refl;
  set = grind (arith, nat_tests);
  value = ap (λ b. if b then Present (read_value bs l block (bit + w)) else Absent) e;
}
present_if w l bs block bit false e h = absurd h

pub present_at : (m : Layout) (bs : List ℕ) (block bit : ℕ) → IsPresent (read_value bs m block bit)
    → PresentAt m bs block bit
present_at (Optional w l) bs block bit h = present_if w l bs block bit (nat_eq (field bs bit w) 1) refl h
present_at (Leaf Flag c) bs block bit h = absurd h
present_at (Leaf (Integer k) c) bs block bit h = absurd h
present_at (ByteRange t d c) bs block bit h = absurd h
present_at (ItemRange g d c l) bs block bit h = absurd h
present_at (Struct ls) bs block bit h = absurd h

-- ---- kinds

-- 1 unless it is a text that is not UTF-8
abbrev pub text_n : Layout → Value → ℕ
text_n (ByteRange Text d c) (Bytes bs) = if is_utf8 bs then 1 else 0
text_n m v = 1

pub text_of : {m : Layout} {u : Value} → Of m u → 1 ≤ text_n m u
text_of (bytes {t = Text} {bs = bs} a b w) =
    subst (λ x. 1 ≤ (if x then 1 else 0)) (sym (is_utf8-from_IsUtf8 bs w)) (omega arith)
text_of (bytes {t = Binary} a b w) = omega arith
text_of (one o) = omega arith
text_of (items a b c) = omega arith
text_of absent = omega arith
text_of (present a) = omega arith
text_of (record_of a b) = omega arith

pub utf8_if : (b : Bool) → 1 ≤ (if b then 1 else 0) → b ≡ true
utf8_if true h = refl
utf8_if false h = absurd (omega arith)

option_if : (b : Bool) (x : Value) → IsOption (if b then Present x else Absent)
option_if true x = tt
option_if false x = tt

form_told : (m : Layout) (bs : List ℕ) (block bit : ℕ) → 1 ≤ text_n m (read_value bs m block bit)
    → HasForm (kind_at m) (read_value bs m block bit)
form_told (Leaf Flag c) bs block bit h = truth (meaning_of bs bit c)
  where
    meaning_of : List ℕ → ℕ → Coded → ℤ
    meaning_of bs bit c = meaning c (field bs bit (width c))

    truth : (z : ℤ) → IsFlag (One (atom_of Flag z))
    truth (pos n) = tt
    truth (negsuc n) = tt
form_told (Leaf (Integer I8) c) bs block bit h = tt
form_told (Leaf (Integer I16) c) bs block bit h = tt
form_told (Leaf (Integer I32) c) bs block bit h = tt
form_told (Leaf (Integer I64) c) bs block bit h = tt
form_told (ByteRange Text d c) bs block bit h =
    let xs = take (field bs (bit + d) c) (drop (block + field bs bit d) bs) in
    IsUtf8-from_is_utf8 xs (utf8_if (is_utf8 xs) h)
form_told (ByteRange Binary d c) bs block bit h = tt
form_told (ItemRange AList d c l) bs block bit h = tt
form_told (ItemRange ASet d c l) bs block bit h = tt
form_told (ItemRange AMap d c l) bs block bit h = tt
form_told (Optional w l) bs block bit h =
    option_if (nat_eq (field bs bit w) 1) (read_value bs l block (bit + w))
form_told (Struct ls) bs block bit h = tt

form_plain : (k : Kind) (v : Value) → HasForm (plain k) v → HasForm k v
form_plain kinds.Flag v h = h
form_plain kinds.I8 v h = h
form_plain kinds.I16 v h = h
form_plain kinds.I32 v h = h
form_plain kinds.I64 v h = h
form_plain kinds.Text v h = h
form_plain kinds.Bytes v h = h
form_plain kinds.List v h = h
form_plain kinds.Set v h = h
form_plain kinds.Map v h = h
form_plain kinds.Pair v h = h
form_plain kinds.Struct v h = h
form_plain kinds.Optional v h = h
form_plain kinds.Size v h = h

pub kind_told : (m : Layout) (bs : List ℕ) (block bit : ℕ) (k : Kind) → plain k ≡ kind_at m
    → 1 ≤ text_n m (read_value bs m block bit) → HasForm k (read_value bs m block bit)
kind_told m bs block bit k e h =
    form_plain k (read_value bs m block bit)
    (subst (λ z. HasForm z (read_value bs m block bit)) (sym e) (form_told m bs block bit h))

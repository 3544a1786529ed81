-- The keys of a set or a map are of one kind, and rise.
use Rattle.std.proofs.Common.{◌≡◌, ℕ, zero, suc, ◌≤◌, ◌<◌, List, [], ◌∷◌, None, refl, sym, ap, ◌∙◌, ◌+◌}
use Rattle.std.proofs.Common.{subst, arith, Bool, true, false, nat_eq, if◌then◌else◌}
use Rattle.std.specs.Coded.{Coded-set, coded_ℕ}
use Rattle.std.proofs.Math.Logic.{∥∥₁_elim}
use Rattle.frozen_model.specs.Bits.{field}
use Rattle.frozen_model.specs.Trees.{Flag, Integer, AList, ASet, AMap, Leaf, ByteRange, ItemRange}
use Rattle.frozen_model.specs.Trees.{Optional, Struct, NoField, Field, IsKey, IsFormed}
use Rattle.frozen_model.specs.Values as is
use Rattle.frozen_model.specs.Values.{Value, Values, Record, Absent, Present, NoValue, And, Truth, Number}
use Rattle.frozen_model.specs.Values.{Of, one, absent, present, part, record_of, key_of, Rises, count, nth}
use Rattle.frozen_model.specs.Values.{OfEach, none, more}
use Rattle.frozen_model.specs.Layouts.{Layout, stride}
use Rattle.layout_tree.specs.Reading.{item_of}
use Rattle.key_order.specs.Keys.{kind_rank}
use Rattle.typed_tree.specs.Parts.{IsSet, IsMap, items_of, fields_of}
use Rattle.typed_tree.specs.Spots.{pair}
use Rattle.bit_view.specs.declared.view.View.{View}
use Rattle.bit_view.specs.Branches.{fields_in, layout_nth}
use Rattle.bit_view.specs.InPlace.{read_value}
use Rattle.bit_view.specs.Views.{value_of_view, layout_of_view}
use Rattle.bit_view.proofs.Seen.{view_value, formed}
use Rattle.file_value.proofs.Rows.{rises_prop, SetKeys, keys_of_set, MapKeys, keys_of_map}

-- ---- what kind a key is of, by its layout

abbrev rank : Layout → ℕ
rank (Leaf Flag c) = 1
rank (Leaf (Integer k) c) = 0
rank (ByteRange t d c) = 2
rank m = 3

rank_low : (m : Layout) → IsKey m → rank m ≤ 2
rank_low (Leaf Flag c) h = omega arith
rank_low (Leaf (Integer k) c) h = omega arith
rank_low (ByteRange t d c) h = omega arith
rank_low m h = absurd h

key_rank : (m : Layout) (v : Value) → IsKey m → Of m v → kind_rank v ≡ rank m
key_rank (Leaf Flag c) _ h (one {x = Truth b} o) = refl
key_rank (Leaf Flag c) _ h (one {x = Number z} o) = absurd o
key_rank (Leaf (Integer k) c) _ h (one {x = Number z} o) = refl
key_rank (Leaf (Integer k) c) _ h (one {x = Truth b} o) = absurd o
key_rank (ByteRange t d c) _ h (is.bytes x y z) = refl
key_rank m v h o = absurd h

-- what two numbers are to each other may be shown from what the view is of
by_value : {x y : ℕ} (w : View) → (Of (layout_of_view w) (value_of_view w) → x ≡ y) → x ≡ y
by_value {x} {y} w f = ∥∥₁_elim (view_value w) (Coded-set coded_ℕ x y) f

each_at : {m : Layout} {vs : Values} → OfEach m vs → (i : ℕ) → i < count vs → Of m (nth vs i)
each_at none i lt = absurd (omega (arith, lt))
each_at (more h hs) zero lt = h
each_at (more h hs) (suc i) lt = each_at hs i (omega (arith, lt))

-- ---- sets

no_set : (b : Bool) (x : Value) → IsSet (if b then Present x else Absent) → ⊥
no_set true x h = h
no_set false x h = h

-- the items of a set are keys
set_key : (m : Layout) (bs : List ℕ) (block bit : ℕ) → IsFormed m → IsSet (read_value bs m block bit)
    → IsKey (item_of m)
set_key (ItemRange ASet d c l) bs block bit f h = f.0
set_key (ItemRange AList d c l) bs block bit f h = absurd h
set_key (ItemRange AMap d c l) bs block bit f h = absurd h
set_key (Leaf Flag c) bs block bit f h = absurd h
set_key (Leaf (Integer k) c) bs block bit f h = absurd h
set_key (ByteRange t d c) bs block bit f h = absurd h
set_key (Optional w l) bs block bit f h =
    absurd (no_set (nat_eq (field bs bit w) 1) (read_value bs l block (bit + w)) h)
set_key (Struct ls) bs block bit f h = absurd h

set_rises : {m : Layout} {v : Value} → IsSet v → Of m v → Rises ASet None (items_of v)
set_rises s (is.items {h = ASet} o ri hs) = ri
set_rises s (is.items {h = AList} o ri hs) = absurd s
set_rises s (is.items {h = AMap} o ri hs) = absurd s
set_rises s (one o) = absurd s
set_rises s (is.bytes a b c) = absurd s
set_rises s absent = absurd s
set_rises s (present o) = absurd s
set_rises s (record_of e hs) = absurd s

set_rank : {m : Layout} {v : Value} → IsSet v → IsKey (item_of m) → Of m v → (i : ℕ) → i < count (items_of v)
    → kind_rank (nth (items_of v) i) ≡ rank (item_of m)
set_rank s key (is.items {l = l} o ri hs) i lt = key_rank l _ key (each_at hs i lt)
set_rank s key (one o) i lt = absurd s
set_rank s key (is.bytes a b c) i lt = absurd s
set_rank s key absent i lt = absurd s
set_rank s key (present o) i lt = absurd s
set_rank s key (record_of e hs) i lt = absurd s

pub set_keys : (w : View) → IsSet (value_of_view w) → SetKeys (value_of_view w)
set_keys w s =
    let m = layout_of_view w in
    let v = value_of_view w in
    let key = set_key m w.content.now w.block w.bit (formed w) s in
    let rises = ∥∥₁_elim (view_value w) (rises_prop ASet None (items_of v)) (λ o. set_rises s o) in
    keys_of_set v (rank (item_of m)) (rank_low (item_of m) key) s
    (λ i lt. by_value w (λ o. set_rank s key o i lt)) rises

-- ---- maps

no_map : (b : Bool) (x : Value) → IsMap (if b then Present x else Absent) → ⊥
no_map true x h = h
no_map false x h = h

-- the layout of the key of a map's pairs
abbrev key_layout : Layout → Layout
key_layout l = layout_nth (fields_in l) 0

-- the pairs of a map begin with keys
map_key : (m : Layout) (bs : List ℕ) (block bit : ℕ) → IsFormed m → IsMap (read_value bs m block bit)
    → IsKey (key_layout (item_of m))
map_key (ItemRange AMap d c (Struct (Field i k (Field j v NoField)))) bs block bit f h = f.0.1
map_key (ItemRange AMap d c (Struct NoField)) bs block bit f h = absurd f.0
map_key (ItemRange AMap d c (Struct (Field i k NoField))) bs block bit f h = absurd f.0
map_key (ItemRange AMap d c (Struct (Field i k (Field j v (Field n x xs))))) bs block bit f h = absurd f.0
map_key (ItemRange AMap d c (Leaf k a)) bs block bit f h = absurd f.0
map_key (ItemRange AMap d c (ByteRange k x y)) bs block bit f h = absurd f.0
map_key (ItemRange AMap d c (ItemRange g x y l)) bs block bit f h = absurd f.0
map_key (ItemRange AMap d c (Optional w l)) bs block bit f h = absurd f.0
map_key (ItemRange AList d c l) bs block bit f h = absurd h
map_key (ItemRange ASet d c l) bs block bit f h = absurd h
map_key (Leaf Flag c) bs block bit f h = absurd h
map_key (Leaf (Integer k) c) bs block bit f h = absurd h
map_key (ByteRange t d c) bs block bit f h = absurd h
map_key (Optional w l) bs block bit f h =
    absurd (no_map (nat_eq (field bs bit w) 1) (read_value bs l block (bit + w)) h)
map_key (Struct ls) bs block bit f h = absurd h

-- what is read as an item of a map is a pair of its two fields
pair_read : (m : Layout) (bs cs : List ℕ) (block bit own at : ℕ) → IsFormed m
    → IsMap (read_value bs m block bit)
    → let u = read_value cs (item_of m) own at in u ≡ pair (nth (fields_of u) 0) (nth (fields_of u) 1)
pair_read (ItemRange AMap d c (Struct (Field i k (Field j v NoField)))) bs cs block bit own at f h =
    let x = read_value cs k own at in
    let y = read_value cs v own (at + stride k) in
    ap (λ n. Record (n ∷ j ∷ []) (And x (And y NoValue))) f.0.0
    ∙ ap (λ n. Record (1 ∷ n ∷ []) (And x (And y NoValue))) f.0.2
pair_read (ItemRange AMap d c (Struct NoField)) bs cs block bit own at f h = absurd f.0
pair_read (ItemRange AMap d c (Struct (Field i k NoField))) bs cs block bit own at f h = absurd f.0
pair_read (ItemRange AMap d c (Struct (Field i k (Field j v
    (Field n x xs))))) bs cs block bit own at f h = absurd f.0
pair_read (ItemRange AMap d c (Leaf k a)) bs cs block bit own at f h = absurd f.0
pair_read (ItemRange AMap d c (ByteRange k x y)) bs cs block bit own at f h = absurd f.0
pair_read (ItemRange AMap d c (ItemRange g x y l)) bs cs block bit own at f h = absurd f.0
pair_read (ItemRange AMap d c (Optional w l)) bs cs block bit own at f h = absurd f.0
pair_read (ItemRange AList d c l) bs cs block bit own at f h = absurd h
pair_read (ItemRange ASet d c l) bs cs block bit own at f h = absurd h
pair_read (Leaf Flag c) bs cs block bit own at f h = absurd h
pair_read (Leaf (Integer k) c) bs cs block bit own at f h = absurd h
pair_read (ByteRange t d c) bs cs block bit own at f h = absurd h
pair_read (Optional w l) bs cs block bit own at f h =
    absurd (no_map (nat_eq (field bs bit w) 1) (read_value bs l block (bit + w)) h)
pair_read (Struct ls) bs cs block bit own at f h = absurd h

-- an item of a map is a pair of its two fields
pub pair_is : (w item : View) → IsMap (value_of_view w) → layout_of_view item ≡ item_of (layout_of_view w)
    → let u = value_of_view item in u ≡ pair (nth (fields_of u) 0) (nth (fields_of u) 1)
pair_is w item h e =
    let bs = w.content.now in
    let cs = item.content.now in
    subst (λ (l : Layout). let u = read_value cs l item.block item.bit in
    u ≡ pair (nth (fields_of u) 0) (nth (fields_of u) 1)) (sym e)
    (pair_read (layout_of_view w) bs cs w.block w.bit item.block item.bit (formed w) h)

map_rises : {m : Layout} {v : Value} → IsMap v → Of m v → Rises AMap None (items_of v)
map_rises s (is.items {h = AMap} o ri hs) = ri
map_rises s (is.items {h = AList} o ri hs) = absurd s
map_rises s (is.items {h = ASet} o ri hs) = absurd s
map_rises s (one o) = absurd s
map_rises s (is.bytes a b c) = absurd s
map_rises s absent = absurd s
map_rises s (present o) = absurd s
map_rises s (record_of e hs) = absurd s

pair_rank : (l : Layout) (u : Value) → IsKey (key_layout l) → Of l u
    → kind_rank (key_of u) ≡ rank (key_layout l)
pair_rank (Struct (Field i k ls)) _ key (record_of e (part p ps)) = key_rank k _ key p
pair_rank (Struct NoField) u key o = absurd key
pair_rank (Leaf k c) u key o = absurd key
pair_rank (ByteRange t d c) u key o = absurd key
pair_rank (ItemRange g d c l) u key o = absurd key
pair_rank (Optional w l) u key o = absurd key

map_rank : {m : Layout} {v : Value} → IsMap v → IsKey (key_layout (item_of m)) → Of m v → (i : ℕ)
    → i < count (items_of v) → kind_rank (key_of (nth (items_of v) i)) ≡ rank (key_layout (item_of m))
map_rank s key (is.items {l = l} o ri hs) i lt = pair_rank l _ key (each_at hs i lt)
map_rank s key (one o) i lt = absurd s
map_rank s key (is.bytes a b c) i lt = absurd s
map_rank s key absent i lt = absurd s
map_rank s key (present o) i lt = absurd s
map_rank s key (record_of e hs) i lt = absurd s

pub map_keys : (w : View) → IsMap (value_of_view w) → MapKeys (value_of_view w)
map_keys w s =
    let m = layout_of_view w in
    let v = value_of_view w in
    let key = map_key m w.content.now w.block w.bit (formed w) s in
    let rises = ∥∥₁_elim (view_value w) (rises_prop AMap None (items_of v)) (λ o. map_rises s o) in
    keys_of_map v (rank (key_layout (item_of m))) (rank_low (key_layout (item_of m)) key) s
    (λ i lt. by_value w (λ o. map_rank s key o i lt)) rises

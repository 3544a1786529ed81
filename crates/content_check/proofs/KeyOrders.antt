-- Keys.
use Rattle.std.proofs.Common.{◌≡◌, ◌⊎◌, inl, inr, ℤ, ℕ, ◌+◌, ◌-◌, List, [], Bool, true, false, length, nat_le}
use Rattle.std.proofs.Common.{nat_eq, arith, refl, ap, sym, ◌∙◌, subst, take, drop, Option, Some, None}
use Rattle.std.proofs.Common.{Result, Ok, Err, IfOk}
use Rattle.frozen_model.specs.Bits.{field}
use Rattle.frozen_model.specs.Trees.{Flag, Integer, I8, I16, I32, I64, Text, Binary, AList, ASet, AMap, Leaf}
use Rattle.frozen_model.specs.Trees.{ByteRange, ItemRange, Optional, Struct, IsKey}
use Rattle.frozen_model.specs.Values.{Value, One, Truth, Number, Bytes, above, cell_limit}
use Rattle.frozen_model.specs.Layouts.{Version, Layout, stride, width, meaning, in_range, atom_of}
use Rattle.frozen_model.specs.Packing.{distance}
use Rattle.frozen_model.specs.Walk.{Fault, OutOfRange, KeyOrder, Short, TooManyCells, BadText, Distance}
use Rattle.frozen_model.specs.Walk.{Walked, require, and_then, in_order, range_at, bytes_at, is_spelled, walk}
use Rattle.layout_tree.specs.declared.node.Kind.{Kind}
use Rattle.layout_tree.specs.declared.node.Kind.TheVariants as kinds
use Rattle.layout_tree.specs.Listing.{Noted, layout_in}
use Rattle.layout_tree.specs.Reading.{plain, kind_at, IsLeaf}
use Rattle.key_order.specs.declared.key.Key.{Key}
use Rattle.key_order.specs.declared.key.Key.TheVariants as key
use Rattle.key_order.specs.Keys.{value_of, kind_rank, IsOneKind}
use Rattle.content_check.specs.declared.fault.ContentFault.{ContentFault}
use Rattle.content_check.specs.declared.fault.ContentFault.TheVariants as s
use Rattle.content_check.specs.declared.reach.Reach.{Reach}
use Rattle.content_check.specs.Agreeing.{fault_of, without_value, Agrees}
use Rattle.content_check.specs.Steps.{byte_kind, IsByteRange, IsNumberAt, rank_at, IsOfKind}
use Rattle.content_check.proofs.Walks.{walks}

after_test : (b : Bool) (e : Fault) (x : Value × ℕ × ℕ) (key : Option Value) (bit : ℕ)
    → require b e (in_order key bit x) ≡ and_then (require b e (in_order None bit x)) (in_order key bit)
after_test true e x key bit = refl
after_test false e x key bit = refl

after_range : (r : Walked Value) (key : Option Value) (bit : ℕ) → and_then r (in_order key bit)
    ≡ and_then (and_then r (in_order None bit)) (in_order key bit)
after_range (Ok x) key bit = refl
after_range (Err e) key bit = refl

-- a key is read first, and then ordered
pub ordered : (bs : List ℕ) (l : Layout) (start : ℕ) (key : Option Value) (bit next cells : ℕ) → IsKey l
    → walk bs l start key bit next cells ≡ and_then (walk bs l start None bit next cells) (in_order key bit)
ordered bs (Leaf k c) start key bit next cells h = let z = meaning c (field bs bit (width c)) in after_test
    (in_range k z) (OutOfRange bit) (One (atom_of k z), next, cells) key bit
ordered bs (ByteRange t d c) start key bit next cells h = after_range
    (range_at bs d c start bit next (bytes_at bs t next cells)) key bit
ordered bs (ItemRange g d c m) start key bit next cells h = absurd h
ordered bs (Optional w m) start key bit next cells h = absurd h
ordered bs (Struct ls) start key bit next cells h = absurd h

pub key_err : (bs : List ℕ) (l : Layout) (start : ℕ) (key : Option Value) (bit : ℕ) (at : Reach)
    (fault : ContentFault) → IsKey l → Agrees bs (walk bs l start None bit at.next at.cells) at (Err fault)
    → Agrees bs (walk bs l start key bit at.next at.cells) at (Err fault)
key_err bs l start key bit at fault h r = record {
  same = go (walk bs l start None bit at.next at.cells) r.same
      ∙ sym (ap without_value (ordered bs l start key bit at.next at.cells h));
  ahead = tt;
}
  where
    go : (w : Walked Value) → Err (fault_of fault) ≡ without_value w → Err (fault_of fault)
        ≡ without_value (and_then w (in_order key bit))
    go (Ok x) e = absurd cc
    go (Err d) e = e

-- a key that was read, which is above the one before or is not
pub key_above : (bs : List ℕ) (l : Layout) (start : ℕ) (key : Option Value) (bit : ℕ) (at after : Reach)
    (u : Value) → IsKey l → Agrees bs (walk bs l start None bit at.next at.cells) at (Ok after)
    → ((x : Value × ℕ × ℕ) → walk bs l start None bit at.next at.cells ≡ Ok x → x.0 ≡ u) → above key u ≡ true
    → Agrees bs (walk bs l start key bit at.next at.cells) at (Ok after)
key_above bs l start key bit at after u h r v a =
    let w = walks (walk bs l start None bit at.next at.cells) after.next after.cells (sym r.same) in
    let x = w.is in
    let t : above key x.0 ≡ true = ap (above key) (v x w.ok) ∙ a in
    let is = ordered bs l start key bit at.next at.cells h ∙ ap (λ q. and_then q (in_order key bit)) w.ok
    ∙ ap (λ b. require b (KeyOrder bit) (Ok x)) t in
    record {
      same = ap (λ n. Ok (n, after.cells)) (sym w.next) ∙ ap (λ n. Ok (x.1, n)) (sym w.cells)
          ∙ sym (ap without_value is);
      ahead = r.ahead;
    }

pub key_below : (bs : List ℕ) (l : Layout) (start : ℕ) (key : Option Value) (bit : ℕ) (at after : Reach)
    (u : Value) → IsKey l → Agrees bs (walk bs l start None bit at.next at.cells) at (Ok after)
    → ((x : Value × ℕ × ℕ) → walk bs l start None bit at.next at.cells ≡ Ok x → x.0 ≡ u) → above key u ≡ false
    → Agrees bs (walk bs l start key bit at.next at.cells) at (Err (s.KeyOrder bit))
key_below bs l start key bit at after u h r v a =
    let w = walks (walk bs l start None bit at.next at.cells) after.next after.cells (sym r.same) in
    let x = w.is in
    let t : above key x.0 ≡ false = ap (above key) (v x w.ok) ∙ a in
    let is = ordered bs l start key bit at.next at.cells h ∙ ap (λ q. and_then q (in_order key bit)) w.ok
    ∙ ap (λ b. require b (KeyOrder bit) (Ok x)) t in
    record { same = sym (ap without_value is); ahead = tt }

-- ---- the bytes of a text or of bytes

require_inv : (b : Bool) (e : Fault) (r : Walked Value) (x : Value × ℕ × ℕ) → require b e r ≡ Ok x → r ≡ Ok x
require_inv true e r x h = h
require_inv false e r x h = absurd cc

ordered_inv : (r : Walked Value) (bit : ℕ) (x : Value × ℕ × ℕ) → and_then r (in_order None bit) ≡ Ok x → r
    ≡ Ok x
ordered_inv (Ok y) bit x h = h
ordered_inv (Err e) bit x h = absurd cc

abbrev value_in : Walked Value → Value
value_in (Ok x) = x.0
value_in (Err e) = Bytes []

abbrev next_in : Walked Value → ℕ
next_in (Ok x) = x.1
next_in (Err e) = 0

pub bytes_value : (bs : List ℕ) (l : Layout) (text : Bool) (start bit next cells : ℕ) (x : Value × ℕ × ℕ)
    → IsByteRange l text → walk bs l start None bit next cells ≡ Ok x → x.0
    ≡ Bytes (take (x.1 - next) (drop next bs))
bytes_value bs l text start bit next cells x b h =
    let d = b.distance in
    let c = b.count in
    let t = byte_kind text in
    let n = field bs (bit + d) c in
    let found = field bs bit d in
    let h1 = subst (λ (m : Layout). walk bs m start None bit next cells ≡ Ok x) b.is h in
    let h2 = ordered_inv (range_at bs d c start bit next (bytes_at bs t next cells)) bit x h1 in
    let good : Value × ℕ × ℕ = (Bytes (take n (drop next bs)), next + n, cells + n) in
    let r3 = require (is_spelled t (take n (drop next bs))) (BadText next) (Ok good) in
    let r2 = require (nat_le (next + n) (length bs)) Short r3 in
    let h3 = require_inv (nat_eq found (distance n (next - start)))
    (Distance bit found (distance n (next - start))) (bytes_at bs t next cells n) x h2 in
    let h4 = require_inv (nat_le (cells + n) cell_limit) TooManyCells r2 x h3 in
    let h5 = require_inv (nat_le (next + n) (length bs)) Short r3 x h4 in
    let h6 = require_inv (is_spelled t (take n (drop next bs))) (BadText next) (Ok good) x h5 in
    let ev : Bytes (take n (drop next bs)) ≡ x.0 = ap value_in h6 in
    let en : next + n ≡ x.1 = ap next_in h6 in
    let gap : n ≡ x.1 - next = omega (arith, en) in
    sym ev ∙ ap (λ k. Bytes (take k (drop next bs))) gap

abbrev pub IsWhole : Layout → Type 0
IsWhole (Leaf (Integer k) c) = Unit {0}
IsWhole _ = ⊥

pub whole_key : (l : Layout) → IsKey l → (kinds.Flag ≡ kind_at l → ⊥) → (kinds.Text ≡ kind_at l → ⊥)
    → (kinds.Bytes ≡ kind_at l → ⊥) → IsWhole l
whole_key (Leaf Flag c) h f t b = absurd (f refl)
whole_key (Leaf (Integer k) c) h f t b = tt
whole_key (ByteRange Text d c) h f t b = absurd (t refl)
whole_key (ByteRange Binary d c) h f t b = absurd (b refl)
whole_key (ItemRange g d c m) h f t b = absurd h
whole_key (Optional w m) h f t b = absurd h
whole_key (Struct ls) h f t b = absurd h

pub plain_flag : (k : Kind) → kinds.Flag ≡ plain k → kinds.Flag ≡ k
plain_flag kinds.Pair e = absurd cc
plain_flag kinds.Flag e = refl
plain_flag kinds.I8 e = absurd cc
plain_flag kinds.I16 e = absurd cc
plain_flag kinds.I32 e = absurd cc
plain_flag kinds.I64 e = absurd cc
plain_flag kinds.Text e = absurd cc
plain_flag kinds.Bytes e = absurd cc
plain_flag kinds.List e = absurd cc
plain_flag kinds.Set e = absurd cc
plain_flag kinds.Map e = absurd cc
plain_flag kinds.Struct e = absurd cc
plain_flag kinds.Optional e = absurd cc
plain_flag kinds.Size e = absurd cc

pub plain_bytes : (k : Kind) (q : Kind) → (q ≡ kinds.Text) ⊎ (q ≡ kinds.Bytes) → q ≡ plain k → q ≡ k
plain_bytes kinds.Pair q (inl a) e = absurd cc
plain_bytes kinds.Pair q (inr a) e = absurd cc
plain_bytes kinds.Flag q o e = e
plain_bytes kinds.I8 q o e = e
plain_bytes kinds.I16 q o e = e
plain_bytes kinds.I32 q o e = e
plain_bytes kinds.I64 q o e = e
plain_bytes kinds.Text q o e = e
plain_bytes kinds.Bytes q o e = e
plain_bytes kinds.List q o e = e
plain_bytes kinds.Set q o e = e
plain_bytes kinds.Map q o e = e
plain_bytes kinds.Struct q o e = e
plain_bytes kinds.Optional q o e = e
plain_bytes kinds.Size q o e = e

pub flag_value : (bs : List ℕ) (v : Version) (t : Noted) (start bit next cells : ℕ) (x : Value × ℕ × ℕ)
    → kinds.Flag ≡ kind_at (layout_in v t) → walk bs (layout_in v t) start None bit next cells ≡ Ok x
    → x.0 ≡ One (Truth (nat_eq (field bs bit (stride (layout_in v t))) 1))
flag_value bs v (Leaf Flag c) start bit next cells x e h = sym (ap value_in h)
flag_value bs v (Leaf (Integer I8) c) start bit next cells x e h = absurd cc
flag_value bs v (Leaf (Integer I16) c) start bit next cells x e h = absurd cc
flag_value bs v (Leaf (Integer I32) c) start bit next cells x e h = absurd cc
flag_value bs v (Leaf (Integer I64) c) start bit next cells x e h = absurd cc
flag_value bs v (ByteRange Text d c) start bit next cells x e h = absurd cc
flag_value bs v (ByteRange Binary d c) start bit next cells x e h = absurd cc
flag_value bs v (ItemRange AList d c m) start bit next cells x e h = absurd cc
flag_value bs v (ItemRange ASet d c m) start bit next cells x e h = absurd cc
flag_value bs v (ItemRange AMap d c m) start bit next cells x e h = absurd cc
flag_value bs v (Optional w m) start bit next cells x e h = absurd cc
flag_value bs v (Struct ls) start bit next cells x e h = absurd cc

pub number_value : (bs : List ℕ) (l : Layout) (start bit next cells : ℕ) (z : ℤ) (x : Value × ℕ × ℕ)
    → IsWhole l → IsNumberAt bs l bit (Some z) → walk bs l start None bit next cells ≡ Ok x → x.0
    ≡ One (Number z)
number_value bs (Leaf (Integer k) c) start bit next cells z x h r e =
    let y = meaning c (field bs bit (width c)) in
    let q = require_inv (in_range (Integer k) y) (OutOfRange bit) (Ok (One (Number y), next, cells)) x e in
    sym (ap value_in q) ∙ ap (λ n. One (Number n)) (sym (r k c refl).0)
number_value bs (Leaf Flag c) start bit next cells z x h r e = absurd h
number_value bs (ByteRange t d c) start bit next cells z x h r e = absurd h
number_value bs (ItemRange g d c m) start bit next cells z x h r e = absurd h
number_value bs (Optional w m) start bit next cells z x h r e = absurd h
number_value bs (Struct ls) start bit next cells z x h r e = absurd h

pub whole_leaf : (l : Layout) → IsWhole l → IsLeaf l
whole_leaf (Leaf (Integer k) c) h = tt
whole_leaf (Leaf Flag c) h = absurd h
whole_leaf (ByteRange t d c) h = absurd h
whole_leaf (ItemRange g d c m) h = absurd h
whole_leaf (Optional w m) h = absurd h
whole_leaf (Struct ls) h = absurd h

-- ---- the kinds of keys

-- two keys of one rank are of one kind
pub one_kind : (a b : Key) (n : ℕ) → kind_rank (value_of a) ≡ n → kind_rank (value_of b) ≡ n
    → IsOneKind (value_of a) (value_of b)
one_kind (key.Number x) (key.Number y) n e f = tt
one_kind (key.Number x) (key.Flag y) n e f = absurd (omega (arith, e, f))
one_kind (key.Number x) (key.Bytes y) n e f = absurd (omega (arith, e, f))
one_kind (key.Flag x) (key.Number y) n e f = absurd (omega (arith, e, f))
one_kind (key.Flag x) (key.Flag y) n e f = tt
one_kind (key.Flag x) (key.Bytes y) n e f = absurd (omega (arith, e, f))
one_kind (key.Bytes x) (key.Number y) n e f = absurd (omega (arith, e, f))
one_kind (key.Bytes x) (key.Flag y) n e f = absurd (omega (arith, e, f))
one_kind (key.Bytes x) (key.Bytes y) n e f = tt

-- a layout's rank by the kind that its node has
pub rank_is : (k q : Kind) (l : Layout) → plain k ≡ kind_at l → k ≡ q → rank_at (plain q)
    ≡ rank_at (kind_at l)
rank_is k q l e h = ap (λ z. rank_at (plain z)) (sym h) ∙ ap rank_at e

pub bytes_kind : (r : Result (Key × Reach) ContentFault) (l : Layout)
    → IfOk r (λ p. kind_rank (value_of p.0) ≡ 2) → 2 ≡ rank_at (kind_at l)
    → IfOk r (λ p. IsOfKind l (Some p.0))
bytes_kind (Ok p) l h e = h ∙ e
bytes_kind (Err f) l h e = tt

pub whole_rank : (l : Layout) → IsWhole l → 0 ≡ rank_at (kind_at l)
whole_rank (Leaf (Integer I8) c) h = refl
whole_rank (Leaf (Integer I16) c) h = refl
whole_rank (Leaf (Integer I32) c) h = refl
whole_rank (Leaf (Integer I64) c) h = refl
whole_rank (Leaf Flag c) h = absurd h
whole_rank (ByteRange t d c) h = absurd h
whole_rank (ItemRange g d c m) h = absurd h
whole_rank (Optional w m) h = absurd h
whole_rank (Struct ls) h = absurd h

pub not_above : (b : Bool) → (b ≡ true → ⊥) → b ≡ false
not_above true h = absurd (h refl)
not_above false h = refl

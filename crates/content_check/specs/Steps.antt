-- What the steps of the check answer: bits, numbers, keys and blocks.
use Rattle.std.specs.Prelude.{◌≡◌, ◌≢◌, ℕ, suc, ◌+◌, ◌*◌, ◌≤◌, List, length, Bool, true, false}
use Rattle.std.specs.Prelude.{ℤ, pos, ◌+ℤ◌, ◌≤ℤ◌, ◌<ℤ◌, Result, Ok, Err, Option, Some, None}
use Rattle.frozen_model.specs.Bits.{field}
use Rattle.frozen_model.specs.Trees.{Whole, Integer, ByteKind, Text, Binary, Holder, AList, ASet, AMap}
use Rattle.frozen_model.specs.Trees.{Leaf, ByteRange, ItemRange}
use Rattle.frozen_model.specs.Values.{Value, Items, cell_limit, inline_cells}
use Rattle.frozen_model.specs.Layouts.{Layout, Coded, stride, width, meaning, in_range}
use Rattle.frozen_model.specs.Packing.{bytes_for}
use Rattle.frozen_model.specs.Walk.{Fault, Dirty, Walked, and_then, first_dirty, items_at, walk, walk_each}
use Rattle.frozen_model.specs.Walk.{open_content}
use Rattle.layout_tree.specs.declared.node.Kind.{Kind}
use Rattle.layout_tree.specs.declared.node.Kind.TheVariants as kinds
use Rattle.layout_tree.specs.Reading.{kind_at}
use Rattle.key_order.specs.declared.key.Key.{Key}
use Rattle.key_order.specs.Keys.{value_of, kind_rank}
use Rattle.content_check.specs.declared.fault.ContentFault.{ContentFault}
use Rattle.content_check.specs.declared.reach.Reach.{Reach}
use Rattle.content_check.specs.Agreeing.{fault_of}

-- what the walk goes on with after an answer of the code
abbrev pub goes_on : {A X : Type 0} → Result A ContentFault → (A → Result X Fault) → Result X Fault
goes_on (Ok a) go = go a
goes_on (Err e) go = Err (fault_of e)

-- n bits are zero, or the fault is the first that is not
abbrev pub IsZeroOrDirty : List ℕ → ℕ → ℕ → Result (Unit {0}) ContentFault → Type 0
IsZeroOrDirty bs bit n (Ok u) = field bs bit n ≡ 0
IsZeroOrDirty bs bit n (Err e) = (field bs bit n ≢ 0) × (fault_of e ≡ Dirty (first_dirty bs n bit))

-- ---- numbers

-- it is the number at a leaf of whole numbers and in the range of its kind; or there is none, and the number
-- is not
abbrev pub IsNumberAt : List ℕ → Layout → ℕ → Option ℤ → Type 0
IsNumberAt bs l bit (Some x) = (k : Whole) (c : Coded) → l ≡ Leaf (Integer k) c
    → (x ≡ meaning c (field bs bit (width c))) × (in_range (Integer k) x ≡ true)
IsNumberAt bs l bit None = (k : Whole) (c : Coded) → l ≡ Leaf (Integer k) c
    → in_range (Integer k) (meaning c (field bs bit (width c))) ≡ false

-- it is the number n above a base, which is not above the greatest; or there is none, and it would be above
abbrev pub IsAbove : ℤ → ℕ → ℤ → Option ℤ → Type 0
IsAbove base n top (Some x) = (x ≡ (base +ℤ pos n)) × (x ≤ℤ top)
IsAbove base n top None = top <ℤ (base +ℤ pos n)

-- ---- kinds of ranges

abbrev pub byte_kind : Bool → ByteKind
byte_kind true = Text
byte_kind false = Binary

-- a text, or bytes
pub record IsByteRange (l : Layout) (text : Bool) : Type 0 where
  pub distance : ℕ
  pub count : ℕ
  pub is : l ≡ ByteRange (byte_kind text) distance count

abbrev pub IsList : Layout → Type 0
IsList (ItemRange AList d c l) = Unit {0}
IsList _ = ⊥

abbrev pub IsSet : Layout → Type 0
IsSet (ItemRange ASet d c l) = Unit {0}
IsSet _ = ⊥

abbrev pub IsMap : Layout → Type 0
IsMap (ItemRange AMap d c l) = Unit {0}
IsMap _ = ⊥

-- ---- keys

-- an answer without its key
abbrev pub reach_of : Result (Key × Reach) ContentFault → Result Reach ContentFault
reach_of (Ok p) = Ok p.1
reach_of (Err e) = Err e

-- the key that was read is the value that the walk gives
abbrev pub KeyIs : Walked Value → Result (Key × Reach) ContentFault → Type 0
KeyIs w (Ok p) = (x : Value × ℕ × ℕ) → w ≡ Ok x → x.0 ≡ value_of p.0
KeyIs w (Err e) = Unit {0}

-- the rank of the keys of a kind
abbrev pub rank_at : Kind → ℕ
rank_at kinds.Flag = 1
rank_at kinds.Text = 2
rank_at kinds.Bytes = 2
rank_at _ = 0

-- a key, where there is one, is of the kind of the layout
abbrev pub IsOfKind : Layout → Option Key → Type 0
IsOfKind l None = Unit {0}
IsOfKind l (Some k) = kind_rank (value_of k) ≡ rank_at (kind_at l)

-- ---- blocks

-- after the block of n items the walk goes on with the items, or with the fault
abbrev pub BlockTaken : List ℕ → Layout → ℕ → Reach → Result Reach ContentFault → Type 0
BlockTaken bs l n at r = (h : Holder) (step : Option Value → ℕ → ℕ → ℕ → Walked Value)
    → items_at bs h step (stride l) (suc (inline_cells l)) at.next at.cells n
    ≡ goes_on r (λ (b : Reach). and_then (walk_each h step (stride l) None n (8 * at.next) b.next b.cells)
    (λ x. Ok (Items h x.0, x.1, x.2)))

-- the block lies in the content, and the next begins behind it
abbrev pub BlockLies : List ℕ → Layout → ℕ → Reach → Result Reach ContentFault → Type 0
BlockLies bs l n at (Ok b) = (b.next ≡ at.next + bytes_for (n * stride l)) × (b.next ≤ length bs)
    × (b.cells ≤ cell_limit)
BlockLies bs l n at (Err e) = Unit {0}

-- ---- the whole content

-- the content is opened as a value, and the walk ended with so many cells; or it has this fault
abbrev pub IsWalked : List ℕ → Layout → Result ℕ ContentFault → Type 0
IsWalked bs l (Ok c) = (v : Value) × (open_content bs l ≡ Ok v)
    × (walk bs l 0 None 0 (bytes_for (stride l)) (inline_cells l) ≡ Ok (v, length bs, c))
IsWalked bs l (Err e) = open_content bs l ≡ Err (fault_of e)

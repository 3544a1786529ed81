-- The walk over the layouts that say a layout gives this layout.
use Rattle.std.proofs.Common.{◌≡◌, ℕ, zero, suc, ◌+◌, ◌<◌, ◌≤◌, ℤ, pos, Bool, true, false, if◌then◌else◌, List, [], ◌∷◌, ◌++◌, Some, None, Result, Ok, arith, refl, ap, sym, ◌∙◌, subst, map, length}
use Rattle.std.specs.Prelude.{neg_ℤ, nat_le, nat_lt}
use Rattle.std.specs.Ordering.{int_eq}
use Rattle.std.proofs.lemmas.Bool.{and_from, le-leb, lt-ltb}
use Rattle.std.proofs.lemmas.List.{append-nil, map-append, length-map}
use Rattle.frozen_model.specs.Trees.{I8, I16, I32, I64, LeafKind, Flag, Integer, Text, Binary, AList, ASet, AMap, Holder, Leaf, ByteRange, ItemRange, Optional, Struct, NoField, Field, nodes, nodes_all, greatest_bits, greatest_bits_all, Rising, ids_of}
use Rattle.frozen_model.specs.Values.{Values}
use Rattle.frozen_model.specs.Layouts.{Version, Coded, width, Layout, Layouts}
use Rattle.layout_tree.specs.declared.node.NodeSpec.{NodeSpec}
use Rattle.layout_tree.specs.declared.node.Kind.{Kind}
use Rattle.layout_tree.specs.declared.node.Kind.TheVariants as kinds
use Rattle.layout_tree.specs.Listing.{inline, inline_all, kind_of, kind_of_bytes, kind_of_holder, spec, nodes_of, nodes_of_all}
use Rattle.layout_tree.specs.Given.{shown, noted_from, all_noted_from}
use Rattle.layout_tree.specs.Reading.{base_of}
use Rattle.layout_tree.proofs.Place.{length_nodes}
use Rattle.typed_reading.proofs.FieldLaws.{int_eq_refl}
use Rattle.layout_schema.specs.Shapes.{Child, entry_of, Place, AtRoot, InStruct, InList, InSet, InMap, AtFirst, AtValue, AtIsset, AtSize, may_stand, place_of, is_inline, deeper, is_id, are_ids, fields_fit, greatest_of, is_width, base_fits, At, Walked, nothing, in_front, walk_children, done, found, walk_part}
use Rattle.layout_schema.proofs.Listed.{child_of, node_entry, HasSize, two_children, three_children, field_children, Has, HasAll}
use Rattle.layout_schema.proofs.Stands.{struct_at, Stands, AllStand, tree_walked, fields_walked, node_at, size_walked, at_node, named_kind, wide_leaf, base_leaf, item_place, struct_of_item, item_stands, value_stands, struct_stands, level_in, some_noted}

-- ---- steps

pub same_walked : (a : Walked) (ns : List NodeSpec) (b g : ℕ) → a.nodes ≡ ns → a.bits ≡ b → a.greatest ≡ g → a ≡ record { nodes = ns; bits = b; greatest = g }
same_walked a ns b g en eb eg =
    ap (λ r. record { nodes = r; bits = a.bits; greatest = a.greatest }) en
    ∙ ap (λ r. record { nodes = ns; bits = r; greatest = a.greatest }) eb
    ∙ ap (λ r. record { nodes = ns; bits = b; greatest = r }) eg

-- the offset of a child, where the children before it have o bits
abbrev pub offset_at : Place → ℕ → ℕ
offset_at place o = if is_inline place then o else 0

abbrev pub taken : Place → ℕ → ℕ
taken place b = if is_inline place then b else 0

-- a node is entered
enter_ok : (enter : At → ℕ → Result Walked ℤ) (place : Place) (level p f o n : ℕ) (k : Kind) (b : ℕ) (cs : List Child) (z : ℤ) (a y : Walked)
    → n < 4096 → may_stand place k ≡ true → fields_fit k cs ≡ true → is_width (greatest_of k) (pos b) ≡ true → base_fits k z ≡ true → level ≤ 32
    → walk_children enter k level n cs (suc n) 0 ≡ Ok a → done (at_node place level p f o) n (node_entry k b cs z) k (greatest_of k) a ≡ Ok y
    → found enter (at_node place level p f o) n (Some (node_entry k b cs z)) ≡ Ok y
enter_ok enter place level p f o n k b cs z a y few may fit wide based shallow walked ends =
    let named = named_kind k in
    let t1 = lt-ltb n 4096 few in
    let t2 = le-leb level 32 shallow in
    rw (named, t1, may, fit, wide, based, t2, walked) ends

-- a child is walked
child_ok : (enter : At → ℕ → Result Walked ℤ) (k : Kind) (level p f n o : ℕ) (cs : List Child) (place : Place) (a b : Walked) (m off next : ℕ)
    → place_of k (pos f) ≡ place → offset_at place o ≡ off → enter (at_node place (level + deeper place) p f off) n ≡ Ok a
    → n + length a.nodes ≡ m → o + taken place a.bits ≡ next → walk_children enter k level p cs m next ≡ Ok b
    → walk_children enter k level p (child_of f n off ∷ cs) n o ≡ Ok (in_front place a b)
child_ok enter k level p f n o cs place a b m off next ep eo here em en later =
    let t1 = int_eq_refl (pos n) in
    let t2 = int_eq_refl (neg_ℤ (pos off)) in
    rw (ep, eo, t1, t2, here, em, en, later) refl

-- a node is left
done_ok : (place : Place) (level p f o n : ℕ) (k : Kind) (b : ℕ) (cs : List Child) (below : Walked) → greatest_of k ≡ None → below.bits ≡ b → below.greatest ≤ 32767
    → done (at_node place level p f o) n (node_entry k b cs (pos 0)) k (greatest_of k) below
    ≡ Ok (record { nodes = node_at k f p b o (pos 0) ∷ below.nodes; bits = b; greatest = below.greatest })
done_ok place level p f o n k b cs below eg eb most =
    let t1 = int_eq_refl (pos b) in
    let t2 = le-leb below.greatest 32767 most in
    rw (eg, eb, t1, t2) refl

-- ---- distances, counts and issets

size_ok : (ls : Values) (room level p f o n w : ℕ) → HasSize ls n w → n < 4096 → level ≤ 32 → w ≤ 32
    → walk_part ls (suc room) (at_node AtSize level p f o) n ≡ Ok (size_walked p f o w)
size_ok ls room level p f o n w h few shallow wide =
    ap (found (walk_part ls room) (at_node AtSize level p f o) n) h
    ∙ enter_ok (walk_part ls room) AtSize level p f o n kinds.Size w [] (pos 0) nothing (size_walked p f o w) few refl refl (le-leb w 32 wide) refl shallow refl refl

isset_ok : (ls : Values) (room level p f o n w : ℕ) → entry_of ls n ≡ Some (node_entry kinds.Flag w [] (pos 0)) → n < 4096 → level ≤ 32 → w ≤ 1
    → walk_part ls (suc room) (at_node AtIsset level p f o) n ≡ Ok (record { nodes = node_at kinds.Flag f p w o (pos 0) ∷ []; bits = w; greatest = 1 })
isset_ok ls room level p f o n w h few shallow wide =
    ap (found (walk_part ls room) (at_node AtIsset level p f o) n) h
    ∙ enter_ok (walk_part ls room) AtIsset level p f o n kinds.Flag w [] (pos 0) nothing (record { nodes = node_at kinds.Flag f p w o (pos 0) ∷ []; bits = w; greatest = 1 })
    few refl refl (le-leb w 1 wide) refl shallow refl refl

-- ---- leaves

leaf_done : (place : Place) (level p f o n : ℕ) (k : LeafKind) (c : Coded)
    → done (at_node place level p f o) n (node_entry (kind_of k) (width c) [] (base_of c)) (kind_of k) (greatest_of (kind_of k)) nothing ≡ Ok (tree_walked (Leaf k c) (struct_at place) n p f o)
leaf_done place level p f o n Flag c = refl
leaf_done place level p f o n (Integer I8) c = refl
leaf_done place level p f o n (Integer I16) c = refl
leaf_done place level p f o n (Integer I32) c = refl
leaf_done place level p f o n (Integer I64) c = refl

leaf_fields : (k : LeafKind) → fields_fit (kind_of k) [] ≡ true
leaf_fields Flag = refl
leaf_fields (Integer I8) = refl
leaf_fields (Integer I16) = refl
leaf_fields (Integer I32) = refl
leaf_fields (Integer I64) = refl

-- ---- ranges

bytes_fields : (t : _) (n d : ℕ) → fields_fit (kind_of_bytes t) (two_children n d) ≡ true
bytes_fields Text n d = refl
bytes_fields Binary n d = refl

pub bytes_places : (t : _) (f : ℕ) → place_of (kind_of_bytes t) (pos f) ≡ AtSize
bytes_places Text f = refl
bytes_places Binary f = refl

pub bytes_none : (t : _) → greatest_of (kind_of_bytes t) ≡ None
bytes_none Text = refl
bytes_none Binary = refl

bytes_base : (t : _) → base_fits (kind_of_bytes t) (pos 0) ≡ true
bytes_base Text = refl
bytes_base Binary = refl

pub bytes_node : (t : _) (f p b w o : ℕ) → shown (spec (kind_of_bytes t) f p b w o (pos 0)) ≡ node_at (kind_of_bytes t) f p b o (pos 0)
bytes_node Text f p b w o = refl
bytes_node Binary f p b w o = refl

range_fields : (h : Holder) (n d : ℕ) → fields_fit (kind_of_holder h) (three_children n d) ≡ true
range_fields AList n d = refl
range_fields ASet n d = refl
range_fields AMap n d = refl

pub range_first : (h : Holder) → place_of (kind_of_holder h) (pos 1) ≡ AtSize
range_first AList = refl
range_first ASet = refl
range_first AMap = refl

pub range_second : (h : Holder) → place_of (kind_of_holder h) (pos 2) ≡ AtSize
range_second AList = refl
range_second ASet = refl
range_second AMap = refl

pub range_third : (h : Holder) → place_of (kind_of_holder h) (pos 3) ≡ item_place h
range_third AList = refl
range_third ASet = refl
range_third AMap = refl

pub range_none : (h : Holder) → greatest_of (kind_of_holder h) ≡ None
range_none AList = refl
range_none ASet = refl
range_none AMap = refl

range_base : (h : Holder) → base_fits (kind_of_holder h) (pos 0) ≡ true
range_base AList = refl
range_base ASet = refl
range_base AMap = refl

pub range_node : (h : Holder) (f p b w o : ℕ) → shown (spec (kind_of_holder h) f p b w o (pos 0)) ≡ node_at (kind_of_holder h) f p b o (pos 0)
range_node AList f p b w o = refl
range_node ASet f p b w o = refl
range_node AMap f p b w o = refl

pub item_apart : (h : Holder) → is_inline (item_place h) ≡ false
item_apart AList = refl
item_apart ASet = refl
item_apart AMap = refl

-- no width is asked of a kind that is no leaf
branch_wide : (k : Kind) (b : ℕ) → greatest_of k ≡ None → is_width (greatest_of k) (pos b) ≡ true
branch_wide k b e = ap (λ g. is_width g (pos b)) e

-- ---- structs

id_ok : (i : ℕ) → 1 ≤ i → i ≤ 32767 → is_id (pos i) ≡ true
id_ok i low high = and_from (nat_lt 0 i) (nat_le i 32767) (lt-ltb 0 i low) (le-leb i 32767 high)

ids_ok : (ls : Layouts) (before n o : ℕ) → Rising before (ids_of ls) → are_ids (field_children ls n o) ≡ true
ids_ok NoField before n o h = refl
ids_ok (Field i l ls) before n o h =
    and_from (is_id (pos i)) (are_ids (field_children ls (n + nodes (noted_from l)) (o + inline (noted_from l)))) (id_ok i (omega (arith, h.0)) h.1)
    (ids_ok ls i (n + nodes (noted_from l)) (o + inline (noted_from l)) h.2)

-- what holds of the kind of a struct
pub record StructKind (k : Kind) : Type 0 where
  pub inlined : (z : ℤ) → is_inline (place_of k z) ≡ true
  pub struct : (z : ℤ) → struct_at (place_of k z) ≡ kinds.Struct
  pub none : greatest_of k ≡ None
  pub based : base_fits k (pos 0) ≡ true
  pub node : (f p b w o : ℕ) → shown (spec k f p b w o (pos 0)) ≡ node_at k f p b o (pos 0)

if_inline : (b : Bool) → is_inline (if b then AtFirst else AtValue) ≡ true
if_inline true = refl
if_inline false = refl

if_struct : (b : Bool) → struct_at (if b then AtFirst else AtValue) ≡ kinds.Struct
if_struct true = refl
if_struct false = refl

is_struct : StructKind kinds.Struct
is_struct = record { inlined = λ z. refl; struct = λ z. refl; none = refl; based = refl; node = λ f p b w o. refl }

is_pair : StructKind kinds.Pair
is_pair = record { inlined = λ z. if_inline (int_eq z (pos 1)); struct = λ z. if_struct (int_eq z (pos 1)); none = refl; based = refl; node = λ f p b w o. refl }

pub struct_kind : (place : Place) → StructKind (struct_at place)
struct_kind AtRoot = is_struct
struct_kind InStruct = is_struct
struct_kind InList = is_struct
struct_kind InSet = is_struct
struct_kind InMap = is_pair
struct_kind AtFirst = is_struct
struct_kind AtValue = is_struct
struct_kind AtIsset = is_struct
struct_kind AtSize = is_struct

pair_fit : (v : Version) (ls : Layouts) (level n m o : ℕ) → Stands v (Struct ls) InMap level n → fields_fit kinds.Pair (field_children ls m o) ≡ true
pair_fit v NoField level n m o s = absurd s.pair
pair_fit v (Field i k NoField) level n m o s = absurd s.pair
pair_fit v (Field i k (Field j w (Field q u ls))) level n m o s = absurd s.pair
pair_fit v (Field i k (Field j w NoField)) level n m o s =
    let t1 = ap (λ a. int_eq (pos a) (pos 1)) s.pair.0 in
    let t2 = ap (λ a. int_eq (pos a) (pos 2)) s.pair.2 in
    rw (t1, t2) refl

struct_fit : (v : Version) (ls : Layouts) (place : Place) (level n m o : ℕ) → Stands v (Struct ls) place level n → fields_fit (struct_at place) (field_children ls m o) ≡ true
struct_fit v ls InMap level n m o s = pair_fit v ls level n m o s
struct_fit v ls AtRoot level n m o s = ids_ok ls 0 m o s.formed.0
struct_fit v ls InStruct level n m o s = ids_ok ls 0 m o s.formed.0
struct_fit v ls InList level n m o s = ids_ok ls 0 m o s.formed.0
struct_fit v ls InSet level n m o s = ids_ok ls 0 m o s.formed.0
struct_fit v ls AtFirst level n m o s = ids_ok ls 0 m o s.formed.0
struct_fit v ls AtValue level n m o s = ids_ok ls 0 m o s.formed.0
struct_fit v ls AtIsset level n m o s = ids_ok ls 0 m o s.formed.0
struct_fit v ls AtSize level n m o s = ids_ok ls 0 m o s.formed.0

pub if_true : (b : Bool) (m n : ℕ) → b ≡ true → (if b then m else n) ≡ m
if_true b m n e = ap (λ c. if c then m else n) e

pub if_false : (b : Bool) (m n : ℕ) → b ≡ false → (if b then m else n) ≡ n
if_false b m n e = ap (λ c. if c then m else n) e

-- ---- the walk

mutual
  pub walks : (v : Version) (ls : Values) (l : Layout) (room : ℕ) (place : Place) (level n p f o : ℕ) → nodes (noted_from l) ≤ room → Stands v l place level n
      → Has ls l (struct_at place) n → walk_part ls room (at_node place level p f o) n ≡ Ok (tree_walked l (struct_at place) n p f o)
  walks v ls l zero place level n p f o le s h = absurd (omega (arith, le, some_noted l))
  walks v ls (Leaf k c) (suc room) place level n p f o le s h =
      ap (found (walk_part ls room) (at_node place level p f o) n) h
      ∙ enter_ok (walk_part ls room) place level p f o n (kind_of k) (width c) [] (base_of c) nothing (tree_walked (Leaf k c) (struct_at place) n p f o)
      (omega (arith, s.few)) s.may (leaf_fields k) (wide_leaf k (width c) s.legal) (base_leaf v k c s.coded) (level_in v (Leaf k c) place level n s) refl
      (leaf_done place level p f o n k c)
  walks v ls (ByteRange t d c) (suc zero) place level n p f o le s h = absurd (omega (arith, le))
  walks v ls (ByteRange t d c) (suc (suc room)) place level n p f o le s h =
      let k = kind_of_bytes t in
      let a = size_walked n 1 0 d in
      let b = size_walked n 2 d c in
      let below = in_front AtSize a (in_front AtSize b nothing) in
      let level_ok = level_in v (ByteRange t d c) place level n s in
      let second = child_ok (walk_part ls (suc room)) k level n 2 (suc (suc n)) d [] AtSize b nothing (suc (suc (suc n))) d (d + c) (bytes_places t 2) refl
      (size_ok ls room (level + 0) n 2 d (suc (suc n)) c h.2 (omega (arith, s.few)) (omega (arith, level_ok)) s.legal.1) (omega arith) refl refl in
      let first = child_ok (walk_part ls (suc room)) k level n 1 (suc n) 0 (child_of 2 (suc (suc n)) d ∷ []) AtSize a (in_front AtSize b nothing) (suc (suc n)) 0 d (bytes_places t 1) refl
      (size_ok ls room (level + 0) n 1 0 (suc n) d h.1 (omega (arith, s.few)) (omega (arith, level_ok)) s.legal.0) (omega arith) (omega arith) second in
      ap (found (walk_part ls (suc room)) (at_node place level p f o) n) h.0
      ∙ enter_ok (walk_part ls (suc room)) place level p f o n k (d + c) (two_children n d) (pos 0) below (tree_walked (ByteRange t d c) (struct_at place) n p f o)
      (omega (arith, s.few)) s.may (bytes_fields t n d) (branch_wide k (d + c) (bytes_none t)) (bytes_base t) level_ok first
      (done_ok place level p f o n k (d + c) (two_children n d) below (bytes_none t) (omega arith) (omega arith)
      ∙ ap Ok (ap (λ x. record { nodes = x ∷ below.nodes; bits = d + c; greatest = 64 }) (sym (bytes_node t f p (d + c) (suc (suc (suc n))) o))))
  walks v ls (ItemRange g d c l) (suc zero) place level n p f o le s h = absurd (omega (arith, le))
  walks v ls (ItemRange g d c l) (suc (suc room)) place level n p f o le s h =
      let k = kind_of_holder g in
      let a = size_walked n 1 0 d in
      let b = size_walked n 2 d c in
      let item = item_place g in
      let w = tree_walked l (struct_at item) (suc (suc (suc n))) n 3 0 in
      let below = in_front AtSize a (in_front AtSize b (in_front item w nothing)) in
      let level_ok = level_in v (ItemRange g d c l) place level n s in
      let stands = item_stands v g d c l place level n s in
      let apart = item_apart g in
      let third = child_ok (walk_part ls (suc room)) k level n 3 (suc (suc (suc n))) (d + c) [] item w nothing (suc (suc (suc n)) + length w.nodes) 0 (d + c) (range_third g) (if_false (is_inline item) (d + c) 0 apart)
      (walks v ls l (suc room) item (level + deeper item) (suc (suc (suc n))) n 3 0 (omega (arith, le)) stands (subst (λ x. Has ls l x (suc (suc (suc n)))) (sym (struct_of_item g)) h.3))
      refl (omega (arith, if_false (is_inline item) w.bits 0 apart)) refl in
      let second = child_ok (walk_part ls (suc room)) k level n 2 (suc (suc n)) d (child_of 3 (suc (suc (suc n))) 0 ∷ []) AtSize b (in_front item w nothing) (suc (suc (suc n))) d (d + c) (range_second g) refl
      (size_ok ls room (level + 0) n 2 d (suc (suc n)) c h.2 (omega (arith, s.few)) (omega (arith, level_ok)) s.legal.1) (omega arith) refl third in
      let first = child_ok (walk_part ls (suc room)) k level n 1 (suc n) 0 (child_of 2 (suc (suc n)) d ∷ child_of 3 (suc (suc (suc n))) 0 ∷ []) AtSize a (in_front AtSize b (in_front item w nothing)) (suc (suc n)) 0 d (range_first g) refl
      (size_ok ls room (level + 0) n 1 0 (suc n) d h.1 (omega (arith, s.few)) (omega (arith, level_ok)) s.legal.0) (omega arith) (omega arith) second in
      let bits : below.bits ≡ d + c = omega (arith, if_false (is_inline item) w.bits 0 apart) in
      let most : below.greatest ≡ 64 = omega (arith, if_false (is_inline item) w.greatest 0 apart) in
      ap (found (walk_part ls (suc room)) (at_node place level p f o) n) h.0
      ∙ enter_ok (walk_part ls (suc room)) place level p f o n k (d + c) (three_children n d) (pos 0) below (tree_walked (ItemRange g d c l) (struct_at place) n p f o)
      (omega (arith, s.few)) s.may (range_fields g n d) (branch_wide k (d + c) (range_none g)) (range_base g) level_ok first
      (done_ok place level p f o n k (d + c) (three_children n d) below (range_none g) bits (omega (arith, most))
      ∙ ap Ok (same_walked (record { nodes = node_at k f p (d + c) o (pos 0) ∷ below.nodes; bits = d + c; greatest = below.greatest })
      (map shown (nodes_of (noted_from (ItemRange g d c l)) (struct_at place) n p f o)) (d + c) 64
      (ap (λ x. x ∷ below.nodes) (sym (range_node g f p (d + c) (suc (suc (suc n)) + nodes (noted_from l)) o))
      ∙ ap (λ r. shown (spec k f p (d + c) (suc (suc (suc n)) + nodes (noted_from l)) o (pos 0)) ∷ (a.nodes ++ (b.nodes ++ r)))
      (append-nil w.nodes ∙ ap (λ x. map shown (nodes_of (noted_from l) x (suc (suc (suc n))) n 3 0)) (struct_of_item g)))
      refl most))
  walks v ls (Optional w l) (suc zero) place level n p f o le s h = absurd (omega (arith, le))
  walks v ls (Optional w l) (suc (suc room)) place level n p f o le s h =
      let k = kinds.Optional in
      let a : Walked = record { nodes = node_at kinds.Flag 1 n w 0 (pos 0) ∷ []; bits = w; greatest = 1 } in
      let b = tree_walked l kinds.Struct (suc (suc n)) n 2 w in
      let below = in_front AtIsset a (in_front AtValue b nothing) in
      let total = w + inline (noted_from l) in
      let level_ok = level_in v (Optional w l) place level n s in
      let stands = value_stands v w l place level n s in
      let second = child_ok (walk_part ls (suc room)) k level n 2 (suc (suc n)) w [] AtValue b nothing (suc (suc n) + length b.nodes) w total refl refl
      (walks v ls l (suc room) AtValue (level + 0) (suc (suc n)) n 2 w (omega (arith, le)) stands h.2) refl refl refl in
      let first = child_ok (walk_part ls (suc room)) k level n 1 (suc n) 0 (child_of 2 (suc (suc n)) w ∷ []) AtIsset a (in_front AtValue b nothing) (suc (suc n)) 0 w refl refl
      (isset_ok ls room (level + 0) n 1 0 (suc n) w h.1 (omega (arith, s.few)) (omega (arith, level_ok)) s.legal.0) (omega arith) (omega arith) second in
      let most : below.greatest ≡ 1 + greatest_bits l = omega arith in
      ap (found (walk_part ls (suc room)) (at_node place level p f o) n) h.0
      ∙ enter_ok (walk_part ls (suc room)) place level p f o n k total (two_children n w) (pos 0) below (tree_walked (Optional w l) (struct_at place) n p f o)
      (omega (arith, s.few)) s.may refl refl refl level_ok first
      (done_ok place level p f o n k total (two_children n w) below refl (omega arith) (omega (arith, most, s.narrow.0))
      ∙ ap Ok (same_walked (record { nodes = node_at k f p total o (pos 0) ∷ below.nodes; bits = total; greatest = below.greatest })
      (map shown (nodes_of (noted_from (Optional w l)) (struct_at place) n p f o)) total (1 + greatest_bits l)
      (ap (λ r. node_at k f p total o (pos 0) ∷ (a.nodes ++ r)) (append-nil b.nodes)) refl most))
  walks v ls (Struct fs) (suc room) place level n p f o le s h =
      let k = struct_at place in
      let of = struct_kind place in
      let below = fields_walked fs (suc n) n 0 in
      let total = inline_all (all_noted_from fs) in
      ap (found (walk_part ls room) (at_node place level p f o) n) h.0
      ∙ enter_ok (walk_part ls room) place level p f o n k total (field_children fs (suc n) 0) (pos 0) below (tree_walked (Struct fs) k n p f o)
      (omega (arith, s.few)) s.may (struct_fit v fs place level n (suc n) 0 s) (branch_wide k total of.none) of.based (level_in v (Struct fs) place level n s)
      (walks_all v ls fs room k of level n (suc n) 0 (omega (arith, le)) (struct_stands v fs place level n s) h.1)
      (done_ok place level p f o n k total (field_children fs (suc n) 0) below of.none refl (omega (arith, s.narrow.0))
      ∙ ap Ok (ap (λ x. record { nodes = x ∷ below.nodes; bits = total; greatest = greatest_bits_all fs }) (sym (of.node f p total (suc n + nodes_all (all_noted_from fs)) o))))

  walks_all : (v : Version) (ls : Values) (fs : Layouts) (room : ℕ) (k : Kind) → StructKind k → (level p n o : ℕ) → nodes_all (all_noted_from fs) ≤ room → AllStand v k fs level n
      → HasAll ls fs n → walk_children (walk_part ls room) k level p (field_children fs n o) n o ≡ Ok (fields_walked fs n p o)
  walks_all v ls NoField room k of level p n o le s h = refl
  walks_all v ls (Field id l fs) room k of level p n o le s h =
      let t = noted_from l in
      let place = place_of k (pos id) in
      let inl = of.inlined (pos id) in
      let a = tree_walked l kinds.Struct n p id o in
      let b = fields_walked fs (n + nodes t) p (o + inline t) in
      child_ok (walk_part ls room) k level p id n o (field_children fs (n + nodes t) (o + inline t)) place a b (n + nodes t) o (o + inline t) refl (if_true (is_inline place) o 0 inl)
      (walks v ls l room place (level + deeper place) n p id o (omega (arith, le)) s.0 (subst (λ x. Has ls l x n) (sym (of.struct (pos id))) h.0)
      ∙ ap (λ x. Ok (tree_walked l x n p id o)) (of.struct (pos id)))
      (omega (arith, length-map (nodes_of t kinds.Struct n p id o) shown, length_nodes t kinds.Struct n p id o))
      (omega (arith, if_true (is_inline place) a.bits 0 inl))
      (walks_all v ls fs room k of level p (n + nodes t) (o + inline t) (omega (arith, le)) s.1 h.1)
      ∙ ap Ok (same_walked (in_front place a b) (map shown (nodes_of_all (all_noted_from (Field id l fs)) n p o)) (inline_all (all_noted_from (Field id l fs))) (greatest_bits_all (Field id l fs))
      (sym (map-append shown (nodes_of t kinds.Struct n p id o) (nodes_of_all (all_noted_from fs) (n + nodes t) p (o + inline t))))
      (omega (arith, if_true (is_inline place) a.bits 0 inl))
      (omega (arith, if_true (is_inline place) a.greatest 0 inl)))

-- What the walk accepts is a layout that may stand there, which the layouts say.
use Rattle.std.proofs.Common.{◌≡◌, ℕ, zero, suc, ◌+◌, ◌<◌, ◌≤◌, ◌^◌, ℤ, pos, negsuc, Bool, true, false, cond, if◌then◌else◌, List, [], ◌∷◌, Option, Some, None, Result, Ok, Err, arith, refl, ap, sym, ◌∙◌, subst, map, length}
use Rattle.std.specs.Prelude.{neg_ℤ, nat_le, nat_lt, ◌&&◌, find}
use Rattle.std.specs.Ordering.{int_eq}
use Rattle.std.specs.Str.{bytes_eq}
use Rattle.std.proofs.lemmas.Bool.{and_parts, leb-true, ltb-true}
use Rattle.std.proofs.lemmas.Slice.Eq.{bytes_eq-Decides}
use Rattle.frozen_model.specs.Trees.{Whole, I8, I16, I32, I64, LeafKind, Flag, Integer, AList, ASet, AMap, Holder, Leaf, ByteRange, ItemRange, Optional, Struct, levels, greatest, IsKey, IsPlain, IsItem, value_bits}
use Rattle.frozen_model.specs.Values.{Values, InBits}
use Rattle.frozen_model.specs.Layouts.{Version, Version1, Version2, Coded, width, Unsigned, TwosComplement, FromBase, IsCoded, flag_coded, signed_coded, based_coded, Layout, in_range}
use Rattle.layout_tree.specs.declared.node.Kind.{Kind}
use Rattle.layout_tree.specs.declared.node.Kind.TheVariants as kinds
use Rattle.layout_tree.specs.Listing.{kind_of, spec}
use Rattle.layout_tree.specs.Given.{shown}
use Rattle.layout_tree.specs.Reading.{base_of}
use Rattle.typed_reading.proofs.FieldLaws.{int_eq_same}
use Rattle.layout_schema.specs.Schemas.{type_name}
use Rattle.layout_schema.specs.Shapes.{Child, Entry, entry_of, Place, AtRoot, InStruct, InList, InSet, InMap, AtFirst, AtValue, AtIsset, AtSize, may_stand, place_of, deeper, kind_named, are_fields, fields_fit, greatest_of, is_width, base_fits, At, may_enter, is_named, Walked, and_then, nothing, in_front, walk_children, done, entered, found, walk_part}
use Rattle.layout_schema.proofs.Climbing.{Climbs}
use Rattle.layout_schema.proofs.Listed.{child_of, node_entry, HasSize, Has}
use Rattle.layout_schema.proofs.Stands.{struct_at, kind_here, IsPairAt, Stands, depth, tree_walked, node_at, size_walked, at_node, item_place}
use Rattle.layout_schema.proofs.Walks.{offset_at, taken, same_walked}

-- ---- answers

abbrev walked_in : Result Walked ℤ → Walked
walked_in (Ok x) = x
walked_in (Err z) = nothing

ok_is : (x y : Walked) → ◌≡◌ {A = Result Walked ℤ} (Ok x) (Ok y) → y ≡ x
ok_is x y e = sym (ap walked_in e)

and_then_ok : (r : Result Walked ℤ) (f : Walked → Result Walked ℤ) (y : Walked) → and_then r f ≡ Ok y → (x : Walked) × (r ≡ Ok x) × (f x ≡ Ok y)
and_then_ok (Ok x) f y e = (x, refl, e)
and_then_ok (Err z) f y e = absurd cc

if_ok : (b : Bool) (r : Result Walked ℤ) (z : ℤ) (y : Walked) → (if b then r else Err z) ≡ Ok y → (b ≡ true) × (r ≡ Ok y)
if_ok true r z y e = (refl, e)
if_ok false r z y e = absurd cc

-- ---- entering

meets_found : (test : Kind → Bool) (ks : List Kind) (k : Kind) → find test ks ≡ Some k → test k ≡ true
meets_found test [] k e = absurd cc
meets_found test (x ∷ xs) k e = go (test x) refl e (meets_found test xs k)
  where
    go : (b : Bool) → test x ≡ b → cond b (Some x) (find test xs) ≡ Some k → (find test xs ≡ Some k → test k ≡ true) → test k ≡ true
    go true t h later = let same : x ≡ k = cc in subst (λ y. test y ≡ true) same t
    go false t h later = later h

named_is : (name : List ℕ) (k : Kind) → kind_named name ≡ Some k → name ≡ type_name k
named_is name k e =
    let all : List Kind =
    kinds.Flag ∷ kinds.I8 ∷ kinds.I16 ∷ kinds.I32 ∷ kinds.I64 ∷ kinds.Text ∷ kinds.Bytes ∷ kinds.List ∷ kinds.Set ∷ kinds.Map ∷ kinds.Pair ∷ kinds.Struct ∷ kinds.Optional ∷ kinds.Size ∷ [] in
    (bytes_eq-Decides name (type_name k)).0 (meets_found (λ k. bytes_eq name (type_name k)) all k e)

-- the node n was entered as one of the kind k, with the answer a
pub record Enters (ls : Values) (room : ℕ) (at : At) (n : ℕ) (a : Walked) (k : Kind) : Type 0 where
  pub entry : Entry
  pub is : entry_of ls n ≡ Some entry
  pub name : entry.name ≡ type_name k
  pub few : n < 4096
  pub size : entry.size ≡ pos 0
  pub may : may_stand at.place k ≡ true
  pub fit : fields_fit k entry.children ≡ true
  pub wide : is_width (greatest_of k) entry.bits ≡ true
  pub based : base_fits k entry.base ≡ true
  pub shallow : at.level ≤ 32
  pub below : Walked
  pub walked : walk_children (walk_part ls room) k at.level n entry.children (suc n) 0 ≡ Ok below
  pub ends : done at n entry k (greatest_of k) below ≡ Ok a

pub record SomeEnters (ls : Values) (room : ℕ) (at : At) (n : ℕ) (a : Walked) : Type 0 where
  pub kind : Kind
  pub enters : Enters ls room at n a kind

pub enters : (ls : Values) (room : ℕ) (at : At) (n : ℕ) (a : Walked) → walk_part ls (suc room) at n ≡ Ok a → SomeEnters ls room at n a
enters ls room at n a e = with_entry (entry_of ls n) refl e
  where
    with_kind : (x : Entry) → entry_of ls n ≡ Some x → (o : Option Kind) → kind_named x.name ≡ o → entered (walk_part ls room) at n x o ≡ Ok a → SomeEnters ls room at n a
    with_kind x is None ek h = absurd cc
    with_kind x is (Some k) ek h =
        let one = if_ok (may_enter at n x k) (and_then (walk_children (walk_part ls room) k at.level n x.children (suc n) 0) (done at n x k (greatest_of k))) (pos n) a h in
        let c1 = and_parts (nat_lt n 4096) (int_eq x.size (pos 0) && (may_stand at.place k && (fields_fit k x.children && (is_width (greatest_of k) x.bits && (base_fits k x.base && nat_le at.level 32))))) one.0 in
        let c2 = and_parts (int_eq x.size (pos 0)) (may_stand at.place k && (fields_fit k x.children && (is_width (greatest_of k) x.bits && (base_fits k x.base && nat_le at.level 32)))) c1.1 in
        let c3 = and_parts (may_stand at.place k) (fields_fit k x.children && (is_width (greatest_of k) x.bits && (base_fits k x.base && nat_le at.level 32))) c2.1 in
        let c4 = and_parts (fields_fit k x.children) (is_width (greatest_of k) x.bits && (base_fits k x.base && nat_le at.level 32)) c3.1 in
        let c5 = and_parts (is_width (greatest_of k) x.bits) (base_fits k x.base && nat_le at.level 32) c4.1 in
        let c6 = and_parts (base_fits k x.base) (nat_le at.level 32) c5.1 in
        let two = and_then_ok (walk_children (walk_part ls room) k at.level n x.children (suc n) 0) (done at n x k (greatest_of k)) a one.1 in
        record {
          kind = k;
          enters = record {
            entry = x;
            is = is;
            name = named_is x.name k ek;
            few = ltb-true n 4096 c1.0;
            size = int_eq_same x.size (pos 0) c2.0;
            may = c3.0;
            fit = c4.0;
            wide = c5.0;
            based = c6.0;
            shallow = leb-true at.level 32 c6.1;
            below = two.0;
            walked = two.1;
            ends = two.2;
          };
        }

    with_entry : (o : Option Entry) → entry_of ls n ≡ o → found (walk_part ls room) at n o ≡ Ok a → SomeEnters ls room at n a
    with_entry None is h = absurd cc
    with_entry (Some x) is h = with_kind x is (kind_named x.name) refl h

pub same_entry : (x : Entry) (k : Kind) (b : ℕ) (cs : List Child) (z : ℤ) → x.size ≡ pos 0 → x.bits ≡ pos b → x.children ≡ cs → x.name ≡ type_name k → x.base ≡ z → x ≡ node_entry k b cs z
same_entry x k b cs z es eb ec en ez =
    ap (λ r. record { size = r; bits = x.bits; children = x.children; name = x.name; base = x.base }) es
    ∙ ap (λ r. record { size = pos 0; bits = r; children = x.children; name = x.name; base = x.base }) eb
    ∙ ap (λ r. record { size = pos 0; bits = pos b; children = r; name = x.name; base = x.base }) ec
    ∙ ap (λ r. record { size = pos 0; bits = pos b; children = cs; name = r; base = x.base }) en
    ∙ ap (λ r. record { size = pos 0; bits = pos b; children = cs; name = type_name k; base = r }) ez

-- ---- leaves

pub no_children : (cs : List Child) → are_fields [] cs ≡ true → cs ≡ []
no_children [] h = refl
no_children (c ∷ cs) h = absurd cc

width_is : (g : ℕ) (z : ℤ) → is_width (Some g) z ≡ true → (b : ℕ) × (z ≡ pos b) × (b ≤ g)
width_is g (pos n) h = (n, refl, leb-true n g h)
width_is g (negsuc n) h = absurd cc

-- a leaf of at most g bits
pub record LeafFound (ls : Values) (n p f o : ℕ) (a : Walked) (k : Kind) (g : ℕ) : Type 0 where
  pub bits : ℕ
  pub base : ℤ
  pub small : bits ≤ g
  pub based : base_fits k base ≡ true
  pub has : entry_of ls n ≡ Some (node_entry k bits [] base)
  pub whole : a ≡ record { nodes = node_at k f p bits o base ∷ []; bits = bits; greatest = g }

pub leaf_found : (ls : Values) (room : ℕ) (place : Place) (level p f o n : ℕ) (a : Walked) (k : Kind) (g : ℕ) → greatest_of k ≡ Some g
    → ((cs : List Child) → fields_fit k cs ≡ true → cs ≡ []) → Enters ls room (at_node place level p f o) n a k → LeafFound ls n p f o a k g
leaf_found ls room place level p f o n a k g eg none e =
    let x = e.entry in
    let w = width_is g x.bits (subst (λ r. is_width r x.bits ≡ true) eg e.wide) in
    let same = same_entry x k w.0 [] x.base e.size w.1 (none x.children e.fit) e.name refl in
    let ends = subst (λ r. done (at_node place level p f o) n x k r e.below ≡ Ok a) eg e.ends in
    record {
      bits = w.0;
      base = x.base;
      small = w.2;
      based = e.based;
      has = e.is ∙ ap Some same;
      whole = ok_is (record { nodes = node_at k f p w.0 o x.base ∷ []; bits = w.0; greatest = g }) a (subst (λ y. done (at_node place level p f o) n y k (Some g) e.below ≡ Ok a) same ends);
    }

size_kind : (k : Kind) → may_stand AtSize k ≡ true → k ≡ kinds.Size
size_kind kinds.Size m = refl
size_kind _ m = absurd cc

isset_kind : (k : Kind) → may_stand AtIsset k ≡ true → k ≡ kinds.Flag
isset_kind kinds.Flag m = refl
isset_kind _ m = absurd cc

pub zero_base : (z : ℤ) → int_eq z (pos 0) ≡ true → z ≡ pos 0
zero_base z h = int_eq_same z (pos 0) h

-- a distance or a count
pub record Sized (ls : Values) (n p f o : ℕ) (a : Walked) : Type 0 where
  pub bits : ℕ
  pub small : bits ≤ 32
  pub few : n < 4096
  pub has : HasSize ls n bits
  pub whole : a ≡ size_walked p f o bits

pub sized : (ls : Values) (room level p f o n : ℕ) (a : Walked) → walk_part ls room (at_node AtSize level p f o) n ≡ Ok a → Sized ls n p f o a
sized ls zero level p f o n a e = absurd cc
sized ls (suc room) level p f o n a e =
    let s = enters ls room (at_node AtSize level p f o) n a e in
    let x = leaf_found ls room AtSize level p f o n a kinds.Size 32 refl (λ cs h. no_children cs h) (subst (λ k. Enters ls room (at_node AtSize level p f o) n a k) (size_kind s.kind s.enters.may) s.enters) in
    let z = zero_base x.base x.based in
    record {
      bits = x.bits;
      small = x.small;
      few = s.enters.few;
      has = x.has ∙ ap (λ r. Some (node_entry kinds.Size x.bits [] r)) z;
      whole = x.whole ∙ ap (λ r. record { nodes = node_at kinds.Size f p x.bits o r ∷ []; bits = x.bits; greatest = 32 }) z;
    }

-- an isset
abbrev pub isset_walked : ℕ → ℕ → ℕ → ℕ → Walked
isset_walked p f o w = record { nodes = node_at kinds.Flag f p w o (pos 0) ∷ []; bits = w; greatest = 1 }

pub record Told (ls : Values) (n p f o : ℕ) (a : Walked) : Type 0 where
  pub bits : ℕ
  pub small : bits ≤ 1
  pub few : n < 4096
  pub has : entry_of ls n ≡ Some (node_entry kinds.Flag bits [] (pos 0))
  pub whole : a ≡ isset_walked p f o bits

pub told : (ls : Values) (room level p f o n : ℕ) (a : Walked) → walk_part ls room (at_node AtIsset level p f o) n ≡ Ok a → Told ls n p f o a
told ls zero level p f o n a e = absurd cc
told ls (suc room) level p f o n a e =
    let s = enters ls room (at_node AtIsset level p f o) n a e in
    let x = leaf_found ls room AtIsset level p f o n a kinds.Flag 1 refl (λ cs h. no_children cs h) (subst (λ k. Enters ls room (at_node AtIsset level p f o) n a k) (isset_kind s.kind s.enters.may) s.enters) in
    let z = zero_base x.base x.based in
    record {
      bits = x.bits;
      small = x.small;
      few = s.enters.few;
      has = x.has ∙ ap (λ r. Some (node_entry kinds.Flag x.bits [] r)) z;
      whole = x.whole ∙ ap (λ r. record { nodes = node_at kinds.Flag f p x.bits o r ∷ []; bits = x.bits; greatest = 1 }) z;
    }

-- ---- children

same_child : (c : Child) (f n o : ℕ) → c.field ≡ pos f → c.number ≡ pos n → c.offset ≡ neg_ℤ (pos o) → c ≡ child_of f n o
same_child c f n o ef en eo =
    ap (λ r. record { field = r; number = c.number; offset = c.offset }) ef
    ∙ ap (λ r. record { field = pos f; number = r; offset = c.offset }) en
    ∙ ap (λ r. record { field = pos f; number = pos n; offset = r }) eo

-- a child of the field f at the place, and the others
pub record Walks (enter : At → ℕ → Result Walked ℤ) (k : Kind) (level p : ℕ) (c : Child) (cs : List Child) (n o : ℕ) (y : Walked) (f : ℕ) (place : Place) : Type 0 where
  pub child : c ≡ child_of f n (offset_at place o)
  pub one : Walked
  pub here : enter (at_node place (level + deeper place) p f (offset_at place o)) n ≡ Ok one
  pub more : Walked
  pub later : walk_children enter k level p cs (n + length one.nodes) (o + taken place one.bits) ≡ Ok more
  pub whole : y ≡ in_front place one more

pub child_walks : (enter : At → ℕ → Result Walked ℤ) (k : Kind) (level p : ℕ) (c : Child) (cs : List Child) (n o : ℕ) (y : Walked) (f : ℕ) (place : Place)
    → c.field ≡ pos f → place_of k (pos f) ≡ place → walk_children enter k level p (c ∷ cs) n o ≡ Ok y → Walks enter k level p c cs n o y f place
child_walks enter k level p c cs n o y f place ef ep e =
    let rest : Place → Walked → Result Walked ℤ =
    λ q a. and_then (walk_children enter k level p cs (n + length a.nodes) (o + taken q a.bits)) (λ b. Ok (in_front q a b)) in
    let at_field = subst (λ z. walk_children enter k level p (record { field = z; number = c.number; offset = c.offset } ∷ cs) n o ≡ Ok y) ef e in
    let placed = subst (λ q. (if is_named c n (offset_at q o) then and_then (enter (at_node q (level + deeper q) p f (offset_at q o)) n) (rest q) else Err (pos n)) ≡ Ok y) ep at_field in
    let one = if_ok (is_named c n (offset_at place o)) (and_then (enter (at_node place (level + deeper place) p f (offset_at place o)) n) (rest place)) (pos n) y placed in
    let named = and_parts (int_eq c.number (pos n)) (int_eq c.offset (neg_ℤ (pos (offset_at place o)))) one.0 in
    let first = and_then_ok (enter (at_node place (level + deeper place) p f (offset_at place o)) n) (rest place) y one.1 in
    let second = and_then_ok (walk_children enter k level p cs (n + length first.0.nodes) (o + taken place first.0.bits)) (λ b. Ok (in_front place first.0 b)) y first.2 in
    record {
      child = same_child c f n (offset_at place o) ef (int_eq_same c.number (pos n) named.0) (int_eq_same c.offset (neg_ℤ (pos (offset_at place o))) named.1);
      one = first.0;
      here = first.1;
      more = second.0;
      later = second.1;
      whole = ok_is (in_front place first.0 second.0) y second.2;
    }

pub none_walks : (enter : At → ℕ → Result Walked ℤ) (k : Kind) (level p n o : ℕ) (y : Walked) → walk_children enter k level p [] n o ≡ Ok y → y ≡ nothing
none_walks enter k level p n o y e = ok_is nothing y e

pub moved : (enter : At → ℕ → Result Walked ℤ) (k : Kind) (level p : ℕ) (cs : List Child) (n m o u : ℕ) (y : Walked) → n ≡ m → o ≡ u
    → walk_children enter k level p cs n o ≡ Ok y → walk_children enter k level p cs m u ≡ Ok y
moved enter k level p cs n m o u y en eo h = subst (λ r. walk_children enter k level p cs m r ≡ Ok y) eo (subst (λ r. walk_children enter k level p cs r o ≡ Ok y) en h)

-- ---- a node with children

pub record Done (at : At) (x : Entry) (k : Kind) (below a : Walked) : Type 0 where
  pub bits : x.bits ≡ pos below.bits
  pub most : below.greatest ≤ 32767
  pub whole : a ≡ record {
    nodes = record { kind = k; field = at.field; parent = at.parent; bits = below.bits; wide = below.bits; offset = at.offset; base = x.base } ∷ below.nodes;
    bits = below.bits;
    greatest = below.greatest;
  }

pub done_is : (at : At) (n : ℕ) (x : Entry) (k : Kind) (below a : Walked) → greatest_of k ≡ None → done at n x k (greatest_of k) below ≡ Ok a → Done at x k below a
done_is at n x k below a eg e =
    let is : Walked =
    record {
      nodes = record { kind = k; field = at.field; parent = at.parent; bits = below.bits; wide = below.bits; offset = at.offset; base = x.base } ∷ below.nodes;
      bits = below.bits;
      greatest = below.greatest;
    } in
    let one = if_ok (int_eq x.bits (pos below.bits) && nat_le below.greatest 32767) (Ok is) (pos n) a (subst (λ r. done at n x k r below ≡ Ok a) eg e) in
    let two = and_parts (int_eq x.bits (pos below.bits)) (nat_le below.greatest 32767) one.0 in
    record {
      bits = int_eq_same x.bits (pos below.bits) two.0;
      most = leb-true below.greatest 32767 two.1;
      whole = ok_is is a one.1;
    }

-- ---- what is plain, a key, an item

pub plain_from : (l : Layout) → may_stand InList (kind_here l kinds.Struct) ≡ true → IsPlain l
plain_from (Leaf k c) m = tt
plain_from (ByteRange t d c) m = tt
plain_from (ItemRange g d c l) m = tt
plain_from (Optional w l) m = absurd cc
plain_from (Struct ls) m = tt

pub key_from : (l : Layout) → may_stand InSet (kind_here l kinds.Struct) ≡ true → IsKey l
key_from (Leaf k c) m = tt
key_from (ByteRange t d c) m = tt
key_from (ItemRange AList d c l) m = absurd cc
key_from (ItemRange ASet d c l) m = absurd cc
key_from (ItemRange AMap d c l) m = absurd cc
key_from (Optional w l) m = absurd cc
key_from (Struct ls) m = absurd cc

pub item_from : (h : Holder) (l : Layout) → may_stand (item_place h) (kind_here l (struct_at (item_place h))) ≡ true → IsPairAt (item_place h) l → IsItem h l
item_from AList l m q = plain_from l m
item_from ASet l m q = key_from l m
item_from AMap l m q = q

-- places where a tree stands
abbrev pub IsTreePlace : Place → Type 0
IsTreePlace AtIsset = ⊥
IsTreePlace AtSize = ⊥
IsTreePlace _ = Unit {0}

map_kind : (k : Kind) → may_stand InMap k ≡ true → k ≡ kinds.Pair
map_kind kinds.Pair m = refl
map_kind _ m = absurd cc

-- what is of another kind is no pair, and stands on a level of its own
pub no_pair : (place : Place) (k : Kind) (l : Layout) → may_stand place k ≡ true → (k ≡ kinds.Pair → ⊥) → IsPairAt place l × (depth place l ≡ levels l)
no_pair AtRoot k l m h = (tt, refl)
no_pair InStruct k l m h = (tt, refl)
no_pair InList k l m h = (tt, refl)
no_pair InSet k l m h = (tt, refl)
no_pair InMap k l m h = absurd (h (map_kind k m))
no_pair AtFirst k l m h = (tt, refl)
no_pair AtValue k l m h = (tt, refl)
no_pair AtIsset k l m h = (tt, refl)
no_pair AtSize k l m h = (tt, refl)

-- ---- trees

-- the answer is a layout that may stand there
pub record Treed (v : Version) (ls : Values) (place : Place) (level n p f o : ℕ) (a : Walked) : Type 0 where
  pub tree : Layout
  pub stands : Stands v tree place level n
  pub has : Has ls tree (struct_at place) n
  pub whole : a ≡ tree_walked tree (struct_at place) n p f o

-- what a Layout is besides: the fields of its children rise, and in version 1 it has no base
pub record Proper (v : Version) (x : Entry) : Type 0 where
  pub climbs : Climbs None (map (λ (c : Child). c.field) x.children)
  pub plain : v ≡ Version1 → x.base ≡ pos 0

abbrev pub AllProper : Version → Values → Type 0
AllProper v ls = (n : ℕ) (x : Entry) → entry_of ls n ≡ Some x → Proper v x

leaf_node : (k : LeafKind) (f p w o : ℕ) (z : ℤ) → shown (spec (kind_of k) f p w w o z) ≡ node_at (kind_of k) f p w o z
leaf_node Flag f p w o z = refl
leaf_node (Integer I8) f p w o z = refl
leaf_node (Integer I16) f p w o z = refl
leaf_node (Integer I32) f p w o z = refl
leaf_node (Integer I64) f p w o z = refl

leaf_no_pair : (k : LeafKind) → kind_of k ≡ kinds.Pair → ⊥
leaf_no_pair Flag e = absurd cc
leaf_no_pair (Integer I8) e = absurd cc
leaf_no_pair (Integer I16) e = absurd cc
leaf_no_pair (Integer I32) e = absurd cc
leaf_no_pair (Integer I64) e = absurd cc

leaf_treed : (v : Version) (ls : Values) (place : Place) (level n p f o : ℕ) (a : Walked) (k : LeafKind) (c : Coded) (b : ℕ) (z : ℤ)
    → width c ≡ b → base_of c ≡ z → IsCoded v k c → may_stand place (kind_of k) ≡ true → n < 4096 → level ≤ 32 → b ≤ greatest k
    → entry_of ls n ≡ Some (node_entry (kind_of k) b [] z) → a ≡ record { nodes = node_at (kind_of k) f p b o z ∷ []; bits = b; greatest = greatest k }
    → Treed v ls place level n p f o a
leaf_treed v ls place level n p f o a k c b z eb ez coded may few shallow small has whole =
    let alone = no_pair place (kind_of k) (Leaf k c) may (leaf_no_pair k) in
    record {
      tree = Leaf k c;
      stands = record {
        may = may;
        pair = alone.0;
        formed = tt;
        few = omega (arith, few);
        shallow = omega (arith, shallow, alone.1);
        narrow = tt;
        coded = coded;
        legal = subst (λ r. r ≤ greatest k) (sym eb) small;
      };
      has = has ∙ ap (λ r. Some (node_entry (kind_of k) r [] z)) (sym eb) ∙ ap (λ r. Some (node_entry (kind_of k) (width c) [] r)) (sym ez);
      whole = whole ∙ same_walked (record { nodes = node_at (kind_of k) f p b o z ∷ []; bits = b; greatest = greatest k })
          (shown (spec (kind_of k) f p (width c) (width c) o (base_of c)) ∷ []) (width c) (greatest k)
          (ap (λ r. r ∷ []) (ap (λ r. node_at (kind_of k) f p r o z) (sym eb) ∙ ap (λ r. node_at (kind_of k) f p (width c) o r) (sym ez) ∙ sym (leaf_node k f p (width c) o (base_of c))))
          (sym eb) refl;
    }

in_bits_from : (k : Whole) (z : ℤ) → in_range (Integer k) z ≡ true → InBits (value_bits k) z
in_bits_from k (pos n) h = ltb-true n (2 ^ value_bits k) h
in_bits_from k (negsuc n) h = ltb-true n (2 ^ value_bits k) h

whole_range : (k : Whole) (z : ℤ) → base_fits (kind_of (Integer k)) z ≡ in_range (Integer k) z
whole_range I8 z = refl
whole_range I16 z = refl
whole_range I32 z = refl
whole_range I64 z = refl

pub whole_treed : (v : Version) (ls : Values) (place : Place) (level n p f o : ℕ) (a : Walked) (k : Whole) → AllProper v ls → n < 4096 → level ≤ 32 → may_stand place (kind_of (Integer k)) ≡ true
    → LeafFound ls n p f o a (kind_of (Integer k)) (greatest (Integer k)) → Treed v ls place level n p f o a
whole_treed Version1 ls place level n p f o a k proper few shallow may x =
    let z : x.base ≡ pos 0 = (proper n (node_entry (kind_of (Integer k)) x.bits [] x.base) x.has).plain refl in
    leaf_treed Version1 ls place level n p f o a (Integer k) (TwosComplement x.bits) x.bits x.base refl (sym z) signed_coded may few shallow x.small x.has x.whole
whole_treed Version2 ls place level n p f o a k proper few shallow may x =
    leaf_treed Version2 ls place level n p f o a (Integer k) (FromBase x.base x.bits) x.bits x.base refl refl
    (based_coded (in_bits_from k x.base (sym (whole_range k x.base) ∙ x.based))) may few shallow x.small x.has x.whole

pub flag_treed : (v : Version) (ls : Values) (place : Place) (level n p f o : ℕ) (a : Walked) → n < 4096 → level ≤ 32 → may_stand place kinds.Flag ≡ true
    → LeafFound ls n p f o a kinds.Flag 1 → Treed v ls place level n p f o a
flag_treed v ls place level n p f o a few shallow may x =
    leaf_treed v ls place level n p f o a Flag (Unsigned x.bits) x.bits x.base refl (sym (zero_base x.base x.based)) flag_coded may few shallow x.small x.has x.whole

-- ---- lists of children by their fields

pub record Two (cs : List Child) : Type 0 where
  pub a : Child
  pub b : Child
  pub is : cs ≡ a ∷ b ∷ []
  pub first : a.field ≡ pos 1
  pub second : b.field ≡ pos 2

pub record Three (cs : List Child) : Type 0 where
  pub a : Child
  pub b : Child
  pub c : Child
  pub is : cs ≡ a ∷ b ∷ c ∷ []
  pub first : a.field ≡ pos 1
  pub second : b.field ≡ pos 2
  pub third : c.field ≡ pos 3

pub two_fields : (cs : List Child) → are_fields (pos 1 ∷ pos 2 ∷ []) cs ≡ true → Two cs
two_fields [] h = absurd cc
two_fields (a ∷ []) h = let e = and_parts (int_eq a.field (pos 1)) false h in absurd (let x = e.1 in cc)
two_fields (a ∷ b ∷ c ∷ cs) h =
    let e = and_parts (int_eq a.field (pos 1)) (int_eq b.field (pos 2) && false) h in
    let g = and_parts (int_eq b.field (pos 2)) false e.1 in
    absurd (let x = g.1 in cc)
two_fields (a ∷ b ∷ []) h =
    let e = and_parts (int_eq a.field (pos 1)) (int_eq b.field (pos 2) && true) h in
    let g = and_parts (int_eq b.field (pos 2)) true e.1 in
    record { a = a; b = b; is = refl; first = int_eq_same a.field (pos 1) e.0; second = int_eq_same b.field (pos 2) g.0 }

pub three_fields : (cs : List Child) → are_fields (pos 1 ∷ pos 2 ∷ pos 3 ∷ []) cs ≡ true → Three cs
three_fields [] h = absurd cc
three_fields (a ∷ []) h = let e = and_parts (int_eq a.field (pos 1)) false h in absurd (let x = e.1 in cc)
three_fields (a ∷ b ∷ []) h =
    let e = and_parts (int_eq a.field (pos 1)) (int_eq b.field (pos 2) && false) h in
    let g = and_parts (int_eq b.field (pos 2)) false e.1 in
    absurd (let x = g.1 in cc)
three_fields (a ∷ b ∷ c ∷ d ∷ cs) h =
    let e = and_parts (int_eq a.field (pos 1)) (int_eq b.field (pos 2) && (int_eq c.field (pos 3) && false)) h in
    let g = and_parts (int_eq b.field (pos 2)) (int_eq c.field (pos 3) && false) e.1 in
    let i = and_parts (int_eq c.field (pos 3)) false g.1 in
    absurd (let x = i.1 in cc)
three_fields (a ∷ b ∷ c ∷ []) h =
    let e = and_parts (int_eq a.field (pos 1)) (int_eq b.field (pos 2) && (int_eq c.field (pos 3) && true)) h in
    let g = and_parts (int_eq b.field (pos 2)) (int_eq c.field (pos 3) && true) e.1 in
    let i = and_parts (int_eq c.field (pos 3)) true g.1 in
    record { a = a; b = b; c = c; is = refl; first = int_eq_same a.field (pos 1) e.0; second = int_eq_same b.field (pos 2) g.0; third = int_eq_same c.field (pos 3) i.0 }

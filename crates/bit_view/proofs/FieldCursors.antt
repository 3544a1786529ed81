-- The next of the fields of a struct.
use Rattle.std.proofs.Common.{◌≡◌, ℕ, zero, suc, ◌+◌, ◌-◌, ◌≤◌, ◌<◌, [], ◌∷◌, ◌++◌, List, length, arith, refl}
use Rattle.std.proofs.Common.{ap, sym, ◌∙◌, subst, Some, None, ℤ, pos, get_or, map, slice_get, drop}
use Rattle.std.proofs.Common.{append_assoc, inl, inr}
use Rattle.std.proofs.Math.Logic.{∥∥₁_elim}
use Rattle.std.proofs.lemmas.Bool.{cases_lt}
use Rattle.std.proofs.lemmas.List.{get_or-append_right}
use Rattle.frozen_model.specs.Trees.{Leaf, ByteRange, ItemRange, Optional, Struct, NoField, Field, nodes}
use Rattle.frozen_model.specs.Trees.{nodes_all, ids_of, Part, Rising}
use Rattle.frozen_model.specs.Values.{Value, Values, One, Bytes, Items, Absent, Present, Record, NoValue, And}
use Rattle.frozen_model.specs.Values.{count, nth}
use Rattle.frozen_model.specs.Layouts.{Version, Layout, Layouts}
use Rattle.layout_tree.specs.declared.node.NodeSpec.{NodeSpec}
use Rattle.layout_tree.specs.declared.node.Kind.TheVariants as kinds
use Rattle.layout_tree.specs.Listing.{Noted, AllNoted, layout_in, layouts_in, inline, nodes_of, nodes_of_all}
use Rattle.layout_tree.specs.Listing.{tree_of, IsListing, sub, all_nodes, version_of}
use Rattle.layout_tree.specs.Given.{shown, shown_nodes}
use Rattle.layout_tree.specs.Nodes.{IsNode, at, listed}
use Rattle.layout_tree.proofs.Readings.{same_nodes}
use Rattle.layout_tree.proofs.Place.{At, at_part, length_nodes, some_nodes}
use Rattle.typed_tree.specs.Parts.{IsRecord, fields_of, ids_of as ids_in}
use Rattle.bit_view.specs.declared.view.View.{View}
use Rattle.bit_view.specs.InPlace.{read_value}
use Rattle.bit_view.specs.Branches.{fields_in, layout_nth, node_nth}
use Rattle.bit_view.specs.Cursor.{from_place}
use Rattle.bit_view.specs.FieldCursor.{IsNextField}
use Rattle.bit_view.specs.Views.{value_of_view, layout_of_view}
use Rattle.bit_view.proofs.Fields.{bit_nth, count_all, first_node}
use Rattle.bit_view.proofs.Offsets.{skipped, skips, offset_is, bits_before, record_told}
use Rattle.bit_view.proofs.Seen.{FieldAt, view_field, view_node, formed, rising_ids}

-- ---- what is left

pub next_field : (is : List ℕ) (vs : Values) (j n : ℕ) (id : ℤ) (w : View) → j < count vs
    → length is ≡ count vs → id ≡ pos (get_or is j 0) → value_of_view w ≡ nth vs j → n ≡ suc j
    → IsNextField (Record (drop j is) (from_place vs j)) (Some (id, w))
    (Record (drop n is) (from_place vs n))
next_field is vs j n id w lt long e h en =
    subst (λ k. IsNextField (Record (drop j is) (from_place vs j)) (Some (id, w))
    (Record (drop k is) (from_place vs k))) (sym en) (go is vs j lt long e h)
  where
    go : (is : List ℕ) (vs : Values) (j : ℕ) → j < count vs
        → length is ≡ count vs → id ≡ pos (get_or is j 0) → value_of_view w ≡ nth vs j
        → IsNextField (Record (drop j is) (from_place vs j)) (Some (id, w))
        (Record (drop (suc j) is) (from_place vs (suc j)))
    go is NoValue j lt long e h = absurd (omega (arith, lt))
    go [] (And v vs) j lt long e h = absurd (omega (arith, long))
    go (i ∷ is) (And v vs) zero lt long e h = (e, h, refl)
    go (i ∷ is) (And v vs) (suc j) lt long e h = go is vs j (omega (arith, lt)) (omega (arith, long)) e h

pub no_field_left : (is : List ℕ) (vs : Values) (j : ℕ) → length is ≡ count vs → j ≡ count vs
    → IsNextField (Record (drop j is) (from_place vs j)) None (Record (drop j is) (from_place vs j))
no_field_left [] NoValue zero long e = refl
no_field_left [] NoValue (suc j) long e = absurd (omega (arith, e))
no_field_left [] (And v vs) j long e = absurd (omega (arith, long))
no_field_left (i ∷ is) NoValue j long e = absurd (omega (arith, long))
no_field_left (i ∷ is) (And v vs) zero long e = absurd (omega (arith, e))
no_field_left (i ∷ is) (And v vs) (suc j) long e =
    no_field_left is vs j (omega (arith, long)) (omega (arith, e))

-- ---- nodes of fields

node_step : (ls : Layouts) (i j : ℕ) → j < length (ids_of ls)
    → node_nth ls i (suc j) ≡ node_nth ls i j + nodes (layout_nth ls j)
node_step NoField i j lt = absurd (omega (arith, lt))
node_step (Field f l ls) i zero lt = first_node ls (i + nodes l)
node_step (Field f l ls) i (suc j) lt = node_step ls (i + nodes l) j (omega (arith, lt))

node_end : (ls : Layouts) (i : ℕ) → node_nth ls i (length (ids_of ls)) ≡ i + nodes_all ls
node_end NoField i = omega arith
node_end (Field f l ls) i = omega (arith, node_end ls (i + nodes l))

node_before : (ls : Layouts) (i j : ℕ) → j < length (ids_of ls) → node_nth ls i j < i + nodes_all ls
node_before NoField i j lt = absurd (omega (arith, lt))
node_before (Field f l ls) i zero lt = omega (arith, some_nodes l)
node_before (Field f l ls) i (suc j) lt = omega (arith, node_before ls (i + nodes l) j (omega (arith, lt)))

node_above : (ls : Layouts) (i j : ℕ) → j ≤ length (ids_of ls) → i + j ≤ node_nth ls i j
node_above NoField i j le = omega (arith, le)
node_above (Field f l ls) i zero le = omega arith
node_above (Field f l ls) i (suc j) le =
    omega (arith, node_above ls (i + nodes l) j (omega (arith, le)), some_nodes l)

-- ---- ids of fields

first_name : (l : Noted) (i p f o : ℕ) (more : List NodeSpec) (x : NodeSpec)
    → (get_or (nodes_of l kinds.Struct i p f o ++ more) 0 x).field ≡ pos f
first_name (Leaf k c) i p f o more x = refl
first_name (ByteRange t d c) i p f o more x = refl
first_name (ItemRange g d c l) i p f o more x = refl
first_name (Optional w l) i p f o more x = refl
first_name (Struct ls) i p f o more x = refl

name_nth : (v : Version) (fs : AllNoted) (i p o j : ℕ) (post : List NodeSpec) (x : NodeSpec)
    → j < length (ids_of (layouts_in v fs))
    → (get_or (nodes_of_all fs i p o ++ post) (skipped (layouts_in v fs) j) x).field
    ≡ pos (get_or (ids_of (layouts_in v fs)) j 0)
name_nth v NoField i p o j post x h = absurd (omega (arith, h))
name_nth v (Field f l fs) i p o zero post x h =
    let mine = nodes_of l kinds.Struct i p f o in
    let more = nodes_of_all fs (i + nodes l) p (o + inline l) in
    ap (λ (r : List NodeSpec). (get_or r 0 x).field) (append_assoc mine more post)
    ∙ first_name l i p f o (more ++ post) x
name_nth v (Field f l fs) i p o (suc j) post x h =
    let mine = nodes_of l kinds.Struct i p f o in
    let more = nodes_of_all fs (i + nodes l) p (o + inline l) in
    let ls = layouts_in v fs in
    let k = nodes (layout_in v l) + skipped ls j in
    let long : length mine ≡ nodes l = length_nodes l kinds.Struct i p f o in
    let same = same_nodes v l in
    let le : nodes l ≤ k = omega (arith, same) in
    let rest : k - nodes l ≡ skipped ls j = omega (arith, same) in
    ap (λ (r : List NodeSpec). (get_or r k x).field) (append_assoc mine more post)
    ∙ ap (λ (y : NodeSpec). y.field) (get_or-append_right mine (more ++ post) (nodes l) k x long le)
    ∙ ap (λ n. (get_or (more ++ post) n x).field) rest
    ∙ name_nth v fs (i + nodes l) p (o + inline l) j post x (omega (arith, h))

struct_name : (v : Version) (ns : List NodeSpec) (n j : ℕ) (x : NodeSpec) (ls : Layouts) (s : Noted)
    → At ns s n
    → layout_in v s ≡ Struct ls → j < length (ids_of ls)
    → (get_or ns (node_nth ls (suc n) j) x).field ≡ pos (get_or (ids_of ls) j 0)
struct_name v ns n j x ls (Struct fs) a e h =
    let same : layouts_in v fs ≡ ls = cc in
    let lt = subst (λ y. j < length (ids_of y)) (sym same) h in
    let at : node_nth ls (suc n) j ≡ n + suc (skipped ls j) = skips ls (suc n) j
    ∙ (let z : suc n + skipped ls j ≡ n + suc (skipped ls j) = omega arith in z) in
    ap (λ k. (get_or ns k x).field) at
    ∙ ap (λ (y : NodeSpec). y.field) (a.read (suc (skipped ls j)) x)
    ∙ ap (λ y. (get_or (nodes_of_all fs (suc n) n 0 ++ a.post) (skipped y j) x).field) (sym same)
    ∙ name_nth v fs (suc n) n 0 j a.post x lt
    ∙ ap (λ y. pos (get_or (ids_of y) j 0)) same
struct_name v ns n j x ls (Leaf k c) a e h = absurd cc
struct_name v ns n j x ls (ByteRange k d c) a e h = absurd cc
struct_name v ns n j x ls (ItemRange g d c l) a e h = absurd cc
struct_name v ns n j x ls (Optional w l) a e h = absurd cc

got_shown : (xs : List NodeSpec) (n : ℕ) (z d : NodeSpec) → slice_get (map shown xs) n ≡ Some z
    → z.field ≡ (get_or xs n d).field
got_shown [] n z d e = absurd cc
got_shown (x ∷ xs) zero z d e = let same : shown x ≡ z = cc in ap (λ (y : NodeSpec). y.field) (sym same)
got_shown (x ∷ xs) (suc n) z d e = got_shown xs n z d e

-- the id at the node of a field of a struct
name_is : (v : Version) (ns : List NodeSpec) (n j : ℕ) (z : NodeSpec) (ls : Layouts) → IsListing ns
    → Part (tree_of ns) 0 (sub (tree_of ns) n) n → layout_in v (sub (tree_of ns) n) ≡ Struct ls
    → j < length (ids_of ls) → slice_get (shown_nodes (tree_of ns)) (node_nth ls (suc n) j) ≡ Some z
    → z.field ≡ pos (get_or (ids_of ls) j 0)
name_is v ns n j z ls li p e lt got =
    got_shown (all_nodes (tree_of ns)) (node_nth ls (suc n) j) z z got
    ∙ ap (λ (r : List NodeSpec). (get_or r (node_nth ls (suc n) j) z).field) (sym li)
    ∙ struct_name v ns n j z ls (sub (tree_of ns) n) (at_part ns (sub (tree_of ns) n) n li p) e lt

-- ---- a cursor over the fields of a view

pub record_held : (v : Value) → ∥ IsRecord v ∥₁ → IsRecord v
record_held (Record ids vs) h = tt
record_held (One x) h = ∥∥₁_elim h (λ a b. absurd a) (λ x. x)
record_held (Bytes bs) h = ∥∥₁_elim h (λ a b. absurd a) (λ x. x)
record_held (Items g vs) h = ∥∥₁_elim h (λ a b. absurd a) (λ x. x)
record_held Absent h = ∥∥₁_elim h (λ a b. absurd a) (λ x. x)
record_held (Present v) h = ∥∥₁_elim h (λ a b. absurd a) (λ x. x)

-- the struct of a view has an id for each field, and its nodes
pub record ViewFields (w : View) : Type 0 where
  pub is : layout_of_view w ≡ Struct (fields_in (layout_of_view w))
  pub ids : ids_in (value_of_view w) ≡ ids_of (fields_in (layout_of_view w))
  pub many : count (fields_of (value_of_view w)) ≡ length (ids_of (fields_in (layout_of_view w)))
  pub nodes : nodes (layout_of_view w) ≡ suc (nodes_all (fields_in (layout_of_view w)))

pub view_fields : (w : View) → IsRecord (value_of_view w) → ViewFields w
view_fields w h =
    let m = layout_of_view w in
    let bs = w.content.now in
    let t = record_told m bs w.block w.bit h in record {
      is = t.is;
      ids = ap (λ x. ids_in (read_value bs x w.block w.bit)) t.is;
      many = ap count t.values ∙ count_all bs (fields_in m) w.block w.bit;
      nodes =
          let e = ap (λ (y : Layout). nodes y) t.is in
          omega (arith, e);
    }

-- its ids rise
pub view_rising : (w : View) → ViewFields w → Rising 0 (ids_in (value_of_view w))
view_rising w f = subst (Rising 0) (sym f.ids) (rising_ids (layout_of_view w) (formed w) f.is)

-- so many ids as fields
pub as_many : (w : View) → ViewFields w → length (ids_in (value_of_view w)) ≡ count (fields_of (value_of_view w))
as_many w f = ap length f.ids ∙ sym f.many

-- the place of a field is below its node
pub place_below : (w : View) (given node : ℕ) → ViewFields w
    → node ≡ node_nth (fields_in (layout_of_view w)) (suc w.node) given
    → given ≤ count (fields_of (value_of_view w)) → given < node
place_below w given node f en le =
    omega (arith, en, node_above (fields_in (layout_of_view w)) (suc w.node) given (omega (arith, le, f.many)))

-- the node of a field is the struct's end exactly where no field is left
pub cursor_inside : (w : View) (given node end : ℕ) → ViewFields w → end ≡ w.node + nodes (layout_of_view w)
    → node ≡ node_nth (fields_in (layout_of_view w)) (suc w.node) given
    → given ≤ count (fields_of (value_of_view w)) → (node ≡ end → ⊥)
    → given < count (fields_of (value_of_view w))
cursor_inside w given node end f ee en le not =
    let ls = fields_in (layout_of_view w) in
    elim (cases_lt given (count (fields_of (value_of_view w)))) [
      | inl lt ↦ lt
      | inr ge ↦ (
          let all : given ≡ length (ids_of ls) = omega (arith, ge, le, f.many) in
          let last = ap (node_nth ls (suc w.node)) all ∙ node_end ls (suc w.node) in
          absurd (not (omega (arith, ee, en, f.nodes, last))))
    ]

pub cursor_ended : (w : View) (given node end : ℕ) → ViewFields w → end ≡ w.node + nodes (layout_of_view w)
    → node ≡ node_nth (fields_in (layout_of_view w)) (suc w.node) given
    → given ≤ count (fields_of (value_of_view w)) → node ≡ end → given ≡ count (fields_of (value_of_view w))
cursor_ended w given node end f ee en le last =
    let ls = fields_in (layout_of_view w) in
    elim (cases_lt given (count (fields_of (value_of_view w)))) [
      | inl lt ↦ (
          let before = node_before ls (suc w.node) given (omega (arith, lt, f.many)) in
          absurd (omega (arith, ee, en, f.nodes, last, before)))
      | inr ge ↦ omega (arith, ge, le)
    ]

-- the field at a place, whose node is n
pub record FieldHere (w : View) (j n : ℕ) : Type 0 where
  pub node : IsNode w.layouts.now n
  pub there : (z : NodeSpec) (b : ℕ) → slice_get (listed w.layouts.now) n ≡ Some z → b ≡ z.offset
      → FieldAt w j n (w.bit + b)
  pub name : (z : NodeSpec) → slice_get (listed w.layouts.now) n ≡ Some z
      → z.field ≡ pos (get_or (ids_in (value_of_view w)) j 0)
  pub step : (past more : ℕ) → past ≡ n + nodes (at w.layouts.now n) → more ≡ suc j
      → past ≡ node_nth (fields_in (layout_of_view w)) (suc w.node) more

pub field_here : (w : View) (j n : ℕ) → ViewFields w → n ≡ node_nth (fields_in (layout_of_view w)) (suc w.node) j
    → j < count (fields_of (value_of_view w)) → FieldHere w j n
field_here w j n f en lt =
    let l = w.layouts.now in
    let v = version_of l.version in
    let ls = fields_in (layout_of_view w) in
    let inside : j < length (ids_of ls) = omega (arith, lt, f.many) in
    let field = subst (λ x. FieldAt w j x (bit_nth ls w.bit j)) (sym en) (view_field w j lt) in
    record {
      node = field.child.node;
      there = λ z b got eb.
          let off = offset_is v l.nodes.items w.node j z ls l.listing (view_node w) f.is inside
          (subst (λ x. slice_get (listed l) x ≡ Some z) en got) in
          subst (λ x. FieldAt w j n x) (bits_before ls w.bit j ∙ ap (λ x. w.bit + x) (sym off ∙ sym eb)) field;
      name = λ z got.
          name_is v l.nodes.items w.node j z ls l.listing (view_node w) f.is inside
          (subst (λ x. slice_get (listed l) x ≡ Some z) en got)
          ∙ ap (λ is. pos (get_or is j 0)) (sym f.ids);
      step = λ past more ep em.
          ep
          ∙ ap (λ (y : Layout). n + nodes y) field.child.is
          ∙ ap (λ x. x + nodes (layout_nth ls j)) en
          ∙ sym (node_step ls (suc w.node) j inside)
          ∙ ap (node_nth ls (suc w.node)) (sym em);
    }

-- A child by its field, by halving.
use Rattle.std.proofs.Common.{◌≡◌, inl, inr, ℕ, ℤ, pos, suc, ◌+◌, ◌-◌, ◌/◌, ◌<◌, ◌≤◌, ◌<ℤ◌, ◌≤ℤ◌, List, ◌∷◌}
use Rattle.std.proofs.Common.{[], ◌++◌, Bool, true, false, arith, refl, ap, sym, ◌∙◌, subst, length}
use Rattle.std.proofs.Common.{length-append, get_or, append_assoc, Option, Some, None, if◌then◌else◌, int_lt}
use Rattle.std.specs.Ordering.{int_eq}
use Rattle.std.proofs.lemmas.Bool.Decides.{Decides-int_eq}
use Rattle.std.proofs.lemmas.Int.{ints, by_lt_z}
use Rattle.std.proofs.lemmas.List.{get_or_append_left, get_or-append-add}
use Rattle.frozen_model.specs.Trees.{Leaf, ByteRange, ItemRange, Optional, Struct, NoField, Field, nodes}
use Rattle.frozen_model.specs.Trees.{nodes_all, Part, in_struct, Rising, IsFormed, ids_of}
use Rattle.frozen_model.specs.Layouts.{Version}
use Rattle.layout_tree.specs.declared.node.NodeSpec.{NodeSpec}
use Rattle.layout_tree.specs.declared.node.Kind.{Kind}
use Rattle.layout_tree.specs.declared.node.Kind.TheVariants as kinds
use Rattle.layout_tree.specs.Listing.{Noted, AllNoted, inline, nodes_of, nodes_of_all, layout_in, layouts_in}
use Rattle.layout_tree.specs.Listing.{sub, tree_of, IsListing}
use Rattle.layout_tree.specs.Segments.{head_node, rest_nodes, Between, Inside}
use Rattle.layout_tree.specs.Reading.{field_node, child_of, IsStruct}
use Rattle.layout_tree.proofs.Place.{Place, place, some_nodes, length_nodes}
use Rattle.layout_tree.proofs.Readings.{same_nodes, formed_part}
use Rattle.layout_tree.proofs.Subs.{part_of_part}
use Rattle.layout_tree.proofs.Settling.{split_nodes, seam_get}
use Rattle.layout_tree.proofs.Children.{Child, FieldsAt, first_child, later_children}
use Rattle.layout_tree.proofs.Told.{part_told}
use Rattle.layout_tree.proofs.Numbers.{below_or}
use Rattle.layout_tree.proofs.Parents.{parents}

pub int_other : (x y : ℤ) → (x ≡ y → ⊥) → int_eq x y ≡ false
int_other x y h = decide (int_eq x y) (Decides-int_eq x y).0
  where
    decide : (b : Bool) → (b ≡ true → x ≡ y) → b ≡ false
    decide true f = absurd (h (f refl))
    decide false f = refl

pub int_same : (x y : ℤ) → x ≡ y → int_eq x y ≡ true
int_same x y e = (Decides-int_eq x y).1 e

pub int_above : (x y : ℤ) → int_lt x y ≡ false → (x ≡ y → ⊥) → y <ℤ x
int_above x y test other = by_lt_z y x (λ h. h) (λ h. absurd (other (omega (arith, ints, test, h))))

-- ---- the nodes of fields

-- the nodes of fields of the struct p, the first of which has the number n
pub record Row (ns : List NodeSpec) (p n : ℕ) (fs : AllNoted) : Type 0 where
  pub offset : ℕ
  pub pre : List NodeSpec
  pub post : List NodeSpec
  pub long : length pre ≡ n
  pub whole : ns ≡ pre ++ (nodes_of_all fs n p offset ++ post)

struct_row : (ns : List NodeSpec) (n : ℕ) (fs : AllNoted) → Place ns 0 (Struct fs) n → Row ns n (suc n) fs
struct_row ns n fs p =
    let h = head_node (Struct fs) p.kind n p.parent p.field p.offset in
    record {
      offset = 0;
      pre = p.pre ++ h ∷ [];
      post = p.post;
      long = omega (arith, length-append p.pre (h ∷ []), p.long);
      whole = p.whole ∙ sym (append_assoc p.pre (h ∷ []) (nodes_of_all fs (suc n) n 0 ++ p.post));
    }

field_is : (l : Noted) (sk : Kind) (i p f o : ℕ) → (head_node l sk i p f o).field ≡ pos f
field_is (Leaf k c) sk i p f o = refl
field_is (ByteRange t d c) sk i p f o = refl
field_is (ItemRange g d c l) sk i p f o = refl
field_is (Optional w l) sk i p f o = refl
field_is (Struct ls) sk i p f o = refl

parent_is : (l : Noted) (sk : Kind) (i p f o : ℕ) → (head_node l sk i p f o).parent ≡ p
parent_is (Leaf k c) sk i p f o = refl
parent_is (ByteRange t d c) sk i p f o = refl
parent_is (ItemRange g d c l) sk i p f o = refl
parent_is (Optional w l) sk i p f o = refl
parent_is (Struct ls) sk i p f o = refl

pub record RowStep (ns : List NodeSpec) (p n id : ℕ) (l : Noted) (fs : AllNoted) : Type 0 where
  pub long : n + nodes l ≤ length ns
  pub field : (d : NodeSpec) → (get_or ns n d).field ≡ pos id
  pub parent : (d : NodeSpec) → (get_or ns n d).parent ≡ p
  pub inner : (k : ℕ) → n < k → k < n + nodes l → (d : NodeSpec) → Between n k (get_or ns k d).parent
  pub later : Row ns p (n + nodes l) fs

row_step : (ns : List NodeSpec) (p n id : ℕ) (l : Noted) (fs : AllNoted) → Row ns p n (Field id l fs) → p < n
    → RowStep ns p n id l fs
row_step ns p n id l fs r after =
    let mine = nodes_of l kinds.Struct n p id r.offset in
    let others = nodes_of_all fs (n + nodes l) p (r.offset + inline l) in
    let rest = others ++ r.post in
    let h = head_node l kinds.Struct n p id r.offset in
    let size = length_nodes l kinds.Struct n p id r.offset in
    let whole : ns ≡ r.pre ++ (mine ++ rest) = r.whole
    ∙ ap (λ z. r.pre ++ z) (append_assoc mine others r.post) in
    let first : ns ≡ r.pre ++ (h ∷ (rest_nodes l n ++ rest)) = whole
    ∙ ap (λ z. r.pre ++ (z ++ rest)) (split_nodes l kinds.Struct n p id r.offset) in
    let is = λ (d : NodeSpec). seam_get ns r.pre (rest_nodes l n ++ rest) h d n r.long first in
    record {
      long = omega (
        arith,
        ap length whole,
        length-append r.pre (mine ++ rest),
        length-append mine rest,
        size,
        r.long,
      );
      field = λ d. ap (λ x. x.field) (is d) ∙ field_is l kinds.Struct n p id r.offset;
      parent = λ d. ap (λ x. x.parent) (is d) ∙ parent_is l kinds.Struct n p id r.offset;
      inner = λ k lo hi d.
          let e : k ≡ length r.pre + (k - n) = omega (arith, r.long, lo) in
          let here : get_or ns k d ≡ get_or mine (k - n) d = ap (λ m. get_or ns m d) e
          ∙ ap (λ z. get_or z (length r.pre + (k - n)) d) whole
          ∙ get_or-append-add r.pre (mine ++ rest) (k - n) d
          ∙ get_or_append_left mine rest d (k - n) (omega (arith, size, lo, hi)) in
          let b = parents l kinds.Struct n p id r.offset d (k - n) (omega (arith, lo, hi)) after in
          subst (λ (y : NodeSpec). Between n k y.parent) (sym here)
          (b.2 (omega (arith, lo)), omega (arith, lo, b.1));
      later = record {
        offset = r.offset + inline l;
        pre = r.pre ++ mine;
        post = r.post;
        long = omega (arith, length-append r.pre mine, r.long, size);
        whole = whole ∙ sym (append_assoc r.pre mine rest);
      };
    }

-- ---- ids rise

same_ids : (v : Version) (fs : AllNoted) → ids_of (layouts_in v fs) ≡ ids_of fs
same_ids v NoField = refl
same_ids v (Field f l fs) = ap (λ r. f ∷ r) (same_ids v fs)

same_field_node : (v : Version) (fs : AllNoted) (i : ℕ) (id : ℤ) → field_node (layouts_in v fs) i id
    ≡ field_node fs i id
same_field_node v NoField i id = refl
same_field_node v (Field f l fs) i id =
    ap (λ z. if int_eq (pos f) id then Some i else z)
    (ap (λ n. field_node (layouts_in v fs) (i + n) id) (same_nodes v l)
    ∙ same_field_node v fs (i + nodes l) id)

none_above : (fs : AllNoted) (b n : ℕ) (id : ℤ) → Rising b (ids_of fs) → id ≤ℤ pos b
    → field_node fs n id ≡ None
none_above NoField b n id up h = refl
none_above (Field f l fs) b n id up h =
    let t = int_other (pos f) id (λ e. omega (arith, ints, up.0, h, e)) in
    rw t (none_above fs f (n + nodes l) id up.2 (omega (arith, ints, up.0, h)))

-- fields, the first of which has the node n, of which those from the node end on are not looked for
pub data Cut (id : ℤ) : AllNoted → ℕ → ℕ → Type 0 where
  cut_here : {fs : AllNoted} {n end : ℕ} → end ≡ n → field_node fs n id ≡ None → Cut id fs n end
  cut_later : {f : ℕ} {l : Noted} {fs : AllNoted} {n end : ℕ} → Cut id fs (n + nodes l) end
      → Cut id (Field f l fs) n end

cut_all : (id : ℤ) (fs : AllNoted) (n end : ℕ) → end ≡ n + nodes_all fs → Cut id fs n end
cut_all id NoField n end e = cut_here (omega (arith, e)) refl
cut_all id (Field f l fs) n end e = cut_later (cut_all id fs (n + nodes l) end (omega (arith, e)))

cut_low : {id : ℤ} {fs : AllNoted} {n end : ℕ} → Cut id fs n end → n ≤ end
cut_low (cut_here e none) = omega (arith, e)
cut_low (cut_later c) = omega (arith, cut_low c)

cut_end : {id : ℤ} {fs : AllNoted} {n end : ℕ} → Cut id fs n end → end ≤ n → field_node fs n id ≡ None
cut_end (cut_here e none) le = none
cut_end (cut_later {l = l} c) le = absurd (omega (arith, cut_low c, some_nodes l, le))

-- ---- the field in the middle

-- the field that the node m is, or stands below
record Spot (ns : List NodeSpec) (id : ℤ) (p end m : ℕ) (fs : AllNoted) (before low : ℕ) : Type 0 where
  child : ℕ
  name : ℕ
  here : Noted
  more : AllNoted
  above : before < name
  first : low ≤ child
  over : child ≤ m
  under : m < child + nodes here
  row : Row ns p child (Field name here more)
  there : FieldsAt (tree_of ns) child (Field name here more)
  rising : Rising name (ids_of more)
  rest : Cut id more (child + nodes here) end
  found : pos name ≡ id → field_node fs low id ≡ Some child
  lesser : pos name <ℤ id → field_node fs low id ≡ field_node more (child + nodes here) id
  greater : id <ℤ pos name → Cut id fs low child

spot : (ns : List NodeSpec) (id : ℤ) (p end m : ℕ) {fs : AllNoted} (before : ℕ) {low : ℕ} → Cut id fs low end
    → Rising before (ids_of fs) → Row ns p low fs → FieldsAt (tree_of ns) low fs → p < low → low ≤ m → m < end
    → Spot ns id p end m fs before low
spot ns id p end m before (cut_here e none) up row there after lo hi = absurd (omega (arith, e, lo, hi))
spot ns id p end m before (cut_later {f = f} {l = l} {fs = fs} {n = n} c) up row there after lo hi =
    elim (below_or m (n + nodes l)) [
      | inl lt ↦ record {
        child = n;
        name = f;
        here = l;
        more = fs;
        above = up.0;
        first = omega arith;
        over = lo;
        under = lt;
        row = row;
        there = there;
        rising = up.2;
        rest = c;
        found = λ e. let t = int_same (pos f) id e in rw t refl;
        lesser = λ q. let t = int_other (pos f) id (λ e. omega (arith, ints, q, e)) in rw t refl;
        greater = λ q. cut_here refl (let t = int_other (pos f) id (λ e. omega (arith, ints, q, e)) in rw t
            (none_above fs f (n + nodes l) id up.2 (omega (arith, ints, q))));
      }
      | inr le ↦
          let later = (row_step ns p n f l fs row after).later in
          let s = spot ns id p end m f c up.2 later (later_children (tree_of ns) n f l fs there)
          (omega (arith, after)) le hi in
          record {
            child = s.child;
            name = s.name;
            here = s.here;
            more = s.more;
            above = omega (arith, up.0, s.above);
            first = omega (arith, s.first);
            over = s.over;
            under = s.under;
            row = s.row;
            there = s.there;
            rising = s.rising;
            rest = s.rest;
            found = λ e. let t = int_other (pos f) id (λ q. omega (arith, ints, s.above, e, q)) in rw t
                (s.found e);
            lesser = λ x. let t = int_other (pos f) id (λ q. omega (arith, ints, s.above, x, q)) in rw t
                (s.lesser x);
            greater = λ x. cut_later (s.greater x);
          }
    ]

inside_of : {ns : List NodeSpec} {id : ℤ} {p end m : ℕ} {fs : AllNoted} {before low : ℕ}
    → Spot ns id p end m fs before low → p < low → Inside ns p m
inside_of {ns} {id} {p} s after =
    let st = row_step ns p s.child s.name s.here s.more s.row (omega (arith, after, s.first)) in
    record {
      child = s.child;
      over = s.over;
      after = omega (arith, after, s.first);
      long = omega (arith, st.long, s.under);
      own = st.parent;
      inner = λ k lo hi d. st.inner k lo (omega (arith, hi, s.under)) d;
    }

-- ---- the search

-- what is left to look through for a field of the struct p
pub record ChildLeft (ns : List NodeSpec) (p end low : ℕ) (id : ℤ) (target : Option ℕ) : Type 0 where
  pub fs : AllNoted
  pub before : ℕ
  pub rising : Rising before (ids_of fs)
  pub row : Row ns p low fs
  pub there : FieldsAt (tree_of ns) low fs
  pub after : p < low
  pub cut : Cut id fs low end
  pub same : field_node fs low id ≡ target

pub child_start : (v : Version) (ns : List NodeSpec) (n low end : ℕ) (id : ℤ)
    → IsFormed (layout_in v (tree_of ns)) → IsListing ns → Part (tree_of ns) 0 (sub (tree_of ns) n) n
    → IsStruct (layout_in v (sub (tree_of ns) n)) → low ≡ n + 1
    → end ≡ n + nodes (layout_in v (sub (tree_of ns) n))
    → ChildLeft ns n end low id (child_of (layout_in v (sub (tree_of ns) n)) n id)
child_start v ns n low end id formed li p h el ee = go (sub (tree_of ns) n) p h ee
  where
    go : (s : Noted) → Part (tree_of ns) 0 s n → IsStruct (layout_in v s) → end ≡ n + nodes (layout_in v s)
        → ChildLeft ns n end low id (child_of (layout_in v s) n id)
    go (Struct fs) p h ee =
        let e : suc n ≡ low = omega (arith, el) in
        let all : nodes (Struct (layouts_in v fs)) ≡ nodes (Struct fs) = same_nodes v (Struct fs) in
        let pl = subst (λ r. Place r 0 (Struct fs) n) (sym li) (place p kinds.Struct tt 0 0 0) in
        record {
          fs = fs;
          before = 0;
          rising = subst (Rising 0) (same_ids v fs) (formed_part (part_told v p) formed).0;
          row = subst (λ k. Row ns n k fs) e (struct_row ns n fs pl);
          there = subst (λ k. FieldsAt (tree_of ns) k fs) e (record {
            part = λ x m q. part_of_part p (in_struct q);
          });
          after = omega (arith, el);
          cut = cut_all id fs low end (omega (arith, el, ee, all));
          same = ap (λ k. field_node fs k id) (sym e) ∙ sym (same_field_node v fs (suc n) id);
        }
    go (Leaf k c) p h ee = absurd h
    go (ByteRange k d c) p h ee = absurd h
    go (ItemRange g d c l) p h ee = absurd h
    go (Optional w l) p h ee = absurd h

-- the node in the middle
abbrev pub middle : ℕ → ℕ → ℕ
middle low end = low + (end - low) / 2

-- the child over the middle node
pub record ChildStep (v : Version) (ns : List NodeSpec) (p end low : ℕ) (id : ℤ) (target : Option ℕ)
    (child : ℕ) : Type 0 where
  pub here : Noted
  pub name : ℕ
  pub node : Child (tree_of ns) v child (layout_in v here)
  pub first : low ≤ child
  pub last : child < end
  pub past : low < child + nodes here
  pub within : child < length ns
  pub field : (d : NodeSpec) → (get_or ns child d).field ≡ pos name
  pub found : pos name ≡ id → Some child ≡ target
  pub lesser : pos name <ℤ id → (next : ℕ) → next ≡ child + nodes here → ChildLeft ns p end next id target
  pub greater : id <ℤ pos name → ChildLeft ns p child low id target

spot_left : {ns : List NodeSpec} {p end low : ℕ} {id : ℤ} {target : Option ℕ}
    → (r : ChildLeft ns p end low id target) → low < end
    → Spot ns id p end (middle low end) r.fs r.before low
spot_left {ns} {p} {end} {low} {id} {target} r lt = spot ns id p end (middle low end) r.before r.cut r.rising
    r.row r.there r.after (omega arith) (omega (arith, lt))

step_at : (v : Version) {ns : List NodeSpec} {p end low : ℕ} {id : ℤ} {target : Option ℕ}
    → (r : ChildLeft ns p end low id target) → low < end
    → (s : Spot ns id p end (middle low end) r.fs r.before low) → ChildStep v ns p end low id target s.child
step_at v {ns} {p} {end} {low} {id} {target} r lt s =
    let after : p < s.child = omega (arith, r.after, s.first) in
    let st = row_step ns p s.child s.name s.here s.more s.row after in
    record {
      here = s.here;
      name = s.name;
      node = first_child (tree_of ns) v s.child s.name s.here s.more s.there;
      first = s.first;
      last = omega (arith, s.over, lt);
      past = omega (arith, s.under);
      within = omega (arith, st.long, some_nodes s.here);
      field = st.field;
      found = λ e. sym (s.found e) ∙ r.same;
      lesser = λ q next en. record {
        fs = s.more;
        before = s.name;
        rising = s.rising;
        row = subst (λ k. Row ns p k s.more) (sym en) st.later;
        there = subst (λ k. FieldsAt (tree_of ns) k s.more) (sym en)
            (later_children (tree_of ns) s.child s.name s.here s.more s.there);
        after = omega (arith, after, en);
        cut = subst (λ k. Cut id s.more k end) (sym en) s.rest;
        same = ap (λ k. field_node s.more k id) en ∙ sym (s.lesser q) ∙ r.same;
      };
      greater = λ q. record {
        fs = r.fs;
        before = r.before;
        rising = r.rising;
        row = r.row;
        there = r.there;
        after = r.after;
        cut = s.greater q;
        same = r.same;
      };
    }

pub child_inside : {ns : List NodeSpec} {p end low : ℕ} {id : ℤ} {target : Option ℕ}
    → ChildLeft ns p end low id target → low < end → Inside ns p (middle low end)
child_inside r lt = inside_of (spot_left r lt) r.after

pub child_step : (v : Version) {ns : List NodeSpec} {p end low : ℕ} {id : ℤ} {target : Option ℕ} {child : ℕ}
    → ChildLeft ns p end low id target → low < end → ((i : Inside ns p (middle low end)) → child ≡ i.child)
    → ChildStep v ns p end low id target child
unfolding inside_of
child_step v {ns} {p} {end} {low} {id} {target} {child} r lt is =
    let s = spot_left r lt in
    subst (ChildStep v ns p end low id target) (sym (is (inside_of s r.after))) (step_at v r lt s)

pub child_end : {ns : List NodeSpec} {p end low : ℕ} {id : ℤ} {target : Option ℕ}
    → ChildLeft ns p end low id target → end ≤ low → None ≡ target
child_end r le = sym (cut_end r.cut le) ∙ r.same

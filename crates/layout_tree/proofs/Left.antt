-- What is left, as loops go over the fields of a struct and over values.
use Rattle.std.proofs.Common.{◌≡◌, ℕ, suc, ◌+◌, ◌≤◌, ◌<◌, arith, refl, ap, sym, ◌∙◌, subst}
use Rattle.frozen_model.specs.Trees.{Leaf, ByteRange, ItemRange, Optional, Struct, NoField, Field, nodes}
use Rattle.frozen_model.specs.Trees.{nodes_all, Part}
use Rattle.frozen_model.specs.Values.{Values, NoValue, And, count, nth, Of, OfEach, more, OfAll, part}
use Rattle.frozen_model.specs.Layouts.{Version, Layout, Layouts}
use Rattle.layout_tree.specs.Listing.{Noted, AllNoted, layout_in, layouts_in, sub}
use Rattle.layout_tree.specs.Reading.{IsStruct}
use Rattle.layout_tree.proofs.Children.{Child, FieldsAt, struct_at, first_child, later_children}
use Rattle.layout_tree.proofs.Place.{some_nodes}
use Rattle.layout_tree.proofs.Readings.{same_nodes, same_nodes_all}

-- ---- fields

-- Of the fields of a struct with so many nodes, those from the node child on are left, and P holds of them.
pub record Left (t : Noted) (v : Version) (top child end : ℕ) (P : AllNoted → Type 0) : Type 0 where
  pub fs : AllNoted
  pub parts : FieldsAt t child fs
  pub ends : end ≡ child + nodes_all fs
  pub below : nodes_all fs < top
  pub holds : P fs

pub record LeftStep (t : Noted) (v : Version) (top child end : ℕ) (P Q : AllNoted → Type 0) : Type 0 where
  pub id : ℕ
  pub here : Noted
  pub rest : AllNoted
  pub node : Child t v child (layout_in v here)
  pub past : child + nodes here ≤ end
  pub some : 1 ≤ nodes here
  pub below : nodes here < top
  pub holds : P (Field id here rest)
  pub next : (child2 : ℕ) → child2 ≡ child + nodes here → Q rest → Left t v top child2 end Q

pub left_step : (t : Noted) (v : Version) (top child end : ℕ) (P Q : AllNoted → Type 0)
    → Left t v top child end P → child < end → LeftStep t v top child end P Q
left_step t v top child end P Q l lt = go l.fs l.parts l.ends l.below l.holds
  where
    go : (fs : AllNoted) → FieldsAt t child fs → end ≡ child + nodes_all fs → nodes_all fs < top → P fs
        → LeftStep t v top child end P Q
    go NoField parts ends below h = absurd (omega arith)
    go (Field id f fs) parts ends below h = record {
      id = id;
      here = f;
      rest = fs;
      node = first_child t v child id f fs parts;
      past = omega (arith, ends);
      some = some_nodes f;
      below = omega (arith, below);
      holds = h;
      next = λ child2 e q. record {
        fs = fs;
        parts = subst (λ n. FieldsAt t n fs) (sym e) (later_children t child id f fs parts);
        ends = omega (arith, ends, e);
        below = omega (arith, below);
        holds = q;
      };
    }

pub left_end : (t : Noted) (v : Version) (top child end : ℕ) (P : AllNoted → Type 0)
    → Left t v top child end P → end ≤ child → P NoField
left_end t v top child end P l le = go l.fs l.ends l.holds
  where
    go : (fs : AllNoted) → end ≡ child + nodes_all fs → P fs → P NoField
    go NoField e h = h
    go (Field id f fs) e h = absurd (omega (arith, some_nodes f))

pub left_start : (t : Noted) (v : Version) (n child end : ℕ) (P : AllNoted → Type 0) → Part t 0 (sub t n) n
    → IsStruct (layout_in v (sub t n))
    → ((fs : AllNoted) → layout_in v (sub t n) ≡ Struct (layouts_in v fs) → P fs)
    → end ≡ n + nodes (layout_in v (sub t n)) → child ≡ n + 1
    → Left t v (nodes (layout_in v (sub t n))) child end P
left_start t v n child end P p is h e ec = go (layout_in v (sub t n)) refl is
  where
    go : (l : Layout) → layout_in v (sub t n) ≡ l → IsStruct l
        → Left t v (nodes (layout_in v (sub t n))) child end P
    go (Struct ls) el is =
        let st = struct_at t v n ls p el in
        let all = same_nodes_all v st.fields in
        let n1 : suc n ≡ child = omega arith in
        let whole : nodes (layout_in v (sub t n)) ≡ 1 + nodes_all ls = ap nodes el in
        let each : nodes_all ls ≡ nodes_all st.fields = ap nodes_all (sym st.is) ∙ all in
        record {
          fs = st.fields;
          parts = subst (λ k. FieldsAt t k st.fields) n1 st.there;
          ends = omega (arith, e, whole, each, ec);
          below = omega (arith, whole, each);
          holds = h st.fields (el ∙ ap (λ (z : Layouts). Struct z) (sym st.is));
        }
    go (Leaf k c) el is = absurd is
    go (ByteRange k d c) el is = absurd is
    go (ItemRange g d c m) el is = absurd is
    go (Optional w m) el is = absurd is

-- ---- values

-- of some values, those from the i-th on, which have the layout of items, are left, and P holds of them
pub record ItemsLeft (m : Layout) (all : Values) (i : ℕ) (P : Values → Type 0) : Type 0 where
  pub vs : Values
  pub values : (k : ℕ) → k < count vs → nth all (i + k) ≡ nth vs k
  pub many : i + count vs ≡ count all
  pub form : OfEach m vs
  pub holds : P vs

pub items_start : {m : Layout} {all : Values} {P : Values → Type 0} → OfEach m all → P all
    → ItemsLeft m all 0 P
items_start {m} {all} o h = record {
  vs = all;
  values = λ k lt. let e : 0 + k ≡ k = omega arith in ap (nth all) e;
  many = omega arith;
  form = o;
  holds = h;
}

-- the first of the values that are left, and the later ones
pub record ItemHere (m : Layout) (all : Values) (i : ℕ) (P : Values → Type 0) : Type 0 where
  pub later : Values
  pub values : (k : ℕ) → k < count later → nth all (i + 1 + k) ≡ nth later k
  pub many : i + 1 + count later ≡ count all
  pub form : Of m (nth all i)
  pub forms : OfEach m later
  pub holds : P (And (nth all i) later)

pub items_here : {m : Layout} {all : Values} {i : ℕ} {P : Values → Type 0} → ItemsLeft m all i P → i
    < count all → ItemHere m all i P
items_here {m} {all} {i} {P} l lt = go l.vs l.values l.many l.form l.holds
  where
    go : (vs : Values) → ((k : ℕ) → k < count vs → nth all (i + k) ≡ nth vs k) → i + count vs ≡ count all
        → OfEach m vs → P vs → ItemHere m all i P
    go NoValue values many o h = absurd (omega (arith, many, lt))
    go (And x vs) values many (more o os) h =
        let zero_on : i ≡ i + 0 = omega arith in
        let first : nth all i ≡ x = ap (nth all) zero_on ∙ values 0 (omega arith) in
        record {
          later = vs;
          values = λ k lt. let e : i + 1 + k ≡ i + suc k = omega arith in ap (nth all) e
              ∙ values (suc k) (omega arith);
          many = omega (arith, many);
          form = subst (Of m) (sym first) o;
          forms = os;
          holds = subst (λ y. P (And y vs)) (sym first) h;
        }

pub items_next : {m : Layout} {all : Values} {i : ℕ} {P Q : Values → Type 0} → ItemsLeft m all i P → i
    < count all
    → ((later : Values) → Of m (nth all i) → OfEach m later → P (And (nth all i) later) → Q later)
    → ItemsLeft m all (i + 1) Q
items_next l lt f =
    let h = items_here l lt in
    record {
      vs = h.later;
      values = h.values;
      many = h.many;
      form = h.forms;
      holds = f h.later h.form h.forms h.holds;
    }

pub items_end : {m : Layout} {all : Values} {i : ℕ} {P : Values → Type 0} → ItemsLeft m all i P → i
    ≡ count all → P NoValue
items_end {m} {all} {i} {P} l e = go l.vs l.many l.holds
  where
    go : (vs : Values) → i + count vs ≡ count all → P vs → P NoValue
    go NoValue many h = h
    go (And x vs) many h = absurd (omega (arith, many, e))

-- ---- fields beside values

-- the values from the i-th on have the layouts of the fields that are left, and P holds of both
pub record Beside (v : Version) (all : Values) (child i : ℕ) (P : Layouts → Values → Type 0)
    (fs : AllNoted) : Type 0 where
  pub vs : Values
  pub values : (k : ℕ) → k < count vs → nth all (i + k) ≡ nth vs k
  pub many : i + count vs ≡ count all
  pub form : OfAll (layouts_in v fs) vs
  pub passed : i ≤ child
  pub holds : P (layouts_in v fs) vs

abbrev pub FieldsLeft : Noted → Version → ℕ → Values → ℕ → ℕ → ℕ → (Layouts → Values → Type 0) → Type 0
FieldsLeft t v top all child end i P = Left t v top child end (Beside v all child i P)

pub fields_start : {P : Layouts → Values → Type 0} (t : Noted) (v : Version) (n child end : ℕ) (ls : Layouts)
    (all : Values) → Part t 0 (sub t n) n → layout_in v (sub t n) ≡ Struct ls
    → end ≡ n + nodes (layout_in v (sub t n)) → child ≡ n + 1 → OfAll ls all → P ls all
    → FieldsLeft t v (nodes (layout_in v (sub t n))) all child end 0 P
fields_start {P} t v n child end ls all p el e ec o h =
    left_start t v n child end (Beside v all child 0 P) p (subst IsStruct (sym el) tt)
    (λ fs ef.
    let same : ls ≡ layouts_in v fs = let both : ◌≡◌ {A = Layout} (Struct ls) (Struct (layouts_in v fs)) = sym
    el ∙ ef in cc in
    record {
      vs = all;
      values = λ k lt. let z : 0 + k ≡ k = omega arith in ap (nth all) z;
      many = omega arith;
      form = subst (λ (z : Layouts). OfAll z all) same o;
      passed = omega arith;
      holds = subst (λ (z : Layouts). P z all) same h;
    })
    e ec

-- while there are values, there are fields
pub fields_more : {t : Noted} {v : Version} {top child end i : ℕ} {all : Values}
    {P : Layouts → Values → Type 0} → FieldsLeft t v top all child end i P → i < count all → child < end
fields_more {t} {v} {top} {child} {end} {i} {all} {P} l lt = go l.fs l.holds.vs l.ends l.holds.many
    l.holds.form
  where
    go : (fs : AllNoted) (vs : Values) → end ≡ child + nodes_all fs → i + count vs ≡ count all
        → OfAll (layouts_in v fs) vs → child < end
    go NoField NoValue e m o = absurd (omega (arith, m, lt))
    go NoField (And x vs) e m o = elim o [ ]
    go (Field id f fs) vs e m o = omega (arith, e, some_nodes f)

-- the first of the fields that are left, with its value, and the later ones
pub record FieldHere (t : Noted) (v : Version) (top : ℕ) (all : Values) (child end i : ℕ)
    (P : Layouts → Values → Type 0) : Type 0 where
  pub id : ℕ
  pub later : Layouts
  pub values : Values
  pub node : Part t 0 (sub t child) child
  pub some : i < count all
  pub past : child + nodes (layout_in v (sub t child)) ≤ end
  pub grows : 1 ≤ nodes (layout_in v (sub t child))
  pub form : Of (layout_in v (sub t child)) (nth all i)
  pub forms : OfAll later values
  pub holds : P (Field id (layout_in v (sub t child)) later) (And (nth all i) values)

pub fields_here : {t : Noted} {v : Version} {top child end i : ℕ} {all : Values}
    {P : Layouts → Values → Type 0} → FieldsLeft t v top all child end i P → child < end
    → FieldHere t v top all child end i P
fields_here {t} {v} {top} {child} {end} {i} {all} {P} l lt = go st.holds.vs st.holds.values st.holds.many
    st.holds.form st.holds.holds
  where
    B : AllNoted → Type 0
    B = Beside v all child i P

    st : LeftStep t v top child end B B
    st = left_step t v top child end B B l lt

    at : Layout
    at = layout_in v (sub t child)

    same : nodes at ≡ nodes st.here
    same = ap nodes st.node.is ∙ same_nodes v st.here

    go : (vs : Values) → ((k : ℕ) → k < count vs → nth all (i + k) ≡ nth vs k) → i + count vs ≡ count all
        → OfAll (Field st.id (layout_in v st.here) (layouts_in v st.rest)) vs
        → P (Field st.id (layout_in v st.here) (layouts_in v st.rest)) vs
        → FieldHere t v top all child end i P
    go NoValue values many o h = elim o [ ]
    go (And x vs) values many (part o os) h =
        let zero_on : i ≡ i + 0 = omega arith in
        let first : nth all i ≡ x = ap (nth all) zero_on ∙ values 0 (omega arith) in
        record {
          id = st.id;
          later = layouts_in v st.rest;
          values = vs;
          node = st.node.node;
          some = omega (arith, many);
          past = omega (arith, same, st.past);
          grows = omega (arith, same, st.some);
          form = subst (λ (m : Layout). Of m (nth all i)) (sym st.node.is)
              (subst (Of (layout_in v st.here)) (sym first) o);
          forms = os;
          holds = subst (λ (m : Layout). P (Field st.id m (layouts_in v st.rest)) (And (nth all i) vs))
              (sym st.node.is) (subst (λ y. P (Field st.id (layout_in v st.here) (layouts_in v st.rest))
              (And y vs)) (sym first) h);
        }

pub fields_next : {t : Noted} {v : Version} {top child end i : ℕ} {all : Values}
    {P Q : Layouts → Values → Type 0} (child2 : ℕ) → FieldsLeft t v top all child end i P → child < end
    → child2 ≡ child + nodes (layout_in v (sub t child))
    → ((id : ℕ) (later : Layouts) (vs : Values) → Of (layout_in v (sub t child)) (nth all i) → OfAll later vs
    → P (Field id (layout_in v (sub t child)) later) (And (nth all i) vs) → Q later vs)
    → FieldsLeft t v top all child2 end (i + 1) Q
fields_next {t} {v} {top} {child} {end} {i} {all} {P} {Q} child2 l lt e f =
    st.next child2 (omega (arith, e, same)) (go st.holds.vs st.holds.values st.holds.many st.holds.form
    st.holds.passed st.holds.holds)
  where
    st : LeftStep t v top child end (Beside v all child i P) (Beside v all child2 (i + 1) Q)
    st = left_step t v top child end (Beside v all child i P) (Beside v all child2 (i + 1) Q) l lt

    at : Layout
    at = layout_in v (sub t child)

    same : nodes at ≡ nodes st.here
    same = ap nodes st.node.is ∙ same_nodes v st.here

    go : (vs : Values) → ((k : ℕ) → k < count vs → nth all (i + k) ≡ nth vs k) → i + count vs ≡ count all
        → OfAll (Field st.id (layout_in v st.here) (layouts_in v st.rest)) vs → i ≤ child
        → P (Field st.id (layout_in v st.here) (layouts_in v st.rest)) vs
        → Beside v all child2 (i + 1) Q st.rest
    go NoValue values many o passed h = elim o [ ]
    go (And x vs) values many (part o os) passed h =
        let zero_on : i ≡ i + 0 = omega arith in
        let first : nth all i ≡ x = ap (nth all) zero_on ∙ values 0 (omega arith) in
        let later = layouts_in v st.rest in
        let form = subst (λ (m : Layout). Of m (nth all i)) (sym st.node.is)
        (subst (Of (layout_in v st.here)) (sym first) o) in
        let both = subst (λ (m : Layout). P (Field st.id m later) (And (nth all i) vs)) (sym st.node.is)
        (subst (λ y. P (Field st.id (layout_in v st.here) later) (And y vs)) (sym first) h) in
        record {
          vs = vs;
          values = λ k lt. let e2 : i + 1 + k ≡ i + suc k = omega arith in ap (nth all) e2
              ∙ values (suc k) (omega arith);
          many = omega (arith, many);
          form = os;
          passed = omega (arith, passed, e, same, st.some);
          holds = f st.id later vs form os both;
        }

pub fields_end : {t : Noted} {v : Version} {top child end i : ℕ} {all : Values}
    {P : Layouts → Values → Type 0} → FieldsLeft t v top all child end i P → end ≤ child → P NoField NoValue
fields_end {t} {v} {top} {child} {end} {i} {all} {P} l le = go (layouts_in v NoField) refl b.vs b.form b.holds
  where
    b : Beside v all child i P NoField
    b = left_end t v top child end (Beside v all child i P) l le

    go : (ls : Layouts) → ls ≡ NoField → (vs : Values) → OfAll ls vs → P ls vs → P NoField NoValue
    go NoField e NoValue o h = h
    go NoField e (And x vs) o h = elim o [ ]
    go (Field id m ms) e vs o h = absurd cc

-- after the last value there is no field
pub fields_over : {t : Noted} {v : Version} {top child end i : ℕ} {all : Values}
    {P : Layouts → Values → Type 0} → FieldsLeft t v top all child end i P → i ≡ count all → P NoField NoValue
fields_over {t} {v} {top} {child} {end} {i} {all} {P} l e = fields_end l
    (go l.fs l.holds.vs l.ends l.holds.many l.holds.form)
  where
    go : (fs : AllNoted) (vs : Values) → end ≡ child + nodes_all fs → i + count vs ≡ count all
        → OfAll (layouts_in v fs) vs → end ≤ child
    go NoField vs h m o = omega (arith, h)
    go (Field id f fs) NoValue h m o = elim o [ ]
    go (Field id f fs) (And x vs) h m o = absurd (omega (arith, m, e))

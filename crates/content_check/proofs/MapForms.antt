-- The form of maps, and their pairs.
use Rattle.std.proofs.Common.{◌≡◌, ℕ, suc, ◌+◌, ◌<◌, [], ◌∷◌, ◌≤◌, List, arith, refl, ap, sym, ◌∙◌, subst}
use Rattle.std.proofs.Common.{Option, None, Ok, Err}
use Rattle.std.proofs.Math.Logic.{∥∥₁_elim}
use Rattle.std.proofs.Math.Bridge.{le_prop}
use Rattle.frozen_model.specs.Trees.{AList, ASet, AMap, Leaf, ByteRange, ItemRange, Optional, Struct, NoField}
use Rattle.frozen_model.specs.Trees.{Field, kinds as kinds_of, nodes, IsKey, IsFormed, Part}
use Rattle.frozen_model.specs.Values.{Value, Values, Record, And, NoValue, key_of}
use Rattle.frozen_model.specs.Layouts.{Version, Layout, stride}
use Rattle.frozen_model.specs.Walk.{Walked, and_then, walk}
use Rattle.layout_tree.specs.declared.node.FormVersion.{FormVersion}
use Rattle.layout_tree.specs.Listing.{Noted, AllNoted, layout_in, layouts_in, version_of, IsNotedLayout}
use Rattle.layout_tree.specs.Reading.{IsHolder, item_of}
use Rattle.key_order.specs.declared.key.Key.{Key}
use Rattle.content_check.specs.Steps.{IsMap, IsOfKind}
use Rattle.content_check.specs.Agreeing.{key_value}
use Rattle.content_check.proofs.Walks.{RangeAt, EachLeft, Walks}
use Rattle.content_check.proofs.SetForms.{formed_kinds, key_n, is_key}
use Rattle.layout_tree.proofs.Readings.{same_nodes}
use Rattle.layout_tree.proofs.Children.{Child, FieldsAt, struct_at, first_child, later_children}
use Rattle.content_check.specs.declared.fault.ContentFault.{ContentFault}
use Rattle.content_check.specs.declared.reach.Reach.{Reach}
use Rattle.content_check.specs.Agreeing.{fault_of, without_value, IsAhead, Agrees, IsHere}

abbrev pub pair_n : Layout → ℕ
pair_n (Struct (Field i k (Field j u NoField))) = key_n k
pair_n l = 0

formed_key : (v : Version) (k : Noted) → IsKey (kinds_of k) → 1 ≤ key_n (layout_in v k)
formed_key v (Leaf k c) h = omega arith
formed_key v (ByteRange t d c) h = omega arith
formed_key v (ItemRange g d c m) h = absurd h
formed_key v (Optional w m) h = absurd h
formed_key v (Struct ls) h = absurd h

map_n : (v : Version) (s : Noted) → IsFormed (kinds_of s) → IsMap (layout_in v s) → 1
    ≤ pair_n (item_of (layout_in v s))
map_n v (ItemRange AMap d c (Struct (Field i k (Field j u NoField)))) f h = formed_key v k f.0.1
map_n v (ItemRange AMap d c (Struct (Field i k (Field j u (Field a b e))))) f h = absurd f.0
map_n v (ItemRange AMap d c (Struct (Field i k NoField))) f h = absurd f.0
map_n v (ItemRange AMap d c (Struct NoField)) f h = absurd f.0
map_n v (ItemRange AMap d c (Leaf k x)) f h = absurd f.0
map_n v (ItemRange AMap d c (ByteRange t x y)) f h = absurd f.0
map_n v (ItemRange AMap d c (ItemRange g x y m)) f h = absurd f.0
map_n v (ItemRange AMap d c (Optional w m)) f h = absurd f.0
map_n v (ItemRange AList d c m) f h = absurd h
map_n v (ItemRange ASet d c m) f h = absurd h
map_n v (Leaf k c) f h = absurd h
map_n v (ByteRange t d c) f h = absurd h
map_n v (Optional w m) f h = absurd h
map_n v (Struct ls) f h = absurd h

pub record PairAt (m : Layout) : Type 0 where
  pub one : ℕ
  pub key : Layout
  pub two : ℕ
  pub value : Layout
  pub is : m ≡ Struct (Field one key (Field two value NoField))
  pub keyed : IsKey key

pair_at : (m : Layout) → 1 ≤ pair_n m → PairAt m
pair_at (Struct (Field i k (Field j u NoField))) h = record {
  one = i;
  key = k;
  two = j;
  value = u;
  is = refl;
  keyed = is_key k h;
}
pair_at (Struct (Field i k (Field j u (Field a b e)))) h = absurd (omega arith)
pair_at (Struct (Field i k NoField)) h = absurd (omega arith)
pair_at (Struct NoField) h = absurd (omega arith)
pair_at (Leaf k x) h = absurd (omega arith)
pair_at (ByteRange t x y) h = absurd (omega arith)
pair_at (ItemRange g x y m) h = absurd (omega arith)
pair_at (Optional w m) h = absurd (omega arith)

pub map_pair : (e : FormVersion) (t s : Noted) (n : ℕ) → ∥ IsNotedLayout e t ∥₁ → Part t 0 s n
    → IsMap (layout_in (version_of e) s) → PairAt (item_of (layout_in (version_of e) s))
map_pair e t s n h p i = pair_at (item_of (layout_in (version_of e) s))
    (∥∥₁_elim h le_prop (λ x. map_n (version_of e) s (formed_kinds p x.kind_tree.formed) i))

pub record PairNodes (t : Noted) (v : Version) (n : ℕ) (m : Layout) (p : PairAt m) : Type 0 where
  pub key : Child t v (n + 4) p.key
  pub value : (a : ℕ) → a ≡ n + 4 + nodes p.key → Child t v a p.value

pub pair_nodes : (t : Noted) (v : Version) (n : ℕ) (m : Layout) (p : PairAt m) → Child t v (n + 3) m
    → PairNodes t v n m p
pair_nodes t v n m p ch =
    let st = struct_at t v (n + 3) (Field p.one p.key (Field p.two p.value NoField)) ch.node (ch.is ∙ p.is) in
    go st.fields st.is st.there
  where
    go : (fs : AllNoted) → layouts_in v fs ≡ Field p.one p.key (Field p.two p.value NoField)
        → FieldsAt t (suc (n + 3)) fs → PairNodes t v n m p
    go (Field a f (Field b g NoField)) e h =
        let ek : layout_in v f ≡ p.key = cc in
        let eu : layout_in v g ≡ p.value = cc in
        let n4 : suc (n + 3) ≡ n + 4 = omega arith in
        let c1 = first_child t v (suc (n + 3)) a f (Field b g NoField) h in
        let c2 = first_child t v (suc (n + 3) + nodes f) b g NoField
        (later_children t (suc (n + 3)) a f (Field b g NoField) h) in
        record {
          key = subst (λ k. Child t v k p.key) n4 (subst (λ (z : Layout). Child t v (suc (n + 3)) z) ek c1);
          value = λ q eq. let place : suc (n + 3) + nodes f
              ≡ q = omega (arith, eq, same_nodes v f, ap nodes ek) in subst (λ k. Child t v k p.value) place
              (subst (λ (z : Layout). Child t v (suc (n + 3) + nodes f) z) eu c2);
        }
    go (Field a f (Field b g (Field x y z))) e h = absurd cc
    go (Field a f NoField) e h = absurd cc
    go NoField e h = absurd cc

-- ---- the walk of a pair

abbrev second : Value × ℕ × ℕ → Walked Values
second x = Ok (And x.0 NoValue, x.1, x.2)

abbrev both : Value × ℕ × ℕ → Walked Values → Walked Values
both x w = and_then w (λ y. Ok (And x.0 y.0, y.1, y.2))

abbrev whole : ℕ → ℕ → Walked Values → Walked Value
whole i j w = and_then w (λ x. Ok (Record (i ∷ j ∷ []) x.0, x.1, x.2))

first_walk : (bs : List ℕ) (i j : ℕ) (k u : Layout) (start : ℕ) (key : Option Value) (bit next cells : ℕ)
    (x : Value × ℕ × ℕ) → walk bs k start key bit next cells ≡ Ok x
    → walk bs (Struct (Field i k (Field j u NoField))) start key bit next cells
    ≡ whole i j (both x (and_then (walk bs u start None (bit + stride k) x.1 x.2) second))
first_walk bs i j k u start key bit next cells x e = ap
    (λ w. whole i j (and_then w (λ x. both x
    (and_then (walk bs u start None (bit + stride k) x.1 x.2) second)))) e

pub pair_key_err : (bs : List ℕ) (m : Layout) (p : PairAt m) (start : ℕ) (key : Option Value) (bit : ℕ)
    (at : Reach) (fault : ContentFault)
    → Agrees bs (walk bs p.key start key bit at.next at.cells) at (Err fault)
    → Agrees bs (walk bs m start key bit at.next at.cells) at (Err fault)
pair_key_err bs m p start key bit at fault r = subst
    (λ (z : Layout). Agrees bs (walk bs z start key bit at.next at.cells) at (Err fault)) (sym p.is) (record {
      same = go (walk bs p.key start key bit at.next at.cells) r.same;
      ahead = tt;
    })
  where
    go : (w : Walked Value) → Err (fault_of fault) ≡ without_value w → Err (fault_of fault)
        ≡ without_value (whole p.one p.two (and_then w
        (λ x. both x (and_then (walk bs p.value start None (bit + stride p.key) x.1 x.2) second))))
    go (Ok x) e = absurd cc
    go (Err d) e = e

at_reach : (bs : List ℕ) (u : Layout) (start bit : ℕ) (x : Value × ℕ × ℕ) (mid : Reach) → x.1 ≡ mid.next → x.2
    ≡ mid.cells → walk bs u start None bit x.1 x.2 ≡ walk bs u start None bit mid.next mid.cells
at_reach bs u start bit x mid en ec = ap (λ n. walk bs u start None bit n x.2) en
    ∙ ap (λ n. walk bs u start None bit mid.next n) ec

pub pair_value_err : (bs : List ℕ) (m : Layout) (p : PairAt m) (start : ℕ) (key : Option Value) (bit bit2 : ℕ)
    (at mid : Reach) (fault : ContentFault) → Walks (walk bs p.key start key bit at.next at.cells) mid → bit2
    ≡ bit + stride p.key
    → Agrees bs (walk bs p.value start None bit2 mid.next mid.cells) mid (Err fault)
    → Agrees bs (walk bs m start key bit at.next at.cells) at (Err fault)
pair_value_err bs m p start key bit bit2 at mid fault w eb r =
    let x = w.is in
    let e1 = first_walk bs p.one p.two p.key p.value start key bit at.next at.cells x w.ok in
    let e2 = ap (λ b. walk bs p.value start None b x.1 x.2) (sym eb)
    ∙ at_reach bs p.value start bit2 x mid w.next w.cells in
    let e3 = e1 ∙ ap (λ q. whole p.one p.two (both x (and_then q second))) e2 in
    subst (λ (z : Layout). Agrees bs (walk bs z start key bit at.next at.cells) at (Err fault)) (sym p.is)
    (record {
      same = go (walk bs p.value start None bit2 mid.next mid.cells) x r.same ∙ sym (ap without_value e3);
      ahead = tt;
    })
  where
    go : (q : Walked Value) (x : Value × ℕ × ℕ) → Err (fault_of fault) ≡ without_value q
        → Err (fault_of fault) ≡ without_value (whole p.one p.two (both x (and_then q second)))
    go (Ok y) x e = absurd cc
    go (Err d) x e = e

pub record PairOk (bs : List ℕ) (m : Layout) (start : ℕ) (key : Option Value) (bit : ℕ) (at after : Reach)
    (kv : Value) : Type 0 where
  pub walked : Walks (walk bs m start key bit at.next at.cells) after
  pub first : key_of walked.is.0 ≡ kv

pub pair_ok : (bs : List ℕ) (m : Layout) (p : PairAt m) (start : ℕ) (key : Option Value) (bit bit2 : ℕ)
    (at mid after : Reach) (kv : Value) → (w : Walks (walk bs p.key start key bit at.next at.cells) mid)
    → w.is.0 ≡ kv → bit2 ≡ bit + stride p.key
    → Walks (walk bs p.value start None bit2 mid.next mid.cells) after → PairOk bs m start key bit at after kv
pair_ok bs m p start key bit bit2 at mid after kv w ek eb v =
    let x = w.is in
    let y = v.is in
    let e1 = first_walk bs p.one p.two p.key p.value start key bit at.next at.cells x w.ok in
    let e2 = ap (λ b. walk bs p.value start None b x.1 x.2) (sym eb)
    ∙ at_reach bs p.value start bit2 x mid w.next w.cells ∙ v.ok in
    let e3 = e1 ∙ ap (λ q. whole p.one p.two (both x (and_then q second))) e2 in
    let e4 = ap (λ (z : Layout). walk bs z start key bit at.next at.cells) p.is ∙ e3 in
    record {
      walked = record {
        is = (Record (p.one ∷ p.two ∷ []) (And x.0 (And y.0 NoValue)), y.1, y.2);
        ok = e4;
        next = v.next;
        cells = v.cells;
      };
      first = ek;
    }

-- ---- pairs that are left

pub record MapLeft (bs : List ℕ) (t : Noted) (v : Version) (node : ℕ) (l : Layout) (start n : ℕ)
    (from : Reach) (before : Option Key) (k bit : ℕ) (reach : Reach) : Type 0 where
  pub pair : PairAt (item_of l)
  pub left : EachLeft bs AMap (item_of l) start n from (key_value before) k bit reach
  pub kind : IsOfKind pair.key before

pub map_range : (l : Layout) → IsMap l → RangeAt AMap l
map_range (ItemRange AMap d c m) h = record { distance = d; count = c; is = refl }
map_range (ItemRange AList d c m) h = absurd h
map_range (ItemRange ASet d c m) h = absurd h
map_range (Leaf k c) h = absurd h
map_range (ByteRange k d c) h = absurd h
map_range (Optional w m) h = absurd h
map_range (Struct ls) h = absurd h

pub map_holder : (l : Layout) → IsMap l → IsHolder l
map_holder (ItemRange AMap d c m) h = tt
map_holder (ItemRange AList d c m) h = absurd h
map_holder (ItemRange ASet d c m) h = absurd h
map_holder (Leaf k c) h = absurd h
map_holder (ByteRange k d c) h = absurd h
map_holder (Optional w m) h = absurd h
map_holder (Struct ls) h = absurd h

pub key_here : (bs : List ℕ) (m : Layout) (p : PairAt m) (start bit : ℕ) (at : Reach)
    → IsHere bs m start bit at → IsHere bs p.key start bit at
key_here bs m p start bit at h = record {
  inside = omega (arith, h.inside, ap stride p.is);
  past = h.past;
  within = h.within;
  few = h.few;
  small = h.small;
}

pub value_here : (bs : List ℕ) (m : Layout) (p : PairAt m) (start bit bit2 : ℕ) (at mid : Reach)
    → IsHere bs m start bit at → IsAhead bs at (Ok mid) → bit2 ≡ bit + stride p.key
    → IsHere bs p.value start bit2 mid
value_here bs m p start bit bit2 at mid h a e = record {
  inside = omega (arith, h.inside, ap stride p.is, e);
  past = omega (arith, h.past, a.0);
  within = a.1;
  few = a.2;
  small = h.small;
}

pub value_nodes : (m : Layout) (p : PairAt m) → nodes p.value < nodes m
value_nodes m p = omega (arith, ap nodes p.is)

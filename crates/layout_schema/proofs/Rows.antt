-- The rows of a schema: what a value of its type has beside what the layouts say, and that what they say determines them.
use Rattle.std.proofs.Common.{◌≡◌, inl, inr, ℕ, zero, suc, ◌+◌, ◌-◌, ◌<◌, ◌≤◌, ℤ, pos, negsuc, Bool, true, false, if◌then◌else◌, List, [], ◌∷◌, Option, Some, None, arith, refl, ap, sym, ◌∙◌, subst, map, length}
use Rattle.std.specs.Prelude.{int_lt, option_map}
use Rattle.std.specs.Ordering.{int_eq}
use Rattle.std.proofs.lemmas.Bool.{cases_order, cases_lt, lt-ltb, ltb-true}
use Rattle.std.proofs.lemmas.Int.{ints}
use Rattle.frozen_model.specs.Trees.{I16, I32, I64, Whole, Integer, AMap, Leaf, ByteRange, ItemRange, Optional, Struct, NoField, Field, nodes, nodes_all}
use Rattle.frozen_model.specs.Values.{Value, Values, NoValue, And, Atom, Truth, Number, One, Bytes, Items, Record, IsOf, Of, one, bytes, items, record_of, OfEach, more, part as part_of, no_part, Rises, key_of, key_less}
use Rattle.frozen_model.specs.Layouts.{Version, Version1, Version2, Layout, Layouts}
use Rattle.typed_tree.specs.Spots.{pair}
use Rattle.layout_tree.specs.declared.node.NodeSpec.{NodeSpec}
use Rattle.layout_tree.specs.declared.node.Kind.{Kind}
use Rattle.layout_tree.specs.declared.node.Kind.TheVariants as kinds
use Rattle.layout_tree.specs.Listing.{item_struct}
use Rattle.layout_tree.specs.Given.{noted_from, all_noted_from}
use Rattle.compact_codec.specs.Wire.{number_in}
use Rattle.typed_reading.proofs.FieldLaws.{int_eq_refl}
use Rattle.layout_schema.specs.Schemas.{number, layouts_of}
use Rattle.layout_schema.specs.Shapes.{part, Child, Entry, child_in, children_in, entry_in, entry_of, is_walked, unwalked}
use Rattle.layout_schema.proofs.Climbing.{Climbs}
use Rattle.layout_schema.proofs.Listed.{int_other, Has, HasAll}
use Rattle.layout_schema.proofs.Accepted.{Proper, AllProper}
use Rattle.layout_schema.proofs.OwnSchema.{keyed, child_kinds, layout_kinds}

-- ---- values from what they say

pub whole_atom : (k : Whole) (x : Atom) → IsOf (Integer k) x → One (Number (number_in (One x))) ≡ One x
whole_atom k (Truth b) h = absurd h
whole_atom k (Number z) h = refl

abbrev back_child : Child → Value
back_child c = pair (number c.field) (Record (1 ∷ 2 ∷ []) (And (number c.number) (And (number c.offset) NoValue)))

-- a record of these parts, whose ids are the type's
child_parts : (is js : List ℕ) (a b c : Atom) → is ≡ 1 ∷ 2 ∷ [] → js ≡ 1 ∷ 2 ∷ [] → IsOf (Integer I16) a → IsOf (Integer I16) b → IsOf (Integer I16) c
    → Record (1 ∷ 2 ∷ []) (And (number (number_in (One a))) (And (Record (1 ∷ 2 ∷ []) (And (number (number_in (One b))) (And (number (number_in (One c))) NoValue))) NoValue))
    ≡ Record is (And (One a) (And (Record js (And (One b) (And (One c) NoValue))) NoValue))
child_parts is js a b c ei ej ha hb hc =
    let e1 = whole_atom I16 a ha in
    let e2 = whole_atom I16 b hb in
    let e3 = whole_atom I16 c hc in
    cc

child_back : (u : Value) → Of (keyed child_kinds) u → back_child (child_in u) ≡ u
child_back _ (record_of {ids = is} ei (part_of (one {x = a} ha) (part_of (record_of {ids = js} ej (part_of (one {x = b} hb) (part_of (one {x = c} hc) no_part))) no_part))) =
    child_parts is js a b c ei ej ha hb hc

abbrev back_children : List Child → Values
back_children [] = NoValue
back_children (c ∷ cs) = And (back_child c) (back_children cs)

children_back : (us : Values) → OfEach (keyed child_kinds) us → back_children (children_in us) ≡ us
children_back NoValue h = refl
children_back (And u us) (more h hs) = let e = child_back u h in let f = children_back us hs in cc

abbrev back_entry : Version → Entry → Value
back_entry Version1 x =
    Record (1 ∷ 2 ∷ 3 ∷ 4 ∷ []) (And (number x.size) (And (number x.bits) (And (Items AMap (back_children x.children)) (And (Bytes x.name) NoValue))))
back_entry Version2 x =
    Record (1 ∷ 2 ∷ 3 ∷ 4 ∷ 5 ∷ []) (And (number x.size) (And (number x.bits) (And (Items AMap (back_children x.children)) (And (Bytes x.name) (And (number x.base) NoValue)))))

entry_parts : (is : List ℕ) (a b : Atom) (cs : Values) (t : List ℕ) → is ≡ 1 ∷ 2 ∷ 3 ∷ 4 ∷ [] → IsOf (Integer I32) a → IsOf (Integer I16) b → back_children (children_in cs) ≡ cs
    → Record (1 ∷ 2 ∷ 3 ∷ 4 ∷ []) (And (number (number_in (One a))) (And (number (number_in (One b))) (And (Items AMap (back_children (children_in cs))) (And (Bytes t) NoValue))))
    ≡ Record is (And (One a) (And (One b) (And (Items AMap cs) (And (Bytes t) NoValue))))
entry_parts is a b cs t ei ha hb e3 =
    let e1 = whole_atom I32 a ha in
    let e2 = whole_atom I16 b hb in
    cc

entry_parts_with_base : (is : List ℕ) (a b z : Atom) (cs : Values) (t : List ℕ) → is ≡ 1 ∷ 2 ∷ 3 ∷ 4 ∷ 5 ∷ [] → IsOf (Integer I32) a → IsOf (Integer I16) b → IsOf (Integer I64) z
    → back_children (children_in cs) ≡ cs
    → Record (1 ∷ 2 ∷ 3 ∷ 4 ∷ 5 ∷ []) (And (number (number_in (One a))) (And (number (number_in (One b))) (And (Items AMap (back_children (children_in cs))) (And (Bytes t) (And (number (number_in (One z))) NoValue)))))
    ≡ Record is (And (One a) (And (One b) (And (Items AMap cs) (And (Bytes t) (And (One z) NoValue)))))
entry_parts_with_base is a b z cs t ei ha hb hz e3 =
    let e1 = whole_atom I32 a ha in
    let e2 = whole_atom I16 b hb in
    let e4 = whole_atom I64 z hz in
    cc

entry_back : (v : Version) (u : Value) → Of (layout_kinds v) u → back_entry v (entry_in u) ≡ u
entry_back Version1 _ (record_of {ids = is} ei (part_of (one {x = a} ha) (part_of (one {x = b} hb) (part_of (items {vs = cs} few rise each) (part_of (bytes {bs = t} short are utf) no_part))))) =
    entry_parts is a b cs t ei ha hb (children_back cs each)
entry_back Version2 _ (record_of {ids = is} ei (part_of (one {x = a} ha) (part_of (one {x = b} hb) (part_of (items {vs = cs} few rise each) (part_of (bytes {bs = t} short are utf) (part_of (one {x = z} hz) no_part)))))) =
    entry_parts_with_base is a b z cs t ei ha hb hz (children_back cs each)

-- a row has a number, and what it says of a layout determines it
record Row (v : Version) (u : Value) : Type 0 where
  pub at : ℤ
  pub key : key_of u ≡ number at
  pub named : number_in (part u 0) ≡ at
  pub whole : u ≡ pair (number at) (back_entry v (entry_in (part u 1)))
  pub proper : Proper v (entry_in (part u 1))

-- the key of a pair of a number and something else
record Keyed (u : Value) : Type 0 where
  pub at : ℤ
  pub key : key_of u ≡ number at
  pub named : number_in (part u 0) ≡ at

keyed_child : (u : Value) → Of (keyed child_kinds) u → Keyed u
keyed_child _ (record_of ei (part_of (one {x = Truth b} ha) hs)) = absurd ha
keyed_child _ (record_of ei (part_of (one {x = Number z} ha) hs)) = record { at = z; key = refl; named = refl }

climbs : (us : Values) (k : Option ℤ) → OfEach (keyed child_kinds) us → Rises AMap (option_map number k) us → Climbs k (map (λ (c : Child). c.field) (children_in us))
climbs NoValue k h r = tt
climbs (And u us) None (more h hs) r =
    let q = keyed_child u h in
    subst (λ z. Climbs (Some z) (map (λ (c : Child). c.field) (children_in us))) (sym q.named)
    (climbs us (Some q.at) hs (subst (λ y. Rises AMap (Some y) us) q.key r.1))
climbs (And u us) (Some k) (more h hs) r =
    let q = keyed_child u h in
    let below : int_lt k q.at ≡ true = subst (λ y. key_less (number k) y ≡ true) q.key r.0 in
    subst (λ z. (int_lt k z ≡ true) × Climbs (Some z) (map (λ (c : Child). c.field) (children_in us))) (sym q.named)
    (below, climbs us (Some q.at) hs (subst (λ y. Rises AMap (Some y) us) q.key r.1))

entry_proper : (v : Version) (u : Value) → Of (layout_kinds v) u → Proper v (entry_in u)
entry_proper Version1 _ (record_of ei (part_of (one ha) (part_of (one hb) (part_of (items {vs = cs} few rise each) (part_of (bytes short are utf) no_part))))) =
    record { climbs = climbs cs None each rise; plain = λ e. refl }
entry_proper Version2 _ (record_of ei (part_of (one ha) (part_of (one hb) (part_of (items {vs = cs} few rise each) (part_of (bytes short are utf) (part_of (one hz) no_part)))))) =
    record { climbs = climbs cs None each rise; plain = λ e. absurd cc }

row : (v : Version) (u : Value) → Of (keyed (layout_kinds v)) u → Row v u
row v _ (record_of ei (part_of (one {x = Truth b} ha) hs)) = absurd ha
row v _ (record_of {ids = is} ei (part_of (one {x = Number z} ha) (part_of {v = y} h no_part))) =
    let e = entry_back v y h in
    record { at = z; key = refl; named = refl; whole = cc; proper = entry_proper v y h }

-- each Layout is proper
pub all_proper : (v : Version) (ls : Values) → OfEach (keyed (layout_kinds v)) ls → AllProper v ls
all_proper v NoValue h n x e = absurd cc
all_proper v (And u us) (more h hs) n x e = go (int_eq (number_in (part u 0)) (pos n)) (row v u h).proper (all_proper v us hs n x) e
  where
    go : (b : Bool) → Proper v (entry_in (part u 1)) → (entry_of us n ≡ Some x → Proper v x)
        → (if b then Some (entry_in (part u 1)) else entry_of us n) ≡ Some x → Proper v x
    go true here later q = let same : entry_in (part u 1) ≡ x = cc in subst (Proper v) same here
    go false here later q = later q

-- ---- rows of the numbers between

-- the keys rise from m at least, and are below top
abbrev pub Between : ℕ → ℕ → Values → Type 0
Between m top NoValue = Unit {0}
Between m top (And u us) = (j : ℕ) × (number_in (part u 0) ≡ pos j) × (m ≤ j) × (j < top) × Between (suc j) top us

none_below : (m top n : ℕ) (us : Values) → Between m top us → n < m → entry_of us n ≡ None
none_below m top n NoValue h lt = refl
none_below m top n (And u us) h lt =
    let t = int_other h.0 n (λ e. omega (arith, h.2)) in
    let k = h.1 in
    rw (k, t) (none_below (suc h.0) top n us h.4 (omega (arith, h.2)))

-- the entry under the key of a row, and under a greater number
here_is : (u : Value) (us : Values) (j : ℕ) → number_in (part u 0) ≡ pos j → entry_of (And u us) j ≡ Some (entry_in (part u 1))
here_is u us j k = let t = int_eq_refl (pos j) in rw (k, t) refl

later_is : (u : Value) (us : Values) (j n : ℕ) → number_in (part u 0) ≡ pos j → j < n → entry_of (And u us) n ≡ entry_of us n
later_is u us j n k lt = let t = int_other j n (λ e. omega (arith, lt, e)) in rw (k, t) refl

some_none : (x : Entry) (o : Option Entry) → o ≡ Some x → o ≡ None → ⊥
some_none x o e f = absurd cc

entry_is : (x y : Entry) → ◌≡◌ {A = Option Entry} (Some x) (Some y) → x ≡ y
entry_is x y e = cc

same_row : (v : Version) (u w : Value) (i : ℕ) → Row v u → Row v w → number_in (part u 0) ≡ pos i → number_in (part w 0) ≡ pos i
    → ◌≡◌ {A = Option Entry} (Some (entry_in (part u 1))) (Some (entry_in (part w 1))) → u ≡ w
same_row v u w i ru rw_ ku kw e =
    let keys : ru.at ≡ rw_.at = sym ru.named ∙ ku ∙ sym kw ∙ rw_.named in
    ru.whole ∙ ap (λ z. pair (number z) (back_entry v (entry_in (part u 1)))) keys
    ∙ ap (λ x. pair (number rw_.at) (back_entry v x)) (entry_is (entry_in (part u 1)) (entry_in (part w 1)) e) ∙ sym rw_.whole

-- rows that say the same are the same
pub same_rows : (v : Version) (m top : ℕ) (us ws : Values) → OfEach (keyed (layout_kinds v)) us → OfEach (keyed (layout_kinds v)) ws → Between m top us → Between m top ws
    → ((n : ℕ) → m ≤ n → n < top → entry_of us n ≡ entry_of ws n) → us ≡ ws
same_rows v m top NoValue NoValue hu hw bu bw agree = refl
same_rows v m top NoValue (And w ws) hu hw bu bw agree =
    absurd (some_none (entry_in (part w 1)) None (agree bw.0 bw.2 bw.3 ∙ here_is w ws bw.0 bw.1) refl)
same_rows v m top (And u us) NoValue hu hw bu bw agree =
    absurd (some_none (entry_in (part u 1)) None (sym (agree bu.0 bu.2 bu.3) ∙ here_is u us bu.0 bu.1) refl)
same_rows v m top (And u us) (And w ws) (more hu hus) (more hw hws) bu bw agree =
    let i = bu.0 in
    let j = bw.0 in
    elim (cases_order i j) [
      | inl e ↦
          let bws : Between (suc i) top ws = subst (λ r. Between (suc r) top ws) (sym e) bw.4 in
          let kw : number_in (part w 0) ≡ pos i = bw.1 ∙ ap pos (sym e) in
          let entry : Some (entry_in (part u 1)) ≡ Some (entry_in (part w 1)) = sym (here_is u us i bu.1) ∙ agree i bu.2 bu.3 ∙ here_is w ws i kw in
          let rest = same_rows v (suc i) top us ws hus hws bu.4 bws (λ n a b. sym (later_is u us i n bu.1 a) ∙ agree n (omega (arith, a, bu.2)) b ∙ later_is w ws i n kw a) in
          let same = same_row v u w i (row v u hu) (row v w hw) bu.1 kw entry in
          cc
      | inr (inl lt) ↦
          let less : Between j top (And w ws) = (j, bw.1, omega arith, bw.3, bw.4) in
          absurd (some_none (entry_in (part u 1)) (entry_of (And w ws) i) (sym (agree i bu.2 bu.3) ∙ here_is u us i bu.1) (none_below j top i (And w ws) less lt))
      | inr (inr lt) ↦
          let less : Between i top (And u us) = (i, bu.1, omega arith, bu.3, bu.4) in
          absurd (some_none (entry_in (part w 1)) (entry_of (And u us) j) (agree j bw.2 bw.3 ∙ here_is w ws j bw.1) (none_below i top j (And u us) less lt))
    ]

-- ---- keys

-- above the number before, where there is one
abbrev above_all : Option ℤ → ℤ → Type 0
above_all None z = Unit {0}
above_all (Some k) z = int_lt k z ≡ true

less_is : (a b : ℕ) → int_lt (pos a) (pos b) ≡ true → suc a ≤ b
less_is a b h = grind (arith, ints)

walked_all : (b : Bool) (o : Option ℤ) (z : ℤ) → (if b then o else Some z) ≡ None → (b ≡ true) × (o ≡ None)
walked_all true o z e = (refl, e)
walked_all false o z e = absurd cc

walked_in : (top : ℕ) (z : ℤ) → is_walked top z ≡ true → (i : ℕ) × (z ≡ pos i) × (i < top)
walked_in top (pos n) h = (n, refl, ltb-true n top h)
walked_in top (negsuc n) h = absurd cc

rises_at : (us : Values) (before : Option ℤ) (u : Value) (z : ℤ) → key_of u ≡ number z → Rises AMap (option_map number before) (And u us) → above_all before z × Rises AMap (Some (number z)) us
rises_at us None u z k r = (tt, subst (λ y. Rises AMap (Some y) us) k r.1)
rises_at us (Some b) u z k r = (subst (λ y. key_less (number b) y ≡ true) k r.0, subst (λ y. Rises AMap (Some y) us) k r.1)

row_between : (us : Values) (v : Version) (top : ℕ) (before : Option ℤ) (m : ℕ) → OfEach (keyed (layout_kinds v)) us → Rises AMap (option_map number before) us
    → ((i : ℕ) → above_all before (pos i) → m ≤ i) → unwalked us top ≡ None → Between m top us
row_between NoValue v top before m h r low e = tt
row_between (And u us) v top before m (more h hs) r low e =
    let q = row v u h in
    let walked = walked_all (is_walked top (number_in (part u 0))) (unwalked us top) (number_in (part u 0)) e in
    let inside = walked_in top q.at (subst (λ z. is_walked top z ≡ true) q.named walked.0) in
    let rises : above_all before q.at × Rises AMap (Some (number q.at)) us = rises_at us before u q.at q.key r in (
      inside.0,
      q.named ∙ inside.1,
      low inside.0 (subst (above_all before) inside.1 rises.0),
      inside.2,
      row_between us v top (Some q.at) (suc inside.0) hs rises.1 (λ i a. less_is inside.0 i (subst (λ z. int_lt z (pos i) ≡ true) inside.1 a)) walked.1,
    )

-- the keys of rows that rise, none of which is above those that were walked
pub rows_between : (v : Version) (us : Values) (top : ℕ) → OfEach (keyed (layout_kinds v)) us → Rises AMap None us → unwalked us top ≡ None → Between 0 top us
rows_between v us top h r e = row_between us v top None 0 h r (λ i a. omega arith) e

-- ---- rows that are written

pub layouts_between : (v : Version) (n top : ℕ) (xs : List NodeSpec) → n + length xs ≤ top → Between n top (layouts_of v n xs)
layouts_between v n top [] le = tt
layouts_between v n top (x ∷ xs) le = (n, refl, omega arith, omega (arith, le), layouts_between v (suc n) top xs (omega (arith, le)))

pub layouts_walked : (v : Version) (n top : ℕ) (xs : List NodeSpec) → n + length xs ≤ top → unwalked (layouts_of v n xs) top ≡ None
layouts_walked v n top [] le = refl
layouts_walked v n top (x ∷ xs) le = let t = lt-ltb n top (omega (arith, le)) in rw t (layouts_walked v (suc n) top xs (omega (arith, le)))

-- ---- what says one layout says the same

at_number : (us ws : Values) (m n : ℕ) → entry_of us m ≡ entry_of ws m → m ≡ n → entry_of us n ≡ entry_of ws n
at_number us ws m n e en = subst (λ r. entry_of us r ≡ entry_of ws r) en e

first : (us ws : Values) (l : Layout) (sk : Kind) (n m : ℕ) → Has us l sk n → Has ws l sk n → n ≡ m → entry_of us m ≡ entry_of ws m
first us ws (Leaf k c) sk n m hu hw e = at_number us ws n m (hu ∙ sym hw) e
first us ws (ByteRange t d c) sk n m hu hw e = at_number us ws n m (hu.0 ∙ sym hw.0) e
first us ws (ItemRange h d c l) sk n m hu hw e = at_number us ws n m (hu.0 ∙ sym hw.0) e
first us ws (Optional w l) sk n m hu hw e = at_number us ws n m (hu.0 ∙ sym hw.0) e
first us ws (Struct fs) sk n m hu hw e = at_number us ws n m (hu.0 ∙ sym hw.0) e

mutual
  agree : (us ws : Values) (l : Layout) (sk : Kind) (n k : ℕ) → Has us l sk n → Has ws l sk n → k < nodes (noted_from l) → entry_of us (n + k) ≡ entry_of ws (n + k)
  agree us ws l sk n zero hu hw lt = first us ws l sk n (n + 0) hu hw (omega arith)
  agree us ws (Leaf j c) sk n (suc k) hu hw lt = absurd (omega (arith, lt))
  agree us ws (ByteRange t d c) sk n (suc zero) hu hw lt = at_number us ws (suc n) (n + 1) (hu.1 ∙ sym hw.1) (omega arith)
  agree us ws (ByteRange t d c) sk n (suc (suc zero)) hu hw lt = at_number us ws (suc (suc n)) (n + 2) (hu.2 ∙ sym hw.2) (omega arith)
  agree us ws (ByteRange t d c) sk n (suc (suc (suc k))) hu hw lt = absurd (omega (arith, lt))
  agree us ws (ItemRange h d c l) sk n (suc zero) hu hw lt = at_number us ws (suc n) (n + 1) (hu.1 ∙ sym hw.1) (omega arith)
  agree us ws (ItemRange h d c l) sk n (suc (suc zero)) hu hw lt = at_number us ws (suc (suc n)) (n + 2) (hu.2 ∙ sym hw.2) (omega arith)
  agree us ws (ItemRange h d c l) sk n (suc (suc (suc k))) hu hw lt =
      at_number us ws (suc (suc (suc n)) + k) (n + suc (suc (suc k))) (agree us ws l (item_struct h) (suc (suc (suc n))) k hu.3 hw.3 (omega (arith, lt))) (omega arith)
  agree us ws (Optional w l) sk n (suc zero) hu hw lt = at_number us ws (suc n) (n + 1) (hu.1 ∙ sym hw.1) (omega arith)
  agree us ws (Optional w l) sk n (suc (suc k)) hu hw lt =
      at_number us ws (suc (suc n) + k) (n + suc (suc k)) (agree us ws l kinds.Struct (suc (suc n)) k hu.2 hw.2 (omega (arith, lt))) (omega arith)
  agree us ws (Struct fs) sk n (suc k) hu hw lt = at_number us ws (suc n + k) (n + suc k) (agree_all us ws fs (suc n) k hu.1 hw.1 (omega (arith, lt))) (omega arith)

  agree_all : (us ws : Values) (fs : Layouts) (n k : ℕ) → HasAll us fs n → HasAll ws fs n → k < nodes_all (all_noted_from fs) → entry_of us (n + k) ≡ entry_of ws (n + k)
  agree_all us ws NoField n k hu hw lt = absurd (omega (arith, lt))
  agree_all us ws (Field id l fs) n k hu hw lt =
      elim (cases_lt k (nodes (noted_from l))) [
        | inl h ↦ agree us ws l kinds.Struct n k hu.0 hw.0 h
        | inr h ↦ at_number us ws (n + nodes (noted_from l) + (k - nodes (noted_from l))) (n + k)
            (agree_all us ws fs (n + nodes (noted_from l)) (k - nodes (noted_from l)) hu.1 hw.1 (omega (arith, lt, h))) (omega (arith, h))
      ]

-- two that say a layout agree on its nodes
pub agree_in : (us ws : Values) (l : Layout) → Has us l kinds.Struct 0 → Has ws l kinds.Struct 0 → (n : ℕ) → 0 ≤ n → n < nodes (noted_from l) → entry_of us n ≡ entry_of ws n
agree_in us ws l hu hw n low lt = at_number us ws (0 + n) n (agree us ws l kinds.Struct 0 n hu hw lt) (omega arith)

-- Fields by their ids, and their offsets in the list of nodes.
use Rattle.std.proofs.Common.{◌≡◌, ℕ, zero, suc, ◌+◌, ◌-◌, ◌≤◌, ◌<◌, ◌∷◌, [], ◌++◌, List, length, arith, refl}
use Rattle.std.proofs.Common.{ap, sym, ◌∙◌, subst, nat_eq, if◌then◌else◌, Bool, true, false, Some}
use Rattle.std.proofs.Common.{None, ℤ, pos, negsuc, w16, get_or, map, slice_get, append_assoc, ◌⊎◌, inl, inr}
use Rattle.std.specs.Prelude.{IsSome, FitsSigned}
use Rattle.std.specs.Ordering.{int_eq}
use Rattle.std.proofs.lemmas.Int.{ints}
use Rattle.std.proofs.lemmas.Bool.{ne_eqb}
use Rattle.std.proofs.lemmas.Bool.Decides.{nat_tests}
use Rattle.std.proofs.lemmas.List.{get_or-append_right}
use Rattle.frozen_model.specs.Bits.{field}
use Rattle.frozen_model.specs.Trees.{Leaf, ByteRange, ItemRange, Optional, Struct, NoField, Field, nodes}
use Rattle.frozen_model.specs.Trees.{ids_of, Rising, Part}
use Rattle.frozen_model.specs.Values.{Value, Values, One, Bytes, Items, Absent, Present, Record, nth}
use Rattle.frozen_model.specs.Layouts.{Version, Layout, Layouts, stride}
use Rattle.layout_tree.specs.declared.node.NodeSpec.{NodeSpec}
use Rattle.layout_tree.specs.declared.node.Kind.TheVariants as kinds
use Rattle.layout_tree.specs.Listing.{Noted, AllNoted, layout_in, layouts_in, inline, nodes_of, nodes_of_all}
use Rattle.layout_tree.specs.Listing.{tree_of, IsListing, sub, all_nodes}
use Rattle.layout_tree.specs.Given.{shown, shown_nodes}
use Rattle.layout_tree.specs.Reading.{field_node}
use Rattle.layout_tree.proofs.Readings.{same_nodes, stride_inline}
use Rattle.layout_tree.proofs.Place.{At, at_part, length_nodes}
use Rattle.layout_tree.proofs.Kin.{int_other, int_same}
use Rattle.typed_tree.specs.Parts.{IsRecord, find_field, field_of, fields_of}
use Rattle.typed_tree.specs.Fields.{id_number}
use Rattle.bit_view.specs.InPlace.{read_value, read_fields}
use Rattle.bit_view.specs.Branches.{fields_in, layout_nth, field_tree, node_nth}
use Rattle.bit_view.proofs.Fields.{bit_nth}

-- ---- ids

-- the place of the field with an id
pub record Found (ls : Layouts) (vs : Values) (i : ℕ) (id : ℤ) (k : ℕ) : Type 0 where
  pub place : ℕ
  pub inside : place < length (ids_of ls)
  pub node : field_node ls i id ≡ Some (node_nth ls i place)
  pub value : find_field (ids_of ls) vs k ≡ Some (nth vs place)
  pub tree : field_tree ls k ≡ Some (layout_nth ls place)

-- no field has the id
pub record Missed (ls : Layouts) (vs : Values) (i : ℕ) (id : ℤ) (k : ℕ) : Type 0 where
  pub node : field_node ls i id ≡ None
  pub value : find_field (ids_of ls) vs k ≡ None
  pub tree : field_tree ls k ≡ None

abbrev pub Sought : Layouts → Values → ℕ → ℤ → ℕ → Type 0
Sought ls vs i id k = Found ls vs i id k ⊎ Missed ls vs i id k

module _ (bs : List ℕ) (f : ℕ) (l : Layout) (ls : Layouts) (block bit i : ℕ) (id : ℤ) (k : ℕ) (e : id ≡ pos k)
  where
    abbrev others : Values
    others = read_fields bs ls block (bit + stride l)

    first_found : nat_eq f k ≡ true → Found (Field f l ls) (read_fields bs (Field f l ls) block bit) i id k
    first_found t =
        let same : f ≡ k = grind (arith, nat_tests) in
        let here : int_eq (pos f) id ≡ true = int_same (pos f) id (ap pos same ∙ sym e) in
        record {
          place = 0;
          inside = omega arith;
          node = ap (λ b. if b then Some i else field_node ls (i + nodes l) id) here;
          value = ap (λ b. if b then Some (read_value bs l block bit) else find_field (ids_of ls) others k) t;
          tree = ap (λ b. if b then Some l else field_tree ls k) t;
        }

    passed_over : nat_eq f k ≡ false → int_eq (pos f) id ≡ false
    passed_over t =
        let other : f ≡ k → ⊥ = λ s. grind (arith, nat_tests) in
        int_other (pos f) id (λ s. other (let z : pos f ≡ pos k = s ∙ e in cc))

    later_found : nat_eq f k ≡ false → Found ls others (i + nodes l) id k
        → Found (Field f l ls) (read_fields bs (Field f l ls) block bit) i id k
    later_found t r = record {
      place = suc r.place;
      inside = omega (arith, r.inside);
      node = ap (λ b. if b then Some i else field_node ls (i + nodes l) id) (passed_over t) ∙ r.node;
      value = ap (λ b. if b then Some (read_value bs l block bit) else find_field (ids_of ls) others k) t
          ∙ r.value;
      tree = ap (λ b. if b then Some l else field_tree ls k) t ∙ r.tree;
    }

    all_missed : nat_eq f k ≡ false → Missed ls others (i + nodes l) id k
        → Missed (Field f l ls) (read_fields bs (Field f l ls) block bit) i id k
    all_missed t r = record {
      node = ap (λ b. if b then Some i else field_node ls (i + nodes l) id) (passed_over t) ∙ r.node;
      value = ap (λ b. if b then Some (read_value bs l block bit) else find_field (ids_of ls) others k) t
          ∙ r.value;
      tree = ap (λ b. if b then Some l else field_tree ls k) t ∙ r.tree;
    }

    first_or_later : Sought ls others (i + nodes l) id k → (b : Bool) → nat_eq f k ≡ b
        → Sought (Field f l ls) (read_fields bs (Field f l ls) block bit) i id k
    first_or_later later true t = inl (first_found t)
    first_or_later (inl r) false t = inl (later_found t r)
    first_or_later (inr r) false t = inr (all_missed t r)

look : (bs : List ℕ) (ls : Layouts) (block bit i : ℕ) (id : ℤ) (k : ℕ) → id ≡ pos k
    → Sought ls (read_fields bs ls block bit) i id k
look bs NoField block bit i id k e = inr (record { node = refl; value = refl; tree = refl })
look bs (Field f l ls) block bit i id k e =
    first_or_later bs f l ls block bit i id k e (look bs ls block (bit + stride l) (i + nodes l) id k e)
    (nat_eq f k) refl

-- no field has an id below 0
no_field : (bs : List ℕ) (ls : Layouts) (block bit i n k b : ℕ) → Rising b (ids_of ls) → 32767 < k
    → Missed ls (read_fields bs ls block bit) i (negsuc n) k
no_field bs NoField block bit i n k b r h = record { node = refl; value = refl; tree = refl }
no_field bs (Field f l ls) block bit i n k b r h =
    let rest = no_field bs ls block (bit + stride l) (i + nodes l) n k f r.2 h in
    let other : int_eq (pos f) (negsuc n) ≡ false = int_other (pos f) (negsuc n) (λ e. cc) in
    let far : nat_eq f k ≡ false = ne_eqb f k (λ e. absurd (omega (arith, r.1, h, e))) in
    record {
      node = ap (λ b. if b then Some i else field_node ls (i + nodes l) (negsuc n)) other ∙ rest.node;
      value = ap (λ b. if b then Some (read_value bs l block bit) else find_field (ids_of ls)
          (read_fields bs ls block (bit + stride l)) k) far ∙ rest.value;
      tree = ap (λ b. if b then Some l else field_tree ls k) far ∙ rest.tree;
    }

pub id_from_0 : (n : ℕ) → FitsSigned w16 (pos n) → id_number (pos n) ≡ n
id_from_0 n f = grind (arith, ints)

id_below_0 : (n : ℕ) → FitsSigned w16 (negsuc n) → 32767 < id_number (negsuc n)
id_below_0 n f = grind (arith, ints)

pub sought : (bs : List ℕ) (ls : Layouts) (block bit i : ℕ) (id : ℤ) → FitsSigned w16 id
    → Rising 0 (ids_of ls)
    → Sought ls (read_fields bs ls block bit) i id (id_number id)
sought bs ls block bit i (pos n) f r =
    look bs ls block bit i (pos n) (id_number (pos n)) (ap pos (sym (id_from_0 n f)))
sought bs ls block bit i (negsuc n) f r =
    inr (no_field bs ls block bit i n (id_number (negsuc n)) 0 r (id_below_0 n f))

pub some_found : {ls : Layouts} {vs : Values} {i k : ℕ} {id : ℤ} → Sought ls vs i id k → (n : ℕ)
    → field_node ls i id ≡ Some n → Found ls vs i id k
some_found (inl f) n e = f
some_found (inr m) n e = let no = m.node in absurd cc

pub none_found : {ls : Layouts} {vs : Values} {i k : ℕ} {id : ℤ} → Sought ls vs i id k
    → field_node ls i id ≡ None → Missed ls vs i id k
none_found (inr m) e = m
none_found (inl f) e = let some = f.node in absurd cc

-- ---- structs

no_record : (b : Bool) (x : Value) → IsRecord (if b then Present x else Absent) → ⊥
no_record true x h = h
no_record false x h = h

pub record RecordTold (m : Layout) (bs : List ℕ) (block bit : ℕ) : Type 0 where
  pub is : m ≡ Struct (fields_in m)
  pub same : (id : ℤ) → field_of (read_value bs m block bit) id
      ≡ find_field (ids_of (fields_in m)) (read_fields bs (fields_in m) block bit) (id_number id)
  pub values : fields_of (read_value bs m block bit) ≡ read_fields bs (fields_in m) block bit

pub record_told : (m : Layout) (bs : List ℕ) (block bit : ℕ) → IsRecord (read_value bs m block bit)
    → RecordTold m bs block bit
record_told (Struct ls) bs block bit h = record { is = refl; same = λ id. refl; values = refl }
record_told (Leaf k c) bs block bit h = absurd h
record_told (ByteRange t d c) bs block bit h = absurd h
record_told (ItemRange g d c l) bs block bit h = absurd h
record_told (Optional w l) bs block bit h =
    absurd (no_record (nat_eq (field bs bit w) 1) (read_value bs l block (bit + w)) h)

-- only a struct has fields
pub with_field : (v : Value) (id : ℤ) → IsSome (field_of v id) → IsRecord v
with_field (Record ids vs) id h = tt
with_field (One x) id h = absurd cc
with_field (Bytes bs) id h = absurd cc
with_field (Items g vs) id h = absurd cc
with_field Absent id h = absurd cc
with_field (Present v) id h = absurd cc

-- ---- offsets

-- the nodes before the field at a place
abbrev pub skipped : Layouts → ℕ → ℕ
skipped NoField j = 0
skipped (Field f l ls) zero = 0
skipped (Field f l ls) (suc j) = nodes l + skipped ls j

pub skips : (ls : Layouts) (i j : ℕ) → node_nth ls i j ≡ i + skipped ls j
skips NoField i j = omega arith
skips (Field f l ls) i zero = omega arith
skips (Field f l ls) i (suc j) = skips ls (i + nodes l) j
    ∙ (let e : i + nodes l + skipped ls j ≡ i + (nodes l + skipped ls j) = omega arith in e)

pub bits_before : (ls : Layouts) (b j : ℕ) → bit_nth ls b j ≡ b + bit_nth ls 0 j
bits_before NoField b j = omega arith
bits_before (Field f l ls) b zero = omega arith
bits_before (Field f l ls) b (suc j) = omega (
  arith,
  bits_before ls (b + stride l) j,
  bits_before ls
      (0 + stride l) j,
)

first_offset : (l : Noted) (i p f o : ℕ) (more : List NodeSpec) (x : NodeSpec)
    → (get_or (nodes_of l kinds.Struct i p f o ++ more) 0 x).offset ≡ o
first_offset (Leaf k c) i p f o more x = refl
first_offset (ByteRange t d c) i p f o more x = refl
first_offset (ItemRange g d c l) i p f o more x = refl
first_offset (Optional w l) i p f o more x = refl
first_offset (Struct ls) i p f o more x = refl

offset_nth : (v : Version) (fs : AllNoted) (i p o j : ℕ) (post : List NodeSpec) (x : NodeSpec)
    → j < length (ids_of (layouts_in v fs))
    → (get_or (nodes_of_all fs i p o ++ post) (skipped (layouts_in v fs) j) x).offset ≡ bit_nth
    (layouts_in v fs) o j
offset_nth v NoField i p o j post x h = absurd (omega arith)
offset_nth v (Field f l fs) i p o zero post x h =
    let mine = nodes_of l kinds.Struct i p f o in
    let more = nodes_of_all fs (i + nodes l) p (o + inline l) in
    ap (λ (r : List NodeSpec). (get_or r 0 x).offset) (append_assoc mine more post)
    ∙ first_offset l i p f o (more ++ post) x
offset_nth v (Field f l fs) i p o (suc j) post x h =
    let mine = nodes_of l kinds.Struct i p f o in
    let more = nodes_of_all fs (i + nodes l) p (o + inline l) in
    let ls = layouts_in v fs in
    let k = nodes (layout_in v l) + skipped ls j in
    let long : length mine ≡ nodes l = length_nodes l kinds.Struct i p f o in
    let same = same_nodes v l in
    let le : nodes l ≤ k = omega (arith, same) in
    let rest : k - nodes l ≡ skipped ls j = omega (arith, same) in
    ap (λ (r : List NodeSpec). (get_or r k x).offset) (append_assoc mine more post)
    ∙ ap (λ (y : NodeSpec). y.offset) (get_or-append_right mine (more ++ post) (nodes l) k x long le)
    ∙ ap (λ n. (get_or (more ++ post) n x).offset) rest
    ∙ offset_nth v fs (i + nodes l) p (o + inline l) j post x (omega arith)
    ∙ ap (λ n. bit_nth ls (o + n) j) (sym (stride_inline v l))

struct_offset : (v : Version) (ns : List NodeSpec) (n j : ℕ) (x : NodeSpec) (ls : Layouts) (s : Noted)
    → At ns s n
    → layout_in v s ≡ Struct ls → j < length (ids_of ls)
    → (get_or ns (node_nth ls (suc n) j) x).offset ≡ bit_nth ls 0 j
struct_offset v ns n j x ls (Struct fs) a e h =
    let same : layouts_in v fs ≡ ls = cc in
    let lt = subst (λ y. j < length (ids_of y)) (sym same) h in
    let at : node_nth ls (suc n) j ≡ n + suc (skipped ls j) = skips ls (suc n) j
    ∙ (let z : suc n + skipped ls j ≡ n + suc (skipped ls j) = omega arith in z) in
    ap (λ k. (get_or ns k x).offset) at
    ∙ ap (λ (y : NodeSpec). y.offset) (a.read (suc (skipped ls j)) x)
    ∙ ap (λ y. (get_or (nodes_of_all fs (suc n) n 0 ++ a.post) (skipped y j) x).offset) (sym same)
    ∙ offset_nth v fs (suc n) n 0 j a.post x lt
    ∙ ap (λ y. bit_nth y 0 j) same
struct_offset v ns n j x ls (Leaf k c) a e h = absurd cc
struct_offset v ns n j x ls (ByteRange k d c) a e h = absurd cc
struct_offset v ns n j x ls (ItemRange g d c l) a e h = absurd cc
struct_offset v ns n j x ls (Optional w l) a e h = absurd cc

got_shown : (xs : List NodeSpec) (n : ℕ) (z d : NodeSpec) → slice_get (map shown xs) n ≡ Some z
    → z.offset ≡ (get_or xs n d).offset
got_shown [] n z d e = absurd cc
got_shown (x ∷ xs) zero z d e = let same : shown x ≡ z = cc in ap (λ (y : NodeSpec). y.offset) (sym same)
got_shown (x ∷ xs) (suc n) z d e = got_shown xs n z d e

-- the offset of a field of a struct
pub offset_is : (v : Version) (ns : List NodeSpec) (n j : ℕ) (z : NodeSpec) (ls : Layouts) → IsListing ns
    → Part (tree_of ns) 0 (sub (tree_of ns) n) n → layout_in v (sub (tree_of ns) n) ≡ Struct ls
    → j < length (ids_of ls) → slice_get (shown_nodes (tree_of ns)) (node_nth ls (suc n) j) ≡ Some z
    → z.offset ≡ bit_nth ls 0 j
offset_is v ns n j z ls li p e lt got =
    got_shown (all_nodes (tree_of ns)) (node_nth ls (suc n) j) z z got
    ∙ ap (λ (r : List NodeSpec). (get_or r (node_nth ls (suc n) j) z).offset) (sym li)
    ∙ struct_offset v ns n j z ls (sub (tree_of ns) n) (at_part ns (sub (tree_of ns) n) n li p) e lt

-- The layouts of a schema's map, found one after the other, and what they are in the order of their numbers.
use Rattle.std.proofs.Common.{◌≡◌, ◌≢◌, ℕ, suc, ◌+◌, ◌-◌, ◌^◌, ◌<◌, ◌≤◌, List, [], ◌∷◌, ◌++◌, length, map, take, Result, Ok, Err, refl, sym, ap, subst, ◌∙◌, arith, append_assoc, append-nil}
use Rattle.std.specs.Prelude.{ℤ, int_lt, IfOk}
use Rattle.std.specs.List.{AllByRecursion}
use Rattle.std.proofs.lemmas.List.{take_at, map-append, length-append}
use Rattle.std.proofs.lemmas.List.Elements.{All-from_recursion, recursion_from_All}
use Rattle.std.proofs.lemmas.List.Sorted.{All-permutation}
use Rattle.base_lists.specs.InOrder.{in_order}
use Rattle.base_lists.proofs.Insertion.{in_order_moves}
use Rattle.exact_reading.specs.declared.stop.Stop.{Stop}
use Rattle.exact_reading.specs.Reading.{◌>>=◌, one, seen}
use Rattle.frozen_model.specs.Trees.{AMap}
use Rattle.frozen_model.specs.Values.{Value, One, Number, Items}
use Rattle.frozen_model.specs.Layouts.{Version}
use Rattle.compact_wire.specs.declared.header.PairKinds.{PairKinds}
use Rattle.compact_wire.specs.declared.kind.Kind.{Kind}
use Rattle.compact_wire.specs.declared.kind.Kind.TheVariants as k
use Rattle.compact_wire.specs.Bytes.{AreBytes}
use Rattle.compact_wire.specs.Codes.{code_of}
use Rattle.compact_wire.specs.Node.{Node, i16, map as map_node, Pairs, pair}
use Rattle.compact_wire.specs.Reads.{value, scalar, signed, number, most_bytes, mapping, map_header, pairs}
use Rattle.compact_wire.specs.Spells.{SpellsWire}
use Rattle.compact_wire.proofs.ReadSteps.{value-step, value-scalar, mapping-none, mapping-pairs}
use Rattle.wire_scan.specs.Sizes.{size}
use Rattle.wire_scan.proofs.Seen.{seen_ok}
use Rattle.idl_profile.specs.Types as types
use Rattle.idl_profile.specs.Types.{TypeTree, scalar as scalar_type}
use Rattle.key_order.specs.InOrder.{row, in_order as values_in_order}
use Rattle.typed_tree.specs.Spots.{pair as pair_of}
use Rattle.typed_reading.specs.Answers.{IsValue}
use Rattle.typed_reading.specs.Meaning.{meaning}
use Rattle.compact_codec.specs.Building.{IsClean, ArePairsClean}
use Rattle.compact_codec.proofs.Clean.{clean_ok, key_first, value_second, others_of_pairs}
use Rattle.compact_codec.proofs.Rows.{size_not, kinds_not, map_clean}
use Rattle.layout_schema.specs.declared.table.LayoutBytes.{LayoutBytes}
use Rattle.layout_schema.specs.Schemas.{layout_type}
use Rattle.layout_schema.specs.Standing.{layouts_type, meant, meant_pairs, spelled_as}
use Rattle.layout_schema.specs.Table.{layout_value, number_of, IsWhole, AreOf}
use Rattle.layout_schema.proofs.Deeper.{struct_cut, wire_read, bytes_behind}
use Rattle.layout_schema.proofs.FieldSteps.{kind_code}
use Rattle.layout_schema.proofs.Moved.{moved}
use Rattle.layout_schema.proofs.Turned.{made_in_order}

abbrev pub Layouts : Version → ℕ → List ℕ → Result (Pairs × List ℕ) Stop
Layouts v n b = pairs (value 62 k.I16) (value 62 k.Struct) n b

abbrev pub AreLeft : Version → ℕ → List ℕ → Type 0
AreLeft v n b = ArePairsClean (scalar_type types.i16) (layout_type v) (Layouts v n b)

-- what more is known of a result
pub ok_also : {X E : Type 0} (r : Result X E) (P Q : X → Type 0) → IfOk r P → ((x : X) → P x → Q x) → IfOk r Q
ok_also (Ok x) P Q h f = f x h
ok_also (Err e) P Q h f = tt

-- ---- one layout

pub read_number : (b rest : List ℕ) (z : ℤ) → signed 2 (2 ^ 16 - 1) b ≡ Ok (z, rest) → value 62 k.I16 b ≡ Ok (i16 z, rest)
unfolding scalar
read_number b rest z e = ap (λ f. f b) (value-scalar 62 k.I16 refl) ∙ rw e refl

cut_front : (t rest b : List ℕ) → b ≡ t ++ rest → take (length b - length rest) b ≡ t
cut_front t rest b e =
    let n : length b - length rest ≡ length t = omega (arith, ap length e, length-append t rest) in
    ap (λ m. take m b) n ∙ ap (take (length t)) e ∙ take_at t rest (length t) refl

-- a layout is found behind its number, and others behind it
module _ (v : Version) (n : ℕ) (b mid after : List ℕ) (z : ℤ) (m : ℕ) (are : AreBytes mid) (clean : AreLeft v (suc n) b)
    (e : signed 2 (2 ^ 16 - 1) b ≡ Ok (z, mid)) (f : seen (λ (w : Node). 0 + size w) (value 62 k.Struct mid) ≡ Ok (m, after)) where
  abbrev pub lt : TypeTree
  lt = layout_type v

  pub its : (w : Node) × (value 62 k.Struct mid ≡ Ok (w, after)) × (0 + size w ≡ m)
  its = seen_ok (λ (w : Node). 0 + size w) (value 62 k.Struct mid) m after f

  pub left_behind : AreLeft v n after
  left_behind = others_of_pairs (scalar_type types.i16) lt (value 62 k.I16) (value 62 k.Struct) n b mid after (i16 z) its.0 clean (read_number b mid z e) its.1

  pairs_on : (q : Result (Pairs × List ℕ) Stop) → Layouts v n after ≡ q → ArePairsClean (scalar_type types.i16) lt q
      → meant_pairs lt (q >>= λ p. Ok (pair (i16 z) its.0 p.0, p.1)) ≡ pair_of (One (Number z)) (meaning its.0 lt) ∷ meant_pairs lt q
  pairs_on (Ok p) same h = refl
  pairs_on (Err d) same h = absurd h

  -- what is still to come begins with it
  pub comes_next : meant_pairs lt (Layouts v (suc n) b) ≡ pair_of (One (Number z)) (meaning its.0 lt) ∷ meant_pairs lt (Layouts v n after)
  unfolding pairs
  comes_next = rw (read_number b mid z e, its.1) (pairs_on (Layouts v n after) refl left_behind)

  module _ (x : LayoutBytes) (numbered : x.number ≡ z) (cut : x.bytes.now ≡ take (length mid - length after) mid) where
    text : (t : List ℕ) × SpellsWire its.0 t × (mid ≡ t ++ after)
    text = struct_cut mid its.0 after are its.1

    bytes_are : x.bytes.now ≡ text.0
    bytes_are = cut ∙ cut_front text.0 after mid text.2

    pub value_is : layout_value lt x ≡ pair_of (One (Number z)) (meaning its.0 lt)
    value_is =
        ap (λ y. pair_of (One (Number y)) (spelled_as lt x.bytes.now)) numbered
        ∙ ap (λ c. pair_of (One (Number z)) (spelled_as lt c)) bytes_are
        ∙ ap (λ r. pair_of (One (Number z)) (meant lt r)) (wire_read text.0 its.0 text.1)

    pub is_whole : IsWhole lt x
    is_whole =
        let c = value_second (scalar_type types.i16) lt (value 62 k.I16) (value 62 k.Struct) n b mid (i16 z) clean (read_number b mid z e) in
        let g : IsClean lt (Ok (its.0, after)) = subst (IsClean lt) its.1 c in
        subst (λ (c : List ℕ). (w : Node) × IsValue lt c w) (sym bytes_are) (its.0, record { spelled = text.1; clean = moved its.0 lt g.0 0 g.1 })

-- ---- from layout to layout

-- the layouts so far and those to come are all
pub record Going (v : Version) (b : List ℕ) (count i : ℕ) (rest : List ℕ) (old new : List LayoutBytes) : Type 0 where
  pub left : AreLeft v (count - i) rest
  pub bytes_left : AreBytes rest
  pub all : map (layout_value (layout_type v)) new ++ meant_pairs (layout_type v) (Layouts v (count - i) rest)
      ≡ map (layout_value (layout_type v)) old ++ meant_pairs (layout_type v) (Layouts v count b)
  pub whole : AllByRecursion (IsWhole (layout_type v)) old → AllByRecursion (IsWhole (layout_type v)) new

pub going_begin : (v : Version) (b : List ℕ) (count : ℕ) (xs : List LayoutBytes) → AreBytes b → AreLeft v count b → Going v b count 0 b xs xs
going_begin v b count xs are left =
    let all : count ≡ count - 0 = omega arith in
    record {
      left = subst (λ n. AreLeft v n b) all left;
      bytes_left = are;
      all = ap (λ n. map (layout_value (layout_type v)) xs ++ meant_pairs (layout_type v) (Layouts v n b)) (sym all);
      whole = λ h. h;
    }

all_one_more : (P : LayoutBytes → Type 0) (xs : List LayoutBytes) (x : LayoutBytes) → AllByRecursion P xs → P x → AllByRecursion P (xs ++ x ∷ [])
all_one_more P [] x h p = (p, tt)
all_one_more P (y ∷ ys) x h p = (h.0, all_one_more P ys x h.1 p)

module _ (v : Version) (b : List ℕ) (count i : ℕ) (rest : List ℕ) (old new : List LayoutBytes) (g : Going v b count i rest old new) (less : i < count) where
  still : count - i ≡ suc (count - (i + 1))
  still = omega (arith, less)

  clean : AreLeft v (suc (count - (i + 1))) rest
  clean = subst (λ n. AreLeft v n rest) still g.left

  pub number_not : (d : Stop) → signed 2 (2 ^ 16 - 1) rest ≡ Err d → ⊥
  unfolding scalar
  number_not d e =
      let c = key_first (scalar_type types.i16) (layout_type v) (value 62 k.I16) (value 62 k.Struct) (count - (i + 1)) rest clean in
      let q : value 62 k.I16 rest ≡ Err d = ap (λ f. f rest) (value-scalar 62 k.I16 refl) ∙ rw e refl in
      subst (IsClean (scalar_type types.i16)) q c

  module _ (z : ℤ) (mid : List ℕ) (e : signed 2 (2 ^ 16 - 1) rest ≡ Ok (z, mid)) where
    pub layout_not : (d : Stop) → seen (λ (w : Node). 0 + size w) (value 62 k.Struct mid) ≡ Err d → ⊥
    layout_not d f =
        let c = value_second (scalar_type types.i16) (layout_type v) (value 62 k.I16) (value 62 k.Struct) (count - (i + 1)) rest mid (i16 z) clean (read_number rest mid z e) in
        let is = clean_ok (layout_type v) (value 62 k.Struct mid) c in
        let q = sym (ap (seen (λ (w : Node). 0 + size w)) is.2) ∙ f in cc

    pub goes_on : (m : ℕ) (after : List ℕ) (x : LayoutBytes) (more : List LayoutBytes) → AreBytes mid → AreBytes after → seen (λ (w : Node). 0 + size w) (value 62 k.Struct mid) ≡ Ok (m, after)
        → x.number ≡ z → x.bytes.now ≡ take (length mid - length after) mid → more ≡ new ++ x ∷ [] → Going v b count (i + 1) after old more
    goes_on m after x more are are_after f numbered cut is =
        let n = count - (i + 1) in
        let t = layout_type v in
        let made = value_is v n rest mid after z m are clean e f x numbered cut in
        let next = comes_next v n rest mid after z m are clean e f in
        record {
          left = left_behind v n rest mid after z m are clean e f;
          bytes_left = are_after;
          all = ap (λ ys. map (layout_value t) ys ++ meant_pairs t (Layouts v n after)) is
              ∙ ap (λ ys. ys ++ meant_pairs t (Layouts v n after)) (map-append (layout_value t) new (x ∷ []))
              ∙ append_assoc (map (layout_value t) new) (layout_value t x ∷ []) (meant_pairs t (Layouts v n after))
              ∙ ap (λ y. map (layout_value t) new ++ y ∷ meant_pairs t (Layouts v n after)) made
              ∙ ap (λ ys. map (layout_value t) new ++ ys) (sym next)
              ∙ ap (λ c. map (layout_value t) new ++ meant_pairs t (Layouts v c rest)) (sym still)
              ∙ g.all;
          whole = λ h. subst (AllByRecursion (IsWhole t)) (sym is) (all_one_more (IsWhole t) new x (g.whole h) (is_whole v n rest mid after z m are clean e f x numbered cut));
        }

pub going_end : (v : Version) (b : List ℕ) (count i : ℕ) (rest : List ℕ) (old new : List LayoutBytes) → Going v b count i rest old new → count ≤ i
    → map (layout_value (layout_type v)) new ≡ map (layout_value (layout_type v)) old ++ meant_pairs (layout_type v) (Layouts v count b)
unfolding pairs
going_end v b count i rest old new g done =
    let n : count - i ≡ 0 = omega (arith, done) in
    let none : meant_pairs (layout_type v) (Layouts v (count - i) rest) ≡ [] = rw n refl in
    sym (append-nil (map (layout_value (layout_type v)) new)) ∙ ap (λ ys. map (layout_value (layout_type v)) new ++ ys) (sym none) ∙ g.all

-- ---- the map

kind_4 : (kind : Kind) → code_of kind ≡ 4 → kind ≡ k.I16
kind_4 k.I16 e = refl
kind_4 k.Flag e = absurd (omega (arith, e))
kind_4 k.I8 e = absurd (omega (arith, e))
kind_4 k.I32 e = absurd (omega (arith, e))
kind_4 k.I64 e = absurd (omega (arith, e))
kind_4 k.Double e = absurd (omega (arith, e))
kind_4 k.Binary e = absurd (omega (arith, e))
kind_4 k.List e = absurd (omega (arith, e))
kind_4 k.Set e = absurd (omega (arith, e))
kind_4 k.Map e = absurd (omega (arith, e))
kind_4 k.Struct e = absurd (omega (arith, e))

kind_12 : (kind : Kind) → code_of kind ≡ 12 → kind ≡ k.Struct
kind_12 k.Struct e = refl
kind_12 k.Flag e = absurd (omega (arith, e))
kind_12 k.I8 e = absurd (omega (arith, e))
kind_12 k.I16 e = absurd (omega (arith, e))
kind_12 k.I32 e = absurd (omega (arith, e))
kind_12 k.I64 e = absurd (omega (arith, e))
kind_12 k.Double e = absurd (omega (arith, e))
kind_12 k.Binary e = absurd (omega (arith, e))
kind_12 k.List e = absurd (omega (arith, e))
kind_12 k.Set e = absurd (omega (arith, e))
kind_12 k.Map e = absurd (omega (arith, e))

pub kind_11 : (kind : Kind) → code_of kind ≡ 11 → kind ≡ k.Map
kind_11 k.Map e = refl
kind_11 k.Flag e = absurd (omega (arith, e))
kind_11 k.I8 e = absurd (omega (arith, e))
kind_11 k.I16 e = absurd (omega (arith, e))
kind_11 k.I32 e = absurd (omega (arith, e))
kind_11 k.I64 e = absurd (omega (arith, e))
kind_11 k.Double e = absurd (omega (arith, e))
kind_11 k.Binary e = absurd (omega (arith, e))
kind_11 k.List e = absurd (omega (arith, e))
kind_11 k.Set e = absurd (omega (arith, e))
kind_11 k.Struct e = absurd (omega (arith, e))

-- the layouts that were found, in the order of their numbers
ordered : (v : Version) (ps : List Value) (xs ys : List LayoutBytes) → map (layout_value (layout_type v)) xs ≡ ps → ys ≡ in_order int_lt number_of xs
    → map (layout_value (layout_type v)) ys ≡ values_in_order ps
ordered v ps xs ys are sorted =
    ap (map (layout_value (layout_type v))) sorted ∙ made_in_order number_of (layout_value (layout_type v)) (λ x. refl) xs ∙ ap values_in_order are

all_moved : (P : LayoutBytes → Type 0) (xs ys : List LayoutBytes) → ys ≡ in_order int_lt number_of xs → AllByRecursion P xs → AllByRecursion P ys
all_moved P xs ys sorted h =
    subst (AllByRecursion P) (sym sorted)
    (recursion_from_All P (in_order int_lt number_of xs) (All-permutation P xs (in_order int_lt number_of xs) (in_order_moves int_lt number_of xs) (All-from_recursion P xs h)))

module _ (v : Version) (b : List ℕ) (clean_map : IsClean (layouts_type v) (value 63 k.Map b)) where
  as_mapping : value 63 k.Map b ≡ mapping 62 (value 62) b
  as_mapping = ap (λ f. f b) (value-step 63 k.Map (omega arith))

  clean_mapping : IsClean (layouts_type v) (mapping 62 (value 62) b)
  clean_mapping = subst (IsClean (layouts_type v)) as_mapping clean_map

  pub count_not : (d : Stop) → number 4 most_bytes b ≡ Err d → ⊥
  count_not d e = size_not (layouts_type v) 62 b clean_mapping d e

  pub header_not : (n : ℕ) (rest : List ℕ) (d : Stop) → number 4 most_bytes b ≡ Ok (n, rest) → n ≢ 0 → one (map_header 62) rest ≡ Err d → ⊥
  header_not n rest d e some f = kinds_not (layouts_type v) 62 b clean_mapping n rest d e some f

  pub none_there : (n : ℕ) (rest : List ℕ) → number 4 most_bytes b ≡ Ok (n, rest) → n ≡ 0 → AreOf v (meant (layouts_type v) (value 63 k.Map b)) []
  none_there n rest e none = record { are = ap (meant (layouts_type v)) (as_mapping ∙ mapping-none 62 (value 62) b rest n e none); whole = tt }

  module _ (n : ℕ) (rest behind : List ℕ) (kinds : PairKinds) (e : number 4 most_bytes b ≡ Ok (n, rest)) (some : n ≢ 0) (f : one (map_header 62) rest ≡ Ok (kinds, behind)) (are : AreBytes behind) where
    abbrev pairs_of_kinds : (a c : Kind) → Result (Pairs × List ℕ) Stop
    pairs_of_kinds a c = pairs (value 62 a) (value 62 c) n behind

    pairs_clean : ArePairsClean (scalar_type types.i16) (layout_type v) (pairs_of_kinds kinds.key kinds.value)
    pairs_clean = (map_clean (layouts_type v) 62 b clean_mapping n rest behind kinds e some f).1

    first_pair : ArePairsClean (scalar_type types.i16) (layout_type v) (pairs (value 62 kinds.key) (value 62 kinds.value) (suc (n - 1)) behind)
    first_pair =
        let one_more : n ≡ suc (n - 1) = omega (arith, some) in
        subst (λ m. ArePairsClean (scalar_type types.i16) (layout_type v) (pairs (value 62 kinds.key) (value 62 kinds.value) m behind)) one_more pairs_clean

    key_clean : IsClean (scalar_type types.i16) (value 62 kinds.key behind)
    key_clean = key_first (scalar_type types.i16) (layout_type v) (value 62 kinds.key) (value 62 kinds.value) (n - 1) behind first_pair

    key_is : kinds.key ≡ k.I16
    key_is = kind_4 kinds.key (kind_code 61 kinds.key behind (scalar_type types.i16) are key_clean)

    value_kind : kinds.value ≡ k.Struct
    value_kind =
        let c = clean_ok (scalar_type types.i16) (value 62 kinds.key behind) key_clean in
        let second = value_second (scalar_type types.i16) (layout_type v) (value 62 kinds.key) (value 62 kinds.value) (n - 1) behind c.1 c.0 first_pair c.2 in
        kind_12 kinds.value (kind_code 61 kinds.value c.1 (layout_type v) (bytes_behind 61 kinds.key behind c.0 c.1 are c.2) second)

    same_pairs : pairs_of_kinds kinds.key kinds.value ≡ Layouts v n behind
    same_pairs = ap (λ a. pairs_of_kinds a kinds.value) key_is ∙ ap (λ c. pairs_of_kinds k.I16 c) value_kind

    pub are_left : AreLeft v n behind
    are_left = subst (ArePairsClean (scalar_type types.i16) (layout_type v)) same_pairs pairs_clean

    its_mapping : value 63 k.Map b ≡ (Layouts v n behind >>= λ p. Ok (map_node (code_of kinds.key) (code_of kinds.value) p.0, p.1))
    its_mapping =
        as_mapping ∙ mapping-pairs 62 (value 62) b rest behind n kinds e some f
        ∙ ap (λ (r : Result (Pairs × List ℕ) Stop). r >>= λ p. Ok (map_node (code_of kinds.key) (code_of kinds.value) p.0, p.1)) same_pairs

    meant_map : (q : Result (Pairs × List ℕ) Stop) → ArePairsClean (scalar_type types.i16) (layout_type v) q
        → meant (layouts_type v) (q >>= λ p. Ok (map_node (code_of kinds.key) (code_of kinds.value) p.0, p.1)) ≡ Items AMap (row (values_in_order (meant_pairs (layout_type v) q)))
    meant_map (Ok p) h = refl
    meant_map (Err d) h = absurd h

    pub all_there : (xs ys : List LayoutBytes) → map (layout_value (layout_type v)) xs ≡ [] ++ meant_pairs (layout_type v) (Layouts v n behind) → AllByRecursion (IsWhole (layout_type v)) xs
        → ys ≡ in_order int_lt number_of xs → AreOf v (meant (layouts_type v) (value 63 k.Map b)) ys
    all_there xs ys made whole sorted = record {
      are = ap (meant (layouts_type v)) its_mapping ∙ meant_map (Layouts v n behind) are_left
          ∙ ap (λ vs. Items AMap (row vs)) (sym (ordered v (meant_pairs (layout_type v) (Layouts v n behind)) xs ys made sorted));
      whole = all_moved (IsWhole (layout_type v)) xs ys sorted whole;
    }

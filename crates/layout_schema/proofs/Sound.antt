-- Whatever the walk accepts is a layout that may stand there.
use Rattle.std.proofs.Common.{◌≡◌, ℕ, zero, suc, ◌+◌, ◌<◌, ◌≤◌, ℤ, pos, negsuc, true, List, [], ◌∷◌, ◌++◌, Some, None, Ok, arith, refl, ap, sym, ◌∙◌, subst, map, length}
use Rattle.std.specs.Prelude.{max, nat_le, nat_lt, int_lt}
use Rattle.std.specs.Ordering.{int_eq}
use Rattle.std.proofs.lemmas.Bool.{and_parts, leb-true, ltb-true}
use Rattle.std.proofs.lemmas.Int.{ints}
use Rattle.std.proofs.lemmas.List.{append-nil, map-append, length-map}
use Rattle.frozen_model.specs.Trees.{I8, I16, I32, I64, ByteKind, Text, Binary, AList, ASet, AMap, Holder, ByteRange, ItemRange, Optional, Struct, NoField, Field, nodes, nodes_all, levels, levels_all, greatest_bits, greatest_bits_all, Rising, ids_of, AllFormed, AllNarrow, IsItem}
use Rattle.frozen_model.specs.Values.{Values}
use Rattle.frozen_model.specs.Layouts.{Version, Layout, Layouts, AllOfVersion, AllLegal}
use Rattle.layout_tree.specs.declared.node.NodeSpec.{NodeSpec}
use Rattle.layout_tree.specs.declared.node.Kind.{Kind}
use Rattle.layout_tree.specs.declared.node.Kind.TheVariants as kinds
use Rattle.layout_tree.specs.Listing.{inline, inline_all, kind_of_bytes, kind_of_holder, item_struct, spec, nodes_of, nodes_of_all}
use Rattle.layout_tree.specs.Given.{shown, noted_from, all_noted_from}
use Rattle.layout_tree.proofs.Place.{length_nodes}
use Rattle.layout_schema.specs.Shapes.{Child, Place, AtRoot, InStruct, InList, InSet, InMap, AtFirst, AtValue, AtIsset, AtSize, may_stand, is_inline, deeper, is_id, are_ids, are_fields, fields_fit, base_fits, Walked, nothing, in_front, walk_children, walk_part}
use Rattle.layout_schema.proofs.Climbing.{Climbs, below_is_less}
use Rattle.layout_schema.proofs.Listed.{child_of, two_children, three_children, field_children, Has, HasAll}
use Rattle.layout_schema.proofs.Stands.{struct_at, IsPairAt, depth, tree_walked, fields_walked, node_at, size_walked, at_node, item_place, struct_of_item, item_depth, item_deeper, range_depth, optional_depth}
use Rattle.layout_schema.proofs.Walks.{offset_at, taken, same_walked, if_false, item_apart, range_first, range_second, range_third, range_none, range_node, bytes_places, bytes_none, bytes_node}
use Rattle.layout_schema.proofs.Accepted.{same_entry, zero_base, Enters, enters, leaf_found, no_children, sized, isset_walked, told, child_walks, none_walks, moved, done_is, plain_from, key_from, item_from, IsTreePlace, no_pair, Treed, AllProper, whole_treed, flag_treed, two_fields, three_fields}

-- the walk of parts, in so many steps, is sound
abbrev pub Sounds : Version → Values → ℕ → Type 0
Sounds v ls room = (place : Place) (level p f o n : ℕ) (a : Walked) → IsTreePlace place → walk_part ls room (at_node place level p f o) n ≡ Ok a → Treed v ls place level n p f o a

one_more : (n : ℕ) → n + 1 ≡ suc n
one_more n = omega arith

none_more : (n : ℕ) → 0 + n ≡ n
none_more n = omega arith

-- ---- texts and bytes

bytes_base : (t : ByteKind) (z : ℤ) → base_fits (kind_of_bytes t) z ≡ int_eq z (pos 0)
bytes_base Text z = refl
bytes_base Binary z = refl

bytes_fit : (t : ByteKind) (cs : List Child) → fields_fit (kind_of_bytes t) cs ≡ are_fields (pos 1 ∷ pos 2 ∷ []) cs
bytes_fit Text cs = refl
bytes_fit Binary cs = refl

bytes_no_pair : (t : ByteKind) → kind_of_bytes t ≡ kinds.Pair → ⊥
bytes_no_pair Text e = absurd cc
bytes_no_pair Binary e = absurd cc

bytes_treed : (v : Version) (ls : Values) (room : ℕ) (place : Place) (level p f o n : ℕ) (a : Walked) (t : ByteKind)
    → Enters ls room (at_node place level p f o) n a (kind_of_bytes t) → Treed v ls place level n p f o a
bytes_treed v ls room place level p f o n a t e =
    let k = kind_of_bytes t in
    let enter = walk_part ls room in
    let x = e.entry in
    let cs = two_fields x.children (sym (bytes_fit t x.children) ∙ e.fit) in
    let w1 = child_walks enter k level n cs.a (cs.b ∷ []) (suc n) 0 e.below 1 AtSize cs.first (bytes_places t 1) (subst (λ r. walk_children enter k level n r (suc n) 0 ≡ Ok e.below) cs.is e.walked) in
    let s1 = sized ls room (level + 0) n 1 0 (suc n) w1.one w1.here in
    let d = s1.bits in
    let e1 : suc n + length w1.one.nodes ≡ suc (suc n) = ap (λ (r : Walked). suc n + length r.nodes) s1.whole ∙ one_more (suc n) in
    let o1 : 0 + w1.one.bits ≡ d = ap (λ (r : Walked). 0 + r.bits) s1.whole ∙ none_more s1.bits in
    let w2 = child_walks enter k level n cs.b [] (suc (suc n)) d w1.more 2 AtSize cs.second (bytes_places t 2)
    (moved enter k level n (cs.b ∷ []) (suc n + length w1.one.nodes) (suc (suc n)) (0 + w1.one.bits) d w1.more e1 o1 w1.later) in
    let s2 = sized ls room (level + 0) n 2 d (suc (suc n)) w2.one w2.here in
    let c = s2.bits in
    let z = none_walks enter k level n (suc (suc n) + length w2.one.nodes) (d + w2.one.bits) w2.more w2.later in
    let last : w1.more ≡ in_front AtSize (size_walked n 2 d c) nothing =
    w2.whole ∙ ap (λ (r : Walked). in_front AtSize r w2.more) s2.whole ∙ ap (in_front AtSize (size_walked n 2 d c)) z in
    let below : e.below ≡ in_front AtSize (size_walked n 1 0 d) (in_front AtSize (size_walked n 2 d c) nothing) =
    w1.whole ∙ ap (λ (r : Walked). in_front AtSize r w1.more) s1.whole ∙ ap (in_front AtSize (size_walked n 1 0 d)) last in
    let bits : e.below.bits ≡ d + c = ap (λ (r : Walked). r.bits) below ∙ omega arith in
    let most : e.below.greatest ≡ 64 = ap (λ (r : Walked). r.greatest) below in
    let fin = done_is (at_node place level p f o) n x k e.below a (bytes_none t) e.ends in
    let base = zero_base x.base (sym (bytes_base t x.base) ∙ e.based) in
    let children : x.children ≡ two_children n d = cs.is ∙ ap (λ (r : Child). r ∷ cs.b ∷ []) w1.child ∙ ap (λ (r : Child). child_of 1 (suc n) 0 ∷ r ∷ []) w2.child in
    let same = same_entry x k (d + c) (two_children n d) (pos 0) e.size (fin.bits ∙ ap pos bits) children e.name base in
    let alone = no_pair place k (ByteRange t d c) e.may (bytes_no_pair t) in
    record {
      tree = ByteRange t d c;
      stands = record {
        may = e.may;
        pair = alone.0;
        formed = tt;
        few = omega (arith, s2.few);
        shallow = omega (arith, e.shallow, alone.1);
        narrow = tt;
        coded = tt;
        legal = (s1.small, s2.small);
      };
      has = (e.is ∙ ap Some same, s1.has, s2.has);
      whole = fin.whole ∙ same_walked _ (shown (spec k f p (d + c) (suc (suc (suc n))) o (pos 0)) ∷ node_at kinds.Size 1 n d 0 (pos 0) ∷ node_at kinds.Size 2 n c d (pos 0) ∷ []) (d + c) 64
          (ap (λ r. node_at k f p r o x.base ∷ e.below.nodes) bits ∙ ap (λ r. node_at k f p (d + c) o r ∷ e.below.nodes) base
          ∙ ap (λ (r : Walked). node_at k f p (d + c) o (pos 0) ∷ r.nodes) below
          ∙ ap (λ r. r ∷ node_at kinds.Size 1 n d 0 (pos 0) ∷ node_at kinds.Size 2 n c d (pos 0) ∷ []) (sym (bytes_node t f p (d + c) (suc (suc (suc n))) o)))
          bits most;
    }

-- ---- lists, sets and maps

range_base : (h : Holder) (z : ℤ) → base_fits (kind_of_holder h) z ≡ int_eq z (pos 0)
range_base AList z = refl
range_base ASet z = refl
range_base AMap z = refl

range_fit : (h : Holder) (cs : List Child) → fields_fit (kind_of_holder h) cs ≡ are_fields (pos 1 ∷ pos 2 ∷ pos 3 ∷ []) cs
range_fit AList cs = refl
range_fit ASet cs = refl
range_fit AMap cs = refl

range_no_pair : (h : Holder) → kind_of_holder h ≡ kinds.Pair → ⊥
range_no_pair AList e = absurd cc
range_no_pair ASet e = absurd cc
range_no_pair AMap e = absurd cc

item_tree : (h : Holder) → IsTreePlace (item_place h)
item_tree AList = tt
item_tree ASet = tt
item_tree AMap = tt

-- what stands below a range
abbrev range_below : Holder → ℕ → ℕ → ℕ → Walked → Walked
range_below h n d c item = in_front AtSize (size_walked n 1 0 d) (in_front AtSize (size_walked n 2 d c) (in_front (item_place h) item nothing))

range_bits : (h : Holder) (n d c : ℕ) (item : Walked) → (range_below h n d c item).bits ≡ d + c
range_bits AList n d c item = omega arith
range_bits ASet n d c item = omega arith
range_bits AMap n d c item = omega arith

range_most : (h : Holder) (n d c : ℕ) (item : Walked) → (range_below h n d c item).greatest ≡ 64
range_most AList n d c item = refl
range_most ASet n d c item = refl
range_most AMap n d c item = refl

range_deep : (place : Place) (h : Holder) (d c : ℕ) (l : Layout) (level : ℕ) → IsItem h l → level + deeper (item_place h) + depth (item_place h) l ≤ 33 → level + depth place (ItemRange h d c l) ≤ 33
range_deep place h d c l level is le = omega (arith, le, range_depth place h d c l, item_depth h d c l is, item_deeper h)

range_treed : (v : Version) (ls : Values) (room : ℕ) (place : Place) (level p f o n : ℕ) (a : Walked) (h : Holder) → Sounds v ls room
    → Enters ls room (at_node place level p f o) n a (kind_of_holder h) → Treed v ls place level n p f o a
range_treed v ls room place level p f o n a h sound e =
    let k = kind_of_holder h in
    let enter = walk_part ls room in
    let x = e.entry in
    let item = item_place h in
    let cs = three_fields x.children (sym (range_fit h x.children) ∙ e.fit) in
    let w1 = child_walks enter k level n cs.a (cs.b ∷ cs.c ∷ []) (suc n) 0 e.below 1 AtSize cs.first (range_first h) (subst (λ r. walk_children enter k level n r (suc n) 0 ≡ Ok e.below) cs.is e.walked) in
    let s1 = sized ls room (level + 0) n 1 0 (suc n) w1.one w1.here in
    let d = s1.bits in
    let e1 : suc n + length w1.one.nodes ≡ suc (suc n) = ap (λ (r : Walked). suc n + length r.nodes) s1.whole ∙ one_more (suc n) in
    let o1 : 0 + w1.one.bits ≡ d = ap (λ (r : Walked). 0 + r.bits) s1.whole ∙ none_more s1.bits in
    let w2 = child_walks enter k level n cs.b (cs.c ∷ []) (suc (suc n)) d w1.more 2 AtSize cs.second (range_second h)
    (moved enter k level n (cs.b ∷ cs.c ∷ []) (suc n + length w1.one.nodes) (suc (suc n)) (0 + w1.one.bits) d w1.more e1 o1 w1.later) in
    let s2 = sized ls room (level + 0) n 2 d (suc (suc n)) w2.one w2.here in
    let c = s2.bits in
    let e2 : suc (suc n) + length w2.one.nodes ≡ suc (suc (suc n)) = ap (λ (r : Walked). suc (suc n) + length r.nodes) s2.whole ∙ one_more (suc (suc n)) in
    let w3 = child_walks enter k level n cs.c [] (suc (suc (suc n))) (d + w2.one.bits) w2.more 3 item cs.third (range_third h)
    (moved enter k level n (cs.c ∷ []) (suc (suc n) + length w2.one.nodes) (suc (suc (suc n))) (d + w2.one.bits) (d + w2.one.bits) w2.more e2 refl w2.later) in
    let off : offset_at item (d + w2.one.bits) ≡ 0 = if_false (is_inline item) (d + w2.one.bits) 0 (item_apart h) in
    let here = subst (λ r. enter (at_node item (level + deeper item) n 3 r) (suc (suc (suc n))) ≡ Ok w3.one) off w3.here in
    let s3 = sound item (level + deeper item) n 3 0 (suc (suc (suc n))) w3.one (item_tree h) here in
    let l = s3.tree in
    let item_walked = tree_walked l (struct_at item) (suc (suc (suc n))) n 3 0 in
    let z = none_walks enter k level n (suc (suc (suc n)) + length w3.one.nodes) (d + w2.one.bits + taken item w3.one.bits) w3.more w3.later in
    let third : w2.more ≡ in_front item item_walked nothing =
    w3.whole ∙ ap (λ (r : Walked). in_front item r w3.more) s3.whole ∙ ap (in_front item item_walked) z in
    let last : w1.more ≡ in_front AtSize (size_walked n 2 d c) (in_front item item_walked nothing) =
    w2.whole ∙ ap (λ (r : Walked). in_front AtSize r w2.more) s2.whole ∙ ap (in_front AtSize (size_walked n 2 d c)) third in
    let below : e.below ≡ in_front AtSize (size_walked n 1 0 d) (in_front AtSize (size_walked n 2 d c) (in_front item item_walked nothing)) =
    w1.whole ∙ ap (λ (r : Walked). in_front AtSize r w1.more) s1.whole ∙ ap (in_front AtSize (size_walked n 1 0 d)) last in
    let bits : e.below.bits ≡ d + c = ap (λ (r : Walked). r.bits) below ∙ range_bits h n d c item_walked in
    let most : e.below.greatest ≡ 64 = ap (λ (r : Walked). r.greatest) below ∙ range_most h n d c item_walked in
    let fin = done_is (at_node place level p f o) n x k e.below a (range_none h) e.ends in
    let base = zero_base x.base (sym (range_base h x.base) ∙ e.based) in
    let children : x.children ≡ three_children n d =
    cs.is ∙ ap (λ (r : Child). r ∷ cs.b ∷ cs.c ∷ []) w1.child ∙ ap (λ (r : Child). child_of 1 (suc n) 0 ∷ r ∷ cs.c ∷ []) w2.child
    ∙ ap (λ (r : Child). child_of 1 (suc n) 0 ∷ child_of 2 (suc (suc n)) d ∷ r ∷ []) (w3.child ∙ ap (child_of 3 (suc (suc (suc n)))) off) in
    let same = same_entry x k (d + c) (three_children n d) (pos 0) e.size (fin.bits ∙ ap pos bits) children e.name base in
    let alone = no_pair place k (ItemRange h d c l) e.may (range_no_pair h) in
    let is_item = item_from h l s3.stands.may s3.stands.pair in
    let sizes : List NodeSpec = node_at kinds.Size 1 n d 0 (pos 0) ∷ node_at kinds.Size 2 n c d (pos 0) ∷ [] in
    record {
      tree = ItemRange h d c l;
      stands = record {
        may = e.may;
        pair = alone.0;
        formed = (is_item, s3.stands.formed);
        few = omega (arith, s3.stands.few);
        shallow = range_deep place h d c l level is_item s3.stands.shallow;
        narrow = s3.stands.narrow;
        coded = s3.stands.coded;
        legal = (s1.small, s2.small, s3.stands.legal);
      };
      has = (e.is ∙ ap Some same, s1.has, s2.has, subst (λ r. Has ls l r (suc (suc (suc n)))) (struct_of_item h) s3.has);
      whole = fin.whole ∙ same_walked _ (shown (spec k f p (d + c) (suc (suc (suc n)) + nodes (noted_from l)) o (pos 0)) ∷ (sizes ++ map shown (nodes_of (noted_from l) (item_struct h) (suc (suc (suc n))) n 3 0))) (d + c) 64
          (ap (λ r. node_at k f p r o x.base ∷ e.below.nodes) bits ∙ ap (λ r. node_at k f p (d + c) o r ∷ e.below.nodes) base
          ∙ ap (λ (r : Walked). node_at k f p (d + c) o (pos 0) ∷ r.nodes) below
          ∙ ap (λ r. node_at k f p (d + c) o (pos 0) ∷ (sizes ++ r)) (append-nil item_walked.nodes ∙ ap (λ r. map shown (nodes_of (noted_from l) r (suc (suc (suc n))) n 3 0)) (struct_of_item h))
          ∙ ap (λ r. r ∷ (sizes ++ map shown (nodes_of (noted_from l) (item_struct h) (suc (suc (suc n))) n 3 0))) (sym (range_node h f p (d + c) (suc (suc (suc n)) + nodes (noted_from l)) o)))
          bits most;
    }

-- ---- optionals

optional_treed : (v : Version) (ls : Values) (room : ℕ) (place : Place) (level p f o n : ℕ) (a : Walked) → Sounds v ls room
    → Enters ls room (at_node place level p f o) n a kinds.Optional → Treed v ls place level n p f o a
optional_treed v ls room place level p f o n a sound e =
    let k = kinds.Optional in
    let enter = walk_part ls room in
    let x = e.entry in
    let cs = two_fields x.children e.fit in
    let w1 = child_walks enter k level n cs.a (cs.b ∷ []) (suc n) 0 e.below 1 AtIsset cs.first refl (subst (λ r. walk_children enter k level n r (suc n) 0 ≡ Ok e.below) cs.is e.walked) in
    let s1 = told ls room (level + 0) n 1 0 (suc n) w1.one w1.here in
    let w = s1.bits in
    let e1 : suc n + length w1.one.nodes ≡ suc (suc n) = ap (λ (r : Walked). suc n + length r.nodes) s1.whole ∙ one_more (suc n) in
    let o1 : 0 + w1.one.bits ≡ w = ap (λ (r : Walked). 0 + r.bits) s1.whole ∙ none_more s1.bits in
    let w2 = child_walks enter k level n cs.b [] (suc (suc n)) w w1.more 2 AtValue cs.second refl
    (moved enter k level n (cs.b ∷ []) (suc n + length w1.one.nodes) (suc (suc n)) (0 + w1.one.bits) w w1.more e1 o1 w1.later) in
    let s2 = sound AtValue (level + 0) n 2 w (suc (suc n)) w2.one tt w2.here in
    let l = s2.tree in
    let value = tree_walked l kinds.Struct (suc (suc n)) n 2 w in
    let total = w + inline (noted_from l) in
    let z = none_walks enter k level n (suc (suc n) + length w2.one.nodes) (w + w2.one.bits) w2.more w2.later in
    let last : w1.more ≡ in_front AtValue value nothing =
    w2.whole ∙ ap (λ (r : Walked). in_front AtValue r w2.more) s2.whole ∙ ap (in_front AtValue value) z in
    let below : e.below ≡ in_front AtIsset (isset_walked n 1 0 w) (in_front AtValue value nothing) =
    w1.whole ∙ ap (λ (r : Walked). in_front AtIsset r w1.more) s1.whole ∙ ap (in_front AtIsset (isset_walked n 1 0 w)) last in
    let bits : e.below.bits ≡ total = ap (λ (r : Walked). r.bits) below ∙ omega arith in
    let most : e.below.greatest ≡ 1 + greatest_bits l = ap (λ (r : Walked). r.greatest) below ∙ omega arith in
    let fin = done_is (at_node place level p f o) n x k e.below a refl e.ends in
    let base = zero_base x.base e.based in
    let children : x.children ≡ two_children n w = cs.is ∙ ap (λ (r : Child). r ∷ cs.b ∷ []) w1.child ∙ ap (λ (r : Child). child_of 1 (suc n) 0 ∷ r ∷ []) w2.child in
    let same = same_entry x k total (two_children n w) (pos 0) e.size (fin.bits ∙ ap pos bits) children e.name base in
    let alone = no_pair place k (Optional w l) e.may (λ q. absurd cc) in
    let flag = node_at kinds.Flag 1 n w 0 (pos 0) in
    record {
      tree = Optional w l;
      stands = record {
        may = e.may;
        pair = alone.0;
        formed = (plain_from l s2.stands.may, s2.stands.formed);
        few = omega (arith, s2.stands.few);
        shallow = omega (arith, s2.stands.shallow, optional_depth place w l);
        narrow = (omega (arith, fin.most, most), s2.stands.narrow);
        coded = s2.stands.coded;
        legal = (s1.small, s2.stands.legal);
      };
      has = (e.is ∙ ap Some same, s1.has, s2.has);
      whole = fin.whole ∙ same_walked _ (node_at k f p total o (pos 0) ∷ flag ∷ map shown (nodes_of (noted_from l) kinds.Struct (suc (suc n)) n 2 w)) total (1 + greatest_bits l)
          (ap (λ r. node_at k f p r o x.base ∷ e.below.nodes) bits ∙ ap (λ r. node_at k f p total o r ∷ e.below.nodes) base
          ∙ ap (λ (r : Walked). node_at k f p total o (pos 0) ∷ r.nodes) below
          ∙ ap (λ r. node_at k f p total o (pos 0) ∷ flag ∷ r) (append-nil value.nodes))
          bits most;
    }

-- ---- pairs

tree_past : (l : Layout) (n p f o : ℕ) → n + length (tree_walked l kinds.Struct n p f o).nodes ≡ n + nodes (noted_from l)
tree_past l n p f o = ap (λ r. n + r) (length-map (nodes_of (noted_from l) kinds.Struct n p f o) shown ∙ length_nodes (noted_from l) kinds.Struct n p f o)

pair_few : (n a b : ℕ) → suc n + a + b ≤ 4096 → n + (1 + (a + (b + 0))) ≤ 4096
pair_few n a b h = omega (arith, h)

pair_deep : (level a b : ℕ) → level + 0 + a ≤ 33 → level + 0 + b ≤ 33 → level + max a (max b 0) ≤ 33
pair_deep level a b h i = omega (arith, h, i)

fields_few : (n a b : ℕ) → n + a + b ≤ 4096 → n + (a + b) ≤ 4096
fields_few n a b h = omega (arith, h)

fields_deep : (level a b : ℕ) → level + 1 + a ≤ 33 → level + (1 + b) ≤ 33 → level + (1 + max a b) ≤ 33
fields_deep level a b h i = omega (arith, h, i)

struct_few : (n a : ℕ) → suc n + a ≤ 4096 → n + (1 + a) ≤ 4096
struct_few n a h = omega (arith, h)

struct_deep : (level a d : ℕ) → d ≡ 1 + a → level + (1 + a) ≤ 33 → level + d ≤ 33
struct_deep level a d e h = omega (arith, e, h)

-- the two of a pair
pair_treed : (v : Version) (ls : Values) (room : ℕ) (level p f o n : ℕ) (a : Walked) → Sounds v ls room
    → Enters ls room (at_node InMap level p f o) n a kinds.Pair → Treed v ls InMap level n p f o a
pair_treed v ls room level p f o n a sound e =
    let k = kinds.Pair in
    let enter = walk_part ls room in
    let x = e.entry in
    let cs = two_fields x.children e.fit in
    let w1 = child_walks enter k level n cs.a (cs.b ∷ []) (suc n) 0 e.below 1 AtFirst cs.first refl (subst (λ r. walk_children enter k level n r (suc n) 0 ≡ Ok e.below) cs.is e.walked) in
    let s1 = sound AtFirst (level + 0) n 1 0 (suc n) w1.one tt w1.here in
    let key = s1.tree in
    let first = tree_walked key kinds.Struct (suc n) n 1 0 in
    let m = suc n + nodes (noted_from key) in
    let u = 0 + inline (noted_from key) in
    let e1 : suc n + length w1.one.nodes ≡ m = ap (λ (r : Walked). suc n + length r.nodes) s1.whole ∙ tree_past key (suc n) n 1 0 in
    let o1 : 0 + w1.one.bits ≡ u = ap (λ (r : Walked). 0 + r.bits) s1.whole in
    let w2 = child_walks enter k level n cs.b [] m u w1.more 2 AtValue cs.second refl
    (moved enter k level n (cs.b ∷ []) (suc n + length w1.one.nodes) m (0 + w1.one.bits) u w1.more e1 o1 w1.later) in
    let s2 = sound AtValue (level + 0) n 2 u m w2.one tt w2.here in
    let w = s2.tree in
    let second = tree_walked w kinds.Struct m n 2 u in
    let z = none_walks enter k level n (m + length w2.one.nodes) (u + w2.one.bits) w2.more w2.later in
    let last : w1.more ≡ in_front AtValue second nothing =
    w2.whole ∙ ap (λ (r : Walked). in_front AtValue r w2.more) s2.whole ∙ ap (in_front AtValue second) z in
    let fs : Layouts = Field 1 key (Field 2 w NoField) in
    let below : e.below ≡ fields_walked fs (suc n) n 0 =
    w1.whole ∙ ap (λ (r : Walked). in_front AtFirst r w1.more) s1.whole ∙ ap (in_front AtFirst first) last
    ∙ ap (λ r. record { nodes = r; bits = first.bits + (second.bits + 0); greatest = first.greatest + (second.greatest + 0) })
    (sym (map-append shown (nodes_of (noted_from key) kinds.Struct (suc n) n 1 0) (nodes_of (noted_from w) kinds.Struct m n 2 u ++ [])
    ∙ ap (λ r. first.nodes ++ r) (map-append shown (nodes_of (noted_from w) kinds.Struct m n 2 u) []))) in
    let total = inline_all (all_noted_from fs) in
    let bits : e.below.bits ≡ total = ap (λ (r : Walked). r.bits) below in
    let most : e.below.greatest ≡ greatest_bits_all fs = ap (λ (r : Walked). r.greatest) below in
    let fin = done_is (at_node InMap level p f o) n x k e.below a refl e.ends in
    let base = zero_base x.base e.based in
    let children : x.children ≡ field_children fs (suc n) 0 = cs.is ∙ ap (λ (r : Child). r ∷ cs.b ∷ []) w1.child ∙ ap (λ (r : Child). child_of 1 (suc n) 0 ∷ r ∷ []) w2.child in
    let same = same_entry x k total (field_children fs (suc n) 0) (pos 0) e.size (fin.bits ∙ ap pos bits) children e.name base in
    record {
      tree = Struct fs;
      stands = record {
        may = e.may;
        pair = (refl, key_from key s1.stands.may, refl, plain_from w s2.stands.may);
        formed = ((omega arith, omega arith, (omega arith, omega arith, tt)), (s1.stands.formed, (s2.stands.formed, tt)));
        few = pair_few n (nodes (noted_from key)) (nodes (noted_from w)) s2.stands.few;
        shallow = pair_deep level (levels key) (levels w) s1.stands.shallow s2.stands.shallow;
        narrow = (subst (λ r. r ≤ 32767) most fin.most, (s1.stands.narrow, (s2.stands.narrow, tt)));
        coded = (s1.stands.coded, (s2.stands.coded, tt));
        legal = (s1.stands.legal, (s2.stands.legal, tt));
      };
      has = (e.is ∙ ap Some same, (s1.has, (s2.has, tt)));
      whole = fin.whole ∙ ap (λ r. record { nodes = node_at k f p e.below.bits o r ∷ e.below.nodes; bits = e.below.bits; greatest = e.below.greatest }) base
          ∙ ap (λ (r : Walked). record { nodes = node_at k f p r.bits o (pos 0) ∷ r.nodes; bits = r.bits; greatest = r.greatest }) below;
    }

-- ---- structs

-- the fields of a struct whose first child has the number n and the offset o
record FieldsTreed (v : Version) (ls : Values) (before level p : ℕ) (cs : List Child) (n o : ℕ) (y : Walked) : Type 0 where
  pub fields : Layouts
  pub children : cs ≡ field_children fields n o
  pub has : HasAll ls fields n
  pub rising : Rising before (ids_of fields)
  pub formed : AllFormed fields
  pub few : n + nodes_all (all_noted_from fields) ≤ 4096
  pub shallow : level + (1 + levels_all fields) ≤ 33
  pub narrow : AllNarrow fields
  pub coded : AllOfVersion v fields
  pub legal : AllLegal fields
  pub whole : y ≡ fields_walked fields n p o

id_is : (z : ℤ) → is_id z ≡ true → (i : ℕ) × (z ≡ pos i) × (0 < i) × (i ≤ 32767)
id_is (pos n) h = let e = and_parts (nat_lt 0 n) (nat_le n 32767) h in (n, refl, ltb-true 0 n e.0, leb-true n 32767 e.1)
id_is (negsuc n) h = absurd cc

less_is_below : (a b : ℕ) → int_lt (pos a) (pos b) ≡ true → a < b
less_is_below a b h = grind (arith, ints)

fields_treed : (v : Version) (ls : Values) (room : ℕ) → Sounds v ls room → (before level p : ℕ) (cs : List Child) (n o : ℕ) (y : Walked)
    → are_ids cs ≡ true → Climbs (Some (pos before)) (map (λ (c : Child). c.field) cs) → n ≤ 4096 → level ≤ 32
    → walk_children (walk_part ls room) kinds.Struct level p cs n o ≡ Ok y → FieldsTreed v ls before level p cs n o y
fields_treed v ls room sound before level p [] n o y ids climbs few shallow e = record {
  fields = NoField;
  children = refl;
  has = tt;
  rising = tt;
  formed = tt;
  few = omega (arith, few);
  shallow = omega (arith, shallow);
  narrow = tt;
  coded = tt;
  legal = tt;
  whole = none_walks (walk_part ls room) kinds.Struct level p n o y e;
}
fields_treed v ls room sound before level p (c ∷ cs) n o y ids climbs few shallow e =
    let is = and_parts (is_id c.field) (are_ids cs) ids in
    let id = id_is c.field is.0 in
    let i = id.0 in
    let enter = walk_part ls room in
    let w = child_walks enter kinds.Struct level p c cs n o y i InStruct id.1 refl e in
    let s = sound InStruct (level + 1) p i o n w.one tt w.here in
    let l = s.tree in
    let mine = tree_walked l kinds.Struct n p i o in
    let m = n + nodes (noted_from l) in
    let u = o + inline (noted_from l) in
    let em : n + length w.one.nodes ≡ m = ap (λ (r : Walked). n + length r.nodes) s.whole ∙ tree_past l n p i o in
    let eo : o + w.one.bits ≡ u = ap (λ (r : Walked). o + r.bits) s.whole in
    let climbs_here : (int_lt (pos before) (pos i) ≡ true) × Climbs (Some (pos i)) (map (λ (c : Child). c.field) cs) =
    subst (λ z. (int_lt (pos before) z ≡ true) × Climbs (Some z) (map (λ (c : Child). c.field) cs)) id.1 climbs in
    let later = fields_treed v ls room sound i level p cs m u w.more is.1 climbs_here.1 s.stands.few shallow
    (moved enter kinds.Struct level p cs (n + length w.one.nodes) m (o + w.one.bits) u w.more em eo w.later) in
    let fs = later.fields in
    record {
      fields = Field i l fs;
      children = ap (λ (r : Child). r ∷ cs) w.child ∙ ap (λ r. child_of i n o ∷ r) later.children;
      has = (s.has, later.has);
      rising = (less_is_below before i climbs_here.0, id.3, later.rising);
      formed = (s.stands.formed, later.formed);
      few = fields_few n (nodes (noted_from l)) (nodes_all (all_noted_from fs)) later.few;
      shallow = fields_deep level (levels l) (levels_all fs) s.stands.shallow later.shallow;
      narrow = (s.stands.narrow, later.narrow);
      coded = (s.stands.coded, later.coded);
      legal = (s.stands.legal, later.legal);
      whole = w.whole ∙ ap (λ (r : Walked). in_front InStruct r w.more) s.whole ∙ ap (in_front InStruct mine) later.whole
          ∙ ap (λ r. record { nodes = r; bits = inline (noted_from l) + inline_all (all_noted_from fs); greatest = greatest_bits l + greatest_bits_all fs })
          (sym (map-append shown (nodes_of (noted_from l) kinds.Struct n p i o) (nodes_of_all (all_noted_from fs) m p u)));
    }

-- places of a struct
record StructPlace (place : Place) : Type 0 where
  pub kind : struct_at place ≡ kinds.Struct
  pub deep : (fs : Layouts) → depth place (Struct fs) ≡ 1 + levels_all fs
  pub pair : (l : Layout) → IsPairAt place l

struct_place : (place : Place) → may_stand place kinds.Struct ≡ true → StructPlace place
struct_place AtRoot m = record { kind = refl; deep = λ fs. refl; pair = λ l. tt }
struct_place InStruct m = record { kind = refl; deep = λ fs. refl; pair = λ l. tt }
struct_place InList m = record { kind = refl; deep = λ fs. refl; pair = λ l. tt }
struct_place InSet m = record { kind = refl; deep = λ fs. refl; pair = λ l. tt }
struct_place InMap m = absurd cc
struct_place AtFirst m = record { kind = refl; deep = λ fs. refl; pair = λ l. tt }
struct_place AtValue m = record { kind = refl; deep = λ fs. refl; pair = λ l. tt }
struct_place AtIsset m = record { kind = refl; deep = λ fs. refl; pair = λ l. tt }
struct_place AtSize m = record { kind = refl; deep = λ fs. refl; pair = λ l. tt }

climbs_from_0 : (cs : List Child) → are_ids cs ≡ true → Climbs None (map (λ (c : Child). c.field) cs) → Climbs (Some (pos 0)) (map (λ (c : Child). c.field) cs)
climbs_from_0 [] ids h = tt
climbs_from_0 (c ∷ cs) ids h =
    let id = id_is c.field (and_parts (is_id c.field) (are_ids cs) ids).0 in
    (subst (λ z. int_lt (pos 0) z ≡ true) (sym id.1) (below_is_less 0 id.0 id.2), h)

struct_treed : (v : Version) (ls : Values) (room : ℕ) (place : Place) (level p f o n : ℕ) (a : Walked) → Sounds v ls room → AllProper v ls
    → Enters ls room (at_node place level p f o) n a kinds.Struct → Treed v ls place level n p f o a
struct_treed v ls room place level p f o n a sound proper e =
    let k = kinds.Struct in
    let x = e.entry in
    let at = struct_place place e.may in
    let fields = fields_treed v ls room sound 0 level n x.children (suc n) 0 e.below e.fit (climbs_from_0 x.children e.fit (proper n x e.is).climbs) e.few e.shallow e.walked in
    let fs = fields.fields in
    let total = inline_all (all_noted_from fs) in
    let below = fields.whole in
    let bits : e.below.bits ≡ total = ap (λ (r : Walked). r.bits) below in
    let most : e.below.greatest ≡ greatest_bits_all fs = ap (λ (r : Walked). r.greatest) below in
    let fin = done_is (at_node place level p f o) n x k e.below a refl e.ends in
    let base = zero_base x.base e.based in
    let same = same_entry x k total (field_children fs (suc n) 0) (pos 0) e.size (fin.bits ∙ ap pos bits) fields.children e.name base in
    let of = sym at.kind in
    record {
      tree = Struct fs;
      stands = record {
        may = subst (λ r. may_stand place r ≡ true) of e.may;
        pair = at.pair (Struct fs);
        formed = (fields.rising, fields.formed);
        few = struct_few n (nodes_all (all_noted_from fs)) fields.few;
        shallow = struct_deep level (levels_all fs) (depth place (Struct fs)) (at.deep fs) fields.shallow;
        narrow = (subst (λ r. r ≤ 32767) most fin.most, fields.narrow);
        coded = fields.coded;
        legal = fields.legal;
      };
      has = subst (λ r. Has ls (Struct fs) r n) of (e.is ∙ ap Some same, fields.has);
      whole = fin.whole ∙ ap (λ r. record { nodes = node_at k f p e.below.bits o r ∷ e.below.nodes; bits = e.below.bits; greatest = e.below.greatest }) base
          ∙ ap (λ (r : Walked). record { nodes = node_at k f p r.bits o (pos 0) ∷ r.nodes; bits = r.bits; greatest = r.greatest }) below
          ∙ ap (λ r. tree_walked (Struct fs) r n p f o) of;
    }

-- ---- the walk

pair_place : (v : Version) (ls : Values) (room : ℕ) (place : Place) (level p f o n : ℕ) (a : Walked) → Sounds v ls room
    → Enters ls room (at_node place level p f o) n a kinds.Pair → Treed v ls place level n p f o a
pair_place v ls room InMap level p f o n a sound e = pair_treed v ls room level p f o n a sound e
pair_place v ls room AtRoot level p f o n a sound e = absurd (let m = e.may in cc)
pair_place v ls room InStruct level p f o n a sound e = absurd (let m = e.may in cc)
pair_place v ls room InList level p f o n a sound e = absurd (let m = e.may in cc)
pair_place v ls room InSet level p f o n a sound e = absurd (let m = e.may in cc)
pair_place v ls room AtFirst level p f o n a sound e = absurd (let m = e.may in cc)
pair_place v ls room AtValue level p f o n a sound e = absurd (let m = e.may in cc)
pair_place v ls room AtIsset level p f o n a sound e = absurd (let m = e.may in cc)
pair_place v ls room AtSize level p f o n a sound e = absurd (let m = e.may in cc)

no_size : (place : Place) → IsTreePlace place → may_stand place kinds.Size ≡ true → ⊥
no_size AtRoot is m = absurd cc
no_size InStruct is m = absurd cc
no_size InList is m = absurd cc
no_size InSet is m = absurd cc
no_size InMap is m = absurd cc
no_size AtFirst is m = absurd cc
no_size AtValue is m = absurd cc
no_size AtIsset is m = is
no_size AtSize is m = is

by_kind : (v : Version) (ls : Values) (room : ℕ) → Sounds v ls room → AllProper v ls → (place : Place) (level p f o n : ℕ) (a : Walked) → IsTreePlace place
    → (k : Kind) → Enters ls room (at_node place level p f o) n a k → Treed v ls place level n p f o a
by_kind v ls room sound proper place level p f o n a is kinds.Flag e =
    flag_treed v ls place level n p f o a e.few e.shallow e.may (leaf_found ls room place level p f o n a kinds.Flag 1 refl (λ cs h. no_children cs h) e)
by_kind v ls room sound proper place level p f o n a is kinds.I8 e =
    whole_treed v ls place level n p f o a I8 proper e.few e.shallow e.may (leaf_found ls room place level p f o n a kinds.I8 8 refl (λ cs h. no_children cs h) e)
by_kind v ls room sound proper place level p f o n a is kinds.I16 e =
    whole_treed v ls place level n p f o a I16 proper e.few e.shallow e.may (leaf_found ls room place level p f o n a kinds.I16 16 refl (λ cs h. no_children cs h) e)
by_kind v ls room sound proper place level p f o n a is kinds.I32 e =
    whole_treed v ls place level n p f o a I32 proper e.few e.shallow e.may (leaf_found ls room place level p f o n a kinds.I32 32 refl (λ cs h. no_children cs h) e)
by_kind v ls room sound proper place level p f o n a is kinds.I64 e =
    whole_treed v ls place level n p f o a I64 proper e.few e.shallow e.may (leaf_found ls room place level p f o n a kinds.I64 64 refl (λ cs h. no_children cs h) e)
by_kind v ls room sound proper place level p f o n a is kinds.Text e = bytes_treed v ls room place level p f o n a Text e
by_kind v ls room sound proper place level p f o n a is kinds.Bytes e = bytes_treed v ls room place level p f o n a Binary e
by_kind v ls room sound proper place level p f o n a is kinds.List e = range_treed v ls room place level p f o n a AList sound e
by_kind v ls room sound proper place level p f o n a is kinds.Set e = range_treed v ls room place level p f o n a ASet sound e
by_kind v ls room sound proper place level p f o n a is kinds.Map e = range_treed v ls room place level p f o n a AMap sound e
by_kind v ls room sound proper place level p f o n a is kinds.Pair e = pair_place v ls room place level p f o n a sound e
by_kind v ls room sound proper place level p f o n a is kinds.Struct e = struct_treed v ls room place level p f o n a sound proper e
by_kind v ls room sound proper place level p f o n a is kinds.Optional e = optional_treed v ls room place level p f o n a sound e
by_kind v ls room sound proper place level p f o n a is kinds.Size e = absurd (no_size place is e.may)

pub sound : (v : Version) (ls : Values) → AllProper v ls → (room : ℕ) → Sounds v ls room
sound v ls proper zero = λ place level p f o n a is e. absurd cc
sound v ls proper (suc room) = λ place level p f o n a is e. let s = enters ls room (at_node place level p f o) n a e in by_kind v ls room (sound v ls proper room) proper place level p f o n a is s.kind s.enters

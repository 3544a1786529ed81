-- Lists, sets and maps of what is read without faults.
use Rattle.std.proofs.Common.{◌≡◌, ◌≢◌, ℕ, suc, ◌*◌, ◌≤◌, List, [], ◌∷◌, ◌++◌, length, map, Result, Ok, Err, refl, sym, ap, subst, ◌∙◌, arith, length-append, append-nil}
use Rattle.std.specs.List.{AllPairs}
use Rattle.exact_reading.specs.declared.stop.Stop.{Stop}
use Rattle.exact_reading.specs.Reading.{◌>>=◌, and_then, one, seen}
use Rattle.frozen_model.specs.Trees.{AList, ASet, AMap}
use Rattle.frozen_model.specs.Values.{Value, Items, key_of}
use Rattle.compact_wire.specs.declared.kind.Kind.{Kind}
use Rattle.compact_wire.specs.declared.header.ListHeader.{ListHeader}
use Rattle.compact_wire.specs.declared.header.PairKinds.{PairKinds}
use Rattle.compact_wire.specs.Codes.{code_of}
use Rattle.compact_wire.specs.Node.{Node, list, set, map as map_node, Nodes, Pairs}
use Rattle.compact_wire.specs.Reads.{value, items, sequence, count, element, mapping, mapping_pairs, map_header, number, most_bytes, pairs}
use Rattle.compact_wire.proofs.ReadSteps.{mapping-none, mapping-some, mapping-pairs}
use Rattle.idl_profile.specs.Types.{TypeTree, scalar, text, bytes, list_of, set_of, map_of, named}
use Rattle.idl_parse.specs.Refs.{element_of, key_of as key_type, value_of as value_type}
use Rattle.type_kinds.specs.Accepted.{IsAccepted}
use Rattle.type_kinds.specs.Laws.{Any}
use Rattle.key_order.specs.Keys.{AreOneKind}
use Rattle.key_order.specs.InOrder.{row, in_order}
use Rattle.typed_tree.specs.Parts.{pairs as pairs_of}
use Rattle.typed_tree.specs.Trees.{last, but_last}
use Rattle.typed_reading.specs.Codes.{code}
use Rattle.typed_reading.specs.Faults.{faults_in, faults_in_pairs, repeats}
use Rattle.typed_reading.specs.Keys.{keys_in, keys_in_pairs}
use Rattle.typed_reading.specs.Meaning.{meanings, meanings_of_pairs}
use Rattle.typed_reading.proofs.Leaves.{one_header}
use Rattle.typed_reading.proofs.Parts.{element_is_key, map_accepted}
use Rattle.typed_reading.proofs.Rows.{row_is}
use Rattle.typed_reading.proofs.Valued.{none_of, clean_below}
use Rattle.typed_reading.specs.Progress.{start}
use Rattle.wire_scan.proofs.Seen.{seen_ok}
use Rattle.compact_codec.specs.Building.{IsClean, AreClean, ArePairsClean, with_value, with_values, by_turns, with_pairs}
use Rattle.compact_codec.proofs.Clean.{clean_not, clean_code, items_count, pairs_count, turns_are, set_keys, map_keys}
use Rattle.compact_codec.proofs.Joins.{last_is, front_is}

-- ---- lists and sets

module _ (make : ℕ → Nodes → Node) (t : TypeTree) (levels : ℕ) (b : List ℕ) (clean : IsClean t (sequence make levels (value levels) b)) where
  pub header_not : (d : Stop) → one_header levels b ≡ Err d → ⊥
  unfolding sequence
  header_not d h = clean_not t (sequence make levels (value levels) b) d clean (rw h refl)

  pub count_not : (h : ListHeader) (rest : List ℕ) (d : Stop) → one_header levels b ≡ Ok (h, rest) → count levels h rest ≡ Err d → ⊥
  unfolding sequence
  count_not h rest d e f = clean_not t (sequence make levels (value levels) b) d clean (rw (e, f) refl)

module _ (t : TypeTree) (levels : ℕ) (b : List ℕ) (h : ListHeader) (rest after : List ℕ) (n : ℕ) (e : one_header levels b ≡ Ok (h, rest)) (f : count levels h rest ≡ Ok (n, after)) where
  abbrev its : Result (Nodes × List ℕ) Stop
  its = items (value levels (element h)) n after

  abbrev made : (ℕ → Nodes → Node) → Nodes × List ℕ → Result (Node × List ℕ) Stop
  made make p = Ok (make (code_of (element h)) p.0, p.1)

  -- what is so of a list or a set whose items are read
  sequence_is : (make : ℕ → Nodes → Node) → sequence make levels (value levels) b ≡ (its >>= made make)
  sequence_is make = row_is make t start levels b h rest after n e f

  pub list_clean : IsClean t (sequence list levels (value levels) b) → (code t ≡ 9) × AreClean (element_of t) its
  list_clean clean = by its (subst (IsClean t) (sequence_is list) clean)
    where
      by : (r : Result (Nodes × List ℕ) Stop) → IsClean t (r >>= made list) → (code t ≡ 9) × AreClean (element_of t) r
      by (Ok p) g =
          let c = clean_below t (list (code_of (element h)) p.0) g.0 (faults_in p.0 (element_of t) (suc g.0)) g.1 in
          (sym (clean_code t (list (code_of (element h)) p.0) c.0), (suc g.0, c.1))
      by (Err d) g = absurd g

  pub list_built : (vs us new : List Value) (end : List ℕ) → seen (with_values (element_of t) vs) its ≡ Ok (us, end) → new ≡ but_last n us ++ Items AList (row (last n us)) ∷ []
      → seen (with_value t vs) (sequence list levels (value levels) b) ≡ Ok (new, end)
  list_built vs us new end s p =
      let x = seen_ok (with_values (element_of t) vs) its us end s in
      let ms = meanings x.0 (element_of t) in
      let many = items_count (element_of t) (value levels (element h)) n after end x.0 x.1 in
      let whole : new ≡ vs ++ Items AList (row ms) ∷ [] =
      p ∙ ap (λ (zs : List Value). but_last n zs ++ Items AList (row (last n zs)) ∷ []) (sym x.2)
      ∙ ap (λ (zs : List Value). zs ++ Items AList (row (last n (vs ++ ms))) ∷ []) (front_is n vs ms many)
      ∙ ap (λ (zs : List Value). vs ++ Items AList (row zs) ∷ []) (last_is n vs ms many) in
      ap (seen (with_value t vs)) (sequence_is list ∙ ap (λ (r : Result (Nodes × List ℕ) Stop). r >>= made list) x.1) ∙ ap (λ (zs : List Value). Ok (zs, end)) (sym whole)

  pub items_there : (vs us : List Value) (end : List ℕ) → seen (with_values (element_of t) vs) its ≡ Ok (us, end) → n ≤ length us
  items_there vs us end s =
      let x = seen_ok (with_values (element_of t) vs) its us end s in
      let many = items_count (element_of t) (value levels (element h)) n after end x.0 x.1 in
      omega (arith, many, length-append vs (meanings x.0 (element_of t)), ap (λ (zs : List Value). length zs) x.2)

  pub set_clean : IsClean t (sequence set levels (value levels) b) → (code t ≡ 10) × AreClean (element_of t) its
  set_clean clean = by its (subst (IsClean t) (sequence_is set) clean)
    where
      by : (r : Result (Nodes × List ℕ) Stop) → IsClean t (r >>= made set) → (code t ≡ 10) × AreClean (element_of t) r
      by (Ok p) g =
          let fs = faults_in p.0 (element_of t) (suc g.0) in
          let c = clean_below t (set (code_of (element h)) p.0) g.0 (fs ++ repeats (keys_in p.0 (suc g.0)) []) g.1 in
          (sym (clean_code t (set (code_of (element h)) p.0) c.0), (suc g.0, (none_of fs (repeats (keys_in p.0 (suc g.0)) []) c.1).0))
      by (Err d) g = absurd g

  pub set_differs : IsAccepted Any t → IsClean t (sequence set levels (value levels) b) → (vs us : List Value) (end : List ℕ) → seen (with_values (element_of t) vs) its ≡ Ok (us, end)
      → AreOneKind (last n us) × AllPairs (λ k l. k ≢ l) (last n us)
  set_differs ok clean vs us end s =
      let x = seen_ok (with_values (element_of t) vs) its us end s in
      let ms = meanings x.0 (element_of t) in
      let many = items_count (element_of t) (value levels (element h)) n after end x.0 x.1 in
      let g = subst (IsClean t) (sequence_is set ∙ ap (λ (r : Result (Nodes × List ℕ) Stop). r >>= made set) x.1) clean in
      let fs = faults_in x.0 (element_of t) (suc g.0) in
      let c = clean_below t (set (code_of (element h)) x.0) g.0 (fs ++ repeats (keys_in x.0 (suc g.0)) []) g.1 in
      let parts = none_of fs (repeats (keys_in x.0 (suc g.0)) []) c.1 in
      let key = element_is_key t (sym (clean_code t (set (code_of (element h)) x.0) c.0)) ok in
      let is : last n us ≡ ms = ap (last n) (sym x.2) ∙ last_is n vs ms many in
      let d = set_keys x.0 (element_of t) (suc g.0) key parts.0 parts.1 in
      (subst AreOneKind (sym is) d.0, subst (AllPairs (λ k l. k ≢ l)) (sym is) d.1)

  pub set_built : (vs us new : List Value) (end : List ℕ) → seen (with_values (element_of t) vs) its ≡ Ok (us, end) → new ≡ but_last n us ++ Items ASet (row (in_order (last n us))) ∷ []
      → seen (with_value t vs) (sequence set levels (value levels) b) ≡ Ok (new, end)
  set_built vs us new end s p =
      let x = seen_ok (with_values (element_of t) vs) its us end s in
      let ms = meanings x.0 (element_of t) in
      let many = items_count (element_of t) (value levels (element h)) n after end x.0 x.1 in
      let whole : new ≡ vs ++ Items ASet (row (in_order ms)) ∷ [] =
      p ∙ ap (λ (zs : List Value). but_last n zs ++ Items ASet (row (in_order (last n zs))) ∷ []) (sym x.2)
      ∙ ap (λ (zs : List Value). zs ++ Items ASet (row (in_order (last n (vs ++ ms)))) ∷ []) (front_is n vs ms many)
      ∙ ap (λ (zs : List Value). vs ++ Items ASet (row (in_order zs)) ∷ []) (last_is n vs ms many) in
      ap (seen (with_value t vs)) (sequence_is set ∙ ap (λ (r : Result (Nodes × List ℕ) Stop). r >>= made set) x.1) ∙ ap (λ (zs : List Value). Ok (zs, end)) (sym whole)

-- ---- maps

module _ (t : TypeTree) (levels : ℕ) (b : List ℕ) (clean : IsClean t (mapping levels (value levels) b)) where
  pub size_not : (d : Stop) → number 4 most_bytes b ≡ Err d → ⊥
  unfolding mapping
  size_not d h = clean_not t (mapping levels (value levels) b) d clean (rw h refl)

  pub kinds_not : (n : ℕ) (rest : List ℕ) (d : Stop) → number 4 most_bytes b ≡ Ok (n, rest) → n ≢ 0 → one (map_header levels) rest ≡ Err d → ⊥
  kinds_not n rest d h some e = clean_not t (mapping levels (value levels) b) d clean (mapping-some levels (value levels) b rest n h some ∙ by)
    where
      by : and_then (one (map_header levels)) (mapping_pairs (value levels) n) rest ≡ Err d
      by = rw e refl

  pub empty_built : (n : ℕ) (rest : List ℕ) (vs new : List Value) → number 4 most_bytes b ≡ Ok (n, rest) → n ≡ 0 → new ≡ but_last 0 vs ++ Items AMap (row (in_order (pairs_of (last 0 vs)))) ∷ []
      → seen (with_value t vs) (mapping levels (value levels) b) ≡ Ok (new, rest)
  empty_built n rest vs new h z p =
      let none : new ≡ vs ++ Items AMap (row []) ∷ [] =
      p ∙ ap (λ (zs : List Value). but_last 0 zs ++ Items AMap (row (in_order (pairs_of (last 0 zs)))) ∷ []) (sym (append-nil vs))
      ∙ ap (λ (zs : List Value). zs ++ Items AMap (row (in_order (pairs_of (last 0 (vs ++ []))))) ∷ []) (front_is 0 vs [] refl)
      ∙ ap (λ (zs : List Value). vs ++ Items AMap (row (in_order (pairs_of zs))) ∷ []) (last_is 0 vs [] refl) in
      ap (seen (with_value t vs)) (mapping-none levels (value levels) b rest n h z) ∙ ap (λ (zs : List Value). Ok (zs, rest)) (sym none)

  module _ (n : ℕ) (rest behind : List ℕ) (kinds : PairKinds) (h : number 4 most_bytes b ≡ Ok (n, rest)) (some : n ≢ 0) (e : one (map_header levels) rest ≡ Ok (kinds, behind)) where
    abbrev read_pairs : Result (Pairs × List ℕ) Stop
    read_pairs = pairs (value levels kinds.key) (value levels kinds.value) n behind

    abbrev made_map : Pairs × List ℕ → Result (Node × List ℕ) Stop
    made_map p = Ok (map_node (code_of kinds.key) (code_of kinds.value) p.0, p.1)

    mapping_is : mapping levels (value levels) b ≡ (read_pairs >>= made_map)
    mapping_is = mapping-pairs levels (value levels) b rest behind n kinds h some e

    pub map_clean : (code t ≡ 11) × ArePairsClean (key_type t) (value_type t) read_pairs
    map_clean = by read_pairs (subst (IsClean t) mapping_is clean)
      where
        by : (r : Result (Pairs × List ℕ) Stop) → IsClean t (r >>= made_map) → (code t ≡ 11) × ArePairsClean (key_type t) (value_type t) r
        by (Ok p) g =
            let fs = faults_in_pairs p.0 (key_type t) (value_type t) (suc g.0) in
            let w = map_node (code_of kinds.key) (code_of kinds.value) p.0 in
            let c = clean_below t w g.0 (fs ++ repeats (keys_in_pairs p.0 (suc g.0)) []) g.1 in
            (sym (clean_code t w c.0), (suc g.0, (none_of fs (repeats (keys_in_pairs p.0 (suc g.0)) []) c.1).0))
        by (Err d) g = absurd g

    module _ (vs us : List Value) (end : List ℕ) (s : seen (with_pairs (key_type t) (value_type t) vs) read_pairs ≡ Ok (us, end)) where
      pub pairs_there : 2 * n ≤ length us
      pairs_there =
          let x = seen_ok (with_pairs (key_type t) (value_type t) vs) read_pairs us end s in
          let many = pairs_count (key_type t) (value_type t) (value levels kinds.key) (value levels kinds.value) n behind end x.0 x.1 in
          omega (arith, many, length-append vs (by_turns x.0 (key_type t) (value_type t)), ap (λ (zs : List Value). length zs) x.2)

      pub map_differs : IsAccepted Any t → AreOneKind (map key_of (pairs_of (last (2 * n) us))) × AllPairs (λ k l. k ≢ l) (map key_of (pairs_of (last (2 * n) us)))
      map_differs ok =
          let x = seen_ok (with_pairs (key_type t) (value_type t) vs) read_pairs us end s in
          let ms = by_turns x.0 (key_type t) (value_type t) in
          let many = pairs_count (key_type t) (value_type t) (value levels kinds.key) (value levels kinds.value) n behind end x.0 x.1 in
          let w = map_node (code_of kinds.key) (code_of kinds.value) x.0 in
          let g = subst (IsClean t) (mapping_is ∙ ap (λ (r : Result (Pairs × List ℕ) Stop). r >>= made_map) x.1) clean in
          let fs = faults_in_pairs x.0 (key_type t) (value_type t) (suc g.0) in
          let c = clean_below t w g.0 (fs ++ repeats (keys_in_pairs x.0 (suc g.0)) []) g.1 in
          let parts = none_of fs (repeats (keys_in_pairs x.0 (suc g.0)) []) c.1 in
          let key = map_accepted t (sym (clean_code t w c.0)) ok in
          let is : pairs_of (last (2 * n) us) ≡ meanings_of_pairs x.0 (key_type t) (value_type t) =
          ap (λ (zs : List Value). pairs_of (last (2 * n) zs)) (sym x.2) ∙ ap pairs_of (last_is (2 * n) vs ms many) ∙ turns_are x.0 (key_type t) (value_type t) in
          let d = map_keys x.0 (key_type t) (value_type t) (suc g.0) key.0 parts.0 parts.1 in
          (subst (λ (zs : List Value). AreOneKind (map key_of zs)) (sym is) d.0, subst (λ (zs : List Value). AllPairs (λ k l. k ≢ l) (map key_of zs)) (sym is) d.1)

      pub map_built : (new : List Value) → new ≡ but_last (2 * n) us ++ Items AMap (row (in_order (pairs_of (last (2 * n) us)))) ∷ [] → seen (with_value t vs) (mapping levels (value levels) b) ≡ Ok (new, end)
      map_built new p =
          let x = seen_ok (with_pairs (key_type t) (value_type t) vs) read_pairs us end s in
          let ms = by_turns x.0 (key_type t) (value_type t) in
          let many = pairs_count (key_type t) (value_type t) (value levels kinds.key) (value levels kinds.value) n behind end x.0 x.1 in
          let whole : new ≡ vs ++ Items AMap (row (in_order (meanings_of_pairs x.0 (key_type t) (value_type t)))) ∷ [] =
          p ∙ ap (λ (zs : List Value). but_last (2 * n) zs ++ Items AMap (row (in_order (pairs_of (last (2 * n) zs)))) ∷ []) (sym x.2)
          ∙ ap (λ (zs : List Value). zs ++ Items AMap (row (in_order (pairs_of (last (2 * n) (vs ++ ms))))) ∷ []) (front_is (2 * n) vs ms many)
          ∙ ap (λ (zs : List Value). vs ++ Items AMap (row (in_order (pairs_of zs))) ∷ []) (last_is (2 * n) vs ms many)
          ∙ ap (λ (zs : List Value). vs ++ Items AMap (row (in_order zs)) ∷ []) (turns_are x.0 (key_type t) (value_type t)) in
          ap (seen (with_value t vs)) (mapping_is ∙ ap (λ (r : Result (Pairs × List ℕ) Stop). r >>= made_map) x.1) ∙ ap (λ (zs : List Value). Ok (zs, end)) (sym whole)

-- ---- the same with other names for types and kinds

pub items_as : (levels n : ℕ) (b : List ℕ) (u t : TypeTree) (k j : Kind) (vs us : List Value) (end : List ℕ) → u ≡ t → k ≡ j → seen (with_values u vs) (items (value levels k) n b) ≡ Ok (us, end)
    → seen (with_values t vs) (items (value levels j) n b) ≡ Ok (us, end)
items_as levels n b u t k j vs us end e f h =
    subst (λ (z : Kind). seen (with_values t vs) (items (value levels z) n b) ≡ Ok (us, end)) f (subst (λ (z : TypeTree). seen (with_values z vs) (items (value levels k) n b) ≡ Ok (us, end)) e h)

pub clean_as : (levels n : ℕ) (b : List ℕ) (u t : TypeTree) (k j : Kind) → u ≡ t → k ≡ j → AreClean t (items (value levels j) n b) → AreClean u (items (value levels k) n b)
clean_as levels n b u t k j e f h =
    subst (λ (z : Kind). AreClean u (items (value levels z) n b)) (sym f) (subst (λ (z : TypeTree). AreClean z (items (value levels j) n b)) (sym e) h)

pub pairs_as : (k j u t : TypeTree) (r : Result (Pairs × List ℕ) Stop) (vs us : List Value) (end : List ℕ) → k ≡ j → u ≡ t → seen (with_pairs k u vs) r ≡ Ok (us, end) → seen (with_pairs j t vs) r ≡ Ok (us, end)
pairs_as k j u t r vs us end e f h =
    subst (λ (z : TypeTree). seen (with_pairs j z vs) r ≡ Ok (us, end)) f (subst (λ (z : TypeTree). seen (with_pairs z u vs) r ≡ Ok (us, end)) e h)

pub pairs_clean_as : (k j u t : TypeTree) (r : Result (Pairs × List ℕ) Stop) → k ≡ j → u ≡ t → ArePairsClean j t r → ArePairsClean k u r
pairs_clean_as k j u t r e f h = subst (λ (z : TypeTree). ArePairsClean k z r) (sym f) (subst (λ (z : TypeTree). ArePairsClean z t r) (sym e) h)

pub key_accepted : (t : TypeTree) → IsAccepted Any t → IsAccepted Any (key_type t)
key_accepted (map_of x y) h = h.1
key_accepted (set_of x) h = h
key_accepted (list_of x) h = h
key_accepted text h = h
key_accepted bytes h = h
key_accepted (scalar s) h = h
key_accepted (named n) h = h

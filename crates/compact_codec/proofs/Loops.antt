-- Items and pairs that are read one after the other and put.
use Rattle.std.proofs.Common.{◌≡◌, ℕ, suc, ◌+◌, ◌-◌, ◌<◌, ◌≤◌, List, [], ◌∷◌, ◌++◌, Result, Ok, sym, subst, ◌∙◌, arith, append_assoc, append-nil}
use Rattle.exact_reading.specs.declared.stop.Stop.{Stop}
use Rattle.exact_reading.specs.Reading.{seen}
use Rattle.frozen_model.specs.Values.{Value}
use Rattle.compact_wire.specs.Bytes.{ByteReader}
use Rattle.compact_wire.specs.Node.{Node, Nodes, no_nodes, node, Pairs, no_pairs, pair}
use Rattle.compact_wire.specs.Reads.{items, pairs}
use Rattle.idl_profile.specs.Types.{TypeTree}
use Rattle.typed_reading.specs.Meaning.{meaning, meanings}
use Rattle.wire_scan.proofs.Seen.{seen_ok, items_go_on, items_done, pairs_go_on, pairs_done}
use Rattle.compact_codec.specs.Building.{IsClean, AreClean, ArePairsClean, with_value, with_values, by_turns, with_pairs}
use Rattle.compact_codec.proofs.Clean.{first_clean, others_clean, key_first, value_second, others_of_pairs}

no_more : (t : TypeTree) (vs : List Value) → with_values t vs no_nodes ≡ vs
no_more t vs = append-nil vs

one_more : (t : TypeTree) (vs : List Value) (x : Node) (xs : Nodes) → with_values t vs (node x xs) ≡ with_values t (with_value t vs x) xs
one_more t vs x xs = sym (append_assoc vs (meaning x t ∷ []) (meanings xs t))

module _ (t : TypeTree) (v : ByteReader Node) (count i : ℕ) (b : List ℕ) (lt : i < count) (clean : AreClean t (items v (count - i) b)) where
  counted : count - i ≡ suc (count - (i + 1))
  counted = omega (arith, lt)

  as_first : AreClean t (items v (suc (count - (i + 1))) b)
  as_first = subst (λ (n : ℕ). AreClean t (items v n b)) counted clean

  pub item_clean : IsClean t (v b)
  item_clean = first_clean t v (count - (i + 1)) b as_first

  pub item_on : (vs us : List Value) (after : List ℕ) (total : Result (List Value × List ℕ) Stop) → seen (with_value t vs) (v b) ≡ Ok (us, after) → seen (with_values t vs) (items v (count - i) b) ≡ total
      → AreClean t (items v (count - (i + 1)) after) × (seen (with_values t us) (items v (count - (i + 1)) after) ≡ total)
  item_on vs us after total h so_far =
      let x = seen_ok (with_value t vs) (v b) us after h in
      (others_clean t v (count - (i + 1)) b after x.0 as_first x.1, items_go_on (with_value t) (with_values t) (no_more t) (one_more t) v vs us count i b after total lt h so_far)

pub items_end : (t : TypeTree) (v : ByteReader Node) (vs : List Value) (count i : ℕ) (b : List ℕ) (total : Result (List Value × List ℕ) Stop) → count ≤ i → seen (with_values t vs) (items v (count - i) b) ≡ total → total ≡ Ok (vs, b)
items_end t v vs count i b total le so_far = items_done (with_value t) (with_values t) (no_more t) (one_more t) v vs count i b total le so_far

-- ---- pairs

no_more_pairs : (k v : TypeTree) (vs : List Value) → with_pairs k v vs no_pairs ≡ vs
no_more_pairs k v vs = append-nil vs

one_more_pair : (k v : TypeTree) (vs : List Value) (x y : Node) (xs : Pairs) → with_pairs k v vs (pair x y xs) ≡ with_pairs k v (with_value v (with_value k vs x) y) xs
one_more_pair k v vs x y xs =
    sym (append_assoc vs (meaning x k ∷ []) (meaning y v ∷ by_turns xs k v)) ∙ sym (append_assoc (vs ++ meaning x k ∷ []) (meaning y v ∷ []) (by_turns xs k v))

module _ (k v : TypeTree) (a c : ByteReader Node) (count i : ℕ) (b : List ℕ) (lt : i < count) (clean : ArePairsClean k v (pairs a c (count - i) b)) where
  counted_pairs : count - i ≡ suc (count - (i + 1))
  counted_pairs = omega (arith, lt)

  as_first_pair : ArePairsClean k v (pairs a c (suc (count - (i + 1))) b)
  as_first_pair = subst (λ (n : ℕ). ArePairsClean k v (pairs a c n b)) counted_pairs clean

  pub pair_key_clean : IsClean k (a b)
  pair_key_clean = key_first k v a c (count - (i + 1)) b as_first_pair

  module _ (vs us : List Value) (mid : List ℕ) (h : seen (with_value k vs) (a b) ≡ Ok (us, mid)) where
    pub pair_value_clean : IsClean v (c mid)
    pair_value_clean = let x = seen_ok (with_value k vs) (a b) us mid h in value_second k v a c (count - (i + 1)) b mid x.0 as_first_pair x.1

    pub pair_on : (ws : List Value) (after : List ℕ) (total : Result (List Value × List ℕ) Stop) → seen (with_value v us) (c mid) ≡ Ok (ws, after) → seen (with_pairs k v vs) (pairs a c (count - i) b) ≡ total
        → ArePairsClean k v (pairs a c (count - (i + 1)) after) × (seen (with_pairs k v ws) (pairs a c (count - (i + 1)) after) ≡ total)
    pair_on ws after total j so_far =
        let x = seen_ok (with_value k vs) (a b) us mid h in
        let y = seen_ok (with_value v us) (c mid) ws after j in (
          others_of_pairs k v a c (count - (i + 1)) b mid after x.0 y.0 as_first_pair x.1 y.1,
          pairs_go_on (with_value k) (with_value v) (with_pairs k v) (no_more_pairs k v) (one_more_pair k v) a c vs us ws count i b mid after total lt h j so_far,
        )

pub pairs_end : (k v : TypeTree) (a c : ByteReader Node) (vs : List Value) (count i : ℕ) (b : List ℕ) (total : Result (List Value × List ℕ) Stop) → count ≤ i → seen (with_pairs k v vs) (pairs a c (count - i) b) ≡ total → total ≡ Ok (vs, b)
pairs_end k v a c vs count i b total le so_far = pairs_done (with_value k) (with_value v) (with_pairs k v) (no_more_pairs k v) (one_more_pair k v) a c vs count i b total le so_far

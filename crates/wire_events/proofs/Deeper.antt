-- What is spelled where some levels may open is spelled where more may.
use Rattle.std.proofs.Common.{ℕ, zero, suc, ◌≤◌, List, arith}
use Rattle.std.specs.Prelude.{ℤ}
use Rattle.compact_wire.specs.declared.kind.Kind.{Kind}
use Rattle.compact_wire.specs.Node.{Node, Nodes, Pairs, Fields, structure}
use Rattle.compact_wire.specs.Spells.{Spells, SpellsItems, SpellsPairs, SpellsFields, SpellsWire, is_true, is_false, is_i8, is_i16, is_i32, is_i64, is_double, is_binary, is_list, is_set, is_no_map, is_map, is_struct, no_items, item, no_pair, one_pair, the_end, flag_field, other_field}

mutual
  deeper : (l m : ℕ) (kind : Kind) (x : Node) (t : List ℕ) → l ≤ m → Spells l kind x t → Spells m kind x t
  deeper _ m _ _ _ le (is_true l t e) = is_true m t e
  deeper _ m _ _ _ le (is_false l b t h e) = is_false m b t h e
  deeper _ m _ _ _ le (is_i8 l z b t h e) = is_i8 m z b t h e
  deeper _ m _ _ _ le (is_i16 l z t h) = is_i16 m z t h
  deeper _ m _ _ _ le (is_i32 l z t h) = is_i32 m z t h
  deeper _ m _ _ _ le (is_i64 l z t h) = is_i64 m z t h
  deeper _ m _ _ _ le (is_double l t h g) = is_double m t h g
  deeper _ m _ _ _ le (is_binary l x t h n g e) = is_binary m x t h n g e
  deeper _ zero _ _ _ le (is_list l kind n xs t h u p q e) = absurd (omega arith)
  deeper _ (suc m) _ _ _ le (is_list l kind n xs t h u p q e) = is_list m kind n xs t h u p (deeper_items l m kind n xs u (omega arith) q) e
  deeper _ zero _ _ _ le (is_set l kind n xs t h u p q e) = absurd (omega arith)
  deeper _ (suc m) _ _ _ le (is_set l kind n xs t h u p q e) = is_set m kind n xs t h u p (deeper_items l m kind n xs u (omega arith) q) e
  deeper _ zero _ _ _ le (is_no_map l t h) = absurd (omega arith)
  deeper _ (suc m) _ _ _ le (is_no_map l t h) = is_no_map m t h
  deeper _ zero _ _ _ le (is_map l key value n c d xs t h u i j k o p q e) = absurd (omega arith)
  deeper _ (suc m) _ _ _ le (is_map l key value n c d xs t h u i j k o p q e) = is_map m key value n c d xs t h u i j k o p (deeper_pairs l m key value (suc n) xs u (omega arith) q) e
  deeper _ zero _ _ _ le (is_struct l xs t p) = absurd (omega arith)
  deeper _ (suc m) _ _ _ le (is_struct l xs t p) = is_struct m xs t (deeper_fields l m _ xs t (omega arith) p)

  deeper_items : (l m : ℕ) (kind : Kind) (n : ℕ) (xs : Nodes) (t : List ℕ) → l ≤ m → SpellsItems l kind n xs t → SpellsItems m kind n xs t
  deeper_items _ m _ _ _ _ le (no_items l kind t e) = no_items m kind t e
  deeper_items _ m _ _ _ _ le (item l kind n x xs t u v p q e) = item m kind n x xs t u v (deeper l m kind x u le p) (deeper_items l m kind n xs v le q) e

  deeper_pairs : (l m : ℕ) (a b : Kind) (n : ℕ) (xs : Pairs) (t : List ℕ) → l ≤ m → SpellsPairs l a b n xs t → SpellsPairs m a b n xs t
  deeper_pairs _ m _ _ _ _ _ le (no_pair l a b t e) = no_pair m a b t e
  deeper_pairs _ m _ _ _ _ _ le (one_pair l a b n x y xs t u v w p q r e) = one_pair m a b n x y xs t u v w (deeper l m a x u le p) (deeper l m b y v le q) (deeper_pairs l m a b n xs w le r) e

  deeper_fields : (l m : ℕ) (before : ℤ) (xs : Fields) (t : List ℕ) → l ≤ m → SpellsFields l before xs t → SpellsFields m before xs t
  deeper_fields _ m _ _ _ le (the_end l before t e) = the_end m before t e
  deeper_fields _ m _ _ _ le (flag_field l before id c x xs t h v p q r e) = flag_field m before id c x xs t h v p q (deeper_fields l m id xs v le r) e
  deeper_fields _ m _ _ _ le (other_field l before id c kind x xs t h u v p q r s e) = other_field m before id c kind x xs t h u v p q (deeper l m kind x u le r) (deeper_fields l m id xs v le s) e

-- a struct at any level is one by itself
pub struct_alone : (l : ℕ) (kind : Kind) (xs : Fields) (t : List ℕ) → l ≤ 64 → Spells l kind (structure xs) t → SpellsWire (structure xs) t
struct_alone _ _ _ _ le (is_struct l xs t p) = is_struct 63 xs t (deeper_fields l 63 _ xs t (omega arith) p)

-- What has a spelling has codes that fit their four bits.
use Rattle.std.proofs.Common.{ℕ, List, arith}
use Rattle.std.specs.Prelude.{ℤ}
use Rattle.compact_wire.specs.declared.kind.Kind.{Kind}
use Rattle.compact_wire.specs.declared.kind.Kind.TheVariants as k
use Rattle.compact_wire.specs.Node.{Node, Nodes, Pairs, Fields}
use Rattle.compact_wire.specs.Spells.{Spells, is_true, is_false, is_i8, is_i16, is_i32, is_i64, is_double}
use Rattle.compact_wire.specs.Spells.{is_binary, is_list, is_set, is_no_map, is_map, is_struct, SpellsItems}
use Rattle.compact_wire.specs.Spells.{no_items, item, SpellsPairs, no_pair, one_pair, SpellsFields, the_end}
use Rattle.compact_wire.specs.Spells.{flag_field, other_field}
use Rattle.compact_wire.specs.Canon.{FitsWire}
use Rattle.compact_wire.specs.Writes.{CodesFit, CodesFitAll, CodesFitPairs, CodesFitFields}
use Rattle.compact_wire.proofs.CanonLaws.{kind_code}

mutual
  value_fits : (l : ℕ) (kind : Kind) (w : Node) (t : List ℕ) → Spells l kind w t → CodesFit w
  value_fits l kind w t (is_true _ _ _) = tt
  value_fits l kind w t (is_false _ _ _ _ _) = tt
  value_fits l kind w t (is_i8 _ _ _ _ _ _) = tt
  value_fits l kind w t (is_i16 _ _ _ _) = tt
  value_fits l kind w t (is_i32 _ _ _ _) = tt
  value_fits l kind w t (is_i64 _ _ _ _) = tt
  value_fits l kind w t (is_double _ _ _ _) = tt
  value_fits l kind w t (is_binary _ _ _ _ _ _ _) = tt
  value_fits l kind w t (is_list m a n xs _ h u header its e) = ((kind_code a).1, items_fit m a n xs u its)
  value_fits l kind w t (is_set m a n xs _ h u header its e) = ((kind_code a).1, items_fit m a n xs u its)
  value_fits l kind w t (is_no_map m _ number_is) = (omega arith, omega arith, tt)
  value_fits l kind w t (is_map m a b n c d xs _ h u number_is c_lt d_lt c_is d_is its e) =
      ((kind_code a).1, (kind_code b).1, pairs_fit m a b _ xs u its)
  value_fits l kind w t (is_struct m xs _ its) = fields_fit m _ xs t its

  items_fit : (l : ℕ) (kind : Kind) (n : ℕ) (xs : Nodes) (t : List ℕ) → SpellsItems l kind n xs t
      → CodesFitAll xs
  items_fit l kind n xs t (no_items _ _ _ _) = tt
  items_fit l kind n xs t (item _ _ m x ys _ u v p q e) = (value_fits l kind x u p, items_fit l kind m ys v q)

  pairs_fit : (l : ℕ) (a b : Kind) (n : ℕ) (xs : Pairs) (t : List ℕ) → SpellsPairs l a b n xs t
      → CodesFitPairs xs
  pairs_fit l a b n xs t (no_pair _ _ _ _ _) = tt
  pairs_fit l a b n xs t (one_pair _ _ _ m x y ys _ u v w p q r e) =
      (value_fits l a x u p, value_fits l b y v q, pairs_fit l a b m ys w r)

  fields_fit : (l : ℕ) (before : ℤ) (xs : Fields) (t : List ℕ) → SpellsFields l before xs t
      → CodesFitFields xs
  fields_fit l before xs t (the_end _ _ _ _) = tt
  fields_fit l before xs t (flag_field _ _ id c x ys _ h v header code its e) = (tt, fields_fit l id ys v its)
  fields_fit l before xs t (other_field _ _ id c kind x ys _ h u v header code p its e) =
      (value_fits l kind x u p, fields_fit l id ys v its)

pub codes_fit : (w : Node) → FitsWire w → CodesFit w
codes_fit w (b, is) = value_fits 64 k.Struct w b is

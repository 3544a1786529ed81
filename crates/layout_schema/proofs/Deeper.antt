-- What is spelled where some levels may open is spelled the same where more may, and what is read is spelled.
use Rattle.std.proofs.Common.{◌≡◌, ℕ, suc, List, [], ◌∷◌, ◌++◌, length, Option, Ok, arith, refl, sym, ap, subst, ◌∙◌}
use Rattle.std.specs.Prelude.{ℤ, pos}
use Rattle.std.proofs.lemmas.List.{append-nil}
use Rattle.exact_reading.proofs.Items.{admitted-back}
use Rattle.compact_wire.specs.declared.kind.Kind.{Kind}
use Rattle.compact_wire.specs.declared.kind.Kind.TheVariants as k
use Rattle.compact_wire.specs.Node.{Node, Nodes, Pairs, Fields}
use Rattle.compact_wire.specs.Bytes.{IsByte, AreBytes}
use Rattle.compact_wire.specs.Reads.{value, number, most_bytes}
use Rattle.compact_wire.proofs.NumberLaws.{number_exact}
use Rattle.exact_reading.specs.Reading.{one}
use Rattle.exact_reading.proofs.Combinators.{meaning_ok}
use Rattle.compact_wire.specs.Spells.{Spells, is_true, is_false, is_i8, is_i16, is_i32, is_i64, is_double, is_binary, is_list, is_set, is_no_map, is_map, is_struct}
use Rattle.compact_wire.specs.Spells.{SpellsItems, no_items, item, SpellsPairs, no_pair, one_pair, SpellsFields, the_end, flag_field, other_field, SpellsWire}
use Rattle.compact_wire.proofs.StructLaws.{value_layer}

mutual
  deeper : (l : ℕ) (kind : Kind) (w : Node) (t : List ℕ) → Spells l kind w t → Spells (suc l) kind w t
  deeper l kind w t (is_true _ _ e) = is_true (suc l) t e
  deeper l kind w t (is_false _ b _ z e) = is_false (suc l) b t z e
  deeper l kind w t (is_i8 _ z b _ s e) = is_i8 (suc l) z b t s e
  deeper l kind w t (is_i16 _ z _ n) = is_i16 (suc l) z t n
  deeper l kind w t (is_i32 _ z _ n) = is_i32 (suc l) z t n
  deeper l kind w t (is_i64 _ z _ n) = is_i64 (suc l) z t n
  deeper l kind w t (is_double _ _ n are) = is_double (suc l) t n are
  deeper l kind w t (is_binary _ x _ h n are e) = is_binary (suc l) x t h n are e
  deeper l kind w t (is_list m i n xs _ h u header its e) = is_list (suc m) i n xs t h u header (deeper_items m i n xs u its) e
  deeper l kind w t (is_set m i n xs _ h u header its e) = is_set (suc m) i n xs t h u header (deeper_items m i n xs u its) e
  deeper l kind w t (is_no_map m _ n) = is_no_map (suc m) t n
  deeper l kind w t (is_map m a b n c d xs _ h u count low lower first second its e) =
      is_map (suc m) a b n c d xs t h u count low lower first second (deeper_pairs m a b (suc n) xs u its) e
  deeper l kind w t (is_struct m xs _ its) = is_struct (suc m) xs t (deeper_fields m (pos 0) xs t its)

  deeper_items : (l : ℕ) (kind : Kind) (n : ℕ) (xs : Nodes) (t : List ℕ) → SpellsItems l kind n xs t → SpellsItems (suc l) kind n xs t
  deeper_items l kind n xs t (no_items _ _ _ e) = no_items (suc l) kind t e
  deeper_items l kind n xs t (item _ _ m x ys _ u v first rest e) =
      item (suc l) kind m x ys t u v (deeper l kind x u first) (deeper_items l kind m ys v rest) e

  deeper_pairs : (l : ℕ) (a b : Kind) (n : ℕ) (xs : Pairs) (t : List ℕ) → SpellsPairs l a b n xs t → SpellsPairs (suc l) a b n xs t
  deeper_pairs l a b n xs t (no_pair _ _ _ _ e) = no_pair (suc l) a b t e
  deeper_pairs l a b n xs t (one_pair _ _ _ m x y ys _ u v w first second rest e) =
      one_pair (suc l) a b m x y ys t u v w (deeper l a x u first) (deeper l b y v second) (deeper_pairs l a b m ys w rest) e

  deeper_fields : (l : ℕ) (before : ℤ) (xs : Fields) (t : List ℕ) → SpellsFields l before xs t → SpellsFields (suc l) before xs t
  deeper_fields l before xs t (the_end _ _ _ e) = the_end (suc l) before t e
  deeper_fields l before xs t (flag_field _ _ id c x ys _ h v header code rest e) =
      flag_field (suc l) before id c x ys t h v header code (deeper_fields l id ys v rest) e
  deeper_fields l before xs t (other_field _ _ id c kind x ys _ h u v header code its rest e) =
      other_field (suc l) before id c kind x ys t h u v header code (deeper l kind x u its) (deeper_fields l id ys v rest) e

-- a struct that is read behind others is spelled by the bytes up to those behind it
pub struct_cut : (b : List ℕ) (w : Node) (rest : List ℕ) → AreBytes b → value 62 k.Struct b ≡ Ok (w, rest) → (t : List ℕ) × SpellsWire w t × (b ≡ t ++ rest)
struct_cut b w rest h e =
    let s = ((value_layer 62).exact k.Struct refl (suc (length b))).sound b w rest h (omega arith) e in
    (s.0, deeper 63 k.Struct w s.0 (deeper 62 k.Struct w s.0 s.1), s.2)

pub value_spelled : (l : ℕ) (kind : Kind) (b : List ℕ) (w : Node) (rest : List ℕ) → AreBytes b → value (suc l) kind b ≡ Ok (w, rest) → (t : List ℕ) × Spells (suc l) kind w t
value_spelled l kind b w rest h e =
    let s = ((value_layer (suc l)).exact kind refl (suc (length b))).sound b w rest h (omega arith) e in
    (s.0, s.1)

-- and what is spelled is read
pub wire_read : (b : List ℕ) (w : Node) → SpellsWire w b → value 64 k.Struct b ≡ Ok (w, [])
wire_read b w s =
    ap (value 64 k.Struct) (sym (append-nil b))
    ∙ ((value_layer 64).exact k.Struct refl (suc (length (b ++ [])))).complete w b [] s (omega arith)

-- bytes behind what is read
pub bytes_behind : (l : ℕ) (kind : Kind) (b : List ℕ) (w : Node) (rest : List ℕ) → AreBytes b → value (suc l) kind b ≡ Ok (w, rest) → AreBytes rest
bytes_behind l kind b w rest h e =
    let s = ((value_layer (suc l)).exact kind refl (suc (length b))).sound b w rest h (omega arith) e in
    admitted-back IsByte s.0 rest (subst AreBytes s.2 h)

pub number_behind : (b : List ℕ) (n : ℕ) (rest : List ℕ) → AreBytes b → number 4 most_bytes b ≡ Ok (n, rest) → AreBytes rest
number_behind b n rest h e =
    let s = (number_exact 4 most_bytes (suc (length b))).sound b n rest h (omega arith) e in
    admitted-back IsByte s.0 rest (subst AreBytes s.2 h)

pub one_behind : {A : Type 0} (f : ℕ → Option A) (b : List ℕ) (x : A) (rest : List ℕ) → AreBytes b → one f b ≡ Ok (x, rest) → AreBytes rest
one_behind f [] x rest h e = absurd cc
one_behind f (c ∷ b) x rest h e = subst AreBytes (meaning_ok IsByte (f c) b x rest e).1 h.1

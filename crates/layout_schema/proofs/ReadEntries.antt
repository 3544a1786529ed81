-- The parts of a schema's value, and the layout with a number among its layouts.
use Rattle.std.proofs.Common.{◌≡◌, ◌≢◌, ◌⊎◌, inl, inr, ℕ, ◌+◌, ◌≤◌, zero, suc, ◌<◌, Bool, true, false, List, [], ◌∷◌, length, Option, Some, None, refl, sym, ap, ◌∙◌, subst, arith, rules}
use mir.Val.{SFits, to_z, of_z}
use mir.Syntax.{w16, w32, w64}
use lib.Signed.{◌<ℤ◌}
use Rattle.std.proofs.Math.Facts.{sfits_widen}
use Rattle.std.specs.Prelude.{ℤ, pos, negsuc, int_lt}
use Rattle.std.specs.Ordering.{int_eq}
use Rattle.std.specs.List.{slice_get}
use Rattle.std.proofs.lemmas.Int.{ints, to_z-of_z}
use Rattle.std.proofs.lemmas.Bool.Decides.{Decides-int_eq}
use Rattle.frozen_model.specs.Trees.{Whole, Integer, I16, I32, AMap, Leaf, ByteRange, ByteKind, ItemRange, KindTree, value_bits}
use Rattle.frozen_model.specs.Values.{Value, Values, Truth, Number, One, Items, Record, NoValue, And, Of, OfEach, one, bytes, items, none, more, part, no_part, record_of, InBits, Rises, count, nth, key_of}
use Rattle.frozen_model.specs.Layouts.{Version1, Version2}
use Rattle.idl_profile.specs.Types.{scalar, i16}
use Rattle.type_kinds.specs.KindsOf.{kinds_of}
use Rattle.typed_tree.specs.Spots.{pair}
use Rattle.typed_tree.specs.Ranges.{pair_kinds}
use Rattle.typed_tree.specs.Parts.{items_of, fields_of, IsInt, IsBytes, IsItems, IsMap, IsRecord, field_of}
use Rattle.typed_tree.proofs.Celled.{key-of-pair, value-of-pair}
use Rattle.compact_codec.specs.Wire.{number_in}
use Rattle.layout_schema.specs.Schemas.{field_type, layout_type}
use Rattle.layout_schema.specs.Shapes as shapes
use Rattle.layout_schema.specs.Shapes.{Child, child_in, children_in, entry_in, entry_of, is_walked, unwalked}
use Rattle.layout_schema.specs.Reading.{AreLayouts, IsLayoutValue, IsSchemaValue}

-- ---- forms of values of a kind

-- a number in the range of its kind
pub record IsNumber (k : Whole) (v : Value) : Type 0 where
  pub number : ℤ
  pub is : v ≡ One (Number number)
  pub within : InBits (value_bits k) number

abbrev number_kind : Whole → KindTree
number_kind k = Leaf (Integer k) tt

abbrev bytes_kind : ByteKind → KindTree
bytes_kind t = ByteRange t tt tt

pub number_form : {k : Whole} {v : Value} → Of (number_kind k) v → IsNumber k v
number_form (one {x = Number z} h) = record { number = z; is = refl; within = h }
number_form (one {x = Truth b} h) = absurd h

pub is_int : {k : Whole} {v : Value} → IsNumber k v → IsInt v
is_int n = subst IsInt (sym n.is) tt

pub in_bits : {k : Whole} {v : Value} → IsNumber k v → InBits (value_bits k) (number_in v)
in_bits {k = k} n = subst (λ v. InBits (value_bits k) (number_in v)) (sym n.is) n.within

-- a map, its keys rising
pub record IsMapOf (l : KindTree) (v : Value) : Type 0 where
  pub pairs : Values
  pub is : v ≡ Items AMap pairs
  pub rise : Rises AMap None pairs
  pub each : OfEach l pairs

pub map_form : {l : KindTree} {v : Value} → Of (ItemRange AMap tt tt l) v → IsMapOf l v
map_form (items {vs = vs} few rise each) = record { pairs = vs; is = refl; rise = rise; each = each }

pub is_map : {l : KindTree} {v : Value} → IsMapOf l v → IsMap v
is_map m = subst IsMap (sym m.is) tt

pub is_items : {l : KindTree} {v : Value} → IsMapOf l v → IsItems v
is_items m = subst IsItems (sym m.is) tt

pub each_of : {l : KindTree} {v : Value} → IsMapOf l v → OfEach l (items_of v)
each_of {l = l} m = subst (λ v. OfEach l (items_of v)) (sym m.is) m.each

pub rises_of : {l : KindTree} {v : Value} → IsMapOf l v → Rises AMap None (items_of v)
rises_of m = subst (λ v. Rises AMap None (items_of v)) (sym m.is) m.rise

bytes_form : {t : ByteKind} {v : Value} → Of (bytes_kind t) v → IsBytes v
bytes_form (bytes few small spelled) = tt

-- ---- a child

-- what a layout says of a child
pub record IsChild (v : Value) : Type 0 where
  pub two : count (fields_of v) ≡ 2
  pub number : IsNumber I16 (nth (fields_of v) 0)
  pub offset : IsNumber I16 (nth (fields_of v) 1)

pub child_form : {v : Value} → Of (kinds_of field_type) v → IsChild v
child_form (record_of e (part n (part o no_part))) = record { two = refl; number = number_form n; offset = number_form o }

pub child_count : (vs : Values) → length (children_in vs) ≡ count vs
child_count NoValue = refl
child_count (And v vs) = ap suc (child_count vs)

pub child_at : (vs : Values) (i : ℕ) → i < count vs → slice_get (children_in vs) i ≡ Some (child_in (nth vs i))
child_at NoValue i lt = absurd (omega (arith, lt))
child_at (And v vs) zero lt = refl
child_at (And v vs) (suc i) lt = child_at vs i (omega (arith, lt))

-- ---- a layout

child_kinds : KindTree
child_kinds = pair_kinds (kinds_of (scalar i16)) (kinds_of field_type)

pub record IsEntry (x : Value) : Type 0 where
  pub many : 3 < count (fields_of x)
  pub size : IsNumber I32 (nth (fields_of x) 0)
  pub bits : IsNumber I16 (nth (fields_of x) 1)
  pub children : IsMapOf (pair_kinds (kinds_of (scalar i16)) (kinds_of field_type)) (nth (fields_of x) 2)
  pub name : IsBytes (nth (fields_of x) 3)
  pub whole : IsRecord x

pub entry_form : (x : Value) → IsLayoutValue x → IsEntry x
entry_form _ (Version1, record_of e (part s (part b (part c (part n no_part))))) = record {
  many = omega arith;
  size = number_form s;
  bits = number_form b;
  children = map_form c;
  name = bytes_form n;
  whole = tt;
}
entry_form _ (Version2, record_of e (part s (part b (part c (part n (part z no_part)))))) = record {
  many = omega arith;
  size = number_form s;
  bits = number_form b;
  children = map_form c;
  name = bytes_form n;
  whole = tt;
}

-- ---- the layouts by their numbers

-- the number under which the layout at a place stands
abbrev pub key_at : Values → ℕ → ℤ
key_at ls i = number_in (shapes.part (nth ls i) 0)

pub found_at : (ls : Values) (n i : ℕ) → i < count ls → key_at ls i ≡ pos n → ((j : ℕ) → j < i → key_at ls j ≢ pos n)
    → entry_of ls n ≡ Some (entry_in (shapes.part (nth ls i) 1))
found_at NoValue n i lt e before = absurd (omega (arith, lt))
found_at (And v vs) n zero lt e before = rw ((Decides-int_eq (number_in (shapes.part v 0)) (pos n)).1 e) refl
found_at (And v vs) n (suc i) lt e before =
    by_test (int_eq (number_in (shapes.part v 0)) (pos n)) refl (found_at vs n i (omega (arith, lt)) e (λ j l. before (suc j) (omega (arith, l))))
  where
    by_test : (b : Bool) → int_eq (number_in (shapes.part v 0)) (pos n) ≡ b → entry_of vs n ≡ Some (entry_in (shapes.part (nth vs i) 1)) → entry_of (And v vs) n ≡ Some (entry_in (shapes.part (nth vs i) 1))
    by_test true t rest = absurd (before 0 (omega arith) ((Decides-int_eq (number_in (shapes.part v 0)) (pos n)).0 t))
    by_test false t rest = rw t rest

pub none_at : (ls : Values) (n : ℕ) → ((j : ℕ) → j < count ls → key_at ls j ≢ pos n) → entry_of ls n ≡ None
none_at NoValue n others = refl
none_at (And v vs) n others =
    by_test (int_eq (number_in (shapes.part v 0)) (pos n)) refl (none_at vs n (λ j l. others (suc j) (omega (arith, l))))
  where
    by_test : (b : Bool) → int_eq (number_in (shapes.part v 0)) (pos n) ≡ b → entry_of vs n ≡ None → entry_of (And v vs) n ≡ None
    by_test true t rest = absurd (others 0 (omega arith) ((Decides-int_eq (number_in (shapes.part v 0)) (pos n)).0 t))
    by_test false t rest = rw t rest

less-trans : (a b c : ℤ) → int_lt a b ≡ true → int_lt b c ≡ true → int_lt a c ≡ true
less-trans a b c h g = grind (arith, ints)

below_all : {l : KindTree} (z : ℤ) {vs : Values} → OfEach (pair_kinds (number_kind I16) l) vs → Rises AMap (Some (One (Number z))) vs → (j : ℕ) → j < count vs → int_lt z (key_at vs j) ≡ true
below_all z none r j lt = absurd (omega (arith, lt))
below_all z (more (record_of e (part (one {x = Number y} within) q)) hs) r zero lt = r.0
below_all z (more (record_of e (part (one {x = Number y} within) q)) hs) r (suc j) lt = less-trans z y _ r.0 (below_all y hs r.1 j (omega (arith, lt)))
below_all z (more (record_of e (part (one {x = Truth b} within) q)) hs) r j lt = absurd within

pub keys_rise : {l : KindTree} (o : Option Value) {vs : Values} → OfEach (pair_kinds (number_kind I16) l) vs → Rises AMap o vs → (i j : ℕ) → i < j → j < count vs → int_lt (key_at vs i) (key_at vs j) ≡ true
keys_rise o none r i j less lt = absurd (omega (arith, lt))
keys_rise o (more h hs) r i zero less lt = absurd (omega (arith, less))
keys_rise o (more (record_of e (part (one {x = Number y} within) q)) hs) r zero (suc j) less lt = below_all y hs r.1 j (omega (arith, lt))
keys_rise o (more (record_of e (part (one {x = Truth b} within) q)) hs) r zero (suc j) less lt = absurd within
keys_rise o (more {v = v} h hs) r (suc i) (suc j) less lt = keys_rise (Some (key_of v)) hs r.1 i j (omega (arith, less)) (omega (arith, lt))

-- ---- layouts that are not walked

pub unwalked_at : (ls : Values) (n i : ℕ) → i < count ls → is_walked n (key_at ls i) ≡ false → ((j : ℕ) → j < i → is_walked n (key_at ls j) ≡ true) → unwalked ls n ≡ Some (key_at ls i)
unwalked_at NoValue n i lt here before = absurd (omega (arith, lt))
unwalked_at (And v vs) n zero lt here before = rw here refl
unwalked_at (And v vs) n (suc i) lt here before = rw (before 0 (omega arith)) (unwalked_at vs n i (omega (arith, lt)) here (λ j l. before (suc j) (omega (arith, l))))

pub all_walked : (ls : Values) (n : ℕ) → ((j : ℕ) → j < count ls → is_walked n (key_at ls j) ≡ true) → unwalked ls n ≡ None
all_walked NoValue n walked = refl
all_walked (And v vs) n walked = rw (walked 0 (omega arith)) (all_walked vs n (λ j l. walked (suc j) (omega (arith, l))))

-- ---- ranges

within_16 : (z : ℤ) → InBits 15 z → SFits w16 z
within_16 (pos n) h = search rules
within_16 (negsuc n) h = search rules

pub fits_16 : {v : Value} → IsNumber I16 v → {z : ℤ} → v ≡ One (Number z) → SFits w16 z
fits_16 {v = v} n {z = z} e = within_16 z (subst (λ u. InBits 15 (number_in u)) e (in_bits n))

pub word_16 : {v : Value} → IsNumber I16 v → {z : ℤ} → v ≡ One (Number z) → to_z w64 (of_z w64 z) ≡ z
word_16 n {z = z} e = to_z-of_z w64 z (sfits_widen tt (fits_16 n e))

pub fits_cast : {v : Value} → IsNumber I16 v → {z : ℤ} → v ≡ One (Number z) → SFits w16 (to_z w64 (of_z w64 z))
fits_cast n e = subst (SFits w16) (sym (word_16 n e)) (fits_16 n e)

-- the number that a cast to 16 bits gives
pub cast_16 : {v : Value} → IsNumber I16 v → {z : ℤ} → v ≡ One (Number z) → to_z w16 (of_z w16 (to_z w64 (of_z w64 z))) ≡ number_in v
cast_16 n {z = z} e = ap (λ y. to_z w16 (of_z w16 y)) (word_16 n e) ∙ to_z-of_z w16 z (fits_16 n e) ∙ sym (ap number_in e)

-- ---- a child at its place

pub record IsPlaced (v w : Value) : Type 0 where
  pub field : IsNumber I16 v
  pub child : IsChild w

pub placed : {y : Value} → IsMapOf (pair_kinds (kinds_of (scalar i16)) (kinds_of field_type)) y → (i : ℕ) (v w : Value) → i < count (items_of y) → nth (items_of y) i ≡ pair v w → IsPlaced v w
placed {y = y} m i v w lt e = record {
  field = number_form (key-of-pair (kinds_of (scalar i16)) (kinds_of field_type) (items_of y) i v w (each_of m) lt e);
  child = child_form (value-of-pair (kinds_of (scalar i16)) (kinds_of field_type) (items_of y) i v w (each_of m) lt e);
}

-- the child of a layout at a place, whose children are y
pub child_there : (x : Value) → IsLayoutValue x → (i : ℕ) → i < length (entry_in x).children → {y v w : Value} → y ≡ nth (fields_of x) 2 → nth (items_of y) i ≡ pair v w → IsPlaced v w
child_there x h i lt {v = v} {w = w} is e =
    let m = (entry_form x h).children in
    placed m i v w (omega (arith, lt, child_count (items_of (nth (fields_of x) 2)))) (ap (λ u. nth (items_of u) i) (sym is) ∙ e)

-- ---- the base

-- the field 5 is the fifth, and where there is none the base is 0
pub record HasBase (x : Value) : Type 0 where
  pub given : (v : Value) → field_of x (pos 5) ≡ Some v → (v ≡ nth (fields_of x) 4) × IsInt v
  pub without : field_of x (pos 5) ≡ None → number_in (nth (fields_of x) 4) ≡ pos 0

same_some : {A : Type 0} {x y : A} → Some x ≡ Some y → y ≡ x
same_some e = cc

no_some : {A : Type 0} {x : A} → None ≡ Some x → ⊥
no_some e = cc

first_base : (ids : List ℕ) (a b c d : Value) → ids ≡ 1 ∷ 2 ∷ 3 ∷ 4 ∷ [] → field_of (Record ids (And a (And b (And c (And d NoValue))))) (pos 5) ≡ None
first_base ids a b c d e = subst (λ (is : List ℕ). field_of (Record is (And a (And b (And c (And d NoValue))))) (pos 5) ≡ None) (sym e) refl

second_base : (ids : List ℕ) (a b c d z : Value) → ids ≡ 1 ∷ 2 ∷ 3 ∷ 4 ∷ 5 ∷ [] → field_of (Record ids (And a (And b (And c (And d (And z NoValue)))))) (pos 5) ≡ Some z
second_base ids a b c d z e = subst (λ (is : List ℕ). field_of (Record is (And a (And b (And c (And d (And z NoValue)))))) (pos 5) ≡ Some z) (sym e) refl

pub base_form : (x : Value) → IsLayoutValue x → HasBase x
base_form _ (Version1, record_of e (part s (part b (part c (part n no_part))))) = record {
  given = λ v is. absurd (no_some (sym (first_base _ _ _ _ _ e) ∙ is));
  without = λ is. refl;
}
base_form _ (Version2, record_of e (part s (part b (part c (part n (part z no_part)))))) = record {
  given = λ v is. let same = same_some (sym (second_base _ _ _ _ _ _ e) ∙ is) in (same, subst IsInt (sym same) (is_int (number_form z)));
  without = λ is. absurd (no_some (sym is ∙ second_base _ _ _ _ _ _ e));
}

-- ---- halving

-- a number and a layout that stand at a place
pub record IsKeyed (k l : Value) : Type 0 where
  pub key : IsNumber I16 k
  pub layout : IsLayoutValue l

pub keyed : (y : Value) → AreLayouts y → (i : ℕ) (k l : Value) → i < count (items_of y) → nth (items_of y) i ≡ pair k l → IsKeyed k l
keyed y (v, h) i k l lt e =
    let m = map_form h in
    record {
      key = number_form (key-of-pair (kinds_of (scalar i16)) (kinds_of (layout_type v)) (items_of y) i k l (each_of m) lt e);
      layout = (v, value-of-pair (kinds_of (scalar i16)) (kinds_of (layout_type v)) (items_of y) i k l (each_of m) lt e);
    }

pub are_map : (y : Value) → AreLayouts y → IsMap y
are_map y (v, h) = is_map (map_form h)

rise_in : (y : Value) → AreLayouts y → (i j : ℕ) → i < j → j < count (items_of y) → int_lt (key_at (items_of y) i) (key_at (items_of y) j) ≡ true
rise_in y (v, h) i j less lt = let m = map_form h in keys_rise None (each_of m) (rises_of m) i j less lt

-- the number at a place, as a call tells it
pub key_is : (ls : Values) (i : ℕ) (k l : Value) (r : ℤ) → nth ls i ≡ pair k l → k ≡ One (Number r) → key_at ls i ≡ r
key_is ls i k l r e is = ap (λ v. number_in (shapes.part v 0)) e ∙ ap number_in is

either : (j low : ℕ) → (j < low) ⊎ (low ≤ j)
either zero zero = inr (omega arith)
either zero (suc low) = inl (omega arith)
either (suc j) zero = inr (omega arith)
either (suc j) (suc low) = by_case (either j low)
  where
    by_case : (j < low) ⊎ (low ≤ j) → (suc j < suc low) ⊎ (suc low ≤ suc j)
    by_case (inl h) = inl (omega (arith, h))
    by_case (inr h) = inr (omega (arith, h))

less_not : (a b : ℤ) → int_lt a b ≡ true → a ≢ b
less_not a b h e = grind (arith, ints)

below_not : (a b c : ℤ) → int_lt a b ≡ true → b <ℤ c → a ≢ c
below_not a b c h g e = grind (arith, ints)

above_not : (a b c : ℤ) → int_lt a b ≡ true → c <ℤ a → b ≢ c
above_not a b c h g e = grind (arith, ints)

alone_not : (a c : ℤ) → a <ℤ c → a ≢ c
alone_not a c g e = grind (arith, ints)

alone_above : (a c : ℤ) → c <ℤ a → a ≢ c
alone_above a c g e = grind (arith, ints)

-- the layout in the middle has the number
pub found_middle : (y : Value) → AreLayouts y → (n i : ℕ) (k l : Value) (r : ℤ) → i < count (items_of y) → nth (items_of y) i ≡ pair k l → k ≡ One (Number r) → r ≡ pos n → entry_of (items_of y) n ≡ Some (entry_in l)
found_middle y h n i k l r lt e is same =
    let here = key_is (items_of y) i k l r e is ∙ same in
    found_at (items_of y) n i lt here (λ j less. λ other. less_not _ _ (rise_in y h j i less lt) (other ∙ sym here))
    ∙ ap (λ v. Some (entry_in (shapes.part v 1))) e

-- the layout in the middle has a lesser number, so all up to it have
pub below_middle : (y : Value) → AreLayouts y → (n i : ℕ) (k l : Value) (r : ℤ) → i < count (items_of y) → nth (items_of y) i ≡ pair k l → k ≡ One (Number r) → r <ℤ pos n
    → (j : ℕ) → j < i + 1 → key_at (items_of y) j ≢ pos n
below_middle y h n i k l r lt e is less j to = by_case (either j i)
  where
    by_case : (j < i) ⊎ (i ≤ j) → key_at (items_of y) j ≢ pos n
    by_case (inl before) = below_not _ r (pos n) (subst (λ z. int_lt (key_at (items_of y) j) z ≡ true) (key_is (items_of y) i k l r e is) (rise_in y h j i before lt)) less
    by_case (inr here) =
        let same : j ≡ i = omega (arith, to, here) in
        subst (λ z. z ≢ pos n) (sym (ap (key_at (items_of y)) same ∙ key_is (items_of y) i k l r e is)) (alone_not r (pos n) less)

-- the layout in the middle has a greater number, so all from it on have
pub above_middle : (y : Value) → AreLayouts y → (n i : ℕ) (k l : Value) (r : ℤ) → i < count (items_of y) → nth (items_of y) i ≡ pair k l → k ≡ One (Number r) → pos n <ℤ r
    → (j : ℕ) → i ≤ j → j < count (items_of y) → key_at (items_of y) j ≢ pos n
above_middle y h n i k l r lt e is past j from to = by_case (either i j)
  where
    by_case : (i < j) ⊎ (j ≤ i) → key_at (items_of y) j ≢ pos n
    by_case (inl behind) = above_not r _ (pos n) (subst (λ z. int_lt z (key_at (items_of y) j) ≡ true) (key_is (items_of y) i k l r e is) (rise_in y h i j behind to)) past
    by_case (inr here) =
        let same : j ≡ i = omega (arith, from, here) in
        subst (λ z. z ≢ pos n) (sym (ap (key_at (items_of y)) same ∙ key_is (items_of y) i k l r e is)) (alone_above r (pos n) past)

-- nothing is left to look at
pub none_left : (ls : Values) (n low high : ℕ) → high ≤ low → ((j : ℕ) → j < low → key_at ls j ≢ pos n) → ((j : ℕ) → high ≤ j → j < count ls → key_at ls j ≢ pos n) → entry_of ls n ≡ None
none_left ls n low high ended before behind = none_at ls n (λ j lt. by_case j lt (either j low))
  where
    by_case : (j : ℕ) → j < count ls → (j < low) ⊎ (low ≤ j) → key_at ls j ≢ pos n
    by_case j lt (inl h) = before j h
    by_case j lt (inr h) = behind j (omega (arith, h, ended)) lt

-- ---- the first layout that is not walked

pub first_unwalked : (ls : Values) (n i : ℕ) (k l : Value) (r : ℤ) → i < count ls → nth ls i ≡ pair k l → k ≡ One (Number r) → is_walked n r ≡ false → ((j : ℕ) → j < i → is_walked n (key_at ls j) ≡ true) → unwalked ls n ≡ Some r
first_unwalked ls n i k l r lt e is here before =
    let key = key_is ls i k l r e is in
    unwalked_at ls n i lt (ap (is_walked n) key ∙ here) before ∙ ap Some key

pub one_more_walked : (ls : Values) (n i : ℕ) (k l : Value) (r : ℤ) → nth ls i ≡ pair k l → k ≡ One (Number r) → is_walked n r ≡ true → ((j : ℕ) → j < i → is_walked n (key_at ls j) ≡ true)
    → (j : ℕ) → j < i + 1 → is_walked n (key_at ls j) ≡ true
one_more_walked ls n i k l r e is here before j lt = by_case (either j i)
  where
    by_case : (j < i) ⊎ (i ≤ j) → is_walked n (key_at ls j) ≡ true
    by_case (inl h) = before j h
    by_case (inr h) = let same : j ≡ i = omega (arith, lt, h) in ap (is_walked n) (ap (key_at ls) same ∙ key_is ls i k l r e is) ∙ here

-- ---- a schema

pub record IsSchemaForm (s : Value) : Type 0 where
  pub four : count (fields_of s) ≡ 4
  pub layouts : AreLayouts (nth (fields_of s) 1)
  pub root : IsNumber I16 (nth (fields_of s) 2)
  pub version : IsNumber I32 (nth (fields_of s) 3)

pub schema_form : (s : Value) → IsSchemaValue s → IsSchemaForm s
schema_form _ (v, record_of e (part f (part l (part r (part n no_part))))) = record {
  four = refl;
  layouts = (v, l);
  root = number_form r;
  version = number_form n;
}

pub fits_32 : {v : Value} → IsNumber I16 v → {z : ℤ} → v ≡ One (Number z) → SFits w32 (to_z w64 (of_z w64 z))
fits_32 n {z = z} e = subst (SFits w32) (sym (word_16 n e)) (sfits_widen tt (fits_16 n e))

-- the number that a cast to 32 bits gives
pub cast_32 : {v : Value} → IsNumber I16 v → {z : ℤ} → v ≡ One (Number z) → to_z w32 (of_z w32 (to_z w64 (of_z w64 z))) ≡ number_in v
cast_32 n {z = z} e = ap (λ y. to_z w32 (of_z w32 y)) (word_16 n e) ∙ to_z-of_z w32 z (sfits_widen tt (fits_16 n e)) ∙ sym (ap number_in e)

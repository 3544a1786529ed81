-- The types of a proper definition are within the limits.
use Rattle.std.proofs.Common.{◌≡◌, ◌≢◌, ℕ, zero, suc, ◌<◌, ◌≤◌, Bool, true, false, ◌&&◌, ◌||◌, if◌then◌else◌, List, [], ◌∷◌, ◌++◌, length, Some, Ok, Err, inl, inr, refl, sym, ap, ◌∙◌, subst, arith, length-append, append_assoc, append-nil}
use Rattle.std.specs.Prelude.{ℤ, pos, negsuc, nat_abs, nat_lt, int_le, int_lt, slice_get}
use Rattle.std.specs.List.{fold}
use Rattle.std.specs.Ordering.{int_eq}
use Rattle.std.proofs.lemmas.Bool.{cases_lt}
use Rattle.std.proofs.lemmas.Int.{ints}
use Rattle.std.proofs.lemmas.Bool.Decides.{nat_tests}
use Rattle.std.proofs.lemmas.List.Sums.{fold-append}
use Rattle.idl_grammar.specs.declared.fault.Fault.TheVariants as fault
use Rattle.idl_profile.specs.declared.kinds.BaseType.TheVariants as k
use Rattle.idl_profile.specs.Meaning as m
use Rattle.idl_profile.specs.Types as types
use Rattle.idl_profile.specs.Types.{TypeTree, root_of, last_struct, named, enum_of, struct_of}
use Rattle.idl_profile.specs.Judged.{yes, Start, complete, an_int, number_default, literal_default, measured}
use Rattle.idl_profile.specs.Measures.{scalar_tree, at, tree, fields, named_of, named_tree, trees, depth, nodes, bits, widest}
use Rattle.idl_profile.specs.DefText.{has_struct}
use Rattle.idl_parse.specs.Parsed.{nameds, DefText}
use Rattle.idl_parse.proofs.Standing.{at_front, at_last, at_none}
use Rattle.idl_parse.proofs.Rooting.{nameds-append}
use Rattle.idl_proper.specs.Proper.{AllFit, DefaultFits, FieldFits, FieldsApart, HasEmpty, Is64, IsLiteral, NamedFits, TypeFits}
use Rattle.idl_profile.proofs.Each.{Each}
use Rattle.idl_proper.proofs.Lists.{get-last}
use Rattle.idl_proper.proofs.Proper.{each-map, Distinct, id_fits}
use Rattle.idl_proper.proofs.Rising.{Below, rising-by_id}
use Rattle.idl_proper.proofs.Meant.{passed-test, held-test, ok}
use Rattle.idl_proper.proofs.Meaning.{proper-from}
use Rattle.frozen_model.specs.Trees.{Rising, IsStruct}
use Rattle.frozen_model.specs.Values.{InBits}
use Rattle.type_kinds.specs.KindsOf.{kinds_of}
use Rattle.type_kinds.specs.Defaults.{ids_of_fields}
use Rattle.type_kinds.specs.Accepted.{IsWritten, IsKeyType, IsAccepted, AreAccepted, IsWithin}

-- ---- ids

id_bounds : (z : ℤ) → id_fits z ≡ true → (0 < nat_abs z) × (nat_abs z ≤ 32767)
id_bounds (pos n) h = (grind (arith, ints, nat_tests), grind (arith, ints, nat_tests))
id_bounds (negsuc n) h = (omega arith, grind (arith, ints, nat_tests))

ids_rise : (y z : ℤ) → id_fits y ≡ true → id_fits z ≡ true → int_lt y z ≡ true → nat_abs y < nat_abs z
ids_rise (pos a) (pos b) g h e = grind (arith, ints, nat_tests)
ids_rise (pos a) (negsuc b) g h e = grind (arith, ints, nat_tests)
ids_rise (negsuc a) (pos b) g h e = grind (arith, ints, nat_tests)
ids_rise (negsuc a) (negsuc b) g h e = grind (arith, ints, nat_tests)

rising_ids : (ts : List TypeTree) (before : ℕ) (fs : List m.MeantField) → Each (λ f. id_fits f.id ≡ true) fs → Distinct Below fs → Each (λ f. before < nat_abs f.id) fs
    → Rising before (ids_of_fields (fields ts fs))
rising_ids ts before [] h d b = tt
rising_ids ts before (f ∷ fs) h d b = (b.0, (id_bounds f.id h.0).1, rising_ids ts (nat_abs f.id) fs h.1 d.1 (above fs h.1 d.0))
  where
    above : (gs : List m.MeantField) → Each (λ g. id_fits g.id ≡ true) gs → Each (Below f) gs → Each (λ g. nat_abs f.id < nat_abs g.id) gs
    above [] i e = tt
    above (g ∷ gs) i e = (ids_rise f.id g.id h.0 i.0 e.0, above gs i.1 e.1)

ids_apart : (fs : List m.MeantField) → Distinct FieldsApart fs → Distinct (λ f g. f.id ≢ g.id) fs
ids_apart [] d = tt
ids_apart (f ∷ fs) d = (each-map (FieldsApart f) (λ g. f.id ≢ g.id) fs (λ g a. a.0) d.0, ids_apart fs d.1)

-- ---- measures

record Measured (t : TypeTree) : Type 0 where
  shallow : depth t ≤ 32
  few : nodes t ≤ 4096
  thin : bits t ≤ 32767
  narrow : widest t ≤ 32767

tests_passed : (a b c d : ℕ) → (if nat_lt 32 a then Err fault.TooDeep else (if nat_lt 4096 b then Err fault.TooManyNodes else (if nat_lt 32767 c || nat_lt 32767 d then Err fault.StructTooWide else Ok yes))) ≡ ok yes
    → (a ≤ 32) × (b ≤ 4096) × (c ≤ 32767) × (d ≤ 32767)
tests_passed a b c d e =
    let x = passed-test (nat_lt 32 a) fault.TooDeep (if nat_lt 4096 b then Err fault.TooManyNodes else (if nat_lt 32767 c || nat_lt 32767 d then Err fault.StructTooWide else Ok yes)) yes e in
    let y = passed-test (nat_lt 4096 b) fault.TooManyNodes (if nat_lt 32767 c || nat_lt 32767 d then Err fault.StructTooWide else Ok yes) yes x.1 in
    let z = passed-test (nat_lt 32767 c || nat_lt 32767 d) fault.StructTooWide (Ok yes) yes y.1 in
    let x0 = x.0 in let y0 = y.0 in let w = neither_of (nat_lt 32767 c) (nat_lt 32767 d) z.0 in
    (below 32 a x0, below 4096 b y0, below 32767 c w.0, below 32767 d w.1)
  where
    neither_of : (p q : Bool) → (p || q) ≡ false → (p ≡ false) × (q ≡ false)
    neither_of true q e = absurd cc
    neither_of false q e = (refl, e)

    below : (n k : ℕ) → nat_lt n k ≡ false → k ≤ n
    below n k h = grind (arith, nat_tests)

measured_is : (t : TypeTree) → measured t ≡ Ok yes → Measured t
measured_is t e = let a = tests_passed (depth t) (nodes t) (bits t) (widest t) e in record { shallow = a.0; few = a.1; thin = a.2; narrow = a.3 }

-- what is so of all enums and structs is so of the last struct
pub root_has : (Q : TypeTree → Type 0) (ts : List TypeTree) (b : TypeTree) → ((i : ℕ) → Q (at ts i)) → Q b → Q (last_struct b (nameds ts))
root_has Q [] b h w = w
root_has Q (named (enum_of v ms) ∷ ts) b h w = root_has Q ts b (λ i. h (suc i)) w
root_has Q (named (struct_of v fs) ∷ ts) b h w = root_has Q ts (named (struct_of v fs)) (λ i. h (suc i)) (h 0)
root_has Q (types.scalar x ∷ ts) b h w = root_has Q ts b (λ i. h (suc i)) w
root_has Q (types.text ∷ ts) b h w = root_has Q ts b (λ i. h (suc i)) w
root_has Q (types.bytes ∷ ts) b h w = root_has Q ts b (λ i. h (suc i)) w
root_has Q (types.list_of x ∷ ts) b h w = root_has Q ts b (λ i. h (suc i)) w
root_has Q (types.set_of x ∷ ts) b h w = root_has Q ts b (λ i. h (suc i)) w
root_has Q (types.map_of x y ∷ ts) b h w = root_has Q ts b (λ i. h (suc i)) w

-- ---- what stands behind enums and structs

module _ (P : List ℕ → Type 0) (literal : (x : List ℕ) → IsLiteral x → P x) where
  flag_within : IsWithin P (types.scalar types.flag)
  flag_within = record { accepted = tt; shallow = omega arith; few = omega arith; narrow = omega arith }

  -- the trees of the enums and structs before
  pub record Trees (before : List m.MeantNamed) (ts : List TypeTree) : Type 0 where
    pub long : length ts ≡ length before
    pub enums : (n : ℕ) (w : List ℕ) (xs : List types.Member) → slice_get before n ≡ Some (m.enum_of w xs) → at ts n ≡ named (enum_of w xs)
    pub structs : (n : ℕ) (w : List ℕ) (fs : List m.MeantField) → slice_get before n ≡ Some (m.struct_of w fs) → (gs : types.Fields) × (at ts n ≡ named (struct_of w gs))
    pub all : (n : ℕ) → IsWithin P (at ts n)

  -- a type behind them
  pub record IsTyped (key : Bool) (t : TypeTree) : Type 0 where
    pub accepted : IsAccepted P t
    pub keyed : key ≡ true → IsKeyType t

  pub base_typed : (key : Bool) (s : _) → IsTyped key (scalar_tree s)
  base_typed key k.Flag = record { accepted = tt; keyed = λ e. tt }
  base_typed key k.I8 = record { accepted = tt; keyed = λ e. tt }
  base_typed key k.I16 = record { accepted = tt; keyed = λ e. tt }
  base_typed key k.I32 = record { accepted = tt; keyed = λ e. tt }
  base_typed key k.I64 = record { accepted = tt; keyed = λ e. tt }
  base_typed key k.Text = record { accepted = tt; keyed = λ e. tt }
  base_typed key k.Bytes = record { accepted = tt; keyed = λ e. tt }

  pub typed : (before : List m.MeantNamed) (ts : List TypeTree) → Trees before ts → (key : Bool) (t : m.Ty) → TypeFits before key t → IsTyped key (tree ts t)
  typed before ts s key (m.scalar x) f = base_typed key x
  typed before ts s key (m.enum n) f =
      record { accepted = (s.all n).accepted; keyed = λ e. subst IsKeyType (sym (s.enums n f.0 f.1 f.2)) tt }
  typed before ts s key (m.struct n) f = record { accepted = (s.all n).accepted; keyed = λ e. let no = f.3 in absurd cc }
  typed before ts s key (m.list x) f = record { accepted = (typed before ts s false x f.1).accepted; keyed = λ e. let no = f.0 in absurd cc }
  typed before ts s key (m.set x) f =
      let i = typed before ts s true x f.1 in
      record { accepted = (i.keyed refl, i.accepted); keyed = λ e. let no = f.0 in absurd cc }
  typed before ts s key (m.map x y) f =
      let i = typed before ts s true x f.1 in
      let j = typed before ts s false y f.2 in
      record { accepted = (i.keyed refl, i.accepted, j.accepted); keyed = λ e. let no = f.0 in absurd cc }

  -- ---- written defaults

  -- a number from -1 - low to low
  abbrev IsBetween : ℕ → ℤ → Type 0
  IsBetween low (pos a) = a ≤ low
  IsBetween low (negsuc a) = a ≤ low

  between_tests : (low : ℕ) (z : ℤ) → (int_le (negsuc low) z && int_le z (pos low)) ≡ true → IsBetween low z
  between_tests low (pos a) h = grind (arith, ints, nat_tests)
  between_tests low (negsuc a) h = grind (arith, ints, nat_tests)

  between : (low : ℕ) (z : ℤ) (s : Start) → an_int (negsuc low) (pos low) z ≡ Ok s → IsBetween low z
  between low z s h = between_tests low z (held-test (int_le (negsuc low) z && int_le z (pos low)) fault.BadDefault (Ok (complete (types.int_default z))) s h).0

  fits_8 : (z : ℤ) → IsBetween 127 z → InBits 7 z
  fits_8 (pos a) h = omega arith
  fits_8 (negsuc a) h = omega arith

  fits_16 : (z : ℤ) → IsBetween 32767 z → InBits 15 z
  fits_16 (pos a) h = omega arith
  fits_16 (negsuc a) h = omega arith

  fits_32 : (z : ℤ) → IsBetween 2147483647 z → InBits 31 z
  fits_32 (pos a) h = omega arith
  fits_32 (negsuc a) h = omega arith

  fits_64 : (z : ℤ) → Is64 z → InBits 63 z
  fits_64 (pos a) h = omega arith
  fits_64 (negsuc a) h = omega arith

  no_number : (p q : Bool) (z : ℤ) → (if p then Ok (complete (types.flag_default false)) else (if q then Ok (complete (types.flag_default true)) else Err fault.BadDefault)) ≡ ok (complete (types.int_default z)) → ⊥
  no_number true q z e = let x : complete (types.flag_default false) ≡ complete (types.int_default z) = cc in cc
  no_number false true z e = let x : complete (types.flag_default true) ≡ complete (types.int_default z) = cc in cc
  no_number false false z e = cc

  module _ (before : List m.MeantNamed) (s : Trees before (trees before)) where
    number_written : (t : m.Ty) (z : ℤ) → TypeFits before false t → number_default t z ≡ Ok (complete (types.int_default z)) → Is64 z → IsWritten P (tree (trees before) t) (types.int_default z)
    number_written (m.scalar k.Flag) z f e i = absurd (no_number (int_eq z (pos 0)) (int_eq z (pos 1)) z e)
    number_written (m.scalar k.I8) z f e i = fits_8 z (between 127 z (complete (types.int_default z)) e)
    number_written (m.scalar k.I16) z f e i = fits_16 z (between 32767 z (complete (types.int_default z)) e)
    number_written (m.scalar k.I32) z f e i = fits_32 z (between 2147483647 z (complete (types.int_default z)) e)
    number_written (m.scalar k.I64) z f e i = fits_64 z i
    number_written (m.scalar k.Text) z f e i = absurd cc
    number_written (m.scalar k.Bytes) z f e i = absurd cc
    number_written (m.enum n) z f e i =
        subst (λ u. IsWritten P u (types.int_default z)) (sym (s.enums n f.0 f.1 f.2)) (fits_32 z (between 2147483647 z (complete (types.int_default z)) e))
    number_written (m.struct n) z f e i = absurd cc
    number_written (m.list x) z f e i = absurd cc
    number_written (m.set x) z f e i = absurd cc
    number_written (m.map x y) z f e i = absurd cc

    text_written : (t : m.Ty) (x : List ℕ) → literal_default t x ≡ Ok (complete (types.text_default x)) → IsLiteral x → IsWritten P (tree (trees before) t) (types.text_default x)
    text_written (m.scalar k.Flag) x e l = absurd cc
    text_written (m.scalar k.I8) x e l = absurd cc
    text_written (m.scalar k.I16) x e l = absurd cc
    text_written (m.scalar k.I32) x e l = absurd cc
    text_written (m.scalar k.I64) x e l = absurd cc
    text_written (m.scalar k.Text) x e l = literal x l
    text_written (m.scalar k.Bytes) x e l = literal x l
    text_written (m.enum n) x e l = absurd cc
    text_written (m.struct n) x e l = absurd cc
    text_written (m.list y) x e l = absurd cc
    text_written (m.set y) x e l = absurd cc
    text_written (m.map y z) x e l = absurd cc

    empty_written : (t : m.Ty) → TypeFits before false t → HasEmpty t → IsWritten P (tree (trees before) t) types.empty_default
    empty_written (m.scalar x) f h = absurd h
    empty_written (m.enum n) f h = absurd h
    empty_written (m.struct n) f h = subst (λ u. IsWritten P u types.empty_default) (sym (s.structs n f.0 f.1 f.2).1) tt
    empty_written (m.list x) f h = tt
    empty_written (m.set x) f h = tt
    empty_written (m.map x y) f h = tt

    pub default_written : (t : m.Ty) (d : types.Default) → TypeFits before false t → DefaultFits t d → IsWritten P (tree (trees before) t) d
    default_written t types.without f h = tt
    default_written t (types.flag_default b) f h = subst (λ u. IsWritten P (tree (trees before) u) (types.flag_default b)) (sym h) tt
    default_written t (types.int_default z) f h = number_written t z f h.0 h.1
    default_written t (types.text_default x) f h = text_written t x h.0 h.2
    default_written t types.empty_default f h = empty_written t f h

    -- ---- enums and structs

    fields_accepted : (fs : List m.MeantField) → Each (FieldFits before) fs → AreAccepted P (fields (trees before) fs)
    fields_accepted [] h = tt
    fields_accepted (f ∷ fs) h =
        ((typed before (trees before) s false f.type h.0.1).accepted, default_written f.type f.default h.0.1 h.0.2, fields_accepted fs h.1)

    named_within : (n : m.MeantNamed) → NamedFits before n → IsWithin P (named_tree (trees before) n)
    named_within (m.enum_of w xs) h = record { accepted = tt; shallow = omega arith; few = omega arith; narrow = omega arith }
    named_within (m.struct_of w fs) h =
        let size = measured_is (named_tree (trees before) (m.struct_of [] fs)) h.4 in
        let fit : Each (λ f. id_fits f.id ≡ true) fs = each-map (FieldFits before) (λ f. id_fits f.id ≡ true) fs (λ f g. g.3) h.1 in
        let rises : Distinct Below fs = subst (Distinct Below) h.3 (rising-by_id fs (ids_apart fs h.2)) in
        let some : Each (λ f. 0 < nat_abs f.id) fs = each-map (λ f. id_fits f.id ≡ true) (λ f. 0 < nat_abs f.id) fs (λ f g. (id_bounds f.id g).0) fit in
        record {
          accepted = (rising_ids (trees before) 0 fs fit rises some, size.thin, fields_accepted fs h.1);
          shallow = size.shallow;
          few = size.few;
          narrow = size.narrow;
        }

  -- ---- one after another

  get_below : {A : Type 0} (xs : List A) (i : ℕ) (x : A) → slice_get xs i ≡ Some x → i < length xs
  get_below [] i x e = absurd cc
  get_below (y ∷ xs) zero x e = omega arith
  get_below (y ∷ xs) (suc i) x e = omega (arith, get_below xs i x e)

  pushed : (before : List m.MeantNamed) (n : m.MeantNamed) → Trees before (trees before) → NamedFits before n → Trees (before ++ n ∷ []) (trees before ++ named_tree (trees before) n ∷ [])
  pushed before n s h = record {
    long = omega (arith, s.long, length-append ts (t ∷ []), length-append before (n ∷ []));
    enums = λ i w xs e. elim (get-last before n (m.enum_of w xs) i e) [
      | inl old ↦ at_front ts (t ∷ []) i (omega (arith, s.long, get_below before i (m.enum_of w xs) old)) ∙ s.enums i w xs old
      | inr here ↦ ap (at (ts ++ t ∷ [])) (let z : i ≡ length ts = omega (arith, s.long, here.0) in z) ∙ at_last ts t ∙ ap (named_tree ts) here.1
    ];
    structs = λ i w fs e. elim (get-last before n (m.struct_of w fs) i e) [
      | inl old ↦ (let g = s.structs i w fs old in (g.0, at_front ts (t ∷ []) i (omega (arith, s.long, get_below before i (m.struct_of w fs) old)) ∙ g.1))
      | inr here ↦ (fields ts fs, ap (at (ts ++ t ∷ [])) (let z : i ≡ length ts = omega (arith, s.long, here.0) in z) ∙ at_last ts t ∙ ap (named_tree ts) here.1)
    ];
    all = λ i. elim (cases_lt i (length ts)) [
      | inl old ↦ subst (IsWithin P) (sym (at_front ts (t ∷ []) i old)) (s.all i)
      | inr far ↦ elim (cases_lt (length ts) i) [
        | inl beyond ↦ subst (IsWithin P) (sym (at_none (ts ++ t ∷ []) i (omega (arith, length-append ts (t ∷ []))))) flag_within
        | inr near ↦ (let z : length ts ≡ i = omega arith in subst (IsWithin P) (sym (ap (at (ts ++ t ∷ [])) (sym z) ∙ at_last ts t)) (named_within before s n h))
      ]
    ];
  }
    where
      ts : List TypeTree
      ts = trees before

      t : TypeTree
      t = named_tree (trees before) n

  trees_pushed : (before : List m.MeantNamed) (n : m.MeantNamed) → trees (before ++ n ∷ []) ≡ trees before ++ named_tree (trees before) n ∷ []
  trees_pushed before n = fold-append (λ ts x. ts ++ named_tree ts x ∷ []) [] before (n ∷ [])

  pub all_stand : (before ns : List m.MeantNamed) → Trees before (trees before) → AllFit before ns → Trees (before ++ ns) (trees (before ++ ns))
  all_stand before [] s h = subst (λ z. Trees z (trees z)) (sym (append-nil before)) s
  all_stand before (n ∷ ns) s h =
      let next : Trees (before ++ n ∷ []) (trees (before ++ n ∷ [])) = subst (λ z. Trees (before ++ n ∷ []) z) (sym (trees_pushed before n)) (pushed before n s h.0) in
      subst (λ z. Trees z (trees z)) (append_assoc before (n ∷ []) ns) (all_stand (before ++ n ∷ []) ns next h.2)

  pub none_stand : Trees [] (trees [])
  none_stand = record { long = refl; enums = λ i w xs e. absurd cc; structs = λ i w fs e. absurd cc; all = λ i. flag_within }

  -- ---- the root

  pub root_is_within : (text : List ℕ) (d : List types.Named) → DefText text d → IsWithin P (root_of d)
  root_is_within text d h =
      let stand = all_stand [] h.read none_stand (proper-from text h.read h.utf8 h.means) in
      subst (λ z. IsWithin P (root_of z)) (sym h.is) (root_has (IsWithin P) (trees h.read) (types.scalar types.flag) stand.all flag_within)

-- ---- the root is a struct

last_pushed : (b : TypeTree) (xs : List types.Named) (x : types.Named) → last_struct b (xs ++ x ∷ []) ≡ last_struct (last_struct b xs) (x ∷ [])
last_pushed b [] x = refl
last_pushed b (enum_of w ms ∷ xs) x = last_pushed b xs x
last_pushed b (struct_of w fs ∷ xs) x = last_pushed (named (struct_of w fs)) xs x

abbrev root_so_far : List TypeTree → TypeTree
root_so_far ts = last_struct (types.scalar types.flag) (nameds ts)

root_pushed : (ts : List TypeTree) (n : m.MeantNamed) → root_so_far (ts ++ named_tree ts n ∷ []) ≡ last_struct (root_so_far ts) (named_of ts n ∷ [])
root_pushed ts n = ap (last_struct (types.scalar types.flag)) (nameds-append ts (named_tree ts n ∷ [])) ∙ last_pushed (types.scalar types.flag) (nameds ts) (named_of ts n)

abbrev grown : List TypeTree → List m.MeantNamed → List TypeTree
grown ts ns = fold (λ us n. us ++ named_tree us n ∷ []) ts ns

struct_stays : (ts : List TypeTree) (ns : List m.MeantNamed) → IsStruct (kinds_of (root_so_far ts)) → IsStruct (kinds_of (root_so_far (grown ts ns)))
struct_stays ts [] h = h
struct_stays ts (m.enum_of w xs ∷ ns) h =
    struct_stays (ts ++ named_tree ts (m.enum_of w xs) ∷ []) ns (subst (λ t. IsStruct (kinds_of t)) (sym (root_pushed ts (m.enum_of w xs))) h)
struct_stays ts (m.struct_of w fs ∷ ns) h =
    struct_stays (ts ++ named_tree ts (m.struct_of w fs) ∷ []) ns (subst (λ t. IsStruct (kinds_of t)) (sym (root_pushed ts (m.struct_of w fs))) tt)

struct_comes : (ts : List TypeTree) (ns : List m.MeantNamed) → has_struct ns ≡ true → IsStruct (kinds_of (root_so_far (grown ts ns)))
struct_comes ts [] h = absurd cc
struct_comes ts (m.enum_of w xs ∷ ns) h = struct_comes (ts ++ named_tree ts (m.enum_of w xs) ∷ []) ns h
struct_comes ts (m.struct_of w fs ∷ ns) h =
    struct_stays (ts ++ named_tree ts (m.struct_of w fs) ∷ []) ns (subst (λ t. IsStruct (kinds_of t)) (sym (root_pushed ts (m.struct_of w fs))) tt)

pub root_is_struct : (text : List ℕ) (d : List types.Named) → DefText text d → IsStruct (kinds_of (root_of d))
root_is_struct text d h = subst (λ z. IsStruct (kinds_of (root_of z))) (sym h.is) (struct_comes [] h.read h.means.root)

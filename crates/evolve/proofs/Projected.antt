-- The projection of a value of a layout is a value of the type that binds to it.
use Rattle.std.proofs.Common.{◌≡◌, ℕ, suc, ◌<◌, ◌≤◌, ◌^◌, Bool, true, false, ℤ, pos, negsuc, nat_abs, nat_eq}
use Rattle.std.proofs.Common.{cond, refl, ap, sym, subst, arith, List, ◌∷◌, Option, Some, None}
use Rattle.std.proofs.lemmas.Bool.{leb-true, eqb-true}
use Rattle.idl_profile.specs.declared.kinds.Need.TheVariants.{Plain, Required, Optional}
use Rattle.idl_profile.specs.Types.{TypeTree, scalar, text, bytes, list_of, set_of, map_of, named, Named}
use Rattle.idl_profile.specs.Types.{enum_of, struct_of, Fields, no_fields, field}
use Rattle.frozen_model.specs.Trees as tree
use Rattle.frozen_model.specs.Trees.{LeafKind, Flag, Integer, Whole, I8, I16, I32, I64, Text, Binary, AList}
use Rattle.frozen_model.specs.Trees.{ASet, AMap, Tree, Trees, Leaf, ByteRange, ItemRange, Struct, NoField}
use Rattle.frozen_model.specs.Trees.{Field, KindTree, ids_of, value_bits}
use Rattle.frozen_model.specs.Values as is
use Rattle.frozen_model.specs.Values.{Atom, Truth, Number, Value, Values, One, Bytes, Items, Absent, Present}
use Rattle.frozen_model.specs.Values.{Record, NoValue, And, count, bound, Rises, InBits, IsOf, Of, OfEach}
use Rattle.frozen_model.specs.Values.{OfAll, one, items, absent, present, record_of, none, more, no_part}
use Rattle.frozen_model.specs.Values.{part}
use Rattle.type_kinds.specs.KindsOf.{leaf_kind, kinds_of, kinds_of_named, kinds_of_fields}
use Rattle.type_kinds.specs.Defaults.{defaults_of, default_field, ids_of_fields}
use Rattle.type_kinds.specs.Accepted.{IsTextDefault, IsKeyType, IsAccepted, IsAcceptedNamed, AreAccepted}
use Rattle.type_kinds.proofs.Forms.{default_is}
use Rattle.typed_tree.specs.Parts.{find_field}
use Rattle.bit_view.specs.Branches.{field_tree}
use Rattle.evolve.specs.Binding.{stands_for, BindsField, BindsPair, Binds, BindsNamed, BindFields}
use Rattle.evolve.specs.Projection.{each, with_second, found_or, proj, proj_named, proj_fields}

-- ---- scalars

in_wider : (own stored : Whole) (z : ℤ) → value_bits stored ≤ value_bits own → InBits (value_bits stored) z
    → InBits (value_bits own) z
in_wider I8 I8 z le h = h
in_wider I16 I16 z le h = h
in_wider I32 I32 z le h = h
in_wider I64 I64 z le h = h
in_wider I16 I8 (pos n) le h = omega (arith, h)
in_wider I16 I8 (negsuc n) le h = omega (arith, h)
in_wider I32 I8 (pos n) le h = omega (arith, h)
in_wider I32 I8 (negsuc n) le h = omega (arith, h)
in_wider I32 I16 (pos n) le h = omega (arith, h)
in_wider I32 I16 (negsuc n) le h = omega (arith, h)
in_wider I64 I8 (pos n) le h = omega (arith, h)
in_wider I64 I8 (negsuc n) le h = omega (arith, h)
in_wider I64 I16 (pos n) le h = omega (arith, h)
in_wider I64 I16 (negsuc n) le h = omega (arith, h)
in_wider I64 I32 (pos n) le h = omega (arith, h)
in_wider I64 I32 (negsuc n) le h = omega (arith, h)
in_wider own stored z le h = absurd (omega (arith, le))

of_wider : (r : Bool) (own stored : LeafKind) (x : Atom) → stands_for r own stored ≡ true → IsOf stored x
    → IsOf own x
of_wider r Flag Flag x e h = h
of_wider true (Integer own) (Integer stored) (Number z) e h = in_wider own stored z (leb-true _ _ e) h
of_wider false (Integer own) (Integer stored) (Number z) e h =
    let same = eqb-true _ _ e in in_wider own stored z (omega (arith, same)) h
of_wider true (Integer own) (Integer stored) (Truth b) e h = absurd h
of_wider false (Integer own) (Integer stored) (Truth b) e h = absurd h
of_wider true Flag (Integer stored) x e h = absurd cc
of_wider false Flag (Integer stored) x e h = absurd cc
of_wider true (Integer own) Flag x e h = absurd cc
of_wider false (Integer own) Flag x e h = absurd cc

-- ---- items

pub count_each : (f : Value → Value) (vs : Values) → count (each f vs) ≡ count vs
count_each f NoValue = refl
count_each f (And v vs) = ap suc (count_each f vs)

list_rises : (k : Option Value) (vs : Values) → Rises AList k vs
list_rises k NoValue = tt
list_rises k (And v vs) = (refl, list_rises (Some (is.key_of v)) vs)

each_is : {A B C D : Type 0} (f : Value → Value) (l : Tree A B) (m : Tree C D) (vs : Values)
    → ((v : Value) → Of l v → Of m (f v)) → OfEach l vs → OfEach m (each f vs)
each_is f l m NoValue p none = none
each_is f l m (And v vs) p (more h hs) = more (p v h) (each_is f l m vs p hs)

-- the key of a pair stays, so keys rise as before
pair_keys_rise : {A B : Type 0} (f : Value → Value) (i j : ℕ) (x y : Tree A B) (k : Option Value)
    {vs : Values}
    → OfEach (Struct (Field i x (Field j y NoField))) vs → Rises AMap k vs
    → Rises AMap k (each (with_second f) vs)
pair_keys_rise f i j x y k none r = tt
pair_keys_rise f i j x y k (more (record_of e (part p (part q no_part))) hs) r =
    (r.0, pair_keys_rise f i j x y _ hs r.1)

pairs_rise : {A B : Type 0} (f : Value → Value) (l : Tree A B) (first second : Tree A B → Type 0)
    (k : Option Value)
    (vs : Values) → BindsPair first second l → OfEach l vs → Rises AMap k vs
    → Rises AMap k (each (with_second f) vs)
pairs_rise f (Struct (Field i x (Field j y NoField))) first second k vs b hs r =
    pair_keys_rise f i j x y k hs r
pairs_rise f l first second k vs b hs r = absurd b

pair_is : {A B : Type 0} (f : Value → Value) (l : Tree A B) (first second : Tree A B → Type 0)
    (x y : KindTree)
    (v : Value) → ((k : Tree A B) (u : Value) → first k → Of k u → Of x u)
    → ((k : Tree A B) (u : Value) → second k → Of k u → Of y (f u)) → BindsPair first second l → Of l v
    → Of (Struct (Field 1 x (Field 2 y NoField))) (with_second f v)
pair_is f (Struct (Field i k (Field j w NoField))) first second x y v p q b
    (record_of e (part {v = u} h (part {v = s} g no_part))) =
    record_of refl (part (p k u b.0 h) (part (q w s b.1 g) no_part))
pair_is f l first second x y v p q b h = absurd b

each_key : {A B : Type 0} (x : TypeTree) (l : Tree A B) (vs : Values)
    → ((v : Value) → Of l v → Of (kinds_of x) v)
    → OfEach l vs → OfEach (kinds_of x) vs
each_key x l NoValue p none = none
each_key x l (And v vs) p (more h hs) = more (p v h) (each_key x l vs p hs)

pub key_stays : (t : TypeTree) (v : Value) → IsKeyType t → proj t v ≡ v
key_stays (scalar s) v k = refl
key_stays text v k = refl
key_stays bytes v k = refl
key_stays (named (enum_of w ms)) v k = refl
key_stays t v k = absurd k

-- ---- fields

-- what was found under an id in a struct, and in a value of it
abbrev pub FoundOf : {A B : Type 0} → Option (Tree A B) → Option Value → Type 0
FoundOf (Some l) (Some v) = Of l v
FoundOf None None = Unit {0}
FoundOf o p = ⊥

either : {A B : Type 0} (b : Bool) (l : Tree A B) (o : Option (Tree A B)) (v : Value) (p : Option Value)
    → Of l v
    → FoundOf o p → FoundOf (cond b (Some l) o) (cond b (Some v) p)
either true l o v p h k = h
either false l o v p h k = k

pub found : {A B : Type 0} {ls : Trees A B} {vs : Values} (id : ℕ) → OfAll ls vs
    → FoundOf (field_tree ls id) (find_field (ids_of ls) vs id)
found id no_part = tt
found id (part {i = i} {l = l} {ls = ls} {v = v} {vs = vs} h hs) =
    either (nat_eq i id) l (field_tree ls id) v (find_field (ids_of ls) vs id) h (found id hs)

plain_is : {A B : Type 0} (d : Value) (x : KindTree) (binds : Tree A B → Type 0) (f : Value → Value)
    (o : Option (Tree A B)) (p : Option Value) → ((l : Tree A B) (v : Value) → binds l → Of l v → Of x (f v))
    → Of x d
    → FoundOf o p → BindsField Plain binds o → Of x (found_or d Plain f p)
plain_is d x binds f None None q h g b = h
plain_is d x binds f (Some l) (Some v) q h g b = q l v b g
plain_is d x binds f None (Some v) q h g b = absurd g
plain_is d x binds f (Some l) None q h g b = absurd g

required_is : {A B : Type 0} (d : Value) (x : KindTree) (binds : Tree A B → Type 0) (f : Value → Value)
    (o : Option (Tree A B)) (p : Option Value) → ((l : Tree A B) (v : Value) → binds l → Of l v → Of x (f v))
    → FoundOf o p → BindsField Required binds o → Of x (found_or d Required f p)
required_is d x binds f None p q g b = absurd b
required_is d x binds f (Some l) (Some v) q g b = q l v b g
required_is d x binds f (Some l) None q g b = absurd g

inner_is : {A B : Type 0} (x : KindTree) (binds : Tree A B → Type 0) (f : Value → Value) (w : B)
    (l : Tree A B)
    {v : Value} → ((l : Tree A B) (v : Value) → binds l → Of l v → Of x (f v)) → binds l
    → Of (tree.Optional w l) v
    → Of (tree.Optional tt x) (found_or Absent Optional f (Some v))
inner_is x binds f w l q b absent = absent
inner_is x binds f w l q b (present {v = v} h) = present (q l v b h)

optional_is : {A B : Type 0} (x : KindTree) (binds : Tree A B → Type 0) (f : Value → Value)
    (o : Option (Tree A B))
    (p : Option Value) → ((l : Tree A B) (v : Value) → binds l → Of l v → Of x (f v)) → FoundOf o p
    → BindsField Optional binds o → Of (tree.Optional tt x) (found_or Absent Optional f p)
optional_is x binds f None None q g b = absent
optional_is x binds f None (Some v) q g b = absurd g
optional_is x binds f (Some l) None q g b = absurd g
optional_is x binds f (Some (tree.Optional w l)) (Some v) q g b = inner_is x binds f w l q b g
optional_is x binds f (Some l) (Some v) q g b = absurd b

pub ids_are : (fs : Fields) → ids_of (kinds_of_fields fs) ≡ ids_of_fields fs
ids_are no_fields = refl
ids_are (field i w Optional t d fs) = ap (λ k. nat_abs i ∷ k) (ids_are fs)
ids_are (field i w Plain t d fs) = ap (λ k. nat_abs i ∷ k) (ids_are fs)
ids_are (field i w Required t d fs) = ap (λ k. nat_abs i ∷ k) (ids_are fs)

fields_of_record : {ls : Trees (Unit {0}) (Unit {0})} {ids : List ℕ} {vs : Values}
    → Of (Struct ls) (Record ids vs)
    → OfAll ls vs
fields_of_record (record_of e hs) = hs

-- ---- types

mutual
  pub projected : {A B : Type 0} (r : Bool) (t : TypeTree) (l : Tree A B) {v : Value}
      → IsAccepted IsTextDefault t
      → Binds r t l → Of l v → Of (kinds_of t) (proj t v)
  projected r (scalar s) (Leaf k a) ac b (one {x = x} h) = one (of_wider r (leaf_kind s) k x b h)
  projected r text (ByteRange Text d c) ac b (is.bytes h i j) = is.bytes h i j
  projected r bytes (ByteRange Binary d c) ac b (is.bytes h i j) = is.bytes h i j
  projected r (list_of x) (ItemRange AList d c l) ac b (items {vs = vs} n rises hs) =
      items (subst (λ m. m < 2 ^ 31) (sym (count_each (λ v. proj x v) vs)) n)
      (list_rises None (each (λ v. proj x v) vs))
      (each_is (λ v. proj x v) l (kinds_of x) vs (λ v h. projected r x l ac b h) hs)
  projected r (set_of x) (ItemRange ASet d c l) ac b (items {vs = vs} n rises hs) =
      items n rises (each_key x l vs
      (λ v h. subst (Of (kinds_of x)) (key_stays x v ac.0) (projected r x l ac.1 b h)) hs)
  projected {A} {B} r (map_of x y) (ItemRange AMap d c l) ac b (items {vs = vs} n rises hs) =
      items (subst (λ m. m < 2 ^ 31) (sym (count_each (with_second (λ v. proj y v)) vs)) n)
      (pairs_rise (λ v. proj y v) l (λ (k : Tree A B). Binds r x k) (λ (u : Tree A B). Binds r y u) None vs b
      hs rises)
      (each_is (with_second (λ v. proj y v)) l (Struct (Field 1 (kinds_of x) (Field 2 (kinds_of y) NoField)))
      vs
      (λ v h. pair_is (λ u. proj y u) l (λ (k : Tree A B). Binds r x k) (λ (u : Tree A B). Binds r y u)
      (kinds_of x)
      (kinds_of y) v (λ k u bk hk. subst (Of (kinds_of x)) (key_stays x u ac.0) (projected r x k ac.1 bk hk))
      (λ k u bk hk. projected r y k ac.2 bk hk) b h) hs)
  projected r (named n) l ac b h = named_projected r n l ac b h
  projected r t l ac b h = absurd b

  named_projected : {A B : Type 0} (r : Bool) (n : Named) (l : Tree A B) {v : Value}
      → IsAcceptedNamed IsTextDefault n
      → BindsNamed r n l → Of l v → Of (kinds_of_named n) (proj_named n v)
  named_projected r (enum_of w ms) (Leaf k a) ac b (one {x = x} h) = one (of_wider r (Integer I32) k x b h)
  named_projected r (struct_of w fs) (Struct ls) ac b (record_of {vs = vs} e hs) =
      record_of (sym (ids_are fs))
      (subst (λ is. OfAll (kinds_of_fields fs) (proj_fields fs is vs)) (sym e)
      (fields_projected r fs ls vs ac.2 (fields_of_record (default_is (named (struct_of w fs)) ac)) b hs))
  named_projected r n l ac b h = absurd b

  fields_projected : {A B : Type 0} (r : Bool) (fs : Fields) (ls : Trees A B) (vs : Values)
      → AreAccepted IsTextDefault fs → OfAll (kinds_of_fields fs) (defaults_of fs) → BindFields r fs ls
      → OfAll ls vs
      → OfAll (kinds_of_fields fs) (proj_fields fs (ids_of ls) vs)
  fields_projected r no_fields ls vs ac ds b hs = no_part
  fields_projected {A} {B} r (field i w Plain t d fs) ls vs ac (part h ds) b hs =
      part (plain_is (default_field Plain t d) (kinds_of t) (λ (l : Tree A B). Binds r t l) (λ v. proj t v)
      (field_tree ls (nat_abs i)) (find_field (ids_of ls) vs (nat_abs i))
      (λ l v bl h. projected r t l ac.0 bl h)
      h (found (nat_abs i) hs) b.0)
      (fields_projected r fs ls vs ac.2 ds b.1 hs)
  fields_projected {A} {B} r (field i w Required t d fs) ls vs ac (part h ds) b hs =
      part (required_is (default_field Required t d) (kinds_of t) (λ (l : Tree A B). Binds r t l)
      (λ v. proj t v)
      (field_tree ls (nat_abs i)) (find_field (ids_of ls) vs (nat_abs i))
      (λ l v bl h. projected r t l ac.0 bl h)
      (found (nat_abs i) hs) b.0)
      (fields_projected r fs ls vs ac.2 ds b.1 hs)
  fields_projected {A} {B} r (field i w Optional t d fs) ls vs ac (part h ds) b hs =
      part (optional_is (kinds_of t) (λ (l : Tree A B). Binds r t l) (λ v. proj t v)
      (field_tree ls (nat_abs i)) (find_field (ids_of ls) vs (nat_abs i))
      (λ l v bl h. projected r t l ac.0 bl h)
      (found (nat_abs i) hs) b.0)
      (fields_projected r fs ls vs ac.2 ds b.1 hs)

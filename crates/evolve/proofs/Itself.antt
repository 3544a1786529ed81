-- Where the kinds are equal, the projection of a value is the value.
use Rattle.std.proofs.Common.{◌≡◌, ℕ, ◌<◌, ◌≤◌, Bool, true, false, nat_abs, nat_eq, cond, refl, ap, sym}
use Rattle.std.proofs.Common.{subst, ◌∙◌, arith, List, [], ◌∷◌, Option, Some, eq-eqb}
use Rattle.std.proofs.lemmas.Bool.{ne_eqb}
use Rattle.idl_profile.specs.declared.kinds.Need.TheVariants.{Plain, Required, Optional}
use Rattle.idl_profile.specs.declared.kinds.Need.{Need}
use Rattle.idl_profile.specs.Types.{TypeTree, scalar, text, bytes, list_of, set_of, map_of, named, Named}
use Rattle.idl_profile.specs.Types.{enum_of, struct_of, Fields, no_fields, field}
use Rattle.frozen_model.specs.Trees as tree
use Rattle.frozen_model.specs.Trees.{AMap, AList, Tree, Trees, Struct, NoField, Field, KindTree, Rising}
use Rattle.frozen_model.specs.Trees.{ids_of, kinds}
use Rattle.frozen_model.specs.Values.{Value, Values, Items, Present, Record, NoValue, And, Of, OfEach, OfAll}
use Rattle.frozen_model.specs.Values.{items, absent, present, record_of, none, more, no_part, part}
use Rattle.type_kinds.specs.KindsOf.{kinds_of, kinds_of_named, kinds_of_fields}
use Rattle.type_kinds.specs.Defaults.{default_field, ids_of_fields}
use Rattle.type_kinds.specs.Accepted.{IsAccepted, IsAcceptedNamed, AreAccepted}
use Rattle.typed_tree.specs.Parts.{find_field}
use Rattle.frozen_laws.proofs.Puts.{of_leafwise}
use Rattle.frozen_laws.proofs.SameKinds.{kinds_alike}
use Rattle.evolve.specs.Projection.{each, with_second, found_or, proj, proj_named, proj_fields}
use Rattle.evolve.proofs.Projected.{ids_are}

each_stays : (f : Value → Value) (l : KindTree) {vs : Values} → ((v : Value) → Of l v → f v ≡ v) → OfEach l vs
    → each f vs ≡ vs
each_stays f l p none = refl
each_stays f l p (more {v = v} {vs = vs} h hs) =
    let own = p v h in let rest = each_stays f l p hs in cc

pair_stays : (f : Value → Value) (x y : KindTree) {v : Value} → ((u : Value) → Of y u → f u ≡ u)
    → Of (Struct (Field 1 x (Field 2 y NoField))) v → with_second f v ≡ v
pair_stays f x y p (record_of e (part {v = k} h (part {v = u} g no_part))) =
    ap (λ w. Record (1 ∷ 2 ∷ []) (And k (And w NoValue))) (p u g)
    ∙ ap (λ is. Record is (And k (And u NoValue))) (sym e)

-- ---- fields

skip : (b : Bool) (v : Value) (p : Option Value) → b ≡ false → cond b (Some v) p ≡ p
skip false v p e = refl
skip true v p e = absurd cc

take_it : (b : Bool) (v : Value) (p : Option Value) → b ≡ true → cond b (Some v) p ≡ Some v
take_it true v p e = refl
take_it false v p e = absurd cc

pub apart : (i j : ℕ) → i < j → nat_eq i j ≡ false
apart i j h = ne_eqb i j (λ e. absurd (omega (arith, h, e)))

-- an id below all of the type's is looked for in vain
skipped : (fs : Fields) (j b : ℕ) (v : Value) (ids : List ℕ) (vs : Values) → j ≤ b
    → Rising b (ids_of_fields fs)
    → proj_fields fs (j ∷ ids) (And v vs) ≡ proj_fields fs ids vs
skipped no_fields j b v ids vs le r = refl
skipped (field i w n t d fs) j b v ids vs le r =
    let head = skip (nat_eq j (nat_abs i)) v (find_field ids vs (nat_abs i))
    (apart j (nat_abs i) (omega (arith, le, r.0))) in
    let rest = skipped fs j (nat_abs i) v ids vs (omega (arith, le, r.0)) r.2 in
    ap (λ p. And (found_or (default_field n t d) n (λ u. proj t u) p) (proj_fields fs (j ∷ ids) (And v vs)))
    head
    ∙ ap (λ us. And (found_or (default_field n t d) n (λ u. proj t u) (find_field ids vs (nat_abs i))) us)
    rest

optional_stays : (x : KindTree) (f : Value → Value) (default : Value) {v : Value}
    → ((u : Value) → Of x u → f u ≡ u)
    → Of (tree.Optional tt x) v → found_or default Optional f (Some v) ≡ v
optional_stays x f default p absent = refl
optional_stays x f default p (present {v = u} h) = ap Present (p u h)

-- a first field that stays, and others that do
then_stay : (fs : Fields) (n : Need) (default v : Value) (f : Value → Value) (i : ℕ) (vs : Values)
    → found_or default n f (Some v) ≡ v → Rising i (ids_of_fields fs)
    → proj_fields fs (ids_of_fields fs) vs ≡ vs
    → And (found_or default n f (find_field (i ∷ ids_of_fields fs) (And v vs) i))
    (proj_fields fs (i ∷ ids_of_fields fs) (And v vs)) ≡ And v vs
then_stay fs n default v f i vs e r rest =
    let here = take_it (nat_eq i i) v (find_field (ids_of_fields fs) vs i) (eq-eqb i i refl) in
    let behind = skipped fs i i v (ids_of_fields fs) vs (omega arith) r in
    ap (λ p. And (found_or default n f p) (proj_fields fs (i ∷ ids_of_fields fs) (And v vs))) here
    ∙ ap (λ u. And u (proj_fields fs (i ∷ ids_of_fields fs) (And v vs))) e
    ∙ ap (λ us. And v us) (behind ∙ rest)

-- ---- types

mutual
  pub stays : (P : List ℕ → Type 0) (t : TypeTree) {v : Value} → IsAccepted P t → Of (kinds_of t) v
      → proj t v ≡ v
  stays P (scalar s) a h = refl
  stays P text a h = refl
  stays P bytes a h = refl
  stays P (list_of x) a (items {vs = vs} n r hs) =
      ap (Items AList) (each_stays (λ v. proj x v) (kinds_of x) (λ v h. stays P x a h) hs)
  stays P (set_of x) a h = refl
  stays P (map_of x y) a (items {vs = vs} n r hs) =
      ap (Items AMap) (each_stays (with_second (λ v. proj y v))
      (Struct (Field 1 (kinds_of x) (Field 2 (kinds_of y) NoField)))
      (λ v h. pair_stays (λ u. proj y u) (kinds_of x) (kinds_of y) (λ u g. stays P y a.2 g) h) hs)
  stays P (named n) a h = named_stays P n a h

  named_stays : (P : List ℕ → Type 0) (n : Named) {v : Value} → IsAcceptedNamed P n → Of (kinds_of_named n) v
      → proj_named n v ≡ v
  named_stays P (enum_of w ms) a h = refl
  named_stays P (struct_of w fs) a (record_of {ids = ids} {vs = vs} e hs) =
      let same : ids ≡ ids_of_fields fs = e ∙ ids_are fs in
      ap (λ is. Record (ids_of_fields fs) (proj_fields fs is vs)) same
      ∙ ap (Record (ids_of_fields fs)) (fields_stay P fs vs 0 a.0 a.2 hs)
      ∙ ap (λ is. Record is vs) (sym same)

  fields_stay : (P : List ℕ → Type 0) (fs : Fields) (vs : Values) (b : ℕ) → Rising b (ids_of_fields fs)
      → AreAccepted P fs
      → OfAll (kinds_of_fields fs) vs → proj_fields fs (ids_of_fields fs) vs ≡ vs
  fields_stay P no_fields vs b r a no_part = refl
  fields_stay P (field i w Plain t d fs) vs b r a (part {v = v} {vs = us} h hs) =
      then_stay fs Plain (default_field Plain t d) v (λ u. proj t u) (nat_abs i) us (stays P t a.0 h) r.2
      (fields_stay P fs us (nat_abs i) r.2 a.2 hs)
  fields_stay P (field i w Required t d fs) vs b r a (part {v = v} {vs = us} h hs) =
      then_stay fs Required (default_field Required t d) v (λ u. proj t u) (nat_abs i) us (stays P t a.0 h)
      r.2
      (fields_stay P fs us (nat_abs i) r.2 a.2 hs)
  fields_stay P (field i w Optional t d fs) vs b r a (part {v = v} {vs = us} h hs) =
      then_stay fs Optional (default_field Optional t d) v (λ u. proj t u) (nat_abs i) us
      (optional_stays (kinds_of t) (λ u. proj t u) (default_field Optional t d) (λ u g. stays P t a.0 g) h)
      r.2
      (fields_stay P fs us (nat_abs i) r.2 a.2 hs)

-- a value of a layout is one of each tree with the layout's kinds
pub of_same_kinds : {A B : Type 0} (l : Tree A B) (k : KindTree) {v : Value} → k ≡ kinds l → Of l v → Of k v
of_same_kinds l k {v} e h = subst (λ m. Of m v) (sym e) (of_leafwise h (kinds_alike l))

-- Halving finds the field of an id, since ids rise.
use Rattle.std.proofs.Common.{◌≡◌, ℕ, zero, suc, ◌<◌, ◌≤◌, Bool, true, false, not, List, [], ◌∷◌, map, length, get_or, refl, sym, subst, arith}
use Rattle.std.specs.Prelude.{ℤ, int_lt, Some, None, find, position, slice_get}
use Rattle.std.specs.Ordering.{int_eq}
use Rattle.std.specs.List.{list_all}
use Rattle.std.specs.List.Sorted.{IsPartitionedBy}
use Rattle.std.proofs.lemmas.Bool.{and_parts, and_from}
use Rattle.std.proofs.lemmas.Bool.Decides.{nat_tests}
use Rattle.std.proofs.lemmas.Grind.{common_steps}
use Rattle.std.proofs.lemmas.Int.{ints}
use Rattle.std.proofs.lemmas.List.Sums.{prefix_len-le-length}
use Rattle.idl_fields.specs.declared.draft.DraftField.{DraftField}
use Rattle.std.specs.Prelude.{string_bytes}
use Rattle.idl_tokens.specs.Tokens.{tokens}
use Rattle.idl_profile.specs.Meaning as m
use Rattle.idl_profile.proofs.Each.{Each, Distinct}
use Rattle.idl_profile.proofs.Had.{tokens-had}
use Rattle.idl_profile.proofs.Ids.{NamedRises, whole-rises}
use Rattle.idl_profile.proofs.Rising.{Below}
use Rattle.idl_fields.specs.declared.draft.DraftNamed.{DraftNamed}
use Rattle.idl_fields.specs.declared.draft.DraftNamed.TheVariants as n
use Rattle.idl_fields.specs.View.{types_in, field_of, fields_of, named_of, nameds_of}
use Rattle.idl_parse.specs.declared.definition.Definition.{Definition}
use Rattle.idl_parse.specs.Drafts.{rising, has_rising}
use Rattle.idl_parse.specs.Parsed.{meant_of}

abbrev pub below : ℤ → DraftField → Bool
below z f = int_lt f.id.id z

abbrev pub has : ℤ → DraftField → Bool
has z f = int_eq f.id.id z

all-at : (z : ℤ) (fs : List DraftField) (j : ℕ) (d : DraftField) → list_all (λ g. int_lt z g.id.id) fs ≡ true → j < length fs → int_lt z (get_or fs j d).id.id ≡ true
all-at z [] j d h l = absurd (omega arith)
all-at z (f ∷ fs) zero d h l = (and_parts (int_lt z f.id.id) (list_all (λ g. int_lt z g.id.id) fs) h).0
all-at z (f ∷ fs) (suc j) d h l = all-at z fs j d (and_parts (int_lt z f.id.id) (list_all (λ g. int_lt z g.id.id) fs) h).1 (omega arith)

less-trans : (x y z : ℤ) → int_lt x y ≡ true → int_lt y z ≡ true → int_lt x z ≡ true
less-trans x y z g h = grind (arith, ints)

pub partitioned : (z : ℤ) (fs : List DraftField) → rising fs ≡ true → IsPartitionedBy (below z) fs
partitioned z [] h i j d le l e = absurd (omega arith)
partitioned z (f ∷ fs) h zero zero d le l e = e
partitioned z (f ∷ fs) h zero (suc j) d le l e =
    less-trans f.id.id (get_or fs j d).id.id z (all-at f.id.id fs j d (and_parts (list_all (λ g. int_lt f.id.id g.id.id) fs) (rising fs) h).0 (omega arith)) e
partitioned z (f ∷ fs) h (suc i) zero d le l e = absurd (omega arith)
partitioned z (f ∷ fs) h (suc i) (suc j) d le l e = partitioned z fs (and_parts (list_all (λ g. int_lt f.id.id g.id.id) fs) (rising fs) h).1 i j d (omega arith) (omega arith) e

less-not : (x z : ℤ) → int_lt x z ≡ true → int_eq x z ≡ false
less-not x z h = grind (arith, ints)

more-not : (x y z : ℤ) → int_lt x z ≡ false → int_lt x y ≡ true → int_eq y z ≡ false
more-not x y z g h = grind (arith, ints)

pub found : (z : ℤ) (fs : List DraftField) (i : ℕ) (f : DraftField) → ((k : ℕ) → k < i → int_lt (get_or fs k f).id.id z ≡ true) → i < length fs → int_eq (get_or fs i f).id.id z ≡ true → Some i ≡ position (has z) fs
found z [] i f h l e = absurd (omega arith)
found z (g ∷ fs) zero f h l e = grind (arith, common_steps, nat_tests)
found z (g ∷ fs) (suc i) f h l e =
    let first = less-not g.id.id z (h zero (omega arith)) in
    let rest = found z fs i f (λ k lt. h (suc k) (omega arith)) (omega arith) e in
    grind (arith, common_steps, nat_tests)

less-than : (x y z : ℤ) → int_lt x y ≡ true → int_eq y z ≡ true → int_lt x z ≡ true
less-than x y z g h = grind (arith, ints)

less-before : (z : ℤ) (fs : List DraftField) (i k : ℕ) (f : DraftField) → rising fs ≡ true → k < i → i < length fs → int_eq (get_or fs i f).id.id z ≡ true → int_lt (get_or fs k f).id.id z ≡ true
less-before z [] i k f r lt l e = absurd (omega arith)
less-before z (g ∷ fs) zero k f r lt l e = absurd (omega arith)
less-before z (g ∷ fs) (suc i) zero f r lt l e =
    less-than g.id.id (get_or fs i f).id.id z (all-at g.id.id fs i f (and_parts (list_all (λ x. int_lt g.id.id x.id.id) fs) (rising fs) r).0 (omega arith)) e
less-before z (g ∷ fs) (suc i) (suc k) f r lt l e =
    less-before z fs i k f (and_parts (list_all (λ x. int_lt g.id.id x.id.id) fs) (rising fs) r).1 (omega arith) (omega arith) e

-- where ids rise, a field with the id is the first with it
pub risen : (z : ℤ) (fs : List DraftField) (i : ℕ) (f : DraftField) → rising fs ≡ true → i < length fs → int_eq (get_or fs i f).id.id z ≡ true → Some i ≡ position (has z) fs
risen z fs i f r l e = found z fs i f (λ k lt. less-before z fs i k f r lt l e) l e

none-above : (x z : ℤ) (fs : List DraftField) → int_lt x z ≡ false → list_all (λ g. int_lt x g.id.id) fs ≡ true → None ≡ position (has z) fs
none-above x z [] g h = refl
none-above x z (f ∷ fs) g h =
    let a = and_parts (int_lt x f.id.id) (list_all (λ g. int_lt x g.id.id) fs) h in
    let first = more-not x f.id.id z g a.0 in
    let rest = none-above x z fs g a.1 in
    grind (arith, common_steps, nat_tests)

pub absent : (z : ℤ) (fs : List DraftField) (i : ℕ) → rising fs ≡ true → ((k : ℕ) (d : DraftField) → k < i → int_lt (get_or fs k d).id.id z ≡ true)
    → ((d : DraftField) → i < length fs → (int_lt (get_or fs i d).id.id z ≡ false) × (int_eq (get_or fs i d).id.id z ≡ false)) → i ≤ length fs → None ≡ position (has z) fs
absent z [] i r h e l = refl
absent z (g ∷ fs) zero r h e l =
    let p = and_parts (list_all (λ x. int_lt g.id.id x.id.id) fs) (rising fs) r in
    let a = e g (omega arith) in
    let first = a.1 in
    let rest = none-above g.id.id z fs a.0 p.0 in
    grind (arith, common_steps, nat_tests)
absent z (g ∷ fs) (suc i) r h e l =
    let p = and_parts (list_all (λ x. int_lt g.id.id x.id.id) fs) (rising fs) r in
    let first = less-not g.id.id z (h zero g (omega arith)) in
    let rest = absent z fs i p.1 (λ k d lt. h (suc k) d (omega arith)) (λ d lt. e d (omega arith)) (omega arith) in
    grind (arith, common_steps, nat_tests)

-- ---- places in what the fields stand for

pub mapped : {X Y : Type 0} (p : Y → Bool) (g : X → Y) (xs : List X) → position (λ x. p (g x)) xs ≡ position p (map g xs)
mapped p g [] = refl
mapped p g (x ∷ xs) = let h = mapped p g xs in grind (arith, common_steps, nat_tests)

pub found-at : {X : Type 0} (p : X → Bool) (xs : List X) (i : ℕ) (x : X) → Some i ≡ position p xs → slice_get xs i ≡ Some x → Some x ≡ find p xs
found-at p [] i x e g = absurd cc
found-at p (y ∷ xs) zero x e g = grind (arith, common_steps, nat_tests)
found-at p (y ∷ xs) (suc i) x e g = let h = found-at p xs i x in grind (arith, common_steps, nat_tests)

pub found-none : {X : Type 0} (p : X → Bool) (xs : List X) → None ≡ position p xs → None ≡ find p xs
found-none p [] e = refl
found-none p (x ∷ xs) e = let h = found-none p xs in grind (arith, common_steps, nat_tests, prefix_len-le-length (λ y. not (p y)) xs)

-- ---- the ids of each struct of a definition rise

above-ids : (text : List ℕ) (ts : List m.Ty) (f : DraftField) (fs : List DraftField) → Each (Below (field_of text ts f)) (fields_of text ts fs) → list_all (λ g. int_lt f.id.id g.id.id) fs ≡ true
above-ids text ts f [] h = refl
above-ids text ts f (g ∷ fs) h = and_from _ _ h.0 (above-ids text ts f fs h.1)

rising-ids : (text : List ℕ) (ts : List m.Ty) (fs : List DraftField) → Distinct Below (fields_of text ts fs) → rising fs ≡ true
rising-ids text ts [] h = refl
rising-ids text ts (f ∷ fs) h = and_from _ _ (above-ids text ts f fs h.0) (rising-ids text ts fs h.1)

one-rises : (text : List ℕ) (ts : List m.Ty) (x : DraftNamed) → NamedRises (named_of text ts x) → has_rising x ≡ true
one-rises text ts (n.Enum w ms) h = refl
one-rises text ts (n.Struct w fs) h = rising-ids text ts fs.items h

each-rises : (text : List ℕ) (ts : List m.Ty) (xs : List DraftNamed) → Each NamedRises (nameds_of text ts xs) → list_all has_rising xs ≡ true
each-rises text ts [] h = refl
each-rises text ts (x ∷ xs) h = and_from _ _ (one-rises text ts x h.0) (each-rises text ts xs h.1)

pub all-rise : (d : Definition) → list_all has_rising d.named.items ≡ true
all-rise d =
    let text = string_bytes d.text in
    let had = tokens-had (tokens text) (meant_of d) d.meant in
    each-rises text (types_in d.types) d.named.items (subst (Each NamedRises) (sym had.means) (whole-rises had.scope (tokens text) had.rest had.spells))

-- The part at a path that fits is a value of the type to which the path leads.
use Rattle.std.proofs.Common.{◌≡◌, ℕ, suc, zero, ◌<◌, Bool, true, false, ℤ, nat_abs, nat_eq, cond, refl, ap}
use Rattle.std.proofs.Common.{sym, subst, ◌∙◌, arith, List, [], ◌∷◌, Option, Some, None, Result, Ok, Err}
use Rattle.std.proofs.Common.{eq-eqb, ◌⊎◌, inl, inr}
use Rattle.std.specs.Prelude.{option_map, option_and_then, find}
use Rattle.std.specs.Str.{bytes_eq}
use Rattle.idl_profile.specs.declared.kinds.Need.TheVariants.{Plain, Required, Optional}
use Rattle.idl_profile.specs.declared.kinds.Need.{Need}
use Rattle.idl_profile.specs.Types.{TypeTree, scalar, text, bytes, list_of, set_of, map_of, named, enum_of}
use Rattle.idl_profile.specs.Types.{struct_of, Fields, no_fields, field, DefField, field_list, kind_of}
use Rattle.frozen_model.specs.Trees as tree
use Rattle.frozen_model.specs.Trees.{KindTree, Struct, NoField, Field, Rising, ids_of}
use Rattle.frozen_model.specs.Values as is
use Rattle.frozen_model.specs.Values.{Value, Values, Record, NoValue, And, key_of, Of, OfEach, OfAll, one}
use Rattle.frozen_model.specs.Values.{items, absent, present, record_of, none, more, no_part, part}
use Rattle.type_kinds.specs.KindsOf.{kinds_of, kinds_of_fields}
use Rattle.type_kinds.specs.Defaults.{ids_of_fields}
use Rattle.type_kinds.specs.Accepted.{IsAccepted, AreAccepted}
use Rattle.typed_tree.specs.Parts.{find_field}
use Rattle.path_text.specs.declared.fault.PathFault.{PathFault}
use Rattle.path_text.specs.Steps.{PathKey, PathStep, field_step, index_step, key_step, PlacedStep}
use Rattle.path_text.specs.Fitting.{field_to, step_to, and_then, steps_to, is_key_of}
use Rattle.bit_view.specs.Branches.{field_tree}
use Rattle.evolve.specs.Parts.{Typed, typed, is_key, item_at, item_with, second, held, part_of_field, step_at}
use Rattle.evolve.specs.Parts.{at}
use Rattle.evolve.proofs.Projected.{FoundOf, found}
use Rattle.evolve.proofs.Itself.{apart}
use Rattle.evolve.proofs.OwnKinds.{skip, take_it}

-- ---- what a step gives

-- a value of the type that a step gives
abbrev PartOf : TypeTree → Typed → Type 0
PartOf x p = (p.type ≡ x) × Of (kinds_of p.type) p.value

typed_is : (x : TypeTree) (q : Option Value) (p : Typed) → option_map (typed x) q ≡ Some p
    → ((u : Value) → q ≡ Some u → Of (kinds_of x) u) → PartOf x p
typed_is x None p e f = absurd cc
typed_is x (Some u) p e f = let same : typed x u ≡ p = cc in subst (PartOf x) same (refl, f u refl)

item_is : (l : KindTree) (i : ℕ) (u : Value) {vs : Values} → OfEach l vs → item_at vs i ≡ Some u → Of l u
item_is l i u none e = absurd cc
item_is l zero u (more {v = v} h hs) e = let same : v ≡ u = cc in subst (Of l) same h
item_is l (suc i) u (more h hs) e = item_is l i u hs e

one_of : (c : Bool) (v u : Value) (rest : Option Value) → cond c (Some v) rest ≡ Some u
    → (v ≡ u) ⊎ (rest ≡ Some u)
one_of true v u rest e = inl cc
one_of false v u rest e = inr e

keyed_is : (l : KindTree) (key : PathKey) (u : Value) {vs : Values} → OfEach l vs → item_with key vs ≡ Some u
    → Of l u
keyed_is l key u none e = absurd cc
keyed_is l key u (more {v = v} {vs = vs} h hs) e =
    elim (one_of (is_key key (key_of v)) v u (item_with key vs) e) [
      | inl same ↦ subst (Of l) same h
      | inr f ↦ keyed_is l key u hs f
    ]

second_is : (x y : KindTree) (u : Value) {v : Value} → Of (Struct (Field 1 x (Field 2 y NoField))) v
    → second v ≡ Some u
    → Of y u
second_is x y u (record_of e (part h (part {v = w} g no_part))) f =
    let same : w ≡ u = cc in subst (Of y) same g

value_at_key : (x y : KindTree) (q : Option Value) (u : Value)
    → ((v : Value) → q ≡ Some v → Of (Struct (Field 1 x (Field 2 y NoField))) v)
    → option_and_then second q ≡ Some u → Of y u
value_at_key x y None u f e = absurd cc
value_at_key x y (Some v) u f e = second_is x y u (f v refl) e

-- ---- fields

abbrev as_field : Need → KindTree → KindTree
as_field Optional k = tree.Optional tt k
as_field Plain k = k
as_field Required k = k

field_is : (i : ℤ) (w : List ℕ) (n : Need) (t : TypeTree) (d : _) (fs : Fields)
    → kinds_of_fields (field i w n t d fs) ≡ Field (nat_abs i) (as_field n (kinds_of t)) (kinds_of_fields fs)
field_is i w Optional t d fs = refl
field_is i w Plain t d fs = refl
field_is i w Required t d fs = refl

-- the field that was found, in the kind tree
record FieldIs (P : List ℕ → Type 0) (fs : Fields) (b : ℕ) (f : DefField) : Type 0 where
  above : b < nat_abs f.id
  there : field_tree (kinds_of_fields fs) (nat_abs f.id) ≡ Some (as_field f.need (kinds_of f.type))
  accepted : IsAccepted P f.type

field_or : (c : Bool) (x f : DefField) (rest : Option DefField) → cond c (Some x) rest ≡ Some f
    → (x ≡ f) ⊎ (rest ≡ Some f)
field_or true x f rest e = inl cc
field_or false x f rest e = inr e

field_found : (P : List ℕ → Type 0) (p : DefField → Bool) (fs : Fields) (b : ℕ) (f : DefField)
    → Rising b (ids_of_fields fs) → AreAccepted P fs → find p (field_list fs) ≡ Some f → FieldIs P fs b f
field_found P p no_fields b f r a e = absurd cc
field_found P p (field i w n t d fs) b f r a e =
    let x : DefField = record { id = i; name = w; need = n; type = t; default = d } in
    let ls = kinds_of_fields fs in
    let here = as_field n (kinds_of t) in
    elim (field_or (p x) x f (find p (field_list fs)) e) [
      | inl same ↦ subst (FieldIs P (field i w n t d fs) b) same (record {
        above = r.0;
        there = ap (λ (ms : _). field_tree ms (nat_abs i)) (field_is i w n t d fs)
            ∙ sym (take_it (nat_eq (nat_abs i) (nat_abs i)) here (field_tree ls (nat_abs i))
            (eq-eqb (nat_abs i) (nat_abs i) refl));
        accepted = a.0;
      })
      | inr g ↦ let later = field_found P p fs (nat_abs i) f r.2 a.2 g in record {
        above = omega (arith, r.0, later.above);
        there = ap (λ (ms : _). field_tree ms (nat_abs f.id)) (field_is i w n t d fs)
            ∙ sym (skip (nat_eq (nat_abs i) (nat_abs f.id)) here (field_tree ls (nat_abs f.id))
            (apart (nat_abs i) (nat_abs f.id) later.above))
            ∙ later.there;
        accepted = later.accepted;
      }
    ]

-- a value of a type is no optional
held_is : (t : TypeTree) {v : Value} → Of (kinds_of t) v → held v ≡ Some v
held_is (scalar s) (one h) = refl
held_is text (is.bytes h i j) = refl
held_is bytes (is.bytes h i j) = refl
held_is (list_of x) (items n r hs) = refl
held_is (set_of x) (items n r hs) = refl
held_is (map_of x y) (items n r hs) = refl
held_is (named (enum_of w ms)) (one h) = refl
held_is (named (struct_of w fs)) (record_of e hs) = refl

optional_held : (k : KindTree) (u : Value) {v : Value} → Of (tree.Optional tt k) v → held v ≡ Some u → Of k u
optional_held k u absent e = absurd cc
optional_held k u (present {v = v} h) e = let same : v ≡ u = cc in subst (Of k) same h

plain_held : (t : TypeTree) (v u : Value) → Of (kinds_of t) v → held v ≡ Some u → Of (kinds_of t) u
plain_held t v u h e = let own = held_is t h in let same : v ≡ u = cc in subst (Of (kinds_of t)) same h

part_held : (n : Need) (t : TypeTree) (q : Option Value) (u : Value)
    → FoundOf (Some (as_field n (kinds_of t))) q
    → option_and_then held q ≡ Some u → Of (kinds_of t) u
part_held n t None u g e = absurd cc
part_held Plain t (Some v) u g e = plain_held t v u g e
part_held Required t (Some v) u g e = plain_held t v u g e
part_held Optional t (Some v) u g e = optional_held (kinds_of t) u g e

field_part : (P : List ℕ → Type 0) (fs : Fields) (n : ℕ) (t : TypeTree) (p : Typed) (o : Option DefField)
    (ids : List ℕ)
    (vs : Values) → ids ≡ ids_of (kinds_of_fields fs) → OfAll (kinds_of_fields fs) vs
    → ((f : DefField) → o ≡ Some f → FieldIs P fs 0 f) → field_to n o ≡ Ok t → part_of_field o ids vs ≡ Some p
    → PartOf t p × IsAccepted P p.type
field_part P fs n t p None ids vs e hs g q r = absurd cc
field_part P fs n t p (Some f) ids vs e hs g q r =
    let there = g f refl in
    let same : f.type ≡ t = cc in
    let of = subst (λ o. FoundOf o (find_field ids vs (nat_abs f.id))) there.there
    (subst (λ is. FoundOf (field_tree (kinds_of_fields fs) (nat_abs f.id)) (find_field is vs (nat_abs f.id)))
    (sym e)
    (found (nat_abs f.id) hs)) in
    let own = typed_is f.type (option_and_then held (find_field ids vs (nat_abs f.id))) p r
    (λ u h. part_held f.need f.type (find_field ids vs (nat_abs f.id)) u of h) in
    ((own.0 ∙ same, own.1), subst (IsAccepted P) (sym own.0) there.accepted)

-- ---- steps

if_fits : (c : Bool) (t u : TypeTree) (e : PathFault) → cond c (Ok t) (Err e) ≡ Ok u → t ≡ u
if_fits true t u e h = cc
if_fits false t u e h = absurd cc

moved : (P : List ℕ → Type 0) (x t : TypeTree) (p : Typed) → x ≡ t → IsAccepted P x → PartOf x p
    → PartOf t p × IsAccepted P p.type
moved P x t p e a h = ((h.0 ∙ e, h.1), subst (IsAccepted P) (sym h.0) a)

stepped : (P : List ℕ → Type 0) (s : PathStep) (t u : TypeTree) (n : ℕ) (p : Typed) {v : Value}
    → IsAccepted P t
    → step_to n s t ≡ Ok u → Of (kinds_of t) v → step_at s t v ≡ Some p → PartOf u p × IsAccepted P p.type
stepped P (field_step name) (named (struct_of w fs)) u n p a e (record_of {ids = ids} {vs = vs} is hs) q =
    field_part P fs n u p (find (λ f. bytes_eq f.name name) (field_list fs)) ids vs is hs
    (λ f g. field_found P (λ f. bytes_eq f.name name) fs 0 f a.0 a.2 g) e q
stepped P (index_step i) (list_of x) u n p a e (items {vs = vs} m r hs) q =
    let same : x ≡ u = cc in
    moved P x u p same a (typed_is x (item_at vs i) p q (λ w g. item_is (kinds_of x) i w hs g))
stepped P (key_step key) (set_of x) u n p a e (items {vs = vs} m r hs) q =
    moved P x u p (if_fits (is_key_of (kind_of x) key) x u _ e) a.1
    (typed_is x (item_with key vs) p q (λ w g. keyed_is (kinds_of x) key w hs g))
stepped P (key_step key) (map_of x y) u n p a e (items {vs = vs} m r hs) q =
    moved P y u p (if_fits (is_key_of (kind_of x) key) y u _ e) a.2
    (typed_is y (option_and_then second (item_with key vs)) p q
    (λ w g. value_at_key (kinds_of x) (kinds_of y) (item_with key vs) w
    (λ v f. keyed_is (Struct (Field 1 (kinds_of x) (Field 2 (kinds_of y) NoField))) key v hs f) g))
stepped P s t u n p a e h q = absurd cc

two_steps : (ss : List PlacedStep) (first : Result TypeTree PathFault) (u : TypeTree)
    → and_then first (λ t. steps_to ss t) ≡ Ok u → (t : TypeTree) × (first ≡ Ok t) × (steps_to ss t ≡ Ok u)
two_steps ss (Ok t) u e = (t, refl, e)
two_steps ss (Err f) u e = absurd cc

two_parts : (ss : List PlacedStep) (first : Option Typed) (w : Value)
    → option_and_then (λ p. at ss p.type p.value) first ≡ Some w
    → (p : Typed) × (first ≡ Some p) × (at ss p.type p.value ≡ Some w)
two_parts ss (Some p) w e = (p, refl, e)
two_parts ss None w e = absurd cc

pub part_at : (P : List ℕ → Type 0) (ss : List PlacedStep) (t u : TypeTree) (v w : Value) → IsAccepted P t
    → steps_to ss t ≡ Ok u → Of (kinds_of t) v → at ss t v ≡ Some w → Of (kinds_of u) w
part_at P [] t u v w a e h q =
    let type : t ≡ u = cc in let value : v ≡ w = cc in
    subst (λ x. Of (kinds_of x) w) type (subst (Of (kinds_of t)) value h)
part_at P (s ∷ ss) t u v w a e h q =
    let to = two_steps ss (step_to s.place s.step t) u e in
    let p = two_parts ss (step_at s.step t v) w q in
    let own = stepped P s.step t to.0 s.place p.0 a to.1 h p.1 in
    part_at P ss p.0.type u p.0.value w own.1 (subst (λ x. steps_to ss x ≡ Ok u) (sym own.0.0) to.2) own.0.1
    p.2

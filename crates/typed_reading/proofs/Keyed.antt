-- The repeats among keys whose places rise, as `least_repeat` tells them.
use Rattle.std.proofs.Common.{◌≡◌, ◌≢◌, ◌⊎◌, inl, inr, ℕ, zero, suc, ◌<◌, ◌≤◌, List, [], ◌∷◌, ◌++◌, length, map, get_or, Bool, true, false, ◌||◌, Option, Some, None, refl, sym, ap, subst, ◌∙◌, arith}
use Rattle.std.specs.Prelude.{ℤ, AllPairs}
use Rattle.std.specs.List.{Contains}
use Rattle.std.proofs.lemmas.Bool.Decides.{Decides-int_eq}
use Rattle.std.proofs.lemmas.Slice.Eq.{bytes_eq-Decides}
use Rattle.std.proofs.lemmas.List.{length-map, map_push}
use Rattle.frozen_model.specs.Values.{Value, Truth, Number, One, Bytes, Items, Absent, Present, Record}
use Rattle.key_order.specs.declared.key.Key.{Key}
use Rattle.key_order.specs.declared.key.Key.TheVariants as key
use Rattle.key_order.specs.declared.repeats.PlacedKey.{PlacedKey}
use Rattle.key_order.specs.Keys.{value_of}
use Rattle.key_order.specs.Entries.{places, placed}
use Rattle.key_order.specs.Repeats.{IsRepeat, HasNoRepeat, IsLeastRepeat}
use Rattle.typed_reading.specs.declared.fault.NodeFault.TheVariants.{RepeatedKey}
use Rattle.typed_reading.specs.declared.fault.Found.{Found}
use Rattle.typed_reading.specs.Keys.{same_key}
use Rattle.typed_reading.specs.Faults.{here, if_here, is_key_among, repeats, rank, least}
use Rattle.typed_reading.specs.Marks.{Climbs}
use Rattle.typed_reading.proofs.LeastLaws.{least_some, least_none}

-- ---- places that rise

pub climbs_one : (lo hi top : ℕ) (ks : List (ℕ × Value)) (v : Value) → Climbs lo hi ks → hi < top → Climbs lo top (ks ++ (hi, v) ∷ [])
climbs_one lo hi top [] v h lt = (h, omega (arith, lt))
climbs_one lo hi top (k ∷ ks) v h lt = (h.0, climbs_one (suc k.0) hi top ks v h.1 lt)

pub climbs_on : (lo hi top : ℕ) (ks : List (ℕ × Value)) → Climbs lo hi ks → hi ≤ top → Climbs lo top ks
climbs_on lo hi top [] h le = omega (arith, h, le)
climbs_on lo hi top (k ∷ ks) h le = (h.0, climbs_on (suc k.0) hi top ks h.1 le)

-- each later place is above
above : (lo hi : ℕ) (ks : List (ℕ × Value)) (p : ℕ) (v : Value) → Climbs lo hi ks → Contains ks (p, v) → lo ≤ p
above lo hi [] p v h (i, lt, e) = absurd (omega (arith, lt))
above lo hi (k ∷ ks) p v h (zero, lt, e) = let same = ap (λ (x : ℕ × Value). x.0) e in omega (arith, h.0, same)
above lo hi (k ∷ ks) p v h (suc i, lt, e) = let l = above (suc k.0) hi ks p v h.1 (i, omega (arith, lt), e) in omega (arith, h.0, l)

-- ---- keys that are the same

-- a key is the same as itself
abbrev pub IsKey : Value → Type 0
IsKey v = same_key v v ≡ true

pub value_is_key : (k : Key) → IsKey (value_of k)
value_is_key (key.Flag true) = refl
value_is_key (key.Flag false) = refl
value_is_key (key.Number z) = (Decides-int_eq z z).1 refl
value_is_key (key.Bytes s) = (bytes_eq-Decides s.now s.now).1 refl

pub same_is : (v u : Value) → same_key v u ≡ true → v ≡ u
same_is (One (Truth true)) (One (Truth true)) e = refl
same_is (One (Truth false)) (One (Truth false)) e = refl
same_is (One (Truth true)) (One (Truth false)) e = absurd (cc)
same_is (One (Truth false)) (One (Truth true)) e = absurd (cc)
same_is (One (Truth true)) (One (Number y)) e = absurd cc
same_is (One (Truth true)) (Bytes b) e = absurd cc
same_is (One (Truth true)) (Items h vs) e = absurd cc
same_is (One (Truth true)) Absent e = absurd cc
same_is (One (Truth true)) (Present u) e = absurd cc
same_is (One (Truth true)) (Record is vs) e = absurd cc
same_is (One (Truth false)) (One (Number y)) e = absurd cc
same_is (One (Truth false)) (Bytes b) e = absurd cc
same_is (One (Truth false)) (Items h vs) e = absurd cc
same_is (One (Truth false)) Absent e = absurd cc
same_is (One (Truth false)) (Present u) e = absurd cc
same_is (One (Truth false)) (Record is vs) e = absurd cc
same_is (One (Number x)) (One (Number y)) e = ap (λ (z : ℤ). One (Number z)) ((Decides-int_eq x y).0 e)
same_is (One (Number x)) (One (Truth b)) e = absurd cc
same_is (One (Number x)) (Bytes b) e = absurd cc
same_is (One (Number x)) (Items h vs) e = absurd cc
same_is (One (Number x)) Absent e = absurd cc
same_is (One (Number x)) (Present u) e = absurd cc
same_is (One (Number x)) (Record is vs) e = absurd cc
same_is (Bytes a) (Bytes b) e = ap Bytes ((bytes_eq-Decides a b).0 e)
same_is (Bytes a) (One x) e = absurd cc
same_is (Bytes a) (Items h vs) e = absurd cc
same_is (Bytes a) Absent e = absurd cc
same_is (Bytes a) (Present u) e = absurd cc
same_is (Bytes a) (Record is vs) e = absurd cc
same_is (Items h vs) u e = absurd cc
same_is Absent u e = absurd cc
same_is (Present v) u e = absurd cc
same_is (Record is vs) u e = absurd cc

abbrev AllKeys : List (ℕ × Value) → Type 0
AllKeys ks = (p : ℕ) (v : Value) → Contains ks (p, v) → IsKey v

placed_keys : (es : List PlacedKey) → AllKeys (placed es)
placed_keys [] p v (i, lt, e) = absurd (omega (arith, lt))
placed_keys (e ∷ es) p v (zero, lt, q) = subst IsKey (ap (λ (x : ℕ × Value). x.1) q) (value_is_key e.key)
placed_keys (e ∷ es) p v (suc i, lt, q) = placed_keys es p v (i, omega (arith, lt), q)

-- ---- a key among those before

among_more : (k l : Value) (ls : List Value) → is_key_among k ls ≡ true → is_key_among k (l ∷ ls) ≡ true
among_more k l ls e = by (same_key k l)
  where
    by : (b : Bool) → (b || is_key_among k ls) ≡ true
    by true = refl
    by false = e

among_first : (k : Value) (ls : List Value) → IsKey k → is_key_among k (k ∷ ls) ≡ true
among_first k ls e = ap (λ (b : Bool). b || is_key_among k ls) e

-- ---- what is among the repeats

in_front : (b : Bool) (p : ℕ) (fs : List Found) (f : Found) → Contains fs f → Contains (if_here b p RepeatedKey ++ fs) f
in_front true p fs f (i, lt, e) = (suc i, omega (arith, lt), e)
in_front false p fs f c = c

-- a key that stands among those before repeats
repeats_later : (ks : List (ℕ × Value)) (before : List Value) (p : ℕ) (v : Value) → Contains ks (p, v) → is_key_among v before ≡ true → Contains (repeats ks before) (here p RepeatedKey)
repeats_later [] before p v (i, lt, e) h = absurd (omega (arith, lt))
repeats_later (k ∷ ks) before p v (zero, lt, e) h =
    let key = ap (λ (x : ℕ × Value). x.1) e in
    let place = ap (λ (x : ℕ × Value). x.0) e in
    let yes : is_key_among k.1 before ≡ true = ap (λ (x : Value). is_key_among x before) key ∙ h in
    rw yes (0, omega arith, ap (λ (n : ℕ). here n RepeatedKey) place)
repeats_later (k ∷ ks) before p v (suc i, lt, e) h =
    in_front (is_key_among k.1 before) k.0 (repeats ks (k.1 ∷ before)) (here p RepeatedKey) (repeats_later ks (k.1 ∷ before) p v (i, omega (arith, lt), e) (among_more v k.1 before h))

-- the later of two places of one key repeats
repeat_is_among : (lo hi : ℕ) (ks : List (ℕ × Value)) (before : List Value) (f s : ℕ) (v : Value) → Climbs lo hi ks → IsKey v → Contains ks (f, v) → Contains ks (s, v) → f < s → Contains (repeats ks before) (here s RepeatedKey)
repeat_is_among lo hi [] before f s v h key (i, l, e) at lt = absurd (omega (arith, l))
repeat_is_among lo hi (k ∷ ks) before f s v h key (zero, l, e) (zero, m, d) lt =
    absurd (let a = ap (λ (x : ℕ × Value). x.0) e in let b = ap (λ (x : ℕ × Value). x.0) d in omega (arith, a, b, lt))
repeat_is_among lo hi (k ∷ ks) before f s v h key (zero, l, e) (suc j, m, d) lt =
    let same = ap (λ (x : ℕ × Value). x.1) e in
    let yes : is_key_among v (k.1 ∷ before) ≡ true = ap (λ (x : Value). is_key_among v (x ∷ before)) same ∙ among_first v before key in
    in_front (is_key_among k.1 before) k.0 (repeats ks (k.1 ∷ before)) (here s RepeatedKey) (repeats_later ks (k.1 ∷ before) s v (j, omega (arith, m), d) yes)
repeat_is_among lo hi (k ∷ ks) before f s v h key (suc i, l, e) (zero, m, d) lt =
    absurd (let a = above (suc k.0) hi ks f v h.1 (i, omega (arith, l), e) in let b = ap (λ (x : ℕ × Value). x.0) d in omega (arith, a, b, lt))
repeat_is_among lo hi (k ∷ ks) before f s v h key (suc i, l, e) (suc j, m, d) lt =
    in_front (is_key_among k.1 before) k.0 (repeats ks (k.1 ∷ before)) (here s RepeatedKey) (repeat_is_among (suc k.0) hi ks (k.1 ∷ before) f s v h.1 key (i, omega (arith, l), e) (j, omega (arith, m), d) lt)

-- what repeats has its key among those before, or at an earlier place
abbrev Repeats : List (ℕ × Value) → List Value → Found → Type 0
Repeats ks before g = (s : ℕ) × (v : Value) × Contains ks (s, v) × (g ≡ here s RepeatedKey) × ((is_key_among v before ≡ true) ⊎ ((f : ℕ) × Contains ks (f, v) × (f < s)))

deeper : (k : ℕ × Value) (ks : List (ℕ × Value)) (p : ℕ) (v : Value) → Contains ks (p, v) → Contains (k ∷ ks) (p, v)
deeper k ks p v (i, lt, e) = (suc i, omega (arith, lt), e)

repeated_key : (lo hi : ℕ) (ks : List (ℕ × Value)) (before : List Value) (g : Found) → Climbs lo hi ks → Contains (repeats ks before) g → Repeats ks before g
repeated_key lo hi [] before g h (i, lt, e) = absurd (omega (arith, lt))
repeated_key lo hi (k ∷ ks) before g h c = by (is_key_among k.1 before) refl (λ at. repeated_key (suc k.0) hi ks (k.1 ∷ before) g h.1 at) c
  where
    further : Repeats ks (k.1 ∷ before) g → Repeats (k ∷ ks) before g
    further (s, v, at, is, why) = (s, v, deeper k ks s v at, is, cause why)
      where
        split : (b : Bool) → same_key v k.1 ≡ b → (b || is_key_among v before) ≡ true → (is_key_among v before ≡ true) ⊎ ((f : ℕ) × Contains (k ∷ ks) (f, v) × (f < s))
        split true p q = let low = above (suc k.0) hi ks s v h.1 at in inr (k.0, (0, omega arith, ap (λ (x : Value). (k.0, x)) (sym (same_is v k.1 p))), omega (arith, low))
        split false p q = inl q

        cause : (is_key_among v (k.1 ∷ before) ≡ true) ⊎ ((f : ℕ) × Contains ks (f, v) × (f < s)) → (is_key_among v before ≡ true) ⊎ ((f : ℕ) × Contains (k ∷ ks) (f, v) × (f < s))
        cause (inl e) = split (same_key v k.1) refl e
        cause (inr (f, there, lt)) = inr (f, deeper k ks f v there, lt)

    by : (b : Bool) → is_key_among k.1 before ≡ b → (Contains (repeats ks (k.1 ∷ before)) g → Repeats ks (k.1 ∷ before) g) → Contains (if_here b k.0 RepeatedKey ++ repeats ks (k.1 ∷ before)) g → Repeats (k ∷ ks) before g
    by true p later (zero, lt, e) = (k.0, k.1, (0, omega arith, refl), sym e, inl p)
    by true p later (suc i, lt, e) = further (later (i, omega (arith, lt), e))
    by false p later at = further (later at)

pub repeat_of : (lo hi : ℕ) (ks : List (ℕ × Value)) (g : Found) → Climbs lo hi ks → Contains (repeats ks []) g → (f s : ℕ) × IsRepeat ks f s × (g ≡ here s RepeatedKey)
repeat_of lo hi ks g h c = by (repeated_key lo hi ks [] g h c)
  where
    by : Repeats ks [] g → (f s : ℕ) × IsRepeat ks f s × (g ≡ here s RepeatedKey)
    by (s, v, at, is, inl e) = absurd cc
    by (s, v, at, is, inr (f, there, lt)) = (f, s, record { key = v; at_first = there; at_second = at; before = lt }, is)

-- ---- the least of them

none_found : (fs : List Found) → ((g : Found) → Contains fs g → ⊥) → fs ≡ []
none_found [] h = refl
none_found (f ∷ fs) h = absurd (h f (0, omega arith, refl))

pub no_repeats : (lo hi : ℕ) (ks : List (ℕ × Value)) → Climbs lo hi ks → HasNoRepeat ks → repeats ks [] ≡ []
no_repeats lo hi ks h none = none_found (repeats ks []) (λ g c. let r = repeat_of lo hi ks g h c in none r.0 r.1 r.2)

some_least : (fs : List Found) (f : Found) → Contains fs f → (g : Found) × (least fs ≡ Some g)
some_least fs f c = by (least fs) refl
  where
    by : (o : Option Found) → least fs ≡ o → (g : Found) × (least fs ≡ Some g)
    by (Some g) e = (g, e)
    by None e = absurd (empty fs e c)
      where
        empty : (gs : List Found) → least gs ≡ None → Contains gs f → ⊥
        empty gs d (i, lt, q) = let none = least_none gs d in omega (arith, lt, ap length none)

pub least_repeats : (es : List PlacedKey) (lo hi first second : ℕ) → Climbs lo hi (placed es) → IsLeastRepeat (placed es) first second → least (repeats (placed es) []) ≡ Some (here second RepeatedKey)
least_repeats es lo hi first second h r =
    let ks = placed es in
    let at = repeat_is_among lo hi ks [] first second r.repeats.key h (placed_keys es first r.repeats.key r.repeats.at_first) r.repeats.at_first r.repeats.at_second r.repeats.before in
    let g = some_least (repeats ks []) (here second RepeatedKey) at in
    let is = least_some (repeats ks []) g.0 g.1 in
    let of = repeat_of lo hi ks g.0 h is.among in
    let low = r.least of.0 of.1 of.2 in
    let high = is.lowest (here second RepeatedKey) at in
    let place : of.1 ≡ second = omega (arith, low, high, ap rank of.3) in
    g.1 ∙ ap Some (of.3 ∙ ap (λ (n : ℕ). here n RepeatedKey) place)

-- ---- placed keys

places_of : (es : List PlacedKey) → places es ≡ map (λ (p : ℕ × Value). p.0) (placed es)
places_of [] = refl
places_of (e ∷ es) = ap (λ (ps : List ℕ). e.place ∷ ps) (places_of es)

climbs_below : (lo hi : ℕ) (ks : List (ℕ × Value)) (i : ℕ) (d : ℕ) → Climbs lo hi ks → i < length ks → lo ≤ get_or (map (λ (p : ℕ × Value). p.0) ks) i d
climbs_below lo hi [] i d h lt = absurd (omega (arith, lt))
climbs_below lo hi (k ∷ ks) zero d h lt = h.0
climbs_below lo hi (k ∷ ks) (suc i) d h lt = let l = climbs_below (suc k.0) hi ks i d h.1 (omega (arith, lt)) in omega (arith, l, h.0)

apart : (lo hi : ℕ) (ks : List (ℕ × Value)) (i j d : ℕ) → Climbs lo hi ks → i < j → j < length ks → get_or (map (λ (p : ℕ × Value). p.0) ks) i d < get_or (map (λ (p : ℕ × Value). p.0) ks) j d
apart lo hi [] i j d h lt l = absurd (omega (arith, l))
apart lo hi (k ∷ ks) zero zero d h lt l = absurd (omega (arith, lt))
apart lo hi (k ∷ ks) zero (suc j) d h lt l = climbs_below (suc k.0) hi ks j d h.1 (omega (arith, l))
apart lo hi (k ∷ ks) (suc i) zero d h lt l = absurd (omega (arith, lt))
apart lo hi (k ∷ ks) (suc i) (suc j) d h lt l = apart (suc k.0) hi ks i j d h.1 (omega (arith, lt)) (omega (arith, l))

pub places_differ : (es : List PlacedKey) (lo hi : ℕ) → Climbs lo hi (placed es) → AllPairs (λ p q. p ≢ q) (places es)
places_differ es lo hi h i j d lt l same =
    let e = places_of es in
    let n : j < length (placed es) = omega (arith, l, ap length e, length-map (placed es) (λ (p : ℕ × Value). p.0)) in
    let a = apart lo hi (placed es) i j d h lt n in
    omega (arith, a, ap (λ (ps : List ℕ). get_or ps i d) e, ap (λ (ps : List ℕ). get_or ps j d) e, same)

pub placed_push : (es : List PlacedKey) (e : PlacedKey) → placed (es ++ e ∷ []) ≡ placed es ++ (e.place, value_of e.key) ∷ []
placed_push es e = map_push {Y = ℕ × Value} (λ (x : PlacedKey). (x.place, value_of x.key)) es e

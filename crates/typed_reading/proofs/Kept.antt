-- The least key that repeats is among those that are kept.
use Rattle.std.proofs.Common.{◌≡◌, ℕ, zero, suc, ◌+◌, ◌-◌, ◌<◌, ◌≤◌, List, [], ◌∷◌, ◌++◌, length, map, Bool, true, false, ◌||◌, eqb, Option, Some, None, refl, sym, ap, subst, ◌∙◌, append_assoc, arith}
use Rattle.std.specs.Prelude.{ℤ, pos, negsuc}
use Rattle.std.specs.List.{IsDistinct}
use Rattle.std.specs.List.{AllByRecursion, Contains, list_any}
use Rattle.std.proofs.lemmas.List.{append-nil, length-map}
use Rattle.std.proofs.lemmas.Bool.Decides.{Decides-int_eq}
use Rattle.std.proofs.lemmas.Bool.{eqb-true}
use Rattle.std.proofs.lemmas.Map.Steps.{length-le_from_distinct_below}
use Rattle.exact_reading.proofs.Items.{admitted-append}
use Rattle.frozen_model.specs.Values.{Value, Truth, Number, One, Bytes, Items, Absent, Present, Record}
use Rattle.compact_wire.specs.declared.kind.Kind.{Kind}
use Rattle.compact_wire.specs.declared.kind.Kind.TheVariants as k
use Rattle.key_order.specs.declared.repeats.PlacedKey.{PlacedKey}
use Rattle.key_order.specs.Keys.{value_of}
use Rattle.key_order.specs.Entries.{placed}
use Rattle.typed_reading.specs.declared.fault.NodeFault.TheVariants.{RepeatedKey}
use Rattle.typed_reading.specs.declared.fault.Found.{Found}
use Rattle.typed_reading.specs.Keys.{same_key}
use Rattle.typed_reading.specs.Faults.{if_here, is_key_among, repeats, lesser, least}
use Rattle.typed_reading.specs.Kept.{IsFlag, IsNear, IsNumberNear, IsOfKind, AreMore, AreKept}
use Rattle.typed_reading.specs.Marks.{Climbs}
use Rattle.typed_reading.proofs.Keyed.{placed_push}
use Rattle.typed_reading.proofs.LeastLaws.{least_none, least_some}
use Rattle.typed_reading.proofs.Order.{least_append, lesser_above}

-- ---- one key more

pub none_kept : (kind : Kind) → AreKept kind [] []
none_kept kind = record { more = []; parts = refl; of_kind = tt; enough = λ h. absurd (omega arith) }

pub left_out : (kind : Kind) (ks : List (ℕ × Value)) (es : List PlacedKey) (p : ℕ × Value) → AreMore kind (length es)
    → AreKept kind ks es → AreKept kind (ks ++ p ∷ []) es
left_out kind ks es p many h =
    record {
      more = h.more ++ p ∷ [];
      parts = ap (λ (z : List (ℕ × Value)). z ++ p ∷ []) h.parts ∙ append_assoc (placed es) h.more (p ∷ []);
      of_kind = h.of_kind;
      enough = λ some. many;
    }

pub put_behind : (kind : Kind) (ks : List (ℕ × Value)) (es : List PlacedKey) (e : PlacedKey)
    → (AreMore kind (length es) → ⊥) → IsOfKind kind (value_of e.key) → AreKept kind ks es
    → AreKept kind (ks ++ (e.place, value_of e.key) ∷ []) (es ++ e ∷ [])
put_behind kind ks es e few is h = by h.more h.parts h.enough
  where
    by : (more : List (ℕ × Value)) → ks ≡ placed es ++ more → (0 < length more → AreMore kind (length es))
        → AreKept kind (ks ++ (e.place, value_of e.key) ∷ []) (es ++ e ∷ [])
    by [] parts enough = record {
      more = [];
      parts = ap (λ (z : List (ℕ × Value)). z ++ (e.place, value_of e.key) ∷ []) (parts ∙ append-nil (placed es))
          ∙ sym (placed_push es e) ∙ sym (append-nil (placed (es ++ e ∷ [])));
      of_kind = admitted-append (λ (x : PlacedKey). IsOfKind kind (value_of x.key)) es (e ∷ []) h.of_kind (is, tt);
      enough = λ some. absurd (omega arith);
    }
    by (m ∷ ms) parts enough = absurd (few (enough (omega arith)))

-- ---- places

climbs_le : (lo hi : ℕ) (ks : List (ℕ × Value)) → Climbs lo hi ks → lo ≤ hi
climbs_le lo hi [] h = h
climbs_le lo hi (k ∷ ks) h = omega (arith, h.0, climbs_le (suc k.0) hi ks h.1)

climbs_front : (lo hi : ℕ) (ks ms : List (ℕ × Value)) → Climbs lo hi (ks ++ ms) → Climbs lo hi ks
climbs_front lo hi [] ms h = climbs_le lo hi ms h
climbs_front lo hi (k ∷ ks) ms h = (h.0, climbs_front (suc k.0) hi ks ms h.1)

pub kept_climbs : (kind : Kind) (ks : List (ℕ × Value)) (es : List PlacedKey) (hi : ℕ) → AreKept kind ks es
    → Climbs 0 hi ks → Climbs 0 hi (placed es)
kept_climbs kind ks es hi h c = climbs_front 0 hi (placed es) h.more (subst (Climbs 0 hi) h.parts c)

-- ---- keys as numbers

near : ℕ → ℤ → ℕ
near half (pos n) = half + n
near half (negsuc n) = half - suc n

abbrev flag_code : Value → ℕ
flag_code (One (Truth true)) = 1
flag_code _ = 0

abbrev near_code : ℕ → Value → ℕ
near_code half (One (Number z)) = near half z
near_code half _ = 0

near_below : (half : ℕ) (z : ℤ) → IsNear half z → near half z < half + half
unfolding near
near_below half (pos n) h = omega arith
near_below half (negsuc n) h = omega arith

near_same : (half : ℕ) (y z : ℤ) → IsNear half y → IsNear half z → near half y ≡ near half z → y ≡ z
unfolding near
near_same half (pos m) (pos n) g h e = ap pos (omega arith)
near_same half (pos m) (negsuc n) g h e = absurd (omega arith)
near_same half (negsuc m) (pos n) g h e = absurd (omega arith)
near_same half (negsuc m) (negsuc n) g h e = ap negsuc (omega arith)

-- a way to number the values of a kind
pub record Numbered (Is : Value → Type 0) (top : ℕ) (code : Value → ℕ) : Type 0 where
  pub below : (v : Value) → Is v → code v < top
  pub same : (v u : Value) → Is v → Is u → code v ≡ code u → same_key v u ≡ true

-- keys that are no numbers and no flags are none of these
flag_numbered : Numbered IsFlag 2 flag_code
flag_numbered = record { below = low; same = same }
  where
    low : (v : Value) → IsFlag v → flag_code v < 2
    low (One (Truth true)) h = omega arith
    low (One (Truth false)) h = omega arith
    low (One (Number z)) h = absurd h
    low (Bytes b) h = absurd h
    low (Items n vs) h = absurd h
    low Absent h = absurd h
    low (Present v) h = absurd h
    low (Record is vs) h = absurd h

    flags : (a b : Bool) → flag_code (One (Truth a)) ≡ flag_code (One (Truth b)) → same_key (One (Truth a)) (One (Truth b)) ≡ true
    flags true true e = refl
    flags false false e = refl
    flags true false e = absurd (omega arith)
    flags false true e = absurd (omega arith)

    same : (v u : Value) → IsFlag v → IsFlag u → flag_code v ≡ flag_code u → same_key v u ≡ true
    same (One (Truth a)) (One (Truth b)) g h e = flags a b e
    same (One (Truth a)) (One (Number z)) g h e = absurd h
    same (One (Truth a)) (Bytes b) g h e = absurd h
    same (One (Truth a)) (Items n vs) g h e = absurd h
    same (One (Truth a)) Absent g h e = absurd h
    same (One (Truth a)) (Present v) g h e = absurd h
    same (One (Truth a)) (Record is vs) g h e = absurd h
    same (One (Number z)) u g h e = absurd g
    same (Bytes b) u g h e = absurd g
    same (Items n vs) u g h e = absurd g
    same Absent u g h e = absurd g
    same (Present v) u g h e = absurd g
    same (Record is vs) u g h e = absurd g

near_numbered : (half : ℕ) → Numbered (IsNumberNear half) (half + half) (near_code half)
near_numbered half = record { below = low; same = same }
  where
    low : (v : Value) → IsNumberNear half v → near_code half v < half + half
    low (One (Number z)) h = near_below half z h
    low (One (Truth b)) h = absurd h
    low (Bytes b) h = absurd h
    low (Items n vs) h = absurd h
    low Absent h = absurd h
    low (Present v) h = absurd h
    low (Record is vs) h = absurd h

    same : (v u : Value) → IsNumberNear half v → IsNumberNear half u → near_code half v ≡ near_code half u → same_key v u ≡ true
    same (One (Number y)) (One (Number z)) g h e = (Decides-int_eq y z).1 (near_same half y z g h e)
    same (One (Number y)) (One (Truth b)) g h e = absurd h
    same (One (Number y)) (Bytes b) g h e = absurd h
    same (One (Number y)) (Items n vs) g h e = absurd h
    same (One (Number y)) Absent g h e = absurd h
    same (One (Number y)) (Present v) g h e = absurd h
    same (One (Number y)) (Record is vs) g h e = absurd h
    same (One (Truth b)) u g h e = absurd g
    same (Bytes b) u g h e = absurd g
    same (Items n vs) u g h e = absurd g
    same Absent u g h e = absurd g
    same (Present v) u g h e = absurd g
    same (Record is vs) u g h e = absurd g

-- ---- keys of which none repeats are few

module _ (Is : Value → Type 0) (top : ℕ) (code : Value → ℕ) (numbered : Numbered Is top code) where
  not_among : (v : Value) (us : List Value) → Is v → AllByRecursion Is us → is_key_among v us ≡ false → AllByRecursion (λ n. eqb (code v) n ≡ false) (map code us)
  not_among v [] h hs e = tt
  not_among v (u ∷ us) h hs e = by (λ q. not_among v us h hs.1 q) (same_key v u) refl e
    where
      by : (is_key_among v us ≡ false → AllByRecursion (λ n. eqb (code v) n ≡ false) (map code us)) → (b : Bool) → same_key v u ≡ b → (b || is_key_among v us) ≡ false → AllByRecursion (λ n. eqb (code v) n ≡ false) (map code (u ∷ us))
      by others true s q = absurd cc
      by others false s q = (other (eqb (code v) (code u)) refl, others q)
        where
          other : (c : Bool) → eqb (code v) (code u) ≡ c → c ≡ false
          other true t = absurd (let y = numbered.same v u h hs.0 (eqb-true _ _ t) in cc)
          other false t = refl

  codes_below : (us : List Value) (q : ℕ) → AllByRecursion Is us → list_any (eqb q) (map code us) ≡ true → q < top
  codes_below [] q hs e = absurd cc
  codes_below (u ∷ us) q hs e = by (λ i. codes_below us q hs.1 i) (eqb q (code u)) refl e
    where
      by : (list_any (eqb q) (map code us) ≡ true → q < top) → (b : Bool) → eqb q (code u) ≡ b → (b || list_any (eqb q) (map code us)) ≡ true → q < top
      by others true t i = let same = eqb-true _ _ t in let low = numbered.below u hs.0 in omega (arith, same, low)
      by others false t i = others i

  few_in : (ks : List (ℕ × Value)) (before : List Value) → AllByRecursion (λ p. Is p.1) ks → AllByRecursion Is before → repeats ks before ≡ [] → IsDistinct eqb (map code before)
      → length before + length ks ≤ top
  unfolding IsDistinct
  few_in [] before hs gs e apart = omega (arith, length-le_from_distinct_below (map code before) top apart (λ q. codes_below before q gs), length-map before code)
  few_in (p ∷ ks) before hs gs e apart = by (λ i a. few_in ks (p.1 ∷ before) hs.1 (hs.0, gs) i a) (is_key_among p.1 before) refl e
    where
      by : (repeats ks (p.1 ∷ before) ≡ [] → IsDistinct eqb (map code (p.1 ∷ before)) → length (p.1 ∷ before) + length ks ≤ top) → (b : Bool) → is_key_among p.1 before ≡ b → if_here b p.0 RepeatedKey ++ repeats ks (p.1 ∷ before) ≡ [] → length before + length (p ∷ ks) ≤ top
      by others true t i = absurd cc
      by others false t i = let n = others i (not_among p.1 before hs.0 gs t, apart) in omega (arith, n)

  pub few : (ks : List (ℕ × Value)) → AllByRecursion (λ p. Is p.1) ks → repeats ks [] ≡ [] → length ks ≤ top
  unfolding IsDistinct
  few ks hs e = let n : 0 + length ks ≤ top = few_in ks [] hs tt e tt in omega (arith, n)

placed_all : (Is : Value → Type 0) (es : List PlacedKey) → AllByRecursion (λ e. Is (value_of e.key)) es → AllByRecursion (λ p. Is p.1) (placed es)
placed_all Is [] h = tt
placed_all Is (e ∷ es) h = (h.0, placed_all Is es h.1)

length-placed : (es : List PlacedKey) → length (placed es) ≡ length es
length-placed [] = refl
length-placed (e ∷ es) = ap suc (length-placed es)

some_repeat : (kind : Kind) (es : List PlacedKey) → AllByRecursion (λ e. IsOfKind kind (value_of e.key)) es → AreMore kind (length es) → repeats (placed es) [] ≡ [] → ⊥
some_repeat k.Flag es h many none = let n = few IsFlag 2 flag_code flag_numbered (placed es) (placed_all IsFlag es h) none in omega (arith, n, length-placed es, many)
some_repeat k.I8 es h many none = let n = few (IsNumberNear 128) 256 (near_code 128) (near_numbered 128) (placed es) (placed_all (IsNumberNear 128) es h) none in omega (arith, n, length-placed es, many)
some_repeat k.I16 es h many none = let n = few (IsNumberNear 32768) 65536 (near_code 32768) (near_numbered 32768) (placed es) (placed_all (IsNumberNear 32768) es h) none in omega (arith, n, length-placed es, many)
some_repeat k.I32 es h many none = many
some_repeat k.I64 es h many none = many
some_repeat k.Double es h many none = many
some_repeat k.Binary es h many none = many
some_repeat k.List es h many none = many
some_repeat k.Set es h many none = many
some_repeat k.Map es h many none = many
some_repeat k.Struct es h many none = many

-- ---- the least that repeats

-- the keys before, behind these too
seen_after : List (ℕ × Value) → List Value → List Value
seen_after [] before = before
seen_after (p ∷ ks) before = seen_after ks (p.1 ∷ before)

repeats-append : (ks ms : List (ℕ × Value)) (before : List Value) → repeats (ks ++ ms) before ≡ repeats ks before ++ repeats ms (seen_after ks before)
unfolding seen_after
repeats-append [] ms before = refl
repeats-append (p ∷ ks) ms before =
    ap (λ (z : List Found). if_here (is_key_among p.1 before) p.0 RepeatedKey ++ z) (repeats-append ks ms (p.1 ∷ before))
    ∙ sym (append_assoc (if_here (is_key_among p.1 before) p.0 RepeatedKey) (repeats ks (p.1 ∷ before)) (repeats ms (seen_after ks (p.1 ∷ before))))

-- what repeats stands at a place of the keys
repeats_within : (lo hi : ℕ) (ks : List (ℕ × Value)) (before : List Value) (g : Found) → Climbs lo hi ks → Contains (repeats ks before) g → (lo ≤ g.node) × (g.node < hi)
repeats_within lo hi [] before g h (i, lt, e) = absurd (omega (arith, lt))
repeats_within lo hi (p ∷ ks) before g h c = by (λ at. repeats_within (suc p.0) hi ks (p.1 ∷ before) g h.1 at) (is_key_among p.1 before) c
  where
    by : (Contains (repeats ks (p.1 ∷ before)) g → (suc p.0 ≤ g.node) × (g.node < hi)) → (b : Bool) → Contains (if_here b p.0 RepeatedKey ++ repeats ks (p.1 ∷ before)) g → (lo ≤ g.node) × (g.node < hi)
    by others true (zero, lt, e) = let n = ap (λ (f : Found). f.node) e in let top = climbs_le (suc p.0) hi ks h.1 in (omega (arith, n, h.0), omega (arith, n, top))
    by others true (suc i, lt, e) = let r = others (i, omega (arith, lt), e) in (omega (arith, r.0, h.0), r.1)
    by others false at = let r = others at in (omega (arith, r.0, h.0), r.1)

-- where the keys of a list stand below those behind it
split_at : (lo hi : ℕ) (ks ms : List (ℕ × Value)) → Climbs lo hi (ks ++ ms) → (mid : ℕ) × Climbs lo mid ks × Climbs mid hi ms
split_at lo hi [] ms h = (lo, omega arith, h)
split_at lo hi (p ∷ ks) ms h = let r = split_at (suc p.0) hi ks ms h.1 in (r.0, (h.0, r.1), r.2)

first_least : (f : Found) (o : Option Found) → ((g : Found) → o ≡ Some g → f.node < g.node) → lesser (Some f) o ≡ Some f
first_least f None h = refl
first_least f (Some g) h = lesser_above f g (h g refl)

-- what repeats among the keys that are left out
abbrev later : List PlacedKey → List (ℕ × Value) → List Found
later es ms = repeats ms (seen_after (placed es) [])

pub kept_least : (kind : Kind) (ks : List (ℕ × Value)) (es : List PlacedKey) (hi : ℕ) → AreKept kind ks es → Climbs 0 hi ks → least (repeats (placed es) []) ≡ least (repeats ks [])
kept_least kind ks es hi h c = by h.more h.parts h.enough
  where
    by : (more : List (ℕ × Value)) → ks ≡ placed es ++ more → (0 < length more → AreMore kind (length es)) → least (repeats (placed es) []) ≡ least (repeats ks [])
    by [] parts enough = ap (λ (z : List (ℕ × Value)). least (repeats z [])) (sym (parts ∙ append-nil (placed es)))
    by (m ∷ ms) parts enough = at (least (repeats (placed es) [])) refl
      where
        s : (mid : ℕ) × Climbs 0 mid (placed es) × Climbs mid hi (m ∷ ms)
        s = split_at 0 hi (placed es) (m ∷ ms) (subst (Climbs 0 hi) parts c)

        whole : least (repeats ks []) ≡ lesser (least (repeats (placed es) [])) (least (later es (m ∷ ms)))
        whole = ap (λ (z : List (ℕ × Value)). least (repeats z [])) parts ∙ ap least (repeats-append (placed es) (m ∷ ms) []) ∙ least_append (repeats (placed es) []) (repeats (m ∷ ms) (seen_after (placed es) []))

        at : (o : Option Found) → least (repeats (placed es) []) ≡ o → least (repeats (placed es) []) ≡ least (repeats ks [])
        at None e = absurd (some_repeat kind es h.of_kind (enough (omega arith)) (least_none (repeats (placed es) []) e))
        at (Some f) e =
            let low = repeats_within 0 s.0 (placed es) [] f s.1 (least_some (repeats (placed es) []) f e).among in
            let first = first_least f (least (later es (m ∷ ms))) (λ g is. let high = repeats_within s.0 hi (m ∷ ms) (seen_after (placed es) []) g s.2 (least_some (later es (m ∷ ms)) g is).among in omega (arith, low.1, high.0)) in
            e ∙ sym (whole ∙ ap (λ (z : Option Found). lesser z (least (later es (m ∷ ms)))) e ∙ first)

-- Entries in order: those of one key stand side by side, their places rising.
use Rattle.std.proofs.Common.{◌≡◌, ℕ, ◌+◌, ◌<◌, ◌≤◌, inl, inr, ⊎_elim, List, length, get_or, pos, false, Ordering, Less, Equal, Greater, nat_cmp, is_lt, refl, sym, ap, ◌∙◌, subst, arith}
use Rattle.std.specs.List.{Contains, AllAdjacentBelow}
use Rattle.std.specs.List.Sorted.{IsSorted}
use Rattle.std.specs.Ordering.{ordering_then, ordering_reverse}
use Rattle.std.specs.Cmp.{IsTotalOrder}
use Rattle.std.proofs.lemmas.Cmp.{then_total, on_total, nat_cmp_total}
use Rattle.std.proofs.lemmas.List.{get_or-map, length-map}
use Rattle.std.proofs.lemmas.List.Elements.{Contains-get_or}
use Rattle.std.proofs.lemmas.List.Sorted.{sorted_far, ranks_by}
use Rattle.std.proofs.lemmas.Map.Keys.{ge_from_not_lt}
use Rattle.frozen_model.specs.Values.{Value, Absent}
use Rattle.key_order.specs.contracts.repeats.PlacedKeyOrd.TheImpl.{ghosts}
use Rattle.key_order.specs.declared.repeats.PlacedKey.{PlacedKey}
use Rattle.key_order.specs.declared.key.Key.TheVariants.{Number}
use Rattle.key_order.specs.Keys.{value_of, AreOneKind, AreRising}
use Rattle.key_order.specs.Entries.{keys, places, InTurn, AreInTurn}
use Rattle.key_order.specs.Neighbours.{HaveOneKey, Climbs}
use Rattle.key_order.proofs.Order.{value_cmp, value_total, key_less_from_Greater, Equal_from_same}
use Rattle.key_order.proofs.KeyCmp.{key_cmp-is, same_key, less_splits}

abbrev entry_cmp : PlacedKey → PlacedKey → Ordering
entry_cmp x y = ordering_then (value_cmp (value_of x.key) (value_of y.key)) (nat_cmp x.place y.place)

entry_total : IsTotalOrder entry_cmp
entry_total = then_total (on_total (λ (e : PlacedKey). value_of e.key) value_total) (on_total (λ (e : PlacedKey). e.place) nat_cmp_total)

entry_cmp-is : (x y : PlacedKey) → ghosts.cmp x y ≡ entry_cmp x y
entry_cmp-is x y = ap (λ o. ordering_then o (nat_cmp x.place y.place)) (key_cmp-is x.key y.key)

-- ---- three answers

not_less : (o p : Ordering) → is_lt (ordering_then o p) ≡ false → is_lt o ≡ false
not_less Less p h = h
not_less Equal p h = refl
not_less Greater p h = refl

equal_from : (o : Ordering) → is_lt o ≡ false → is_lt (ordering_reverse o) ≡ false → o ≡ Equal
equal_from Less h g = absurd (cc)
equal_from Equal h g = refl
equal_from Greater h g = absurd (cc)

greater_from : (o : Ordering) → is_lt o ≡ false → (o ≡ Equal → ⊥) → o ≡ Greater
greater_from Less h other = absurd (cc)
greater_from Equal h other = absurd (other refl)
greater_from Greater h other = refl

-- ---- an entry by its index

abbrev pub at : List PlacedKey → ℕ → PlacedKey
at es i = get_or es i (record { key = Number (pos 0); place = 0 })

pub key_at : (es : List PlacedKey) (i : ℕ) (d : Value) → i < length es → get_or (keys es) i d ≡ value_of (at es i).key
key_at es i d h = get_or-map (λ (e : PlacedKey). value_of e.key) es i _ d h

pub place_at : (es : List PlacedKey) (i d : ℕ) → i < length es → get_or (places es) i d ≡ (at es i).place
place_at es i d h = get_or-map (λ (e : PlacedKey). e.place) es i _ d h

pub key_there : (es : List PlacedKey) (i : ℕ) → i < length es → Contains (keys es) (value_of (at es i).key)
key_there es i h = subst (Contains (keys es)) (key_at es i Absent h) (Contains-get_or (keys es) i Absent (omega (arith, length-map es (λ (e : PlacedKey). value_of e.key))))

pub one_key : (es : List PlacedKey) (k : ℕ) → k + 1 < length es → value_of (at es k).key ≡ value_of (at es (k + 1)).key → HaveOneKey es k
one_key es k h same = key_at es k Absent (omega arith) ∙ same ∙ sym (key_at es (k + 1) Absent h)

pub one_key-same : (es : List PlacedKey) (k : ℕ) → k + 1 < length es → HaveOneKey es k → value_of (at es k).key ≡ value_of (at es (k + 1)).key
one_key-same es k h same = sym (key_at es k Absent (omega arith)) ∙ same ∙ key_at es (k + 1) Absent h

-- what is not below another one stands behind it
turn : (e f : PlacedKey) → is_lt (entry_cmp f e) ≡ false → InTurn e f
turn e f below = by (value_cmp (value_of f.key) (value_of e.key)) refl
  where
    by : (o : Ordering) → value_cmp (value_of f.key) (value_of e.key) ≡ o → InTurn e f
    by Less is = absurd (let up = ap (λ o. is_lt (ordering_then o (nat_cmp f.place e.place))) (sym is) ∙ below in cc)
    by Equal is = inr (inr (sym (same_key f.key e.key is), ge_from_not_lt f.place e.place (ap (λ o. is_lt (ordering_then o (nat_cmp f.place e.place))) (sym is) ∙ below)))
    by Greater is = ⊎_elim inl (λ l. inr (inl l)) (less_splits e.key f.key (value_total.antisymm (value_of e.key) (value_of f.key) ∙ ap ordering_reverse is))

-- ---- entries in order

module _ (es : List PlacedKey) (up : IsSorted ghosts.cmp es) where
  in_order : IsSorted entry_cmp es
  in_order k d low high = ap is_lt (sym (entry_cmp-is (get_or es (k + 1) d) (get_or es k d))) ∙ up k d low high

  far : (i j : ℕ) → i ≤ j → j < length es → is_lt (entry_cmp (at es j) (at es i)) ≡ false
  far i j = sorted_far (λ x y. is_lt (entry_cmp x y)) (ranks_by entry_total (λ (e : PlacedKey). e)) es in_order i j _

  abbrev key : ℕ → Value
  key i = value_of (at es i).key

  not_under : (i j : ℕ) → i ≤ j → j < length es → is_lt (value_cmp (key j) (key i)) ≡ false
  not_under i j h l = not_less (value_cmp (key j) (key i)) (nat_cmp (at es j).place (at es i).place) (far i j h l)

  -- between two of one key all have that key
  pub between : (i m j : ℕ) → i ≤ m → m ≤ j → j < length es → key i ≡ key j → key m ≡ key j
  between i m j h l n same =
      let low : is_lt (value_cmp (key m) (key j)) ≡ false = ap (λ v. is_lt (value_cmp (key m) v)) (sym same) ∙ not_under i m h (omega arith) in
      let high : is_lt (ordering_reverse (value_cmp (key m) (key j))) ≡ false = ap is_lt (sym (value_total.antisymm (key j) (key m))) ∙ not_under m j l n in
      same_key (at es m).key (at es j).key (equal_from (value_cmp (key m) (key j)) low high)

  pub places_rise : (i j : ℕ) → i ≤ j → j < length es → key i ≡ key j → (at es i).place ≤ (at es j).place
  places_rise i j h l same = ge_from_not_lt (at es j).place (at es i).place (ap (λ o. is_lt (ordering_then o (nat_cmp (at es j).place (at es i).place))) (sym (Equal_from_same (key j) (key i) (sym same))) ∙ far i j h l)

  -- each stands in front of the next
  pub in_turn : AreInTurn es
  in_turn k d h = turn (get_or es k d) (get_or es (k + 1) d) (in_order k d (omega arith) h)

  -- keys of one kind rise where no two neighbours have one
  pub rising : ((k : ℕ) → k + 1 < length es → ¬ HaveOneKey es k) → AreOneKind (keys es) → AreRising (keys es)
  rising apart kind k d h =
      let l : k + 1 < length es = omega (arith, length-map es (λ (e : PlacedKey). value_of e.key)) in
      let m : k < length es = omega arith in
      let one = kind (key (k + 1)) (key k) (key_there es (k + 1) l) (key_there es k m) in
      let other : value_cmp (key (k + 1)) (key k) ≡ Equal → ⊥ = λ e. apart k l (one_key es k l (sym (same_key (at es (k + 1)).key (at es k).key e))) in
      rw (key_at es k d m, key_at es (k + 1) d l) (key_less_from_Greater (key (k + 1)) (key k) one (greater_from (value_cmp (key (k + 1)) (key k)) (not_under k (k + 1) (omega arith) l) other))

-- ---- entries whose keys climb

module _ (es : List PlacedKey) (up : AllAdjacentBelow Climbs es (length es)) where
  less : (e f : PlacedKey) → Climbs e f → value_cmp (value_of e.key) (value_of f.key) ≡ Less
  less e f h = sym (key_cmp-is e.key f.key) ∙ h

  pub climbing_is_sorted : IsSorted ghosts.cmp es
  climbing_is_sorted k d low high =
      let e = get_or es k d in
      let f = get_or es (k + 1) d in
      let more : value_cmp (value_of f.key) (value_of e.key) ≡ Greater = value_total.antisymm (value_of f.key) (value_of e.key) ∙ ap ordering_reverse (less e f (up k d high)) in
      ap is_lt (entry_cmp-is f e) ∙ ap (λ o. is_lt (ordering_then o (nat_cmp f.place e.place))) more

  pub climbing_apart : (k : ℕ) → k + 1 < length es → ¬ HaveOneKey es k
  climbing_apart k h one =
      let below = less (at es k) (at es (k + 1)) (up k _ h) in
      let equal = Equal_from_same (value_of (at es k).key) (value_of (at es (k + 1)).key) (one_key-same es k h one) in
      cc
